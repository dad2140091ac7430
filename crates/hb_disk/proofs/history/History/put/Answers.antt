use Rattle.std.proofs.Common.{◌<◌, ◌^◌, arith}
use Rattle.std.proofs.lemmas.List.Elements.{All-from_get_or}
use Rattle.hb_disk.proofs.Overwriting.{overwritten_bytes, bytes_fit, size_fits, events_fit}
use Rattle.hb_disk.proofs.history.History.put.Goals as goal

pub invariant_of-self-clause-bytes_fit : goal.invariant_of-self-clause-bytes_fit
invariant_of-self-clause-bytes_fit c =
    bytes_fit c.args.self.now c.deref_mut.result.now c.put_at.new.bytes c.args.at c.args.piece.now c.requires c.deref_mut.ensures.value c.put_at.ensures
    (All-from_get_or (λ x. x < 2 ^ 8) c.args.piece.now 0 (λ i h. omega (arith, c.type_inv.piece i)))

pub invariant_of-self-clause-size_fits : goal.invariant_of-self-clause-size_fits
invariant_of-self-clause-size_fits c = size_fits c.args.self.now c.deref_mut.result.now c.put_at.new.bytes c.args.at c.args.piece.now c.requires c.deref_mut.ensures.value c.put_at.ensures

pub invariant_of-self-clause-events_fit : goal.invariant_of-self-clause-events_fit
invariant_of-self-clause-events_fit c = events_fit c.args.self.now c.deref_mut.result.now c.put_at.new.bytes c.args.at c.args.piece.now c.requires c.deref_mut.ensures.value c.put_at.ensures

pub returns-clause-bytes : goal.returns-clause-bytes
returns-clause-bytes c = overwritten_bytes c.args.self.now c.deref_mut.result.now c.put_at.new.bytes c.args.at c.args.piece.now c.requires c.deref_mut.ensures.value c.put_at.ensures
