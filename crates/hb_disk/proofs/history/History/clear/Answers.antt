use Rattle.std.proofs.Common.{◌≤◌, ◌<◌, ◌+◌, ◌^◌, ℕ, length, replicate, arith}
use Rattle.std.proofs.lemmas.List.{length-replicate}
use Rattle.std.proofs.lemmas.List.Elements.{All-replicate}
use Rattle.hb_disk.proofs.Overwriting.{overwritten_bytes, bytes_fit, size_fits, events_fit}
use Rattle.hb_disk.proofs.history.History.clear.Goals as goal

fits : (c : goal.After-self-1) → c.args.at + length {A = ℕ} (replicate c.args.len 0) ≤ length c.args.self.now.bytes.items
fits c = omega (arith, length-replicate {A = ℕ} c.args.len 0, c.requires)

pub invariant_of-self-clause-bytes_fit : goal.invariant_of-self-clause-bytes_fit
invariant_of-self-clause-bytes_fit c =
    bytes_fit c.args.self.now c.deref_mut.result.now c.fill_at.new.bytes c.args.at (replicate c.args.len 0) (fits c) c.deref_mut.ensures.value c.fill_at.ensures
    (All-replicate (λ x. x < 2 ^ 8) c.args.len 0 (omega arith))

pub invariant_of-self-clause-size_fits : goal.invariant_of-self-clause-size_fits
invariant_of-self-clause-size_fits c = size_fits c.args.self.now c.deref_mut.result.now c.fill_at.new.bytes c.args.at (replicate c.args.len 0) (fits c) c.deref_mut.ensures.value c.fill_at.ensures

pub invariant_of-self-clause-events_fit : goal.invariant_of-self-clause-events_fit
invariant_of-self-clause-events_fit c = events_fit c.args.self.now c.deref_mut.result.now c.fill_at.new.bytes c.args.at (replicate c.args.len 0) (fits c) c.deref_mut.ensures.value c.fill_at.ensures

pub returns-clause-bytes : goal.returns-clause-bytes
returns-clause-bytes c =
    overwritten_bytes c.args.self.now c.deref_mut.result.now c.fill_at.new.bytes c.args.at (replicate c.args.len 0) (omega (arith, length-replicate {A = ℕ} c.args.len 0, c.requires)) c.deref_mut.ensures.value c.fill_at.ensures
