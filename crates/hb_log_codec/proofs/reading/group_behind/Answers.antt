use Rattle.std.proofs.Common.{◌≢◌, ◌∷◌, refl, sym, subst}
use Rattle.std.specs.Prelude.{AllPairs}
use Rattle.std.proofs.lemmas.Bool.{false≢true}
use Rattle.std.proofs.lemmas.Result.{err_from_is_err_and}
use Rattle.hb_log_codec.proofs.GroupReads.{group_not_distinct, group_no_op}
use Rattle.hb_log_codec.proofs.reading.group_behind.Goals as goal

pub returns-then-not-are_distinct : goal.returns-then-not-are_distinct
returns-then-not-are_distinct c =
    group_not_distinct c.fields_are_exact.ensures c.spelling_law.ensures.one_page c.args.k.number c.args.count (c.args.count ∷ c.args.bytes.now) c.args.bytes.now c.in_ok-images.images.items c.in_ok-images.rest.now refl c.in_ok-images.ensures
    (λ d. false≢true (c.if-not-are_distinct.ensures.1 (subst (λ l. AllPairs (λ i j. i.0 ≢ j.0) l) (sym c.as_slice.ensures.value) d)))

pub returns-in_err-op : goal.returns-in_err-op
returns-in_err-op c =
    let p = err_from_is_err_and c.from_residual-in_err-op.result c.from_residual-in_err-op.ensures.1 in
    rw (p.1, p.2) (group_no_op c.fields_are_exact.ensures c.spelling_law.ensures.one_page c.args.k.number c.args.count (c.args.count ∷ c.args.bytes.now) c.args.bytes.now c.in_ok-images.images.items c.in_ok-images.rest.now c.in_err-op.field-0.0 refl c.in_ok-images.ensures c.in_err-op.ensures)
