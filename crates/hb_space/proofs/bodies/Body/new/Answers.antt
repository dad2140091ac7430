use Rattle.std.proofs.Common.{◌<◌, ◌^◌, List, ℕ, ◌++◌, length, ap, sym, subst, ◌∙◌, arith}
use Rattle.std.proofs.lemmas.List.Elements.{All-from_get_or}
use Rattle.hb_space.specs.Points.{IsBody}
use Rattle.hb_space.proofs.Facts.Lists.{on_ok}
use Rattle.hb_space.proofs.bodies.Body.new.Goals as goal

pub returns : goal.returns
returns c =
    let fits = c.try_extend_from_slice-fits.ensures in
    on_ok _ _ (fits.variant.1 (omega (arith, ap length c.new-held.ensures))) fits.ok ∙ ap (λ (xs : List ℕ). xs ++ c.args.bytes.now) c.new-held.ensures

pub invariant_of-result : goal.invariant_of-result
invariant_of-result c =
    subst IsBody (sym (returns c)) (record { few = c.requires; fits = All-from_get_or (λ x. x < 2 ^ 8) _ 0 (λ i _. (c.type_inv.bytes i).fits) })
