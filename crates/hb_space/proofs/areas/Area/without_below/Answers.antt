use Rattle.std.proofs.Common.{◌≡◌, get_or, set, refl, ap, sym, inl, inr, ◌∙◌, arith}
use Rattle.std.proofs.lemmas.List.{set-get_or}
use Rattle.std.proofs.lemmas.Bool.{cases_lt, false≢true}
use Rattle.hb_space.proofs.Facts.Boxes.{same_corners}
use Rattle.hb_space.proofs.areas.Area.without_below.Goals as goal

pub returns-else-cuts-clause-rest : goal.returns-else-cuts-clause-rest
returns-else-cuts-clause-rest c =
    let lo = c.args.self.lo in
    let axis = c.args.axis in
    let e : c.args.least ≡ get_or lo axis 0 = elim (cases_lt (get_or lo axis 0) c.args.least) [
      | inl less ↦ absurd (false≢true (sym c.if-cuts.false ∙ c.cuts.ensures.1 (record { attribute = c.requires.attribute; above_least = less; up_to_greatest = c.requires.high })))
      | inr at_most ↦ omega (arith, at_most)
    ] in
    same_corners _ _ (sym (ap (set lo axis) e ∙ set-get_or lo axis 0)) refl
