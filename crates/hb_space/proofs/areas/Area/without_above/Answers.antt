use Rattle.std.proofs.Common.{◌≡◌, List, [], ◌∷◌, ◌++◌, get_or, set, refl, ap, sym, ◌∙◌, arith}
use Rattle.std.proofs.lemmas.List.{set-get_or}
use Rattle.std.proofs.lemmas.Bool.{cond_below}
use Rattle.hb_space.specs.Boxes.{Area}
use Rattle.hb_space.proofs.Facts.Boxes.{same_corners}
use Rattle.hb_space.proofs.areas.Area.without_above.Goals as goal

pub returns-in_ok-push-clause-rest : goal.returns-in_ok-push-clause-rest
returns-in_ok-push-clause-rest c =
    c.cut-rest.ensures.left ∙ same_corners _ _ refl (ap (set c.args.self.hi c.args.axis) (omega arith))

pub returns-in_ok-push-clause-piece : goal.returns-in_ok-push-clause-piece
returns-in_ok-push-clause-piece c =
    let pieces : List Area = c.args.pieces.now.items in
    let hi = c.args.self.hi in
    let at : get_or c.values.result.now c.from.result 0 ≡ get_or hi c.args.axis 0 = cc in
    c.in_ok-push.ensures.items ∙ ap (λ (us : List Area). pieces ++ us) (ap (λ (a : Area). a ∷ []) c.cut-rest.ensures.right ∙ cond_below c.args.greatest (get_or hi c.args.axis 0) _ _ (omega arith))

pub returns-else-greatest-values-clause-rest : goal.returns-else-greatest-values-clause-rest
returns-else-greatest-values-clause-rest c =
    let hi = c.args.self.hi in
    let axis = c.args.axis in
    let at : get_or c.values.result.now c.from.result 0 ≡ get_or hi axis 0 = cc in
    let e : c.args.greatest ≡ get_or hi axis 0 = omega arith in
    same_corners _ _ refl (sym (ap (set hi axis) e ∙ set-get_or hi axis 0))
