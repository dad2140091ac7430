use Rattle.std.proofs.Common.{Bool, List, ◌∙◌, subst, sym, arith}
use Rattle.std.proofs.lemmas.List.{with_items_is}
use Rattle.hb_sound.specs.Covers.{IsChained}
use Rattle.hb_sound.proofs.LeftOut.{ended, left_one}
use Rattle.hb_sound.proofs.chains.free_break.Goals as goal

pub returns-in-Some : goal.returns-in-Some
returns-in-Some c =
    let walk = c.walk-end.ensures.walked in
    let I : List Bool → Type 0 = λ flags. IsChained walk.0 flags in
    let flags = c.deref.ensures.value ∙ with_items_is c.in_ok-chained.chained c.walk-end.new.chained (omega (arith, c.walk-end.ensures.same, c.in_ok-chained.ensures.len)) in
    left_one c.args.facts.now.meta.now c.args.facts.now.list.now walk.0 c.walk-end.result c.in-Some.id walk.1 (c.in-Some.ensures walk.0 (subst I (sym flags) walk.2))

pub returns : goal.returns
returns c =
    let walk = c.walk-end.ensures.walked in
    let I : List Bool → Type 0 = λ flags. IsChained walk.0 flags in
    let flags = c.deref.ensures.value ∙ with_items_is c.in_ok-chained.chained c.walk-end.new.chained (omega (arith, c.walk-end.ensures.same, c.in_ok-chained.ensures.len)) in
    ended c.args.facts.now.meta.now c.args.facts.now.list.now walk.0 c.walk-end.result c.end_break.result walk.1 (c.in-None.ensures walk.0 (subst I (sym flags) walk.2)) c.end_break.ensures
