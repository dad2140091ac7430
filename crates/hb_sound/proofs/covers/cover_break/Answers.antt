use Rattle.std.proofs.Common.{inl, ℕ, List, length, refl, sym, ap, ◌∙◌, subst}
use Rattle.hb_space.specs.Boxes.{Area}
use Rattle.hb_sound.specs.Covers.{AreBelow, AreFirsts, LacksLevel}
use Rattle.hb_sound.proofs.Loose.{cover_by}
use Rattle.hb_sound.proofs.covers.cover_break.Goals as goal

pub first_loose-requires-clause-firsts : goal.first_loose-requires-clause-firsts
first_loose-requires-clause-firsts c =
    let are = rw c.in-Some.is at c.in_ok-firsts.ensures in
    let Q : List ℕ → Type 0 = λ l. AreFirsts c.args.facts.now.list.now (length l) c.whole-whole.result l in
    let P : ℕ → Type 0 = λ n. AreFirsts c.args.facts.now.list.now n c.whole-whole.result c.in-Some.firsts.items in
    subst Q (sym c.deref.ensures.value) (subst P (sym are.0) are)

pub returns-in-Some : goal.returns-in-Some
returns-in-Some c below =
    let are = rw c.in-Some.is at c.in_ok-firsts.ensures in
    let B : ℕ → Type 0 = λ n. AreBelow n c.args.facts.now.list.now in
    cover_by c.args.facts.now.meta.now c.args.facts.now.list.now c.args.named.now c.whole-whole.result c.in-Some.firsts.items c.first_loose.result c.whole-whole.ensures.value are
    (c.first_loose.ensures (subst B (sym (ap (λ (l : List ℕ). length l) c.deref.ensures.value ∙ are.0)) below))

pub returns-in-None : goal.returns-in-None
returns-in-None c below =
    let lacks = rw c.in-None.is at c.in_ok-firsts.ensures in
    let L : Area → Type 0 = λ area. LacksLevel c.args.facts.now.list.now c.args.facts.now.meta.now.height area in
    inl (refl, subst L c.whole-whole.ensures.value lacks)
