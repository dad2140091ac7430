use Rattle.std.proofs.Common.{◌+◌, ℕ, List, subst, sym}
use Rattle.hb_sound.specs.Covers.{AreFirsts}
use Rattle.hb_sound.proofs.Levels.{firsts_on}
use Rattle.hb_sound.proofs.covers.firsts_of.Goals as goal

pub loop-level-preserved : goal.loop-level-preserved
loop-level-preserved c =
    let Q : List ℕ → Type 0 = λ l. AreFirsts c.args.facts.now.list.now (c.loop-level.level + 1) c.args.whole.now l in
    subst Q (sym c.in_ok-push-in-Some.ensures.items)
    (firsts_on c.args.facts.now.list.now c.loop-level.level c.args.whole.now c.loop-level.firsts.items c.in-Some.id c.loop-level.invariant c.in-Some.ensures)
