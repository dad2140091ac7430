use Rattle.std.proofs.Common.{ℕ, ◌<◌, ◌≤◌}
use Rattle.hb_sound.specs.Covers.{SeesRule}
use Rattle.hb_sound.proofs.audits.test_alone.Given as goal

-- no page breaks one of the rules so far
abbrev pub invariant-loop-rule : goal.invariant-loop-rule
invariant-loop-rule l = (id rule : ℕ) → 3 ≤ rule → rule < l.rule → ¬ (SeesRule l.facts.list.now rule id)
