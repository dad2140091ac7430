use Rattle.std.proofs.Common.{◌≡◌, ◌+◌, ◌≤◌, drop}
use Rattle.hb_sound.specs.Covers.{live_facts}
use Rattle.hb_sound.proofs.chains.count_live.Given as goal

-- those so far and those of the rest are all
abbrev pub invariant-loop-fact : goal.invariant-loop-fact
invariant-loop-fact l = (l.live + live_facts (drop l.fact-index l.facts.list.now) ≡ live_facts l.facts.list.now) × (l.live ≤ l.fact-index)
