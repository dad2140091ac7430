use Rattle.std.proofs.Common.{◌≡◌, ◌+◌, ◌*◌, ◌^◌, ◌≤◌, drop}
use Rattle.hb_sound.specs.RecordCounts.{all_records}
use Rattle.hb_sound.proofs.audits.count_records.Given as goal

-- those so far and those of the rest are all
abbrev pub invariant-loop-fact : goal.invariant-loop-fact
invariant-loop-fact l = (l.records + all_records (drop l.fact-index l.facts.list.now) ≡ all_records l.facts.list.now) × (l.records ≤ l.fact-index * 2 ^ 32)
