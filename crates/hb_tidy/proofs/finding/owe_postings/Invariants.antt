use Rattle.std.proofs.Common.{◌≡◌, ℕ, [], All, take}
use Rattle.hb_space.specs.Boxes.{Area, Meets}
use Rattle.hb_tidy.specs.Owed.{HasAdded, IsPosting}
use Rattle.hb_tidy.proofs.finding.owe_postings.Given as goal

-- where no job was made, none of the leaves so far meets the box
abbrev pub invariant-loop-part : goal.invariant-loop-part
invariant-loop-part l = record {
  added : HasAdded l.leaf.meta.now.k (IsPosting l.leaf.meta.now l.leaf.parent.now l.leaf.child.now l.leaf.area.now) l.fn.jobs.items l.jobs.items;
  none : l.jobs.items ≡ [] → (l.fn.jobs.items ≡ []) × All (λ (sibling : ℕ × Area). ¬ (Meets l.leaf.area.now sibling.1)) (take l.part-index l.given);
}
