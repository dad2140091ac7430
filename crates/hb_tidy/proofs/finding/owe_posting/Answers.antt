use Rattle.std.proofs.Common.{◌≢◌, ◌⊎◌, inl, inr, ℕ, List, length, refl, ap, ◌∙◌, subst, sym}
use Rattle.std.proofs.lemmas.Bool.{false≢true}
use Rattle.hb_ops.specs.Owing.{LacksRoom}
use Rattle.hb_space.specs.Boxes.{Holds}
use Rattle.hb_tidy.proofs.JobLists.{some_added}
use Rattle.hb_tidy.proofs.OwedJobs.{added_one}
use Rattle.hb_tidy.proofs.OwedRoom.{split_lacks}
use Rattle.hb_tidy.proofs.PlacedLeaves.{above_records, child_holds, child_there, leaf_attributes, parent_holds}
use Rattle.hb_tidy.proofs.finding.owe_posting.Goals as goal
use Rattle.hb_tidy.proofs.finding.owe_posting.Goals.{else-meta-via-else-meta, else-meta-via-then-meta+in_ok-post_plan+else-is_split}

pub post_plan-requires-clause-parent_held : goal.post_plan-requires-clause-parent_held
post_plan-requires-clause-parent_held c = parent_holds c.args.leaf.now.meta.now c.args.leaf.now.parent.now c.requires.name c.args.leaf.now.area.now c.args.leaf.now.child.now c.args.point.now c.requires.stands c.requires.held

pub post_plan-requires-clause-child_held : goal.post_plan-requires-clause-child_held
post_plan-requires-clause-child_held c = child_holds c.args.leaf.now.meta.now c.args.leaf.now.parent.now c.requires.name c.args.leaf.now.area.now c.args.leaf.now.child.now c.args.point.now c.requires.stands c.requires.held

pub post_plan-requires-clause-child_leaf : goal.post_plan-requires-clause-child_leaf
post_plan-requires-clause-child_leaf c = child_there c.args.leaf.now.meta.now c.args.leaf.now.parent.now c.requires.name c.args.leaf.now.area.now c.args.leaf.now.child.now c.args.point.now c.requires.stands c.requires.held

pub returns : goal.returns
returns c =
    let stands = c.requires.stands in
    let name = c.requires.name in
    let room : (c.args.leaf.now.meta.now.live ≢ c.args.leaf.now.meta.now.pages) ⊎ (¬ (LacksRoom c.args.leaf.now.parent.now c.args.leaf.now.child.now c.args.point.now c.args.leaf.now.meta.now.icap)) = elim c.else-meta.branch [
      | else-meta-via-else-meta w ↦ inl w.if-meta.false
      | else-meta-via-then-meta+in_ok-post_plan+else-is_split w ↦ inr (λ lacks.
          let tells = split_lacks c.args.leaf.now.parent.now c.args.leaf.now.child.now c.args.point.now c.args.leaf.now.meta.now.icap w.in_ok-post_plan.field-0 w.is_split.result w.in_ok-post_plan.ensures.plan w.is_split.ensures in
          false≢true (sym w.if-is_split.false ∙ tells.1 lacks))
    ] in
    record {
      added = added_one c.args.leaf.now.meta.now.k _ _ _ _ c.in_ok-add_job.ensures.added
          (record {
            level = above_records c.args.leaf.now.meta.now c.args.leaf.now.parent.now name c.args.leaf.now.area.now stands.above.made stands.above.leaf;
            point = ap (λ (p : List ℕ). length p) c.copy.ensures ∙ c.requires.held.same ∙ leaf_attributes c.args.leaf.now.meta.now c.args.leaf.now.parent.now name c.args.leaf.now.area.now stands.above.made stands.above.leaf;
          })
          (record {
            kind = refl;
            level = refl;
            held = subst (λ (p : List ℕ). Holds c.args.leaf.now.area.now p) (sym c.copy.ensures) c.requires.held;
            inner = c.requires.inner;
            given = c.requires.given;
            inside = subst (λ (p : List ℕ). Holds c.requires.inner.1 p) (sym c.copy.ensures) c.requires.inside;
            room = subst (λ (p : List ℕ). (c.args.leaf.now.meta.now.live ≢ c.args.leaf.now.meta.now.pages) ⊎ (¬ (LacksRoom c.args.leaf.now.parent.now c.args.leaf.now.child.now p c.args.leaf.now.meta.now.icap))) (sym c.copy.ensures) room;
          });
      none = λ empty. absurd (some_added c.args.jobs.now.items c.add_job.new.jobs.items _ c.in_ok-add_job.ensures.added empty);
      full = tt;
    }
