use Rattle.std.proofs.Common.{ℕ, List, length, refl, ap, ◌∙◌}
use Rattle.std.proofs.lemmas.Result.{on_ok_weaker}
use Rattle.hb_tidy.proofs.OwedJobs.{added_one}
use Rattle.hb_tidy.proofs.PlacedLeaves.{above_records, leaf_attributes}
use Rattle.hb_tidy.proofs.finding.owe_job.Goals as goal

pub returns-clause-added : goal.returns-clause-added
returns-clause-added c =
    on_ok_weaker c.add_job.result
    (λ is. added_one c.args.meta.now.k _ _ _ _ is
    (record { level = above_records c.args.meta.now c.args.parent.now c.requires.0 c.args.area.now c.requires.1.made c.requires.1.leaf; point = ap (λ (p : List ℕ). length p) (c.copy.ensures ∙ c.lo.ensures.value) ∙ leaf_attributes c.args.meta.now c.args.parent.now c.requires.0 c.args.area.now c.requires.1.made c.requires.1.leaf })
    (record { kind_is = refl; level = refl; corner = c.copy.ensures ∙ c.lo.ensures.value })) c.add_job.ensures.added
