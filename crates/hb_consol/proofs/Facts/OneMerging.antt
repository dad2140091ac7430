-- A job is taken in one way.
use Rattle.std.proofs.Common.{◌≡◌, inl, inr, ℕ, sym, ◌∙◌, arith}
use Rattle.hb_activity.specs.declared.jobs.Job.{Job}
use Rattle.hb_activity.specs.declared.activities.Activity.{Activity}
use Rattle.hb_consol.specs.ConsolidatorRows.{IsMergingOf}

pub one_merging : (job : Job) (height : ℕ) (next other : Activity) → IsMergingOf job height next → IsMergingOf job height other → next ≡ other
one_merging job height next other (inl (a, is)) (inl (b, same)) = is ∙ sym same
one_merging job height next other (inr (a, is)) (inr (b, same)) = is ∙ sym same
one_merging job height next other (inl (a, is)) (inr (b, same)) = absurd (omega (arith, a, b))
one_merging job height next other (inr (a, is)) (inl (b, same)) = absurd (omega (arith, a, b))
