-- A job is taken in one way.
use Rattle.std.proofs.Common.{◌≡◌, inl, inr, ℕ, sym, ◌∙◌, arith}
use Rattle.hb_activity.specs.declared.jobs.Job.{Job}
use Rattle.hb_activity.specs.declared.activities.Activity.{Activity}
use Rattle.hb_poster.specs.PosterRows.{IsPostingOf}

pub one_posting : (job : Job) (height : ℕ) (next other : Activity) → IsPostingOf job height next → IsPostingOf job height other → next ≡ other
one_posting job height next other (inl (a, is)) (inl (b, same)) = is ∙ sym same
one_posting job height next other (inr (inl (a, is))) (inr (inl (b, same))) = is ∙ sym same
one_posting job height next other (inr (inr (a, is))) (inr (inr (b, same))) = is ∙ sym same
one_posting job height next other (inl (a, is)) (inr (inl (b, same))) = absurd (omega (arith, a, b))
one_posting job height next other (inl (a, is)) (inr (inr (b, same))) = absurd (omega (arith, a, b))
one_posting job height next other (inr (inl (a, is))) (inl (b, same)) = absurd (omega (arith, a, b))
one_posting job height next other (inr (inl (a, is))) (inr (inr (b, same))) = absurd (omega (arith, a, b))
one_posting job height next other (inr (inr (a, is))) (inl (b, same)) = absurd (omega (arith, a, b))
one_posting job height next other (inr (inr (a, is))) (inr (inl (b, same))) = absurd (omega (arith, a, b))
