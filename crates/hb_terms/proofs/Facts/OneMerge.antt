-- A merge has one plan.
use Rattle.std.proofs.Common.{◌≡◌, ℕ, refl, arith}
use Rattle.hb_lemmas.proofs.Options.{not_there}
use Rattle.hb_frag.specs.declared.pages.LivePage.{LivePage}
use Rattle.hb_terms.specs.declared.merging.MergePlan.{MergePlan}
use Rattle.hb_terms.specs.declared.merging.MergePlan.TheVariants.{NotContained, ManyParents, TooHeavy, Merge}
use Rattle.hb_terms.specs.Merging.{IsMergePlan}

pub one_merge : (parent keep : LivePage) (gone_id : ℕ) (gone : LivePage) (cap : ℕ) (plan other : MergePlan) → IsMergePlan parent keep gone_id gone cap plan → IsMergePlan parent keep gone_id gone cap other → plan ≡ other
one_merge parent keep gone_id gone cap NotContained NotContained first second = refl
one_merge parent keep gone_id gone cap NotContained ManyParents first second = absurd (not_there _ first second.given)
one_merge parent keep gone_id gone cap NotContained TooHeavy first second = absurd (not_there _ first second.given)
one_merge parent keep gone_id gone cap NotContained Merge first second = absurd (not_there _ first second.given)
one_merge parent keep gone_id gone cap ManyParents NotContained first second = absurd (not_there _ second first.given)
one_merge parent keep gone_id gone cap ManyParents ManyParents first second = refl
one_merge parent keep gone_id gone cap ManyParents TooHeavy first second = absurd (first.elsewhere second.whole)
one_merge parent keep gone_id gone cap ManyParents Merge first second = absurd (first.elsewhere second.whole)
one_merge parent keep gone_id gone cap TooHeavy NotContained first second = absurd (not_there _ second first.given)
one_merge parent keep gone_id gone cap TooHeavy ManyParents first second = absurd (second.elsewhere first.whole)
one_merge parent keep gone_id gone cap TooHeavy TooHeavy first second = refl
one_merge parent keep gone_id gone cap TooHeavy Merge first second = absurd (omega (arith, first.heavy, second.light))
one_merge parent keep gone_id gone cap Merge NotContained first second = absurd (not_there _ second first.given)
one_merge parent keep gone_id gone cap Merge ManyParents first second = absurd (second.elsewhere first.whole)
one_merge parent keep gone_id gone cap Merge TooHeavy first second = absurd (omega (arith, first.light, second.heavy))
one_merge parent keep gone_id gone cap Merge Merge first second = refl
