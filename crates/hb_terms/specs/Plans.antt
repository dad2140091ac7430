-- The plan of a posting.
use Rattle.std.specs.Prelude.{ℕ, List}
use Rattle.hb_frag.specs.declared.pages.LivePage.{LivePage}
use Rattle.hb_ops.specs.Owing.{LacksRoom, OwesNothing, Posts}
use Rattle.hb_terms.specs.declared.plans.PostPlan.{PostPlan}
use Rattle.hb_terms.specs.declared.plans.PostPlan.TheVariants.{Nothing, Post, SplitFirst}

-- the plan for a parent, its child, a point, and what a page above level 0 may weigh
abbrev pub IsPlan : LivePage → LivePage → List ℕ → ℕ → PostPlan → Type 0
IsPlan parent child p icap Nothing = OwesNothing parent child p
IsPlan parent child p icap (Post at inner area) = Posts parent child p icap at inner area
IsPlan parent child p icap SplitFirst = LacksRoom parent child p icap
