-- Rows worked out by hand, where the table computes.
use Rattle.std.specs.Prelude.{◌≡◌, [], ◌∷◌, None}
use Rattle.hb_frag.specs.declared.leaves.Leaf.TheVariants.{Records, Child, Sibling}
use Rattle.hb_frag.specs.declared.pages.LivePage.{LivePage}
use Rattle.hb_set.specs.declared.commands.Reply.{Reply}
use Rattle.hb_set.specs.declared.scripts.Line.{Line}
use Rattle.hb_activity.specs.declared.jobs.Job.{Job}
use Rattle.hb_activity.specs.declared.jobs.JobKind.TheVariants.{Post}
use Rattle.hb_activity.specs.declared.activities.Activity.{Activity}
use Rattle.hb_activity.specs.declared.activities.Activity.TheVariants as at
use Rattle.hb_activity.specs.Classes.{Class, Consolidators, Empty, Flushers, Hand, HasJob, HasLine, Posters, Sessions, class_of, hand_of, idle_of}
use Rattle.hb_activity.specs.Passing.{posts_owed}

-- A sibling leaf owes a posting one level up, at the point of the walk; other leaves owe none.
pub record OwesPostings : Type 0 where
  pub sibling : (page : LivePage) → page.level ≡ 2 → posts_owed page (5 ∷ []) (Sibling 7) ≡ record { kind = Post; level = 3; point = 5 ∷ [] } ∷ []
  pub child : (page : LivePage) → posts_owed page (5 ∷ []) (Child 7) ≡ []
  pub records : (page : LivePage) → posts_owed page (5 ∷ []) (Records []) ≡ []

-- of which kind an actor is, what it has in hand, and how it stands with nothing in hand
pub record IsOfKind (activity : Activity) (kind : Class) (hand : Hand) (idle : Activity) : Type 0 where
  pub kind_is : class_of activity ≡ kind
  pub hand_is : hand_of activity ≡ hand
  pub idle_is : idle_of (class_of activity) ≡ idle

-- A session that walks has its line in hand. Once that took effect it has nothing in hand, nor has it before it takes one. The
-- workers have their jobs, and the flusher has nothing ever.
pub record KindsByHand (line : Line) (reply : Reply) (job : Job) : Type 0 where
  pub walks : IsOfKind (at.SessionWalk line None [] []) Sessions (HasLine line) at.SessionIdle
  pub splits : IsOfKind (at.SessionSplit line 3) Sessions (HasLine line) at.SessionIdle
  pub waits : IsOfKind (at.SessionAwait 7 reply 4) Sessions Empty at.SessionIdle
  pub idle : IsOfKind at.SessionIdle Sessions Empty at.SessionIdle
  pub posts : IsOfKind (at.PosterAgain job 3) Posters (HasJob job) at.PosterIdle
  pub posts_nothing : IsOfKind at.PosterIdle Posters Empty at.PosterIdle
  pub merges : IsOfKind (at.ConsolidatorTry job 3 1 2 0) Consolidators (HasJob job) at.ConsolidatorIdle
  pub merges_nothing : IsOfKind at.ConsolidatorIdle Consolidators Empty at.ConsolidatorIdle
  pub flushes : IsOfKind at.Flusher Flushers Empty at.Flusher
