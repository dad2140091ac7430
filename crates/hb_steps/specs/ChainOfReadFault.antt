-- A chain over a disk that doesn't tell its bytes: the root can't be read, so that a session's line is answered `read fault`, and the
-- poster's job is dropped.
use Rattle.std.specs.Prelude.{ℕ, List, [], ◌∷◌}
use Rattle.hb_layout.specs.declared.meta.Meta.{Meta}
use Rattle.hb_set.specs.declared.commands.Command.TheVariants.{Lookup}
use Rattle.hb_set.specs.declared.commands.Reply.TheVariants as replies
use Rattle.hb_set.specs.declared.scripts.Line.{Line}
use Rattle.hb_activity.specs.declared.jobs.Job.{Job}
use Rattle.hb_activity.specs.declared.jobs.JobKind.TheVariants.{Post}
use Rattle.hb_activity.specs.declared.activities.Activity.TheVariants.{PosterIdle, SessionIdle}
use Rattle.hb_activity.specs.declared.dropping.DropWhy.TheVariants as drops
use Rattle.hb_steps.specs.declared.outcomes.Outcome.{Outcome}
use Rattle.hb_steps.specs.declared.outcomes.Outcome.TheVariants.{Moved, Answered, Dropped, Idle}
use Rattle.hb_steps.specs.Scenes.{Scene, StepsSaying, at_start, untold_scene}

-- a file of two levels: page 3 is the root
abbrev pub raised_meta : Meta
raised_meta = record { k = 1; pages = 64; log = 65536; dcap = 6; icap = 32; root = 3; height = 2; high = 3; live = 3; free = 0 }

-- session 1 looks 20 up
abbrev pub seeks_twenty : Line
seeks_twenty = record { number = 1; session = 1; command = Lookup (20 ∷ []) }

-- and what may be owed at 10 is to be posted
abbrev pub posts_at_ten : Job
posts_at_ten = record { kind = Post; level = 1; point = 10 ∷ [] }

-- No page is in memory. The line and the job wait.
abbrev pub unread_before : Scene
unread_before = at_start (seeks_twenty ∷ []) (posts_at_ten ∷ []) [] (record { meta = raised_meta; pages = [] })

-- The line was answered outside of the order, and the job is gone.
abbrev pub unread_after : Scene
unread_after = record unread_before { answered = record { line = 1; reply = replies.ReadFault; at = 0 } ∷ []; at_work = (1, SessionIdle) ∷ (17, PosterIdle) ∷ []; jobs = [] }

-- Both take what waits, and give it up at the root. Then neither has anything to do.
abbrev pub steps_unread : List (ℕ × Outcome)
steps_unread = (1, Moved) ∷ (17, Moved) ∷ (1, Answered 1 replies.ReadFault) ∷ (17, Dropped drops.ReadFault) ∷ (1, Idle) ∷ (17, Idle) ∷ []

abbrev pub RootIsNotRead : Type 0
RootIsNotRead = StepsSaying steps_unread (untold_scene unread_before) (untold_scene unread_after)
