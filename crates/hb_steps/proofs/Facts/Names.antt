-- What the files of this folder share.
pub use Rattle.hb_activity.specs.Deeds.{Deed, answers_now}
pub use Rattle.hb_activity.specs.Walks.{goal_of, job_mode, session_mode, walk_held}
pub use Rattle.hb_activity.specs.Wanting.{in_mode, walk_next, wanted_of, wanted_page}
pub use Rattle.hb_activity.specs.declared.activities.Activity.{Activity}
pub use Rattle.hb_activity.specs.declared.jobs.Job.{Job}
pub use Rattle.hb_activity.specs.declared.wanting.Wanted.{Wanted}
pub use Rattle.hb_frag.specs.Leaves.{leaf_at}
pub use Rattle.hb_frag.specs.declared.leaves.Leaf.{Leaf}
pub use Rattle.hb_frag.specs.declared.leaves.Leaf.TheVariants.{Records, Child}
pub use Rattle.hb_frag.specs.declared.pages.LivePage.{LivePage}
pub use Rattle.hb_frag.specs.declared.pages.Page.{Page}
pub use Rattle.hb_frag.specs.declared.pages.Page.TheVariants.{Live}
pub use Rattle.hb_latch.specs.declared.modes.Mode.{Mode}
pub use Rattle.hb_layout.specs.declared.meta.Meta.{Meta}
pub use Rattle.hb_ops.proofs.Facts.PageNumberLaws.{live_so}
pub use Rattle.hb_ops.specs.Files.{FileState, if_live, page_of}
pub use Rattle.hb_ops.specs.Sound.{IsSound}
pub use Rattle.hb_ops.specs.declared.operations.Op.{Op}
pub use Rattle.hb_point.specs.SessionRows.{next_line}
pub use Rattle.hb_set.specs.Order.{Entry}
pub use Rattle.hb_set.specs.declared.commands.Reply.{Reply}
pub use Rattle.hb_set.specs.declared.scripts.Answered.{Answered}
pub use Rattle.hb_set.specs.declared.scripts.Line.{Line}
pub use Rattle.hb_space.specs.Actors.{IsActor}
pub use Rattle.hb_steps.proofs.Table.MergerMoves.{Waits}
pub use Rattle.hb_steps.specs.Acting.{MeetsBadPage}
pub use Rattle.hb_steps.specs.Asking.{looked_live}
pub use Rattle.hb_steps.specs.Fetching.{Brings}
pub use Rattle.hb_steps.specs.Forcing.{FailsToWrite, ForcesAll, StaysSo, BeginsTurn, WritesOldest}
pub use Rattle.hb_steps.specs.Keeps.{HasSoundFile, LatchesFit}
pub use Rattle.hb_steps.specs.KeptMerges.{merging_at}
pub use Rattle.hb_steps.specs.Machines.{Machine, Files, current_file, live_here, settled_count}
pub use Rattle.hb_steps.specs.Performing.{MayDo, Performs, given_by, latches_held, outcome_of}
pub use Rattle.hb_steps.specs.Steps.{StepsTo, Works}
pub use Rattle.hb_steps.specs.declared.outcomes.Outcome.{Outcome}
pub use Rattle.hb_store.specs.States.{in_memory, StoreState}
pub use Rattle.hb_store.specs.declared.stops.StopWhy.{StopWhy}
pub use Rattle.std.proofs.Common.{◌≡◌, ◌⊎◌, inl, inr, ℕ, ◌<◌, ◌≤◌, ◌++◌, List, [], ◌∷◌, Option, Some, None, refl, sym, subst, ◌-◌, ap, ◌∙◌, ◌≢◌, ◌==◌, Bool, cond, arith, IfSome}
pub use Rattle.std.proofs.lemmas.Bool.{cases_Bool}
pub use Rattle.std.proofs.lemmas.List.Elements.{All-head}
pub use Rattle.std.proofs.lemmas.Option.{none-some}
pub use Rattle.std.specs.Option.{option_and_then, option_to_list}
pub use Rattle.std.specs.Prelude.{MatchOption}
