-- What the files of this folder share.
pub use Rattle.hb_activity.specs.Deeds.{Deed, answers_now, does, takes_effect}
pub use Rattle.hb_activity.specs.Queue.{AddsJobs, LeavesBy, LeavesFirst}
pub use Rattle.hb_activity.specs.Walks.{walk_held}
pub use Rattle.hb_activity.specs.declared.activities.Activity.{Activity}
pub use Rattle.hb_activity.specs.declared.jobs.Job.{Job}
pub use Rattle.hb_activity.specs.declared.jobs.JobKind.{JobKind}
pub use Rattle.hb_activity.specs.declared.wanting.Wanted.{Wanted}
pub use Rattle.hb_consol.specs.ConsolidatorRows.{children_of, IsMergingOf}
pub use Rattle.hb_frag.specs.Rules.{AreInOrder}
pub use Rattle.hb_frag.specs.declared.pages.LivePage.{LivePage}
pub use Rattle.hb_frag.specs.declared.pages.Page.{Page}
pub use Rattle.hb_frag.specs.declared.pages.Page.TheVariants.{Live}
pub use Rattle.hb_layout.specs.declared.meta.Meta.{Meta}
pub use Rattle.hb_lemmas.proofs.Options.{one_value}
pub use Rattle.hb_ops.proofs.Facts.PageNumberLaws.{live_so}
pub use Rattle.hb_ops.specs.Files.{if_live}
pub use Rattle.hb_ops.specs.declared.operations.Op.{Op}
pub use Rattle.hb_ops.specs.declared.operations.Op.TheVariants.{Put}
pub use Rattle.hb_point.specs.SplitRows.{PutsInHalf}
pub use Rattle.hb_poster.specs.PosterRows.{IsPostingOf}
pub use Rattle.hb_set.specs.Order.{Entry}
pub use Rattle.hb_set.specs.declared.commands.Command.{Command}
pub use Rattle.hb_set.specs.declared.commands.Command.TheVariants.{Insert, Delete, Lookup, Search}
pub use Rattle.hb_set.specs.declared.commands.Reply.{Reply}
pub use Rattle.hb_set.specs.declared.scripts.Line.{Line}
pub use Rattle.hb_space.specs.Boxes.{Area}
pub use Rattle.hb_space.specs.declared.records.Record.{Record}
pub use Rattle.hb_steps.specs.Acting.{Abandons, MeetsBadPage, DoesRow}
pub use Rattle.hb_steps.specs.Asking.{wanted_by}
pub use Rattle.hb_steps.specs.Fetching.{Brings}
pub use Rattle.hb_steps.specs.Forcing.{FailsToWrite}
pub use Rattle.hb_steps.specs.Keeps.{HoldsPagesOfFile}
pub use Rattle.hb_steps.specs.Machines.{Machine, sight, with_disk, Files, live_here}
pub use Rattle.hb_steps.specs.OutcomeLaws.{AreOne, IsTurnedAside}
pub use Rattle.hb_steps.specs.Performing.{ChangesQueue, MayDo, Performs, outcome_of, PerformsAsItIs, latches_held}
pub use Rattle.hb_steps.specs.Rows.{Row, RowAlone, RowAt}
pub use Rattle.hb_steps.specs.Steps.{TakesJob, TakesMerging}
pub use Rattle.hb_steps.specs.Using.{pages_of}
pub use Rattle.hb_steps.specs.declared.outcomes.Outcome.{Outcome}
pub use Rattle.hb_store.specs.Calls.{CommitsBringNone, KeepsAllButPages}
pub use Rattle.hb_store.specs.States.{StoreState, in_memory}
pub use Rattle.std.proofs.Common.{◌≡◌, ◌⊎◌, inl, inr, ℕ, ◌++◌, List, [], length, Option, Some, None, IsSomeAnd, refl, sym, ap, ◌∙◌, subst, ◌≤◌, IfSome, ◌+◌, ◌∷◌, arith, ◌≢◌, All}
pub use Rattle.std.proofs.lemmas.Bool.{cases_lt}
pub use Rattle.std.proofs.lemmas.Option.{same_Some}
pub use Rattle.std.specs.Prelude.{MatchOption}
