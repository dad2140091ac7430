-- What the files of this folder share.
pub use Rattle.hb_activity.specs.Classes.{Empty, Hand, HasJob, HasLine, hand_of, job_in_work, line_in_hand, line_of, Class, Sessions, Posters, Consolidators, Flushers, class_of, idle_of}
pub use Rattle.hb_activity.specs.Deeds.{Deed, answers_now, moves_to}
pub use Rattle.hb_activity.specs.Walks.{walk_held}
pub use Rattle.hb_activity.specs.declared.activities.Activity.{Activity}
pub use Rattle.hb_activity.specs.declared.dropping.DropWhy.{DropWhy}
pub use Rattle.hb_activity.specs.declared.jobs.Job.{Job}
pub use Rattle.hb_activity.specs.declared.wanting.Wanted.{Wanted}
pub use Rattle.hb_consol.specs.ConsolidatorRows.{IsMergingOf, after_try, children_of, one_behind, scans, tries}
pub use Rattle.hb_consol.specs.MergeRows.{DoesMerge, after_keep}
pub use Rattle.hb_frag.specs.Leaves.{leaf_at}
pub use Rattle.hb_frag.specs.declared.pages.LivePage.{LivePage}
pub use Rattle.hb_lemmas.proofs.Options.{at_value}
pub use Rattle.hb_ops.specs.declared.operations.Op.{Op}
pub use Rattle.hb_point.specs.SessionRows.{WantsBoxes, next_line, taking}
pub use Rattle.hb_poster.specs.PosterRows.{IsPostingOf}
pub use Rattle.hb_set.specs.declared.commands.Command.{Command}
pub use Rattle.hb_set.specs.declared.commands.Command.TheVariants.{Insert, Delete, Lookup, Search}
pub use Rattle.hb_set.specs.declared.commands.Reply.{Reply}
pub use Rattle.hb_set.specs.declared.scripts.Line.{Line}
pub use Rattle.hb_space.specs.Boxes.{Area}
pub use Rattle.hb_space.specs.declared.records.Record.{Record}
pub use Rattle.hb_steps.specs.Acting.{DoesRow}
pub use Rattle.hb_steps.specs.Asking.{wanted_by}
pub use Rattle.hb_steps.specs.CauseLaws.{GaveUpFor}
pub use Rattle.hb_steps.specs.Forcing.{ForcesAll, StaysSo}
pub use Rattle.hb_steps.specs.GivingUp.{gives_up, reply_for}
pub use Rattle.hb_steps.specs.JobLaws.{FindsNoPlace}
pub use Rattle.hb_steps.specs.KeptMachine.{MachineKeeps}
pub use Rattle.hb_steps.specs.KeptMerges.{merging_at}
pub use Rattle.hb_steps.specs.KeptOrder.{StandsOutside}
pub use Rattle.hb_steps.specs.Machines.{Machine, with_disk, live_here, sight}
pub use Rattle.hb_steps.specs.Performing.{Performs, outcome_of, latches_held}
pub use Rattle.hb_steps.specs.Rows.{Row, RowAt}
pub use Rattle.hb_steps.specs.Steps.{StepsTo, TakesJob, TakesMerging, Works}
pub use Rattle.hb_steps.specs.declared.outcomes.Outcome.{Outcome}
pub use Rattle.hb_store.specs.States.{StoreState}
pub use Rattle.hb_terms.specs.declared.merging.MergePlan.{MergePlan}
pub use Rattle.std.proofs.Common.{◌≡◌, ◌⊎◌, inl, inr, ℕ, List, Option, Some, None, IsSomeAnd, refl, sym, ap, ◌∙◌, subst, ◌≤◌, arith, ◌==◌, Bool, cond, [], length, ◌<◌, zero, suc, ◌∷◌}
pub use Rattle.std.proofs.lemmas.Bool.{cases_Bool, eqb-true}
pub use Rattle.std.proofs.lemmas.Option.{same_Some, none-some}
pub use Rattle.std.specs.List.{Contains}
