-- What the files of this folder share.
pub use Rattle.hb_activity.specs.Deeds.{Deed, does}
pub use Rattle.hb_activity.specs.declared.activities.Activity.{Activity}
pub use Rattle.hb_activity.specs.declared.wanting.Wanted.{Wanted}
pub use Rattle.hb_frag.specs.declared.pages.LivePage.{LivePage}
pub use Rattle.hb_frag.specs.declared.pages.Page.{Page}
pub use Rattle.hb_frag.specs.declared.pages.Page.TheVariants.{Live, Free}
pub use Rattle.hb_latch.specs.declared.modes.Mode.{Mode}
pub use Rattle.hb_latch.specs.declared.modes.Mode.TheVariants.{Shared, Exclusive}
pub use Rattle.hb_layout.specs.declared.meta.Meta.{Meta}
pub use Rattle.hb_lemmas.proofs.Options.{has_value, not_there}
pub use Rattle.hb_ops.specs.Files.{if_live}
pub use Rattle.hb_ops.specs.Operations.{change_of}
pub use Rattle.hb_ops.specs.SetPages.{set_pages}
pub use Rattle.hb_ops.specs.declared.operations.Op.{Op}
pub use Rattle.hb_set.specs.declared.scripts.Line.{Line}
pub use Rattle.hb_space.specs.Actors.{IsActor}
pub use Rattle.hb_space.specs.Boxes.{Area}
pub use Rattle.hb_steps.proofs.Facts.EachRow.{each_op, each_row}
pub use Rattle.hb_steps.proofs.Facts.GivenUpLaws.{gives_up_nothing}
pub use Rattle.hb_steps.proofs.Facts.StepKinds.{each_kind, FlushesMore, ready_kind}
pub use Rattle.hb_steps.proofs.Latches.SameLatches.{HasHeld}
pub use Rattle.hb_steps.proofs.Table.Targets.{IsNumber, numbers_are_targets, set_elsewhere}
pub use Rattle.hb_steps.specs.Acting.{MeetsBadPage}
pub use Rattle.hb_steps.specs.Asking.{wanted_by, HasWayFree}
pub use Rattle.hb_steps.specs.Fetching.{Brings, MustStay}
pub use Rattle.hb_steps.specs.Forcing.{BeginsTurn, FailsToWrite, ForcesAll, StaysSo, WritesOldest}
pub use Rattle.hb_steps.specs.Keeps.{LatchesFit, HoldsPagesOfFile}
pub use Rattle.hb_steps.specs.Laws.{HasAlone, IsInUse}
pub use Rattle.hb_steps.specs.Machines.{Files, Machine, modes, with_disk, sight}
pub use Rattle.hb_steps.specs.Performing.{latches_held, mode_among, MayDo, Performs}
pub use Rattle.hb_steps.specs.Rows.{Row}
pub use Rattle.hb_steps.specs.Steps.{StepsTo, Works, GetsReady}
pub use Rattle.hb_steps.specs.declared.outcomes.Outcome.{Outcome}
pub use Rattle.hb_store.specs.Calls.{change_here, read_here, IsAllowedHere}
pub use Rattle.hb_store.specs.Fetching.{IsNext}
pub use Rattle.hb_store.specs.States.{StoreState, in_memory}
pub use Rattle.std.proofs.Common.{◌≡◌, ◌≢◌, ◌⊎◌, inl, inr, ℕ, Some, None, refl, sym, ap, ◌∙◌, subst, ◌==◌, false, Bool, IsTrue, List, ◌∷◌, IsSome, Option, ◌<◌, ◌≤◌, arith, ◌+◌, true, cond}
pub use Rattle.std.proofs.lemmas.Bool.{cases_Bool, eqb-false, eqb-true, false≢true}
