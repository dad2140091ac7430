-- What the files of this folder share.
pub use Rattle.hb_activity.proofs.Facts.HeldLatches.{in_its_mode}
pub use Rattle.hb_activity.specs.Deeds.{Deed}
pub use Rattle.hb_activity.specs.Holding.{latch_on, walk_latch}
pub use Rattle.hb_activity.specs.Walks.{job_mode, session_mode, walk_held}
pub use Rattle.hb_activity.specs.Wanting.{walk_next, wanted_of}
pub use Rattle.hb_activity.specs.declared.activities.Activity.{Activity}
pub use Rattle.hb_activity.specs.declared.holding.Latch.{Latch}
pub use Rattle.hb_activity.specs.declared.jobs.Job.{Job}
pub use Rattle.hb_activity.specs.declared.wanting.Wanted.{Wanted}
pub use Rattle.hb_frag.specs.declared.pages.LivePage.{LivePage}
pub use Rattle.hb_frag.specs.declared.pages.Page.TheVariants.{Live}
pub use Rattle.hb_latch.specs.Modes.{goes_beside}
pub use Rattle.hb_latch.specs.declared.modes.Mode.{Mode}
pub use Rattle.hb_latch.specs.declared.modes.Mode.TheVariants.{Shared, Update, Exclusive}
pub use Rattle.hb_lemmas.proofs.Booleans.{at_itself}
pub use Rattle.hb_ops.proofs.Facts.PageNumberLaws.{live_so}
pub use Rattle.hb_ops.specs.Files.{if_live}
pub use Rattle.hb_space.specs.Actors.{IsActor}
pub use Rattle.hb_space.specs.Boxes.{Area}
pub use Rattle.hb_steps.proofs.Table.MergerMoves.{of_page}
pub use Rattle.hb_steps.specs.Asking.{HasWayFree, looked_live, wanted_by}
pub use Rattle.hb_steps.specs.Fetching.{Brings}
pub use Rattle.hb_steps.specs.Keeps.{HoldsPagesOfFile, LatchesFit}
pub use Rattle.hb_steps.specs.KeptMerges.{IsMerging}
pub use Rattle.hb_steps.specs.Machines.{Machine, modes, with_disk, sight}
pub use Rattle.hb_steps.specs.Performing.{MayDo}
pub use Rattle.hb_steps.specs.Rows.{Row, RowAt}
pub use Rattle.hb_steps.specs.Steps.{StepsTo}
pub use Rattle.hb_steps.specs.declared.outcomes.Outcome.{Outcome}
pub use Rattle.hb_store.specs.States.{StoreState, in_memory}
pub use Rattle.std.proofs.Common.{◌≡◌, ◌⊎◌, inl, inr, ℕ, Bool, cond, List, [], ◌∷◌, length, Option, Some, None, refl, sym, ap, ◌∙◌, subst, ◌≢◌, IsTrue}
pub use Rattle.std.proofs.lemmas.Bool.{eq-eqb}
