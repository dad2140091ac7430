-- What the files of this folder share.
pub use Rattle.hb_activity.specs.BoxLocks.{lock_of_command}
pub use Rattle.hb_activity.specs.Deeds.{Deed}
pub use Rattle.hb_activity.specs.declared.activities.Activity.{Activity}
pub use Rattle.hb_activity.specs.declared.activities.Activity.TheVariants.{SessionIdle, PosterIdle, ConsolidatorIdle, Flusher}
pub use Rattle.hb_activity.specs.declared.jobs.Job.{Job}
pub use Rattle.hb_activity.specs.declared.wanting.Wanted.{Wanted}
pub use Rattle.hb_frag.specs.declared.pages.LivePage.{LivePage}
pub use Rattle.hb_frag.specs.declared.pages.Page.{Page}
pub use Rattle.hb_ops.specs.Files.{last_of}
pub use Rattle.hb_ops.specs.SetPages.{set_pages, has_page}
pub use Rattle.hb_ops.specs.declared.operations.Op.{Op}
pub use Rattle.hb_point.specs.SessionRows.{taking}
pub use Rattle.hb_pool.specs.Frames.{Use}
pub use Rattle.hb_set.specs.declared.scripts.Line.{Line}
pub use Rattle.hb_steps.proofs.Memory.BroughtPages.{brings_none}
pub use Rattle.hb_steps.specs.Acting.{takes_number}
pub use Rattle.hb_steps.specs.AskedBoxes.{HasAskedBox}
pub use Rattle.hb_steps.specs.Asking.{AskedBox, asked_box, wanted_by}
pub use Rattle.hb_steps.specs.Fetching.{IsWantedPage}
pub use Rattle.hb_steps.specs.GivingUp.{gives_up}
pub use Rattle.hb_steps.specs.Machines.{Files}
pub use Rattle.hb_steps.specs.Performing.{ChangesQueue, outcome_of, Performs, files_after, PerformsAsItIs}
pub use Rattle.hb_steps.specs.Rows.{IsAtHand, Row}
pub use Rattle.hb_steps.specs.Scenes.{Scene, machine_of, standing, store_of, at_rest, uses_in, untold_scene}
pub use Rattle.hb_steps.specs.Steps.{IsUnready, Works, BeginsLine}
pub use Rattle.hb_steps.specs.Using.{page_wanted}
pub use Rattle.hb_store.specs.Fetching.{IsNoPage}
pub use Rattle.hb_store.specs.Held.{IsTied}
pub use Rattle.hb_store.specs.Replay.{is_among}
pub use Rattle.hb_store.specs.States.{in_memory}
pub use Rattle.std.proofs.Common.{◌≡◌, ◌⊎◌, inl, inr, ℕ, ◌≤◌, ◌++◌, List, Option, Some, None, IfSome, IsSome, IsTrue, refl, sym, ap, ◌∙◌, subst, ◌≢◌, ◌==◌, nat_le, true, false, cond, [], ◌∷◌, length, arith, Bool}
pub use Rattle.std.proofs.lemmas.Bool.{eqb-true, leb-true, cases_Bool}
pub use Rattle.std.proofs.lemmas.List.Elements.{All-from_recursion}
pub use Rattle.std.specs.Cmp.{nat_cmp_total}
pub use Rattle.std.specs.List.{AllByRecursion}
pub use Rattle.std.specs.Option.{is_some}
pub use Rattle.std.specs.Ordering.{nat_cmp}
pub use Rattle.std.specs.Prelude.{◌||◌, ◌&&◌, if◌then◌else◌}
pub use mathlib.Core.Path.{fun_ext}
