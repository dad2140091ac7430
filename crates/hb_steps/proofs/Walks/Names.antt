-- What the files of this folder share.
pub use Rattle.hb_activity.specs.BoxLocks.{lock_of, lock_of_command}
pub use Rattle.hb_activity.specs.Classes.{job_in_work}
pub use Rattle.hb_activity.specs.Deeds.{Deed}
pub use Rattle.hb_activity.specs.Holding.{latch_on, walk_latch}
pub use Rattle.hb_activity.specs.Passing.{LeadsBelow}
pub use Rattle.hb_activity.specs.Waiting.{IsLater}
pub use Rattle.hb_activity.specs.Walks.{walk_held, walk_point, goal_of, job_mode, session_mode}
pub use Rattle.hb_activity.specs.Wanting.{child_of, in_mode, named_child, named_page, walk_next, wanted_of, wanted_page}
pub use Rattle.hb_activity.specs.declared.activities.Activity.{Activity}
pub use Rattle.hb_activity.specs.declared.jobs.Job.{Job}
pub use Rattle.hb_activity.specs.declared.wanting.Wanted.{Wanted}
pub use Rattle.hb_boxlock.specs.Locking.{Excludes}
pub use Rattle.hb_boxlock.specs.declared.locks.BoxLock.{BoxLock}
pub use Rattle.hb_consol.specs.ConsolidatorRows.{names_child}
pub use Rattle.hb_frag.specs.Leaves.{Placed, first_named, leaf_at, leaves, leaves_of, siblings_of, IsPointer}
pub use Rattle.hb_frag.specs.Rules.{BelongsAt}
pub use Rattle.hb_frag.specs.declared.leaves.Leaf.{Leaf}
pub use Rattle.hb_frag.specs.declared.leaves.Leaf.TheVariants.{Records, Child, Sibling}
pub use Rattle.hb_frag.specs.declared.pages.LivePage.{LivePage}
pub use Rattle.hb_frag.specs.declared.pages.Page.TheVariants.{Live}
pub use Rattle.hb_latch.specs.Modes.{goes_beside}
pub use Rattle.hb_latch.specs.Tables.{IsLeastInTheWay}
pub use Rattle.hb_latch.specs.declared.modes.Mode.{Mode}
pub use Rattle.hb_latch.specs.declared.modes.Mode.TheVariants.{Shared, Update, Exclusive}
pub use Rattle.hb_layout.specs.declared.meta.Meta.{Meta}
pub use Rattle.hb_lemmas.proofs.Booleans.{at_itself}
pub use Rattle.hb_lemmas.proofs.Lists.{place_member}
pub use Rattle.hb_lemmas.proofs.Options.{one_value}
pub use Rattle.hb_ops.proofs.Facts.PlacedLaws.{leaf_is_sibling, placed}
pub use Rattle.hb_ops.proofs.Facts.Tips.{first_held}
pub use Rattle.hb_ops.proofs.Facts.Volumes.{sibling_fewer}
pub use Rattle.hb_ops.specs.Files.{if_live, FileState, live_page}
pub use Rattle.hb_ops.specs.Sound.{IsSound}
pub use Rattle.hb_point.specs.SessionRows.{next_line}
pub use Rattle.hb_set.specs.declared.scripts.Line.{Line}
pub use Rattle.hb_space.specs.Actors.{IsActor}
pub use Rattle.hb_space.specs.Boxes.{Area, volume, Holds}
pub use Rattle.hb_steps.proofs.Facts.StillThere.{may_or_not, fetched_good, holder_may}
pub use Rattle.hb_steps.proofs.Facts.Ways.{nothing_done}
pub use Rattle.hb_steps.proofs.Files.AskedPages.{first_among, first_box_among}
pub use Rattle.hb_steps.proofs.Latches.SameLatches.{live_held, HasHeld, walk_stays}
pub use Rattle.hb_steps.proofs.Memory.BroughtPages.{held_come, own_there}
pub use Rattle.hb_steps.proofs.Table.MergerMoves.{of_page}
pub use Rattle.hb_steps.proofs.Table.NextPlaces.{HoldsNothing, MergesOn, now}
pub use Rattle.hb_steps.specs.AllowedLaws.{AnyPage}
pub use Rattle.hb_steps.specs.AskedBoxes.{HasItsBox}
pub use Rattle.hb_steps.specs.Asking.{asked_box, box_at, box_by_leaf, looked_live, wanted_by}
pub use Rattle.hb_steps.specs.Fetching.{Brings}
pub use Rattle.hb_steps.specs.Keeps.{HasSoundFile, LatchesFit, WalksInSpace, HasNobodyElse}
pub use Rattle.hb_steps.specs.KeptFits.{JobFits, StandsAbove, walking_job, LineFits, GaveAwayAt}
pub use Rattle.hb_steps.specs.KeptMachine.{MachineKeeps}
pub use Rattle.hb_steps.specs.KeptMerges.{AtParent, NamesKnown, PairHeld, merging_at, at_parent}
pub use Rattle.hb_steps.specs.Locking.{LocksOut}
pub use Rattle.hb_steps.specs.Machines.{Machine, live_here, with_disk, Files, current_file, modes}
pub use Rattle.hb_steps.specs.Performing.{latches_held, mode_among, Performs}
pub use Rattle.hb_steps.specs.SteppingLaws.{IsAtRest}
pub use Rattle.hb_steps.specs.Steps.{StepsTo}
pub use Rattle.hb_steps.specs.WaitingLaws.{Promotes, ComesLater, WantsItsOwn, HasWorkLeft, IsKeptWaiting}
pub use Rattle.hb_steps.specs.declared.outcomes.Outcome.{Outcome}
pub use Rattle.hb_store.specs.States.{StoreState, IsGoodPage}
pub use Rattle.std.proofs.Common.{◌≡◌, ◌≢◌, inr, ℕ, ◌≤◌, ◌∷◌, [], Option, Some, None, IfSome, IsSome, refl, sym, ap, ◌∙◌, subst, arith, ◌⊎◌, inl, ◌-◌, ◌<◌, Bool, cond, List, IsTrue, ◌==◌, true, false, IsSomeAnd, suc, not, ◌&&◌, zero}
pub use Rattle.std.proofs.lemmas.Bool.{eqb-true, cases_Bool, eq-eqb, eqb-false}
pub use Rattle.std.proofs.lemmas.List.Elements.{All-contains, All-head, All-tail, All-cons}
pub use Rattle.std.proofs.lemmas.Option.{same_Some, none-some}
pub use Rattle.std.specs.List.{Contains}
pub use Rattle.std.specs.Option.{option_and_then}
