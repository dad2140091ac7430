-- What the files of this folder share.
pub use Rattle.hb_activity.specs.BoxLocks.{lock_of}
pub use Rattle.hb_activity.specs.Classes.{job_in_work, line_in_hand, Hand, hand_of, line_of, Class, Sessions, Posters, Consolidators, Flushers, class_of}
pub use Rattle.hb_activity.specs.Deeds.{Deed}
pub use Rattle.hb_activity.specs.Queue.{LeavesBy}
pub use Rattle.hb_activity.specs.Walks.{goal_of, walk_held}
pub use Rattle.hb_activity.specs.declared.activities.Activity.{Activity}
pub use Rattle.hb_activity.specs.declared.holding.Latch.{Latch}
pub use Rattle.hb_activity.specs.declared.jobs.Job.{Job}
pub use Rattle.hb_activity.specs.declared.wanting.Wanted.{Wanted}
pub use Rattle.hb_boxlock.specs.declared.locks.BoxLock.{BoxLock}
pub use Rattle.hb_consol.specs.ConsolidatorRows.{IsMergingOf}
pub use Rattle.hb_frag.proofs.Facts.Sides.{same-side_from}
pub use Rattle.hb_frag.specs.declared.pages.LivePage.{LivePage}
pub use Rattle.hb_frag.specs.declared.pages.Page.TheVariants.{Live}
pub use Rattle.hb_latch.specs.Tables.{HeldModes}
pub use Rattle.hb_latch.specs.declared.modes.Mode.{Mode}
pub use Rattle.hb_layout.specs.declared.meta.Meta.{Meta}
pub use Rattle.hb_lemmas.proofs.Booleans.{if_same}
pub use Rattle.hb_lemmas.proofs.Lists.{All-front, not_empty}
pub use Rattle.hb_lemmas.proofs.Options.{has_value}
pub use Rattle.hb_ops.specs.Files.{contents_of}
pub use Rattle.hb_ops.specs.declared.operations.Op.{Op}
pub use Rattle.hb_point.specs.SessionRows.{WantsBoxes, taking, next_line}
pub use Rattle.hb_pool.proofs.Facts.Firsts.{first_passes}
pub use Rattle.hb_pool.specs.Frames.{Use, clean, has_id, fresh, filled, pinned, unpinned}
pub use Rattle.hb_pool.specs.Pools.{frame_of, in_place, brought, put_last}
pub use Rattle.hb_poster.specs.PosterRows.{IsPostingOf}
pub use Rattle.hb_set.specs.Order.{Entry}
pub use Rattle.hb_set.specs.declared.commands.Command.{Command}
pub use Rattle.hb_set.specs.declared.commands.Command.TheVariants.{Insert, Delete, Lookup, Search}
pub use Rattle.hb_set.specs.declared.scripts.Answered.{Answered}
pub use Rattle.hb_set.specs.declared.scripts.Line.{Line}
pub use Rattle.hb_space.specs.Actors.{IsActor}
pub use Rattle.hb_space.specs.Boxes.{Area, side_below, side_from, Holds, IsArea, common_area, pieces_outside}
pub use Rattle.hb_steps.proofs.Facts.EachRow.{each_row}
pub use Rattle.hb_steps.proofs.Facts.StepKinds.{FlushesMore, ready_kind, each_kind}
pub use Rattle.hb_steps.proofs.Facts.Ways.{KeepsAllButDisk}
pub use Rattle.hb_steps.proofs.Orders.LinesFit.{line_taken}
pub use Rattle.hb_steps.proofs.Table.DeedKinds.{EndsHand, each_again, each_deed}
pub use Rattle.hb_steps.proofs.Table.NextHands.{KeepsHand, hand_after}
pub use Rattle.hb_steps.specs.Acting.{DoesRow}
pub use Rattle.hb_steps.specs.Forcing.{FailsToWrite, ForcesAll, StaysSo}
pub use Rattle.hb_steps.specs.Keeps.{KnowsRoom, LatchesFit}
pub use Rattle.hb_steps.specs.KeptFits.{CommandFits, IsBoxOf, JobFits, LineFits, boxes_left, AttributesFit, class_for}
pub use Rattle.hb_steps.specs.KeptMachine.{MachineKeeps}
pub use Rattle.hb_steps.specs.KeptMerges.{NamesKnown, merging_at}
pub use Rattle.hb_steps.specs.MachineLaws.{MachineStaysKept}
pub use Rattle.hb_steps.specs.Machines.{Machine, sight, live_here, with_disk, modes}
pub use Rattle.hb_steps.specs.Performing.{Performs, latches_held, mode_among, MayDo}
pub use Rattle.hb_steps.specs.Rows.{Row}
pub use Rattle.hb_steps.specs.SteppingLaws.{BeginningKeepsAll, IsBegun}
pub use Rattle.hb_steps.specs.Steps.{StepsTo, TakesJob, TakesMerging, Works, StepsAs}
pub use Rattle.hb_steps.specs.Using.{holders, page_wanted, pages_of, use_done, use_held, actors, pins_of}
pub use Rattle.hb_steps.specs.declared.outcomes.Outcome.{Outcome}
pub use Rattle.hb_store.specs.Held.{oldest_dirty}
pub use Rattle.hb_store.specs.States.{IsGoodPage, StoreState, in_memory}
pub use Rattle.hb_store.specs.declared.stops.StopWhy.{StopWhy}
pub use Rattle.hb_wal.specs.Log.{LogState}
pub use Rattle.std.proofs.Common.{◌≡◌, inl, inr, ℕ, ◌+◌, ◌-◌, ◌*◌, Bool, true, false, cond, List, [], ◌∷◌, length, All, Option, Some, None, IfSome, refl, sym, ap, ◌∙◌, subst, arith, ◌≢◌, ◌⊎◌, ◌≤◌, ◌==◌, IsTrue, ◌++◌, not, suc, zero, nat_lt, ◌||◌}
pub use Rattle.std.proofs.lemmas.Bool.{cases_Bool, eqb-true, eq-eqb, eqb-false}
pub use Rattle.std.proofs.lemmas.List.Elements.{All-append, All-cons, All-head, All-nil, All-tail}
pub use Rattle.std.proofs.lemmas.List.Sums.{sum_by-cons}
pub use Rattle.std.proofs.lemmas.Option.{same_Some, none-some}
pub use Rattle.std.specs.List.{find, count_by, sum_by}
pub use Rattle.std.specs.Option.{option_map, option_map_or}
pub use Rattle.std.specs.Prelude.{slice_get, MatchOption}
