-- What the files of this folder share.
pub use Rattle.hb_activity.specs.BoxLocks.{lock_of_command}
pub use Rattle.hb_activity.specs.Classes.{Posters, Sessions, class_of, Class, Consolidators, Flushers, idle_of, Hand, Empty, HasLine, HasJob, hand_of, line_in_hand}
pub use Rattle.hb_activity.specs.Deciding.{FitsFree, deed_of, joined_by, given_sight, given_pages}
pub use Rattle.hb_activity.specs.Deeds.{Deed, answers_now, takes_job}
pub use Rattle.hb_activity.specs.Passing.{LeadsBelow, PassesOn}
pub use Rattle.hb_activity.specs.Queue.{AddsJobs}
pub use Rattle.hb_activity.specs.Sights.{Sight}
pub use Rattle.hb_activity.specs.Walks.{goal_of, job_mode, session_mode, walk_held, walk_point}
pub use Rattle.hb_activity.specs.Wanting.{child_of, in_mode, named_child, walk_next, wanted_of, wanted_page, HasLeafAt, may_commit}
pub use Rattle.hb_activity.specs.declared.activities.Activity.{Activity}
pub use Rattle.hb_activity.specs.declared.deciding.Fate.{Fate}
pub use Rattle.hb_activity.specs.declared.deciding.Next.{Next}
pub use Rattle.hb_activity.specs.declared.dropping.DropWhy.{DropWhy}
pub use Rattle.hb_activity.specs.declared.holding.Latch.{Latch}
pub use Rattle.hb_activity.specs.declared.jobs.Job.{Job}
pub use Rattle.hb_activity.specs.declared.jobs.JobKind.TheVariants.{Merge, Post}
pub use Rattle.hb_activity.specs.declared.wanting.Wanted.{Wanted}
pub use Rattle.hb_boxlock.specs.declared.locks.BoxLock.{BoxLock}
pub use Rattle.hb_consol.specs.ConsolidatorRows.{names_child, IsMergingOf}
pub use Rattle.hb_consol.specs.MergeRows.{ConsolidatorRow}
pub use Rattle.hb_core.specs.Counting.{CountsNoOp}
pub use Rattle.hb_core.specs.Counts.{counted_by}
pub use Rattle.hb_core.specs.Going.{IsWorking, MayWork}
pub use Rattle.hb_core.specs.Moving.{with_order_of_use, with_store, StandsAs, MayCommit, DoesDeed, with_standing, KeepsFilesBy, numbers_joined, StandsFree, joins_order, number_of, placed_at, with_stop, MayStand}
pub use Rattle.hb_core.specs.Pinning.{CanMovePins, CanUnpin}
pub use Rattle.hb_core.specs.Showing.{RunningCore, ShowsMachine, HasTurn, ShowsFiles, number_in_hand}
pub use Rattle.hb_core.specs.Stopping.{IsHaltOf}
pub use Rattle.hb_core.specs.Taking.{HaveBoxes, NoneAgainst, TakesNextLine, TakesNextMerging, TakesNextPosting, IsNextLine, RefusesLine, TakesLine}
pub use Rattle.hb_core.specs.Touching.{held_in, IsReadHalt, EndsByRead, Touches}
pub use Rattle.hb_core.specs.Working.{HasPages, with_memory, HasCome, Halts, IsHalt, MayStep, ShowsBut, HaltsPinned}
pub use Rattle.hb_core.specs.declared.halts.Halt.{Halt}
pub use Rattle.hb_core.specs.declared.halts.Halt.TheVariants.{Stops, GivesUp}
pub use Rattle.hb_disk.proofs.Facts.FaultLaws.{ReadsOnly-neither}
pub use Rattle.hb_disk.specs.Calls.{ReadsOnly}
pub use Rattle.hb_disk.specs.Model.{DiskModel}
pub use Rattle.hb_frag.specs.Leaves.{Placed, leaf_at, first_named, siblings_of}
pub use Rattle.hb_frag.specs.declared.leaves.Leaf.{Leaf}
pub use Rattle.hb_frag.specs.declared.leaves.Leaf.TheVariants.{Records, Child, Sibling}
pub use Rattle.hb_frag.specs.declared.pages.LivePage.{LivePage}
pub use Rattle.hb_frag.specs.declared.pages.Page.{Page}
pub use Rattle.hb_frag.specs.declared.pages.Page.TheVariants.{Live, Free}
pub use Rattle.hb_latch.specs.Tables.{HeldModes, LatchTable, mode_at}
pub use Rattle.hb_latch.specs.declared.modes.Mode.{Mode}
pub use Rattle.hb_latch.specs.declared.modes.Mode.TheVariants.{Shared, Exclusive}
pub use Rattle.hb_layout.specs.declared.limits.TheConstants.{HEIGHT_MAX}
pub use Rattle.hb_layout.specs.declared.meta.Meta.{Meta}
pub use Rattle.hb_lemmas.proofs.Booleans.{at_other, at_itself, if_same}
pub use Rattle.hb_lemmas.proofs.Lists.{place_member, each_member, behind_front}
pub use Rattle.hb_lemmas.proofs.Options.{at_value, has_value, some_value, not_none, if_value, was_some, value_and}
pub use Rattle.hb_ops.proofs.Facts.PageNumberLaws.{live_so}
pub use Rattle.hb_ops.specs.Files.{if_live, FileState, page_of, last_of}
pub use Rattle.hb_ops.specs.Owing.{LacksRoom}
pub use Rattle.hb_ops.specs.Sound.{IsSound}
pub use Rattle.hb_ops.specs.declared.operations.Op.{Op}
pub use Rattle.hb_point.specs.SessionRows.{WantsBoxes, is_answered, PointRow, boxes_ahead, next_line}
pub use Rattle.hb_pool.specs.Frames.{Use, pinned, unpinned}
pub use Rattle.hb_pool.specs.Pools.{frame_of, in_place, places, put_last, IsPool}
pub use Rattle.hb_poster.specs.Asks.{MakesPage, MayBeAsked}
pub use Rattle.hb_poster.specs.PosterRows.{PosterRow, IsPostingOf, DoesPlan, GrowsFile, GrowsNot, MayGrow}
pub use Rattle.hb_search.specs.SearchRows.{Gathers}
pub use Rattle.hb_search.specs.Searching.{SearchRow}
pub use Rattle.hb_set.specs.Order.{Entry, AreRising}
pub use Rattle.hb_set.specs.declared.commands.Command.{Command}
pub use Rattle.hb_set.specs.declared.commands.Command.TheVariants.{Insert, Delete, Lookup, Search}
pub use Rattle.hb_set.specs.declared.commands.Reply.{Reply}
pub use Rattle.hb_set.specs.declared.scripts.Answered.{Answered}
pub use Rattle.hb_set.specs.declared.scripts.Line.{Line}
pub use Rattle.hb_space.proofs.Facts.Lists.{get-set_same, get-set_other}
pub use Rattle.hb_space.specs.Actors.{IsActor}
pub use Rattle.hb_space.specs.Boxes.{Area, Holds}
pub use Rattle.hb_space.specs.Points.{IsPoint}
pub use Rattle.hb_space.specs.declared.form.TheConstants.{GROUP, PENDING}
pub use Rattle.hb_space.specs.declared.records.Record.{Record}
pub use Rattle.hb_steps.proofs.Facts.EachRow.{each_op, each_row}
pub use Rattle.hb_steps.proofs.Facts.StillThere.{fetched_fits}
pub use Rattle.hb_steps.proofs.Files.SoundFiles.{files_hold}
pub use Rattle.hb_steps.proofs.Latches.MergerBacked.{every_row_backed}
pub use Rattle.hb_steps.proofs.Latches.SameLatches.{table_follows}
pub use Rattle.hb_steps.proofs.Machines.BoxesAhead.{corner_ahead, has_last}
pub use Rattle.hb_steps.proofs.Machines.HoldersMoved.{holders_moved}
pub use Rattle.hb_steps.proofs.Machines.LatchesApart.{latches_differ}
pub use Rattle.hb_steps.proofs.Machines.PinCounts.{one_if}
pub use Rattle.hb_steps.proofs.Machines.PinsFollow.{more_number, PinsMore, times, came_stays, pinned_more}
pub use Rattle.hb_steps.proofs.Memory.BroughtPages.{same_held, brings_none}
pub use Rattle.hb_steps.proofs.Table.LineFates.{LineFate, fate_row}
pub use Rattle.hb_steps.proofs.Walks.MayBeAsked.{children_may_be_asked}
pub use Rattle.hb_steps.specs.Acting.{NeedsNumber, LacksNeeded, MayNeed, Decodes, takes_number, DoesRow}
pub use Rattle.hb_steps.specs.AllowedLaws.{AnyPage}
pub use Rattle.hb_steps.specs.declared.asked_boxes.AskedBox.{AskedBox}
pub use Rattle.hb_steps.specs.Asking.{looked_live, wanted_by, asked_box, box_at, box_by_leaf, box_of_child, box_of_place, box_of_sibling, around_box, this_box, whole_box}
pub use Rattle.hb_steps.specs.AskingDeciders.{AsksPoint, AsksPoster, AsksSearcher, WalksToSearch, HasPointRow, HasPosterRow, HasSearchRow, sight_in}
pub use Rattle.hb_steps.specs.Fetching.{Brings, MustStay, IsWantedPage, IsFreeHead}
pub use Rattle.hb_steps.specs.Forcing.{FailsToWrite, FlushesOnce, ForcesAll, StaysSo}
pub use Rattle.hb_steps.specs.GivingUp.{gives_up, reply_for}
pub use Rattle.hb_steps.specs.Keeps.{LatchesFit, HasSoundFile}
pub use Rattle.hb_steps.specs.KeptFits.{LineFits, class_for}
pub use Rattle.hb_steps.specs.KeptMachine.{MachineKeeps}
pub use Rattle.hb_steps.specs.KeptMerges.{AtParent, IsMerging, NamesKnown, PairHeld, merging_at}
pub use Rattle.hb_steps.specs.KeptSequence.{HasAnswer, LinesInSequence, awaited_number}
pub use Rattle.hb_steps.specs.Looking.{number_of_row, other_page, MayLook, wanted_in}
pub use Rattle.hb_steps.specs.LookingToMerge.{AsksMerger, second_page, HasMergerRow}
pub use Rattle.hb_steps.specs.MachineLaws.{RowsMayBeDone}
pub use Rattle.hb_steps.specs.Machines.{Machine, live_here, next_of, with_disk, Files, current_file, modes, with_uses, sight, with_activity, stopped_for}
pub use Rattle.hb_steps.specs.Performing.{MayDo, Performs, outcome_of, Relatches, latches_held, mode_among}
pub use Rattle.hb_steps.specs.Rows.{IsAtHand, Row}
pub use Rattle.hb_steps.specs.Steps.{may_change_file, StepsAs, AwaitsPlace, IsUnready, Works}
pub use Rattle.hb_steps.specs.Using.{page_wanted, unpin_each, use_wanted, pages_of, use_done, use_held, pins_of, CameFor, use_number}
pub use Rattle.hb_steps.specs.declared.outcomes.Outcome.{Outcome}
pub use Rattle.hb_store.specs.Calls.{Fetched, KeepsAllButPages, StaysHere, use_fetched, HasFrameFor, HasPlaces, IsReady}
pub use Rattle.hb_store.specs.Fetching.{LooksUp, Breaks, FetchesNot, IsCrowdedOut, IsNoPage, MayFetch, use_numbered}
pub use Rattle.hb_store.specs.Forced.{forced_state, stopped_state, WritesGroups}
pub use Rattle.hb_store.specs.Held.{IsTied, StoreHeld, oldest_dirty}
pub use Rattle.hb_store.specs.Keeps.{StoreKeeps}
pub use Rattle.hb_store.specs.States.{StoreState, IsGoodPage, IsMemory, in_memory}
pub use Rattle.hb_store.specs.Switching.{SwitchesTurn}
pub use Rattle.hb_store.specs.WritingHome.{FlushesHome, WritesHome}
pub use Rattle.hb_store.specs.declared.stops.FetchStop.{FetchStop}
pub use Rattle.hb_store.specs.declared.stops.StopWhy.{StopWhy}
pub use Rattle.hb_store.specs.declared.stops.Why.{Why}
pub use Rattle.hb_store.specs.declared.stops.Why.TheVariants.{Rule, Level, Extent}
pub use Rattle.hb_terms.specs.declared.plans.PostPlan.{PostPlan}
pub use Rattle.hb_view.specs.Views.{IsLiveAnd}
pub use Rattle.hb_wal.specs.Log.{Waiting, pending_bytes, room_of}
pub use Rattle.std.proofs.Common.{◌≡◌, ◌≢◌, inl, inr, ℕ, ◌+◌, ◌-◌, ◌<◌, ◌≤◌, List, length, get_or, Option, Some, None, IfSome, refl, sym, ap, ◌∙◌, subst, arith, IsSome, ◌==◌, cond, Result, Ok, Err, IfOk, [], ◌∷◌, replicate, ◌⊎◌, false, IsTrue, ◌&&◌, Bool, true, ◌++◌, append-nil, zero, suc, filter, take, drop, slice_set, not, slice_index_or, ◌||◌, ◌↔◌}
pub use Rattle.std.proofs.lemmas.Bool.{cases_lt, false≢true, cases_Bool, eqb-true, eqb-false, eq-eqb}
pub use Rattle.std.proofs.lemmas.List.{length-map, map-append, length-set, take-append-drop, take_all, get_or-drop, get_or-take}
pub use Rattle.std.proofs.lemmas.List.Elements.{All-head, All-contains, All-weaker}
pub use Rattle.std.proofs.lemmas.Option.{get_or_from_slice_get, slice_get_within, slice_get-get_or, none-some, same_Some}
pub use Rattle.std.specs.Option.{option_and_then, option_map, option_map_or, option_to_list, is_some}
pub use Rattle.std.specs.Ordering.{nat_cmp}
