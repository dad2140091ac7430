-- What the files of this folder share.
pub use Rattle.hb_activity.specs.Classes.{line_in_hand, line_of}
pub use Rattle.hb_activity.specs.Deeds.{Deed}
pub use Rattle.hb_activity.specs.Walks.{goal_of}
pub use Rattle.hb_activity.specs.declared.activities.Activity.{Activity}
pub use Rattle.hb_activity.specs.declared.wanting.Wanted.{Wanted}
pub use Rattle.hb_frag.specs.declared.pages.LivePage.{LivePage}
pub use Rattle.hb_frag.specs.declared.pages.Page.TheVariants.{Live}
pub use Rattle.hb_layout.specs.declared.meta.Meta.{Meta}
pub use Rattle.hb_lemmas.proofs.Lists.{All-last, each_member, filter_keeps, later_member, no_member}
pub use Rattle.hb_ops.specs.Files.{contents_of}
pub use Rattle.hb_point.specs.SessionRows.{WantsBoxes, boxes_ahead, taking}
pub use Rattle.hb_search.specs.SearchRows.{SearchGoesOn, Gathers}
pub use Rattle.hb_search.specs.Searching.{IsGathering}
pub use Rattle.hb_set.specs.Machine.{RecordSet}
pub use Rattle.hb_set.specs.Order.{Entry}
pub use Rattle.hb_set.specs.declared.commands.Command.{Command}
pub use Rattle.hb_set.specs.declared.commands.Command.TheVariants.{Insert, Delete, Lookup, Search}
pub use Rattle.hb_set.specs.declared.scripts.Line.{Line}
pub use Rattle.hb_sound.specs.Laws.{LackIsContents, StandingIsContents}
pub use Rattle.hb_space.proofs.Facts.Boxes.{Holds-from_test, Meets-from_point, test-from_Holds, lo_held}
pub use Rattle.hb_space.specs.Boxes.{Area, Holds, IsArea, Within, common_area, holds, pieces_outside}
pub use Rattle.hb_space.specs.declared.records.Record.{Record}
pub use Rattle.hb_steps.proofs.Facts.EachRow.{each_row}
pub use Rattle.hb_steps.proofs.Facts.Ways.{KeepsAllButDisk}
pub use Rattle.hb_steps.proofs.Files.FitOps.{HeldArePoints, live_good}
pub use Rattle.hb_steps.proofs.Machines.BoxesAhead.{goal_at_hand, leaf_box}
pub use Rattle.hb_steps.proofs.Orders.LinesFit.{took_job, took_merging}
pub use Rattle.hb_steps.proofs.Table.DeedKinds.{each_deed}
pub use Rattle.hb_steps.proofs.Table.MergerMoves.{StaysMerger}
pub use Rattle.hb_steps.specs.Acting.{DoesRow}
pub use Rattle.hb_steps.specs.Asking.{wanted_by}
pub use Rattle.hb_steps.specs.KeptFits.{IsBoxOf, boxes_left}
pub use Rattle.hb_steps.specs.KeptMachine.{MachineKeeps}
pub use Rattle.hb_steps.specs.KeptSearches.{HasFoundSoFar, IsAmong}
pub use Rattle.hb_steps.specs.Machines.{Machine, live_here, sight, with_disk}
pub use Rattle.hb_steps.specs.Performing.{Performs}
pub use Rattle.hb_steps.specs.Rows.{Row}
pub use Rattle.hb_steps.specs.Steps.{StepsTo}
pub use Rattle.hb_steps.specs.declared.outcomes.Outcome.{Outcome}
pub use Rattle.hb_store.specs.States.{IsGoodPage, StoreState}
pub use Rattle.std.proofs.Common.{◌≡◌, ◌↔◌, ◌⊎◌, inl, inr, ℕ, List, [], ◌∷◌, ◌++◌, length, All, AllPairs, Any, Contains, sym, ◌∙◌, subst, filter, Option, Some, None, refl, ap, arith, ◌≢◌, true, false}
pub use Rattle.std.proofs.lemmas.Bool.{cases_Bool, false≢true}
pub use Rattle.std.proofs.lemmas.List.Elements.{All-contains, All-nil, All-cons}
pub use Rattle.std.proofs.lemmas.Option.{same_Some, none-some}
