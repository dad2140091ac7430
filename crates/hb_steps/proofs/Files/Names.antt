-- What the files of this folder share.
pub use Rattle.hb_activity.specs.Deeds.{Deed}
pub use Rattle.hb_activity.specs.Wanting.{in_mode, named_child, wanted_page, wanted_of}
pub use Rattle.hb_activity.specs.declared.activities.Activity.{Activity}
pub use Rattle.hb_activity.specs.declared.jobs.Job.{Job}
pub use Rattle.hb_activity.specs.declared.wanting.Wanted.{Wanted}
pub use Rattle.hb_consol.specs.ConsolidatorRows.{names_child}
pub use Rattle.hb_frag.proofs.Facts.Tiles.{found_where_held}
pub use Rattle.hb_frag.specs.Leaves.{leaves, Placed, first_named, leaf_at, leaves_of, siblings_of}
pub use Rattle.hb_frag.specs.declared.leaves.Leaf.{Leaf}
pub use Rattle.hb_frag.specs.declared.leaves.Leaf.TheVariants.{Child, Records, Sibling}
pub use Rattle.hb_frag.specs.declared.pages.LivePage.{LivePage}
pub use Rattle.hb_frag.specs.declared.pages.Page.{Page}
pub use Rattle.hb_frag.specs.declared.pages.Page.TheVariants.{Free, Live}
pub use Rattle.hb_frag.specs.declared.paths.Side.{Side}
pub use Rattle.hb_latch.specs.declared.modes.Mode.TheVariants.{Exclusive, Shared}
pub use Rattle.hb_layout.specs.declared.meta.Meta.{Meta}
pub use Rattle.hb_lemmas.proofs.Booleans.{at_itself}
pub use Rattle.hb_log_codec.proofs.Facts.OpParts.{op_has}
pub use Rattle.hb_log_codec.specs.Groups.{FitsOp}
pub use Rattle.hb_ops.proofs.Facts.NamedChildren.{named_leaf}
pub use Rattle.hb_ops.proofs.Facts.PageNumberLaws.{live_so}
pub use Rattle.hb_ops.specs.Files.{if_live, FileState, page_of}
pub use Rattle.hb_ops.specs.Operations.{IsAllowedOn, effect_of, BoxesMatch}
pub use Rattle.hb_ops.specs.Sound.{IsSound}
pub use Rattle.hb_ops.specs.declared.operations.Op.{Op}
pub use Rattle.hb_space.specs.Actors.{IsActor}
pub use Rattle.hb_space.specs.Boxes.{Area, Holds}
pub use Rattle.hb_space.specs.declared.records.Record.{Record}
pub use Rattle.hb_steps.proofs.Facts.EachRow.{each_op, each_row}
pub use Rattle.hb_steps.proofs.Memory.BroughtPages.{both_there, must_hold}
pub use Rattle.hb_steps.proofs.Memory.NextNumbers.{is_next_number}
pub use Rattle.hb_steps.proofs.Table.MergerMoves.{MergesPair}
pub use Rattle.hb_steps.specs.AllowedLaws.{AnyPage, NamesItsPages, RowsAreAllowed, IsPlanned, IsLicensedHere}
pub use Rattle.hb_steps.specs.AskedBoxes.{HasAskedBox}
pub use Rattle.hb_steps.specs.Asking.{wanted_by, box_of_sibling, this_box, looked_live}
pub use Rattle.hb_steps.specs.Fetching.{Brings, MustStay}
pub use Rattle.hb_steps.specs.Keeps.{LatchesFit, WalksInSpace}
pub use Rattle.hb_steps.specs.Machines.{Machine, with_disk, sight, live_here}
pub use Rattle.hb_steps.specs.Rows.{Row, IsAtHand}
pub use Rattle.hb_store.specs.Calls.{IsAllowedHere, read_here}
pub use Rattle.hb_store.specs.Fetching.{IsNext}
pub use Rattle.hb_store.specs.Making.{PartsFitOnGoodPages}
pub use Rattle.hb_store.specs.States.{StoreState, in_memory}
pub use Rattle.hb_terms.proofs.Facts.Owing.{planned_may_be}
pub use Rattle.std.proofs.Common.{◌≡◌, inl, inr, ℕ, ◌<◌, ◌≤◌, cond, List, Option, Some, refl, sym, ap, ◌∙◌, subst, arith, IfSome, ◌⊎◌, ◌==◌, None, ◌-◌, IsTrue, [], ◌∷◌, ◌≢◌, length, All, IsSome, ◌+◌}
pub use Rattle.std.proofs.lemmas.Bool.{eqb-true}
pub use Rattle.std.proofs.lemmas.Option.{same_Some}
pub use Rattle.std.specs.List.{Contains}
pub use Rattle.std.specs.Option.{option_and_then}
