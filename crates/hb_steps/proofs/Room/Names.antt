-- What the files of this folder share.
pub use Rattle.hb_activity.specs.Deeds.{Deed, does}
pub use Rattle.hb_activity.specs.declared.activities.Activity.{Activity}
pub use Rattle.hb_frag.specs.Leaves.{DirectlyHolds, weight_of}
pub use Rattle.hb_frag.specs.Trees.{Tree, Tip}
pub use Rattle.hb_frag.specs.declared.leaves.Leaf.TheVariants.{Sibling}
pub use Rattle.hb_frag.specs.declared.pages.LivePage.{LivePage}
pub use Rattle.hb_layout.specs.declared.limits.TheConstants.{DCAP_MIN}
pub use Rattle.hb_layout.specs.declared.meta.Meta.{Meta}
pub use Rattle.hb_ops.specs.Cutting.{cut_through, reached, going, half_area, staying}
pub use Rattle.hb_ops.specs.Extracting.{FitsPart, fresh_page, source_page}
pub use Rattle.hb_ops.specs.Recording.{put_page}
pub use Rattle.hb_ops.specs.Sound.{FitsFile}
pub use Rattle.hb_ops.specs.Standing.{StandsNot}
pub use Rattle.hb_ops.specs.declared.leaf_cuts.LeafCut.{LeafCut}
pub use Rattle.hb_ops.specs.declared.operations.Op.{Op}
pub use Rattle.hb_set.specs.declared.commands.Command.TheVariants.{Insert}
pub use Rattle.hb_set.specs.declared.scripts.Line.{Line}
pub use Rattle.hb_space.specs.Boxes.{Area, IsArea}
pub use Rattle.hb_space.specs.declared.records.Record.{Record}
pub use Rattle.hb_steps.proofs.Memory.BroughtPages.{both_there}
pub use Rattle.hb_steps.proofs.Table.NextPlaces.{TakesFull, now}
pub use Rattle.hb_steps.specs.Fetching.{Brings, MustStay}
pub use Rattle.hb_steps.specs.Keeps.{HasRoomFor, OneHasRoom, HoldsPagesOfFile, LacksRoomFor}
pub use Rattle.hb_steps.specs.KeptLines.{MetaWithinLimits}
pub use Rattle.hb_steps.specs.Machines.{Machine, live_here, sight}
pub use Rattle.hb_steps.specs.Performing.{MayDo}
pub use Rattle.hb_store.specs.Calls.{read_here}
pub use Rattle.hb_store.specs.States.{StoreState}
pub use Rattle.std.proofs.Common.{◌≡◌, ◌⊎◌, inl, inr, ℕ, Some, sym, ap, ◌∙◌, subst, refl, ◌≢◌, ◌==◌, ◌<◌, ◌≤◌, List, [], ◌∷◌, length, Option, None, ◌*◌, ◌+◌, arith}
pub use Rattle.std.proofs.lemmas.Option.{same_Some}
