use Rattle.std.proofs.Common.{◌≡◌, ◌≤◌, ◌++◌, length, take}
use Rattle.std.specs.FinSet as set
use Rattle.std.specs.List.{flat_map}
use Rattle.hb_log_codec.specs.Groups.{page_image_bytes}
use Rattle.hb_store.specs.Filling.{in_frame}
use Rattle.hb_store.specs.Making.{page_images_needed}
use Rattle.hb_store.proofs.group_writing.append_page_images.Given as goal

-- the page images of the numbers so far were added and counted
abbrev pub invariant-loop-id : goal.invariant-loop-id
invariant-loop-id l = record {
  few : l.count ≤ l.id-index;
  count : l.count ≡ length (page_images_needed (in_frame l.pool) (set.contains l.in_log) (take l.id-index l.ids));
  bytes : l.into.items ≡ l.fn.into.items ++ flat_map page_image_bytes (page_images_needed (in_frame l.pool) (set.contains l.in_log) (take l.id-index l.ids));
}
