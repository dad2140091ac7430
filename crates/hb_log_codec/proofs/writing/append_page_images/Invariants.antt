use Rattle.std.proofs.Common.{◌≡◌, ◌++◌, take}
use Rattle.std.specs.List.{flat_map}
use Rattle.hb_log_codec.specs.Groups.{page_image_bytes}
use Rattle.hb_log_codec.proofs.writing.append_page_images.Given as goal

-- the page images so far were added
abbrev pub invariant-loop-id : goal.invariant-loop-id
invariant-loop-id l = l.into.items ≡ l.fn.into.items ++ flat_map page_image_bytes (take l.id-index l.images)
