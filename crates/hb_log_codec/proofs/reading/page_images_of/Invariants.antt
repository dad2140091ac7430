use Rattle.hb_log_codec.specs.Reading.{Begins, FitPageImages, page_images_bytes}
use Rattle.hb_log_codec.proofs.reading.page_images_of.Given as goal

-- the page images so far stand in front of the rest
abbrev pub invariant-loop : goal.invariant-loop
invariant-loop l = Begins (FitPageImages l.counter) page_images_bytes l.bytes l.images.items l.rest
