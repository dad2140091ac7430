use Rattle.hb_store.proofs.PageBits.{zeros_empty}
use Rattle.hb_store.proofs.page_sets.PageSet.new.Goals as goal

pub returns : goal.returns
returns c = zeros_empty c.in_ok-vec.field-0.items 1025 (c.in_ok-vec.ensures.items_if_clones_equal (λ y is. is))
