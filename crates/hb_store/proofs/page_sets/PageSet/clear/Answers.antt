use Rattle.hb_store.proofs.PageBits.{zeros_empty}
use Rattle.hb_store.proofs.page_sets.PageSet.clear.Goals as goal

pub returns : goal.returns
returns c = zeros_empty c.fill.new.self.items c.self.inside.words.len (c.fill.ensures.items (λ y is. is))
