use Rattle.hb_page_codec.proofs.Facts.Weights.{filled_page_short, free_page_short}
use Rattle.hb_page_codec.proofs.laws.page_within_capacity_has_spelling.Goals as goal

pub returns-clause-live : goal.returns-clause-live
returns-clause-live c = filled_page_short

pub returns-clause-free : goal.returns-clause-free
returns-clause-free c = free_page_short
