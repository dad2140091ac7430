use Rattle.hb_page_codec.proofs.ExactFields.{pages_exact}
use Rattle.hb_page_codec.proofs.laws.fields_are_read_exactly.Goals as goal

pub returns-clause-page : goal.returns-clause-page
returns-clause-page c = pages_exact
