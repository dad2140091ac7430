use Rattle.hb_page_codec.proofs.Facts.PageLaws.{has_spelling, one_spelling, one_page}
use Rattle.hb_page_codec.proofs.Facts.Weights.{is_light}
use Rattle.hb_page_codec.proofs.laws.spelling_law.Goals as goal

pub returns-clause-exists : goal.returns-clause-exists
returns-clause-exists c = has_spelling

pub returns-clause-one_spelling : goal.returns-clause-one_spelling
returns-clause-one_spelling c = one_spelling

pub returns-clause-one_page : goal.returns-clause-one_page
returns-clause-one_page c = one_page

pub returns-clause-light : goal.returns-clause-light
returns-clause-light c = is_light
