use Rattle.hb_search.proofs.Facts.OneSearch.{searches_have_one_deed, searches_change_nothing}
use Rattle.hb_search.proofs.laws.a_search_has_one_deed.Goals as goal

pub returns-clause-one : goal.returns-clause-one
returns-clause-one c = searches_have_one_deed

pub returns-clause-nothing : goal.returns-clause-nothing
returns-clause-nothing c = searches_change_nothing
