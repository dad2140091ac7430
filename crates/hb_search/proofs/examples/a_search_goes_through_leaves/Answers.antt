use Rattle.hb_search.proofs.SearchExamples.{searches_by_hand}
use Rattle.hb_search.proofs.examples.a_search_goes_through_leaves.Goals as goal

pub returns : goal.returns
returns c = searches_by_hand
