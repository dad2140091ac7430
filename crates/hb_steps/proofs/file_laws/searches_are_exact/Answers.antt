use Rattle.hb_steps.proofs.file_laws.searches_are_exact.Goals as goal
use Rattle.hb_steps.proofs.Searches.SearchKept.{searches_are_right, searches_stay_exact}

pub returns-clause-exact : goal.returns-clause-exact
returns-clause-exact c = searches_stay_exact c.held_is_a_point.ensures c.what_stands_is_what_the_contents_have.ensures.there c.what_stands_is_what_the_contents_have.ensures.absent c.contents_follow_the_order.ensures.points

pub returns-clause-replies : goal.returns-clause-replies
returns-clause-replies c = searches_are_right c.held_is_a_point.ensures c.what_stands_is_what_the_contents_have.ensures.there c.what_stands_is_what_the_contents_have.ensures.absent
