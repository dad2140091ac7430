use Rattle.hb_poster.proofs.AllowedPostings.{postings_are_allowed, postings_are_of_the_child}
use Rattle.hb_poster.proofs.laws.a_posting_is_allowed.Goals as goal

pub returns-clause-allowed : goal.returns-clause-allowed
returns-clause-allowed c = postings_are_allowed

pub returns-clause-of_child : goal.returns-clause-of_child
returns-clause-of_child c = postings_are_of_the_child
