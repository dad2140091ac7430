use Rattle.hb_sound.proofs.LatePosting.{late_is_posted, late_may_be_posted}
use Rattle.hb_sound.proofs.examples.a_late_posting_comes.Goals as goal

pub returns-clause-may : goal.returns-clause-may
returns-clause-may c = late_may_be_posted

pub returns-clause-posted : goal.returns-clause-posted
returns-clause-posted c = late_is_posted
