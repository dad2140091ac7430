use Rattle.hb_set.proofs.Facts.TextOrderLaws.{ran_grown, ran_replies, ran_legal, ran_each}
use Rattle.hb_set.proofs.laws.runs_are_legal_orders.Goals as goal

pub returns-clause-grown : goal.returns-clause-grown
returns-clause-grown c = ran_grown

pub returns-clause-replies : goal.returns-clause-replies
returns-clause-replies c = ran_replies

pub returns-clause-legal : goal.returns-clause-legal
returns-clause-legal c = ran_legal

pub returns-clause-each : goal.returns-clause-each
returns-clause-each c = ran_each
