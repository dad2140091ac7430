use Rattle.hb_set.proofs.Facts.TextOrderLaws.{sessions_of_text, entries_of-push}
use Rattle.hb_set.proofs.laws.text_order_keeps_sessions.Goals as goal

pub returns-clause-sessions : goal.returns-clause-sessions
returns-clause-sessions c = sessions_of_text

pub returns-clause-grown : goal.returns-clause-grown
returns-clause-grown c = entries_of-push
