use Rattle.hb_steps.proofs.outcome_laws.no_page_is_damaged.Goals as goal
use Rattle.hb_steps.proofs.Facts.NoDamage.{no_page_is_damaged, stays_undamaged}

pub returns-clause-pages : goal.returns-clause-pages
returns-clause-pages c = no_page_is_damaged

pub returns-clause-stops : goal.returns-clause-stops
returns-clause-stops c = stays_undamaged
