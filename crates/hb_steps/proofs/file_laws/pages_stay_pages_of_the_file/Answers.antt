use Rattle.hb_steps.proofs.file_laws.pages_stay_pages_of_the_file.Goals as goal
use Rattle.hb_steps.proofs.Memory.KeptPages.{meta_stays_within_limits, pages_stay_of_file}

pub returns-clause-pages : goal.returns-clause-pages
returns-clause-pages c =
    pages_stay_of_file
    c.what_is_made_can_be_written.ensures.operations
    c.held_is_a_point.ensures

pub returns-clause-within : goal.returns-clause-within
returns-clause-within c =
    meta_stays_within_limits
    c.what_is_made_can_be_written.ensures.operations
    c.held_is_a_point.ensures
