use Rattle.hb_steps.proofs.file_laws.contents_follow_the_order.Goals as goal
use Rattle.hb_steps.proofs.Orders.StepContents.{contents_follow_order, points_stay}

pub returns-clause-contents : goal.returns-clause-contents
returns-clause-contents c =
    contents_follow_order
    c.what_is_made_can_be_written.ensures.operations
    c.held_is_a_point.ensures
    c.operations_keep_a_file_sound.ensures.contents
    c.what_stands_is_what_the_contents_have.ensures.there
    c.what_stands_is_what_the_contents_have.ensures.absent

pub returns-clause-points : goal.returns-clause-points
returns-clause-points c = points_stay (returns-clause-contents c)
