use Rattle.hb_steps.proofs.laws.each_point_has_one_page.Goals as goal
use Rattle.hb_steps.proofs.Walks.OnePlace.{one_page}

pub returns : goal.returns
returns c = one_page c.a_walk_ends_at_the_responsible_page.ensures.root c.a_level_parts_the_space.ensures.alone
