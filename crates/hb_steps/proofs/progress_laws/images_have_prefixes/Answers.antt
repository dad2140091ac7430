use Rattle.hb_steps.proofs.progress_laws.images_have_prefixes.Goals as goal
use Rattle.hb_steps.proofs.Orders.ImagePrefixes.{images_have_prefixes}
use Rattle.hb_steps.proofs.Walks.OnePlace.{one_page}

pub returns : goal.returns
returns c = images_have_prefixes (one_page c.a_walk_ends_at_the_responsible_page.ensures.root c.a_level_parts_the_space.ensures.alone)
