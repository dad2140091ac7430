use Rattle.hb_sound.proofs.OneWalk.{walks_are_one}
use Rattle.hb_sound.proofs.Partition.{each_page_has_walks, root_has_walks}
use Rattle.hb_sound.proofs.laws.a_walk_ends_at_the_responsible_page.Goals as goal

pub returns-clause-root : goal.returns-clause-root
returns-clause-root c = root_has_walks c.trees_and_space.ensures.trees c.trees_and_space.ensures.space

pub returns-clause-pages : goal.returns-clause-pages
returns-clause-pages c = each_page_has_walks c.trees_and_space.ensures.trees c.trees_and_space.ensures.space

pub returns-clause-alone : goal.returns-clause-alone
returns-clause-alone c = walks_are_one
