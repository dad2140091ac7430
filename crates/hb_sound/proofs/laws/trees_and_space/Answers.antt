use Rattle.hb_sound.proofs.laws.trees_and_space.Goals as goal

pub returns-clause-trees : goal.returns-clause-trees
returns-clause-trees c = record {
  areas = c.leaves_part_the_box.ensures.areas;
  attributes = c.leaves_part_the_box.ensures.attributes;
  within = c.leaves_part_the_box.ensures.within;
  some = c.each_point_has_one_leaf.ensures.some;
  only = c.each_point_has_one_leaf.ensures.only;
}

pub returns-clause-space : goal.returns-clause-space
returns-clause-space c = record { area = c.whole_space_holds_every_point.ensures.area; points = c.whole_space_holds_every_point.ensures.points }
