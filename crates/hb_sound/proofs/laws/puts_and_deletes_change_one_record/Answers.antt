use Rattle.hb_sound.proofs.Partition.{dels_take_one, puts_add_one}
use Rattle.hb_sound.proofs.laws.puts_and_deletes_change_one_record.Goals as goal

pub returns-clause-put : goal.returns-clause-put
returns-clause-put c = puts_add_one c.trees_and_space.ensures.trees c.trees_and_space.ensures.space c.put_adds_one_record.ensures

pub returns-clause-del : goal.returns-clause-del
returns-clause-del c = dels_take_one c.trees_and_space.ensures.trees c.trees_and_space.ensures.space c.delete_takes_one_record.ensures
