use Rattle.hb_log_codec.proofs.GroupLaws.{same_group, same_groups}
use Rattle.hb_log_codec.proofs.laws.groups_are_read_in_one_way.Goals as goal

pub returns-clause-group : goal.returns-clause-group
returns-clause-group c = same_group c.fields_are_exact.ensures c.spelling_law.ensures.one_page

pub returns-clause-list : goal.returns-clause-list
returns-clause-list c = same_groups c.fields_are_exact.ensures c.spelling_law.ensures.one_page
