use Rattle.hb_page_limits.proofs.indexes.chosen.Goals as goal

pub choose-requires-clause-in_order : goal.choose-requires-clause-in_order
choose-requires-clause-in_order c = (c.in-None.ensures.none.0 (search)).in_order
