use Rattle.hb_steps.proofs.cause_laws.only_searches_and_splits_take_memory.Goals as goal
use Rattle.hb_steps.proofs.Table.MemoryTaken.{only_searches_and_splits_take_memory}

pub returns : goal.returns
returns c = only_searches_and_splits_take_memory
