use Rattle.hb_steps.proofs.cause_laws.lines_are_refused_by_cause.Goals as goal
use Rattle.hb_steps.proofs.Table.Causes.{full_by_cause, no_memory_by_cause, read_fault_by_cause}

pub returns-clause-fault : goal.returns-clause-fault
returns-clause-fault c = read_fault_by_cause

pub returns-clause-memory : goal.returns-clause-memory
returns-clause-memory c = no_memory_by_cause

pub returns-clause-full : goal.returns-clause-full
returns-clause-full c = full_by_cause
