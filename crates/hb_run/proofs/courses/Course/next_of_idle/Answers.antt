use Rattle.hb_run.proofs.courses.Course.next_of_idle.Goals as goal

pub returns-in-17 : goal.returns-in-17
returns-in-17 g c = rw c.in-17.is c.next_of_worker.ensures

pub returns-in-18 : goal.returns-in-18
returns-in-18 g c = rw c.in-18.is c.next_of_worker-in-18.ensures
