use Rattle.hb_steps.proofs.machine_laws.machines_stay_kept.Goals as goal
use Rattle.hb_steps.proofs.Machines.EachKept.{machine_stays_kept, machines_stay_kept}

pub returns-clause-step : goal.returns-clause-step
returns-clause-step c =
    machine_stays_kept (record {
      pages = c.pages_stay_pages_of_the_file.ensures.pages;
      within = c.pages_stay_pages_of_the_file.ensures.within;
      latches = c.latches_stay_fit.ensures;
      room = c.room_stays_known.ensures;
    })

pub returns-clause-steps : goal.returns-clause-steps
returns-clause-steps c = machines_stay_kept (returns-clause-step c)
