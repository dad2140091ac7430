use Rattle.hb_steps.proofs.keeping_laws.steps_keep_all.Goals as goal
use Rattle.hb_steps.proofs.Machines.KeptInSequence.{begun_keeps_all, steps_keep_all}

pub returns-clause-steps : goal.returns-clause-steps
returns-clause-steps c =
    steps_keep_all (record {
      kept = c.machines_stay_kept.ensures.step;
      files = c.files_stay_sound.ensures;
      searches = c.searches_are_exact.ensures.exact;
      order = c.the_order_stays_legal.ensures;
    })

pub returns-clause-begun : goal.returns-clause-begun
returns-clause-begun c =
    begun_keeps_all
    (record {
      kept = c.machines_stay_kept.ensures.step;
      files = c.files_stay_sound.ensures;
      searches = c.searches_are_exact.ensures.exact;
      order = c.the_order_stays_legal.ensures;
    })
    c.a_beginning_keeps_all.ensures
