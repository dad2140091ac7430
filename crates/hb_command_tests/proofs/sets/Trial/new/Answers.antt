use Rattle.hb_command_tests.proofs.sets.Trial.new.Goals as goal

pub invariant_of-result : goal.invariant_of-result
invariant_of-result c = record { alike = c.in_ok-new.ensures.attributes c.args.attributes }
