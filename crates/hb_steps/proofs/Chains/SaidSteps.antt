-- Steps with what each comes to are steps in sequence.
use Rattle.hb_steps.proofs.Chains.Names.{[], ◌∷◌}
use Rattle.hb_steps.specs.Scenes.{SayingIsStepping}

pub saying_is_stepping : SayingIsStepping
saying_is_stepping [] m new is = is
saying_is_stepping (step ∷ rest) m new (next, first, later) = (step.1, next, first, saying_is_stepping rest next new later)
