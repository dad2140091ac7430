use Rattle.hb_steps.proofs.outcome_laws.damage_is_named.Goals as goal
use Rattle.hb_steps.proofs.Facts.NamedDamage.{damage_is_named}

pub returns : goal.returns
returns c = damage_is_named
