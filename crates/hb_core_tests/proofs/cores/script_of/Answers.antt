use Rattle.std.proofs.Common.{List, All, refl, subst}
use Rattle.hb_core_tests.proofs.Begun.{fit_script}
use Rattle.hb_core_tests.specs.Begun.{IsFitLine}
use Rattle.hb_set.specs.declared.scripts.Line.{Line}
use Rattle.hb_core_tests.proofs.cores.script_of.Goals as goal

pub returns-then-are_fit : goal.returns-then-are_fit
returns-then-are_fit c =
    fit_script c.in-Ok.script.lines c.in-Ok.script.steps c.in-Ok.ensures.script (subst (λ (l : List Line). All IsFitLine l) c.as_slice.ensures (c.if-are_fit.ensures refl)) c.in-Ok.ensures.actors
