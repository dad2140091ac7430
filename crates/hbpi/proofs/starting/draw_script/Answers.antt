use Rattle.std.proofs.Common.{rules, ◌≡◌, [], refl}
use Rattle.hb_gen.specs.Lines.{generated}
use Rattle.hbpi.proofs.starting.draw_script.Goals as goal

pub returns-in-Ok-clause-came : goal.returns-in-Ok-clause-came
returns-in-Ok-clause-came c source =
    let facts = c.in-Ok.ensures in
    let script = c.in-Ok.script in
    let lines : script.lines ≡ generated c.args.state c.args.count c.args.k.number = search rules in
    let steps : script.steps ≡ [] = search rules in
    record { came = (lines, steps, refl); source = refl; script = facts.script; actors = facts.actors }
