use Rattle.std.proofs.Common.{ℕ, ◌≤◌, List, length, subst, arith, rules}
use Rattle.std.proofs.lemmas.List.{take_all}
use Rattle.std.specs.List.{flat_map}
use Rattle.hb_outside.specs.Calls.{PutsOn}
use Rattle.hb_text.specs.Output.{left_text}
use Rattle.hb_drive.proofs.PutTexts.{puts_left, puts_none}
use Rattle.hb_drive.proofs.writing.put_all_left.Goals as goal

pub loop-line-init : goal.loop-line-init
loop-line-init g c = puts_none c.args.so_far _

pub loop-line-preserved : goal.loop-line-preserved
loop-line-preserved g c =
    puts_left _ (g.K.Sink.model c.loop-line.sink) _ c.args.so_far c.loop-line.put _ c.args.stopped c.args.lines.now c.loop-line.line-index _ (omega arith) (search rules)
    c.loop-line.invariant c.put_one_left-put.ensures

pub returns : goal.returns
returns g c =
    let end : length c.args.lines.now ≤ c.loop-line.line-index = omega arith in
    let P : List ℕ → Type 0 = λ ls. PutsOn c.args.so_far (flat_map (left_text c.args.stopped) ls) c.loop-line.put (g.K.Sink.model c.args.sink.now) (g.K.Sink.model c.loop-line.sink) in
    subst P (take_all c.loop-line.line-index c.args.lines.now end) c.loop-line.invariant
