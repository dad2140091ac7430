use Rattle.std.proofs.Common.{take}
use Rattle.std.specs.List.{flat_map}
use Rattle.hb_outside.specs.Calls.{PutsOn}
use Rattle.hb_text.specs.Output.{left_text}
use Rattle.hb_drive.proofs.writing.put_all_left.Given as goal

-- the lines so far were put
abbrev pub invariant-loop-line : goal.invariant-loop-line
invariant-loop-line g l = PutsOn l.fn.so_far (flat_map (left_text l.stopped) (take l.line-index l.lines)) l.put (g.K.Sink.model l.fn.sink) (g.K.Sink.model l.sink)
