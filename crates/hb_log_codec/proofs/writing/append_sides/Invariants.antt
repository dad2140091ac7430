use Rattle.std.proofs.Common.{◌≡◌, ◌++◌, take}
use Rattle.std.specs.Prelude.{map}
use Rattle.hb_log_codec.specs.Groups.{side_byte}
use Rattle.hb_log_codec.proofs.writing.append_sides.Given as goal

-- the sides so far were added
abbrev pub invariant-loop-side : goal.invariant-loop-side
invariant-loop-side l = l.into.items ≡ l.fn.into.items ++ map side_byte (take l.side-index l.sides)
