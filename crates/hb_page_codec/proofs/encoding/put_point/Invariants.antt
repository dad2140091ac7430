use Rattle.std.proofs.Common.{take}
use Rattle.std.specs.List.{flat_map}
use Rattle.hb_lemmas.specs.Numbers.{big_endian}
use Rattle.hb_page_codec.specs.Writing.{Wrote}
use Rattle.hb_page_codec.proofs.encoding.put_point.Given as goal

-- the values so far were written
abbrev pub invariant-loop-value : goal.invariant-loop-value
invariant-loop-value l = Wrote l.fn.into l.at (flat_map (big_endian 8) (take l.value-index l.value-items)) l.into l.end
