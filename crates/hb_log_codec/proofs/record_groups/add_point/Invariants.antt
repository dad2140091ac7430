use Rattle.std.proofs.Common.{◌≡◌, ◌+◌, ◌*◌, ◌++◌, length, take}
use Rattle.std.specs.List.{flat_map}
use Rattle.hb_lemmas.specs.Numbers.{big_endian}
use Rattle.hb_log_codec.proofs.record_groups.add_point.Given as goal

-- the values so far were added
abbrev pub invariant-loop-value : goal.invariant-loop-value
invariant-loop-value l = record {
  bytes : l.into.items ≡ l.fn.into.items ++ flat_map (big_endian 8) (take l.value-index l.value-items);
  long : length l.into.items ≡ length l.fn.into.items + 8 * l.value-index;
}
