use Rattle.std.proofs.Common.{◌≡◌, ◌++◌, length, map, All}
use Rattle.std.specs.List.{flat_map}
use Rattle.hb_log_codec.specs.Groups.{FitsGroup, group_bytes}
use Rattle.hb_log_codec.specs.Reading.{logged}
use Rattle.hb_log_codec.proofs.reading.decode_all.Given as goal

-- the groups so far stand in front of the rest
abbrev pub invariant-loop-rest : goal.invariant-loop-rest
invariant-loop-rest l = record {
  fits : All (FitsGroup l.k.number) (map logged l.groups.items);
  parts : l.bytes ≡ flat_map group_bytes (map logged l.groups.items) ++ l.rest;
}

abbrev pub decreases-loop-rest : goal.decreases-loop-rest
decreases-loop-rest l = length l.rest
