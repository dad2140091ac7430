use Rattle.std.proofs.Common.{◌≡◌, ◌++◌, take}
use Rattle.std.specs.List.{flat_map}
use Rattle.hb_log_codec.specs.Groups.{leaf_cut_bytes}
use Rattle.hb_log_codec.proofs.writing.append_leaf_cuts.Given as goal

-- the cuts so far were added
abbrev pub invariant-loop-cut : goal.invariant-loop-cut
invariant-loop-cut l = l.into.items ≡ l.fn.into.items ++ flat_map leaf_cut_bytes (take l.cut-index l.cuts)
