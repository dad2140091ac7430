use Rattle.std.proofs.Common.{◌≡◌, take}
use Rattle.std.specs.Prelude.{◌==◌}
use Rattle.std.specs.List.{list_all}
use Rattle.hb_lemmas.proofs.is_zero.Given as goal

-- whether the bytes so far are all 0
abbrev pub invariant-loop-byte : goal.invariant-loop-byte
invariant-loop-byte l = (l.any == 0) ≡ list_all (λ b. b == 0) (take l.byte-index l.bytes)
