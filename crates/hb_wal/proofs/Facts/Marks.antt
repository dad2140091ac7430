-- The oldest mark of the groups that wait is not behind the end.
use Rattle.std.proofs.Common.{ℕ, ◌≤◌, List, [], ◌∷◌, All, arith}
use Rattle.hb_wal.specs.Log.{IsMarkedTo, Waiting, mark_of}

pub mark_inside : (groups : List Waiting) (now : ℕ) → All (IsMarkedTo now) groups → mark_of groups now ≤ now
mark_inside [] now low = omega arith
mark_inside (first ∷ rest) now low = low 0 first (omega arith)
