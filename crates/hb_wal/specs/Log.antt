-- The log in memory: where its area is, how much of it is written, and the groups that wait.
use Rattle.std.specs.Prelude.{ℕ, ◌+◌, ◌-◌, ◌<◌, ◌≤◌, List, [], ◌∷◌, ◌++◌, length, flat_map, All, AllPairs}
use Rattle.hb_space.specs.declared.form.TheConstants.{PENDING}
use Rattle.hb_wal.specs.Frames.{frames}

-- a group that waits: its bytes, and its mark
pub record Waiting : Type 0 where
  pub bytes : List ℕ
  pub mark : ℕ

-- a group's mark is at most so much; and the one group's mark isn't behind the other's
abbrev pub IsMarkedTo : ℕ → Waiting → Type 0
IsMarkedTo most g = g.mark ≤ most

abbrev pub IsNoLater : Waiting → Waiting → Type 0
IsNoLater g h = g.mark ≤ h.mark

-- what contracts see of a log; the groups wait in this order
pub record LogState : Type 0 where
  pub area : ℕ
  pub len : ℕ
  pub written : ℕ
  pub groups : List Waiting

-- the bytes of the groups that wait
abbrev pub pending_bytes : List Waiting → ℕ
pending_bytes [] = 0
pending_bytes (first ∷ rest) = length first.bytes + pending_bytes rest

-- What they take of the area at most: a frame each. A force writes all that wait as one frame, which is less, and so whoever
-- appends need not know which groups go together.
abbrev pub framed_bytes : List Waiting → ℕ
framed_bytes [] = 0
framed_bytes (first ∷ rest) = length first.bytes + 5 + framed_bytes rest

-- The longest group that fits now: what the written frames, a frame for each group that waits and 5 bytes of the new
-- frame leave of the area.
abbrev pub room_of : LogState → ℕ
room_of log = log.len - log.written - framed_bytes log.groups - 5

-- What a log keeps: its frames fit the area, no group is empty, the groups fit the memory that was reserved, and marks don't fall.
pub record IsLog (log : LogState) : Type 0 where
  pub fits : log.written + framed_bytes log.groups ≤ log.len
  pub groups : All (λ g. 0 < length g.bytes) log.groups
  pub reserved : pending_bytes log.groups ≤ PENDING
  pub marks : AllPairs IsNoLater log.groups

-- the mark of the first group that waits, or another number where none does
abbrev pub mark_of : List Waiting → ℕ → ℕ
mark_of [] now = now
mark_of (first ∷ rest) now = first.mark

-- A group may join those that wait: it isn't empty, it fits the area and the memory that was reserved, and no mark is later.
pub record MayJoin (bytes : List ℕ) (mark : ℕ) (log : LogState) : Type 0 where
  pub some : 0 < length bytes
  pub room : length bytes ≤ room_of log
  pub reserved : pending_bytes log.groups + length bytes ≤ PENDING
  pub marks : All (IsMarkedTo mark) log.groups

-- the log with one group more that waits, behind the others
abbrev pub with_group : List ℕ → ℕ → LogState → LogState
with_group bytes mark log = record { area = log.area; len = log.len; written = log.written; groups = log.groups ++ record { bytes = bytes; mark = mark } ∷ [] }

-- The bytes of groups, one after the other.
abbrev pub waiting_bytes : List Waiting → List ℕ
waiting_bytes groups = flat_map (λ (g : Waiting). g.bytes) groups

-- The payloads that a force writes, a frame each: the groups that wait are one frame.
abbrev pub forced : List Waiting → List (List ℕ)
forced [] = []
forced (first ∷ rest) = waiting_bytes (first ∷ rest) ∷ []

-- The log after a force: no group waits.
abbrev pub after_force : LogState → LogState
after_force log = record { area = log.area; len = log.len; written = log.written + length (frames (forced log.groups)); groups = [] }
