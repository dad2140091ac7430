-- How the log keeps the groups that wait: their bytes one after the other, as the frame will have them, and the length and mark of each.
use Rattle.std.specs.Prelude.{◌≡◌, ◌≢◌, ℕ, ◌+◌, ◌≤◌, List, [], ◌∷◌, length, take, drop, vec_capacity}
use Rattle.hb_lemmas.specs.Numbers.{big_endian}
use Rattle.hb_space.specs.declared.form.TheConstants.{PENDING}
use Rattle.hb_wal.specs.declared.groups.Group.{Group}
use Rattle.hb_wal.specs.declared.log.Wal.TheInside.{Inside}
use Rattle.hb_wal.specs.Log.{Waiting, LogState, IsLog}

abbrev pub waiting_of : List ℕ → List Group → List Waiting
waiting_of bytes [] = []
waiting_of bytes (g ∷ rest) = record { bytes = take g.len bytes; mark = g.mark } ∷ waiting_of (drop g.len bytes) rest

abbrev pub total_of : List Group → ℕ
total_of [] = 0
total_of (first ∷ rest) = first.len + total_of rest

abbrev pub log_seen : Inside → LogState
log_seen w = record { area = w.area; len = w.len; written = w.written; groups = waiting_of (drop 4 w.bytes.items) w.groups.items }

-- Four bytes stand before the groups, which have their length where any waits; all memory is reserved, and the log is one.
pub record Keeps (w : Inside) : Type 0 where
  pub bytes_len : length w.bytes.items ≡ 4 + total_of w.groups.items
  pub front : w.groups.items ≢ [] → take 4 w.bytes.items ≡ big_endian 4 (total_of w.groups.items)
  pub bytes_room : 4 + PENDING ≤ vec_capacity w.bytes
  pub groups_room : PENDING ≤ vec_capacity w.groups
  pub log : IsLog (log_seen w)
