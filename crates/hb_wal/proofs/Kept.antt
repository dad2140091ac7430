-- What a log keeps, in numbers, when a group joins, and when all are written.
use Rattle.std.proofs.Common.{◌≡◌, ◌≢◌, ℕ, ◌+◌, ◌*◌, ◌<◌, ◌≤◌, false, List, [], ◌∷◌, ◌++◌, length, take, drop, sym, ap, ◌∙◌, arith, append_assoc, length-append, length-drop}
use Rattle.std.specs.List.{All}
use Rattle.std.proofs.Math.Dec.{eqb}
use Rattle.std.proofs.lemmas.Bool.{eqb-false}
use Rattle.std.proofs.lemmas.List.{take_at, append-nil, drop_at, take-append-drop, nil_from_length}
use Rattle.std.proofs.lemmas.List.Elements.{All-nil, All-push}
use Rattle.std.proofs.lemmas.List.Quantifiers.{all_pairs_push}
use Rattle.hb_lemmas.specs.Numbers.{big_endian}
use Rattle.hb_lemmas.proofs.Numbers.{length_big_endian}
use Rattle.hb_space.specs.declared.form.TheConstants.{PENDING}
use Rattle.hb_wal.specs.Frames.{frames, frame_bytes, frame_body}
use Rattle.hb_wal.specs.declared.groups.Group.{Group}
use Rattle.hb_wal.specs.declared.log.Wal.TheInside.{Inside}
use Rattle.hb_wal.specs.Log.{Waiting, LogState, IsLog, IsMarkedTo, IsNoLater, waiting_bytes, forced, after_force, pending_bytes, framed_bytes, room_of}
use Rattle.hb_wal.specs.Kept.{waiting_of, total_of, log_seen, Keeps}
use Rattle.hb_wal.proofs.Waiting.{length-waiting_of, pending-waiting_of, framed-pending, count-pending, total-push, pending-push, framed-push, waiting-push, length-waiting_bytes, waiting_bytes-waiting_of, count-some, forced-some}

module _ (w : Inside) (keeps : Keeps w) where
  rest : length (drop 4 w.bytes.items) ≡ total_of w.groups.items
  rest = omega (arith, length-drop 4 w.bytes.items, keeps.bytes_len)

  pub pending-seen : pending_bytes (log_seen w).groups ≡ total_of w.groups.items
  pending-seen = pending-waiting_of (drop 4 w.bytes.items) w.groups.items (omega (arith, rest))

  pub total_fits : total_of w.groups.items ≤ PENDING
  total_fits = omega (arith, pending-seen, keeps.log.reserved)

  pub count-seen : length (log_seen w).groups ≡ length w.groups.items
  count-seen = length-waiting_of (drop 4 w.bytes.items) w.groups.items

  pub count_fits : length w.groups.items ≤ total_of w.groups.items
  count_fits = omega (arith, count-seen, count-pending (log_seen w).groups keeps.log.groups, pending-seen)

  pub framed-seen : framed_bytes (log_seen w).groups ≡ total_of w.groups.items + 5 * length w.groups.items
  framed-seen = omega (arith, framed-pending (log_seen w).groups, pending-seen, count-seen)

  -- no group waits where the log has none
  pub none-seen : (log_seen w).groups ≡ [] → w.groups.items ≡ []
  none-seen none = nil_from_length w.groups.items (omega (arith, count-seen, ap (λ (l : List Waiting). length l) none))

  -- the groups when one more joins
  pub seen-push : (bytes group : List ℕ) (g : Group) → drop 4 bytes ≡ drop 4 w.bytes.items ++ group → length group ≡ g.len
      → waiting_of (drop 4 bytes) (w.groups.items ++ g ∷ []) ≡ (log_seen w).groups ++ record { bytes = group; mark = g.mark } ∷ []
  seen-push bytes group g after long =
      ap (λ (l : List ℕ). waiting_of l (w.groups.items ++ g ∷ [])) after
      ∙ waiting-push (drop 4 w.bytes.items) group w.groups.items g rest long

-- The bytes when a group joins behind the others, with the length of all in front.
module _ (w : Inside) (keeps : Keeps w) (group : List ℕ) (g : Group) (long : length group ≡ g.len) (len : ℕ) (bytes : List ℕ) (is : bytes ≡ (big_endian 4 len ++ drop 4 w.bytes.items) ++ group) where
  regrouped : bytes ≡ big_endian 4 len ++ (drop 4 w.bytes.items ++ group)
  regrouped = is ∙ append_assoc (big_endian 4 len) (drop 4 w.bytes.items) group

  pub joined_rest : drop 4 bytes ≡ drop 4 w.bytes.items ++ group
  joined_rest = ap (λ (l : List ℕ). drop 4 l) regrouped ∙ drop_at (big_endian 4 len) (drop 4 w.bytes.items ++ group) 4 (length_big_endian 4 len)

  pub joined_front : len ≡ total_of w.groups.items + g.len → take 4 bytes ≡ big_endian 4 (total_of (w.groups.items ++ g ∷ []))
  joined_front count =
      ap (λ (l : List ℕ). take 4 l) regrouped ∙ take_at (big_endian 4 len) (drop 4 w.bytes.items ++ group) 4 (length_big_endian 4 len)
      ∙ ap (big_endian 4) (count ∙ sym (total-push w.groups.items g))

  pub joined_length : length bytes ≡ 4 + total_of (w.groups.items ++ g ∷ [])
  joined_length = omega (arith, ap (λ (l : List ℕ). length l) regrouped, length-append (big_endian 4 len) (drop 4 w.bytes.items ++ group), length-append (drop 4 w.bytes.items) group, length_big_endian 4 len, rest w keeps, long, total-push w.groups.items g)

-- whether a group waits, by their count
pub some_groups : (n : ℕ) (groups : List Group) → n ≡ length groups → eqb n 0 ≡ false → groups ≢ []
some_groups n groups count e none = eqb-false n 0 e (count ∙ ap (λ (l : List Group). length l) none)

-- the bytes are the body of the frame of all groups that wait
pub body_is : (w : Inside) → Keeps w → w.groups.items ≢ [] → w.bytes.items ≡ frame_body (waiting_bytes (log_seen w).groups)
body_is w keeps waits =
    let whole : waiting_bytes (log_seen w).groups ≡ drop 4 w.bytes.items = waiting_bytes-waiting_of (drop 4 w.bytes.items) w.groups.items (rest w keeps) in
    let front : take 4 w.bytes.items ≡ big_endian 4 (length (waiting_bytes (log_seen w).groups)) = keeps.front waits ∙ ap (big_endian 4) (sym (ap (λ (l : List ℕ). length l) whole ∙ rest w keeps)) in
    sym (take-append-drop 4 w.bytes.items) ∙ (λ i. front i ++ sym whole i)

-- a frame has five bytes more than its payload
pub length-frame : (payload : List ℕ) → length (frames (payload ∷ [])) ≡ 5 + length payload
length-frame payload = omega (arith, length-append (frame_bytes payload) [], length-append (big_endian 4 (length payload)) payload, length_big_endian 4 (length payload))

-- a frame of them all fits the area
pub frame_fits : (log : LogState) → log.groups ≢ [] → IsLog log → log.written + (5 + pending_bytes log.groups) ≤ log.len
frame_fits log waits is = omega (arith, is.fits, framed-pending log.groups, count-some log.groups waits)

-- a log whose groups were written as one frame is one
pub length-forced : (groups : List Waiting) → groups ≢ [] → length (frames (forced groups)) ≡ 5 + pending_bytes groups
length-forced groups waits = ap (λ (l : List (List ℕ)). length (frames l)) (forced-some groups waits) ∙ omega (arith, length-frame (waiting_bytes groups), length-waiting_bytes groups)

pub log-forced : (log : LogState) → log.groups ≢ [] → IsLog log → IsLog (after_force log)
log-forced log waits is = record {
  fits = omega (arith, frame_fits log waits is, length-forced log.groups waits);
  groups = All-nil (λ (g : Waiting). 0 < length g.bytes);
  reserved = omega arith;
  marks = λ i j d low high. absurd (omega (arith, high));
}

-- a log with one group more is one
pub log-push : (log : LogState) (group : List ℕ) (mark : ℕ) → IsLog log → 0 < length group → length group ≤ room_of log → pending_bytes log.groups + length group ≤ PENDING
    → All (IsMarkedTo mark) log.groups
    → IsLog (record { area = log.area; len = log.len; written = log.written; groups = log.groups ++ record { bytes = group; mark = mark } ∷ [] })
log-push log group mark is some room reserved marks = record {
  fits = omega (arith, is.fits, room, some, framed-push log.groups (record { bytes = group; mark = mark }));
  groups = All-push (λ g. 0 < length g.bytes) log.groups (record { bytes = group; mark = mark }) is.groups some;
  reserved = omega (arith, reserved, pending-push log.groups (record { bytes = group; mark = mark }));
  marks = all_pairs_push IsNoLater log.groups (record { bytes = group; mark = mark }) is.marks (λ k d h. marks k d h);
}

-- how long a group in three parts is
pub length-parts : (head image operation : List ℕ) → length (head ++ image ++ operation) ≡ length head + length image + length operation
length-parts head image operation = omega (arith, length-append (head ++ image) operation, length-append head image)

-- a group that comes as one part
pub alone : (group : List ℕ) → group ++ [] ++ [] ≡ group
alone group = append-nil (group ++ []) ∙ append-nil group
