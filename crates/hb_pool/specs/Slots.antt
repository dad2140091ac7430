-- The order of use tells of each page in memory in which slot it lies. A slot has a frame's bytes and marks.
use Rattle.std.specs.Prelude.{◌≡◌, ℕ, ◌==◌, ◌<◌, ◌≤◌, Bool, false, Option, List, [], length, map, get_or, find, count_by}
use Rattle.std.specs.List.{All}
use Rattle.hb_pool.specs.Frames.{Frame}

-- a frame but for its page's number
pub record Content : Type 0 where
  pub bytes : List ℕ
  pub dirty : Bool
  pub pins : ℕ

abbrev pub empty_slot : Content
empty_slot = record { bytes = []; dirty = false; pins = 0 }

-- the frame of the page that lies there
abbrev pub framed : ℕ → Content → Frame (List ℕ)
framed id slot = record { id = id; bytes = slot.bytes; dirty = slot.dirty; pins = slot.pins }

-- An entry of the order is a page's number and that of its slot.
abbrev pub is_page : ℕ → ℕ × ℕ → Bool
is_page id e = e.0 == id

abbrev pub is_slot : ℕ → ℕ × ℕ → Bool
is_slot n e = e.1 == n

-- the page's entry, where it has one
abbrev pub entry_of : List (ℕ × ℕ) → ℕ → Option (ℕ × ℕ)
entry_of order id = find (is_page id) order

-- the frame of an entry, and those of all
abbrev pub frame_at : List Content → ℕ × ℕ → Frame (List ℕ)
frame_at slots e = framed e.0 (get_or slots e.1 empty_slot)

abbrev pub frames_in : List (ℕ × ℕ) → List Content → List (Frame (List ℕ))
frames_in order slots = map (frame_at slots) order

-- each page has a slot of its own, and each slot a page
pub record HaveSlots (order : List (ℕ × ℕ)) (slots : List Content) : Type 0 where
  pub once : (n : ℕ) → count_by (is_slot n) order ≤ 1
  pub there : All (λ e. e.1 < length slots) order
  pub used : length slots ≡ length order
