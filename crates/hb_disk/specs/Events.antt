-- What a record of calls says of the bytes: which they were at each moment, and which places a crash leaves open.
use Rattle.std.specs.Prelude.{◌≡◌, ◌⊎◌, ℕ, ◌+◌, ◌^◌, ◌<◌, ◌≤◌, List, [], ◌∷◌, length, get_or, All, Option, Some, None, IfSome, MatchOption, if◌then◌else◌, ltb, is_some}
use Rattle.hb_disk.specs.Model.{DiskModel, overwritten}
use Rattle.hb_disk.specs.declared.event.Change.{Change}
use Rattle.hb_disk.specs.declared.event.Change.TheVariants.{Wrote, Tried, Synced}
use Rattle.hb_disk.specs.declared.event.Event.{Event}
use Rattle.hb_disk.specs.declared.event.Pick.{Pick}
use Rattle.hb_disk.specs.declared.event.Pick.TheVariants.{Old, New, Noise}

-- the range that a change left open, as its place and its length; a sync leaves none
abbrev pub range_of : Change → Option (ℕ × ℕ)
range_of (Wrote at before) = Some (at, length before.items)
range_of (Tried at len) = Some (at, len)
range_of Synced = None

-- a change lies within so many bytes
abbrev pub LiesWithin : Change → ℕ → Type 0
LiesWithin change size = IfSome (range_of change) (λ range. range.0 + range.1 ≤ size)

-- the bytes before a change, from those after it
abbrev pub undone : Change → List ℕ → List ℕ
undone (Wrote at before) bytes = overwritten bytes at before.items
undone (Tried at len) bytes = bytes
undone Synced bytes = bytes

-- A place is open after these events, of which the newest is first: it lies in a range that was written or tried and
-- not synced since.
abbrev pub IsOpen : List Event → ℕ → Type 0
IsOpen [] i = ⊥
IsOpen (e ∷ es) i = MatchOption (range_of e.change) ⊥ (λ range. ((range.0 ≤ i) × (i < range.0 + range.1)) ⊎ IsOpen es i)

-- What a crash may leave of bytes after these events: bytes that are as long, and the same but for the open places.
pub record IsImage (bytes : List ℕ) (events : List Event) (image : List ℕ) : Type 0 where
  pub long : length image ≡ length bytes
  pub fit : All (λ x. x < 2 ^ 8) image
  pub kept : (i : ℕ) → (IsOpen events i → ⊥) → get_or image i 0 ≡ get_or bytes i 0

-- What a crash might have left since a value of the clock: an image of now, or where the last event came at that
-- value or later, what it might have left before that event.
abbrev pub IsImageSince : ℕ → List ℕ → List Event → List ℕ → Type 0
IsImageSince t bytes [] image = IsImage bytes [] image
IsImageSince t bytes (e ∷ es) image =
    IsImage bytes (e ∷ es) image ⊎ ((t ≤ e.clock) × IsImageSince t (undone e.change bytes) es image)

-- the bytes and the events at the moment before a call
abbrev pub rewound : ℕ → List ℕ → List Event → List ℕ × List Event
rewound before bytes [] = (bytes, [])
rewound before bytes (e ∷ es) = if ltb e.call before then (bytes, e ∷ es) else rewound before (undone e.change bytes) es

-- the bytes as they were when a sync last succeeded, or at first
abbrev pub as_synced : List ℕ → List Event → List ℕ
as_synced bytes [] = bytes
as_synced bytes (e ∷ es) = if is_some (range_of e.change) then as_synced (undone e.change bytes) es else bytes

-- one byte in each open place, and the bytes everywhere else
pub record IsNoise (byte : ℕ) (bytes : List ℕ) (events : List Event) (image : List ℕ) : Type 0 where
  pub long : length image ≡ length bytes
  pub noisy : (i : ℕ) → i < length bytes → IsOpen events i → get_or image i 0 ≡ byte
  pub kept : (i : ℕ) → (IsOpen events i → ⊥) → get_or image i 0 ≡ get_or bytes i 0

-- the image that was picked
abbrev pub IsPicked : Pick → List ℕ → List Event → List ℕ → Type 0
IsPicked Old bytes events image = image ≡ as_synced bytes events
IsPicked New bytes events image = image ≡ bytes
IsPicked (Noise byte) bytes events image = IsNoise byte bytes events image

-- each event lies within so many bytes
abbrev pub AllLieWithin : ℕ → List Event → Type 0
AllLieWithin size events = All (λ e. LiesWithin e.change size) events

-- each event came before this value of the clock and lies within so many bytes
abbrev pub AreKept : ℕ → ℕ → List Event → Type 0
AreKept clock size events = All (λ e. (e.clock < clock) × LiesWithin e.change size) events

-- a disk of these bytes, after these events
abbrev pub disk_after : List ℕ → List Event → ℕ → ℕ → ℕ → DiskModel
disk_after bytes events clock reads writes = record {
  told = Some bytes;
  size = length bytes;
  clock = clock;
  Image = IsImage bytes events;
  ImageSince = λ t image. IsImageSince t bytes events image;
  read_faults = reads;
  write_faults = writes;
}
