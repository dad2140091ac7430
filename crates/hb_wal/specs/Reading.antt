-- What reading an area's frames tells, what it keeps, and where it stops before an end.
use Rattle.std.specs.Prelude.{◌≡◌, ◌≢◌, ℕ, ◌<◌, ◌^◌, List, ◌∷◌, ◌++◌, get_or, Option, Some, None, length, ◌+◌, ◌-◌, All, IfSome}
use Rattle.hb_lemmas.specs.Numbers.{big_endian}
use Rattle.hb_disk.specs.Calls.{open_gate, ReadsOnly}
use Rattle.hb_wal.specs.Frames.{frame_bytes, IsPayload, IsEnd, frames, HasBadFrame, range}
use Rattle.hb_wal.specs.declared.heads.FrameStop.{FrameStop}
use Rattle.hb_wal.specs.declared.heads.FrameStop.TheVariants as frame_stops
use Rattle.hb_wal.specs.declared.reading.ReadStop.{ReadStop}
use Rattle.hb_wal.specs.declared.reading.ReadStop.TheVariants as stops
use Rattle.hb_disk.specs.Model.{DiskModel}

-- a frame with a good length begins here
pub record BeginsFrame (rest payload : List ℕ) : Type 0 where
  pub fits : IsPayload payload
  pub behind : List ℕ
  pub bytes : rest ≡ frame_bytes payload ++ behind

-- the first five bytes of a frame: an open gate and this length, or a closed gate
abbrev pub HeadIs : Option ℕ → List ℕ → Type 0
HeadIs None head = get_or head 0 0 ≢ open_gate
HeadIs (Some len) head = (len < 2 ^ 32) × (head ≡ open_gate ∷ big_endian 4 len)

-- an end, or a frame
abbrev pub FrameIs : Option (List ℕ) → List ℕ → Type 0
FrameIs None rest = IsEnd rest
FrameIs (Some payload) rest = BeginsFrame rest payload

-- The area has a frame that reading takes memory for.
pub record HasSomeFrame (area : List ℕ) : Type 0 where
  pub before : List (List ℕ)
  pub rest : List ℕ
  pub payload : List ℕ
  pub bytes : area ≡ frames before ++ rest
  pub begins : BeginsFrame rest payload

-- What the area has where reading stops so: behind frames of these payloads an open frame with a bad length, counted
-- from 0; or, where memory was refused, a frame. A fault of the disk says nothing of the area.
abbrev pub StopsAt : ReadStop → List ℕ → Type 0
StopsAt (stops.BadFrame frame before) area = (frame ≡ length before) × HasBadFrame area before
StopsAt stops.NoMemory area = HasSomeFrame area
StopsAt stops.DiskFault area = Unit {0}

-- the stop of the reading, by that of a frame
abbrev pub stop_after : FrameStop → List (List ℕ) → ReadStop
stop_after frame_stops.BadLength before = stops.BadFrame (length before) before
stop_after frame_stops.NoMemory before = stops.NoMemory
stop_after frame_stops.DiskFault before = stops.DiskFault

-- The frames of these payloads were read from the front of the area, so many bytes are left, and no read failed.
pub record HasRead (old now : DiskModel) (area len left : ℕ) (payloads : List (List ℕ)) : Type 0 where
  pub only : ReadsOnly ⊥ old now
  pub fits : All IsPayload payloads
  pub count : length (frames payloads) + left ≡ len
  pub read : IfSome old.told (λ b. range area len b ≡ frames payloads ++ range (area + (len - left)) left b)
