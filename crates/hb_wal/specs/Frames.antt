-- The log as frames that stand one after the other in an area.
use Rattle.std.specs.Prelude.{◌≡◌, ◌≢◌, ◌⊎◌, ℕ, ◌<◌, ◌^◌, List, [], ◌∷◌, ◌++◌, length, take, drop, flat_map, All}
use Rattle.hb_lemmas.specs.Numbers.{big_endian}
use Rattle.hb_disk.specs.Calls.{open_gate}

-- a frame: an open gate, the length of the payload in 4 bytes, the payload
abbrev pub frame_body : List ℕ → List ℕ
frame_body payload = big_endian 4 (length payload) ++ payload

abbrev pub frame_bytes : List ℕ → List ℕ
frame_bytes payload = open_gate ∷ frame_body payload

-- frames of these payloads, one after the other
abbrev pub frames : List (List ℕ) → List ℕ
frames payloads = flat_map frame_bytes payloads

-- a payload has at least one byte, and its length has its place
pub record IsPayload (payload : List ℕ) : Type 0 where
  pub some : 0 < length payload
  pub short : length payload < 2 ^ 32

-- Reading ends here: fewer than 5 bytes are left, or the gate isn't open.
abbrev pub IsEnd : List ℕ → Type 0
IsEnd [] = Unit {0}
IsEnd (gate ∷ rest) = (length rest < 4) ⊎ (gate ≢ open_gate)

-- An open frame stands here whose length is 0 or passes the end of the area.
pub record IsBadFrame (rest : List ℕ) : Type 0 where
  pub len : ℕ
  pub behind : List ℕ
  pub fits : len < 2 ^ 32
  pub bytes : rest ≡ open_gate ∷ big_endian 4 len ++ behind
  pub bad : (len ≡ 0) ⊎ (length behind < len)

-- the area is read to an end behind the frames of these payloads
pub record HasFrames (area : List ℕ) (payloads : List (List ℕ)) : Type 0 where
  pub payloads_fit : All IsPayload payloads
  pub rest : List ℕ
  pub bytes : area ≡ frames payloads ++ rest
  pub at_end : IsEnd rest

-- behind the frames of these payloads an open frame's length is bad
pub record HasBadFrame (area : List ℕ) (payloads : List (List ℕ)) : Type 0 where
  pub payloads_fit : All IsPayload payloads
  pub rest : List ℕ
  pub bytes : area ≡ frames payloads ++ rest
  pub bad : IsBadFrame rest

-- the bytes of a range of the disk
abbrev pub range : ℕ → ℕ → List ℕ → List ℕ
range at len bytes = take len (drop at bytes)

-- an area has the frames of one list of payloads, and a bad frame behind one list, and not both
pub record OneWay (area : List ℕ) : Type 0 where
  pub frames : (p q : List (List ℕ)) → HasFrames area p → HasFrames area q → p ≡ q
  pub bad : (p q : List (List ℕ)) → HasBadFrame area p → HasBadFrame area q → p ≡ q
  pub not_both : (p q : List (List ℕ)) → HasFrames area p → HasBadFrame area q → ⊥

abbrev pub ReadsOneWay : Type 0
ReadsOneWay = (area : List ℕ) → OneWay area
