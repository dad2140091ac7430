-- The log's area of a disk, byte by byte: where the next frame begins, and what the area is when that frame was torn
-- or written.
use Rattle.std.proofs.Common.{◌≡◌, inl, inr, ℕ, zero, suc, ◌+◌, ◌-◌, ◌<◌, ◌≤◌, List, [], ◌∷◌, ◌++◌, length, get_or, drop, replicate, refl, sym, ap, ◌∙◌, arith, append_assoc, length-take, length-drop}
use Rattle.std.proofs.lemmas.List.{take_at, ext_get_or, get_or-take, get_or-drop, append-nil, drop-replicate}
use Rattle.std.proofs.Math.Seq.{drop-append-add}
use Rattle.hb_disk.specs.Model.{overwritten}
use Rattle.hb_disk.proofs.Facts.TornLaws.{cases_range}
use Rattle.hb_disk.proofs.Facts.OverwrittenLaws.{length-overwritten, overwritten-inside, overwritten-outside}
use Rattle.hb_wal.specs.Frames.{frames, frame_bytes, IsEnd, range}

-- a byte of a range
pub get_or-range : (area len i : ℕ) (bytes : List ℕ) → i < len → get_or (range area len bytes) i 0 ≡ get_or bytes (area + i) 0
get_or-range area len i bytes here = get_or-take len (drop area bytes) i 0 here ∙ get_or-drop area bytes i 0

pub length-range : (area len : ℕ) (bytes : List ℕ) → area + len ≤ length bytes → length (range area len bytes) ≡ len
length-range area len bytes inside = omega (arith, length-take len (drop area bytes), length-drop area bytes, inside)

-- a range of bytes that were overwritten within it
pub range-overwritten : (area len k : ℕ) (bytes piece : List ℕ) → area + len ≤ length bytes → k + length piece ≤ len
    → range area len (overwritten bytes (area + k) piece) ≡ overwritten (range area len bytes) k piece
range-overwritten area len k bytes piece inside fits =
    let whole : area + k + length piece ≤ length bytes = omega (arith, inside, fits) in
    let count : length (range area len bytes) ≡ len = length-range area len bytes inside in
    let part : k + length piece ≤ length (range area len bytes) = omega (arith, count, fits) in
    let long = length-overwritten bytes (area + k) piece whole in
    let after : length (range area len (overwritten bytes (area + k) piece)) ≡ len = length-range area len (overwritten bytes (area + k) piece) (omega (arith, long, inside)) in
    ext_get_or 0 (range area len (overwritten bytes (area + k) piece)) (overwritten (range area len bytes) k piece)
    (omega (arith, after, length-overwritten (range area len bytes) k piece part, count))
    (λ i h.
    let here : i < len = omega (arith, after, h) in
    get_or-range area len i (overwritten bytes (area + k) piece) here
    ∙ elim (cases_range k (length piece) i) [
      | inl within ↦
          let e : area + i - (area + k) ≡ i - k = omega (arith, within.0) in
          overwritten-inside bytes (area + k) piece whole (area + i) (omega (arith, within.0)) (omega (arith, within.1))
          ∙ ap (λ (j : ℕ). get_or piece j 0) e ∙ sym (overwritten-inside (range area len bytes) k piece part i within.0 within.1)
      | inr outside ↦
          overwritten-outside bytes (area + k) piece whole (area + i) (elim outside [ inl front ↦ inl (omega arith) | inr behind ↦ inr (omega arith) ])
          ∙ sym (get_or-range area len i bytes here) ∙ sym (overwritten-outside (range area len bytes) k piece part i outside)
    ])

-- a piece in the zeros behind some bytes
pub overwritten-zeros : (front piece : List ℕ) (m : ℕ) → overwritten (front ++ replicate m 0) (length front) piece ≡ front ++ piece ++ replicate (m - length piece) 0
overwritten-zeros front piece m = λ i.
    take_at front (replicate m 0) (length front) refl i ++ piece ++ (drop-append-add front (replicate m 0) (length piece) ∙ drop-replicate (length piece) m 0) i

pub frames-push : (payloads : List (List ℕ)) (payload : List ℕ) → frames (payloads ++ payload ∷ []) ≡ frames payloads ++ frame_bytes payload
frames-push [] payload = append-nil (frame_bytes payload)
frames-push (p ∷ payloads) payload = ap (λ (l : List ℕ). frame_bytes p ++ l) (frames-push payloads payload) ∙ sym (append_assoc (frame_bytes p) (frames payloads) (frame_bytes payload))

-- behind zeros reading ends
pub end_zeros : (m : ℕ) → IsEnd (replicate m 0)
end_zeros zero = tt
end_zeros (suc m) = inr (λ e. cc e)
