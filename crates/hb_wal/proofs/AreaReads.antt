-- One frame more is read of an area.
use Rattle.std.proofs.Common.{◌≡◌, ℕ, ◌+◌, ◌-◌, ◌≤◌, List, [], ◌∷◌, ◌++◌, length, take, drop, Some, IfSome, sym, ap, ◌∙◌, arith, append_assoc, length-append}
use Rattle.std.proofs.lemmas.List.{drop_at, drop-take, drop-drop}
use Rattle.std.proofs.lemmas.List.Elements.{All-push}
use Rattle.hb_disk.specs.Model.{DiskModel}
use Rattle.hb_disk.specs.Calls.{ReadsOnly}
use Rattle.hb_disk.proofs.Facts.FaultLaws.{ReadsOnly-then, ReadsOnly-neither}
use Rattle.hb_lemmas.proofs.Options.{if_value, at_value}
use Rattle.hb_wal.specs.Frames.{frames, frame_bytes, IsPayload, range}
use Rattle.hb_wal.specs.Reading.{FrameIs, HasRead}
use Rattle.hb_wal.proofs.Kept.{length-frame}
use Rattle.hb_wal.proofs.Facts.AreaBytes.{frames-push}

module _ (area len left : ℕ) (b payload behind : List ℕ) (payloads : List (List ℕ)) (fits : 5 + length payload ≤ left) (inside : left ≤ len)
    (is : range (area + (len - left)) left b ≡ frame_bytes payload ++ behind) where
  abbrev after : ℕ
  after = left - (5 + length payload)

  behind_is : behind ≡ range (area + (len - after)) after b
  behind_is =
      let long : length (frame_bytes payload) ≡ 5 + length payload = omega (arith, length-append (frame_bytes payload) [], length-frame payload) in
      let split : left ≡ (5 + length payload) + after = omega (arith, fits) in
      let place : area + (len - left) + (5 + length payload) ≡ area + (len - after) = omega (arith, fits, inside) in
      sym (drop_at (frame_bytes payload) behind (5 + length payload) long)
      ∙ ap (λ (l : List ℕ). drop (5 + length payload) l) (sym is)
      ∙ ap (λ (n : ℕ). drop (5 + length payload) (take n (drop (area + (len - left)) b))) split
      ∙ drop-take (5 + length payload) after (drop (area + (len - left)) b)
      ∙ ap (λ (l : List ℕ). take after l) (drop-drop (5 + length payload) (area + (len - left)) b ∙ ap (λ (n : ℕ). drop n b) place)

  pub read_more : range area len b ≡ frames payloads ++ range (area + (len - left)) left b → range area len b ≡ frames (payloads ++ payload ∷ []) ++ range (area + (len - after)) after b
  read_more so_far =
      so_far ∙ ap (λ (l : List ℕ). frames payloads ++ l) (is ∙ ap (λ (l : List ℕ). frame_bytes payload ++ l) behind_is)
      ∙ sym (append_assoc (frames payloads) (frame_bytes payload) (range (area + (len - after)) after b))
      ∙ ap (λ (l : List ℕ). l ++ range (area + (len - after)) after b) (sym (frames-push payloads payload))

pub HasRead-more : {F : Type 0} (old now new : DiskModel) (area len left : ℕ) (payloads : List (List ℕ)) (payload : List ℕ) → HasRead old now area len left payloads → (F → ⊥) → ReadsOnly F now new
    → IsPayload payload → 5 + length payload ≤ left → IfSome now.told (λ b. FrameIs (Some payload) (range (area + (len - left)) left b))
    → HasRead old new area len (left - (5 + length payload)) (payloads ++ payload ∷ [])
HasRead-more old now new area len left payloads payload so_far calm reads is_payload fits frame = record {
  only = ReadsOnly-then old now new (λ failed. failed) so_far.only (ReadsOnly-neither now new calm (λ failed. failed) reads);
  fits = All-push IsPayload payloads payload so_far.fits is_payload;
  count = omega (arith, ap (λ (l : List ℕ). length l) (frames-push payloads payload), length-append (frames payloads) (frame_bytes payload), length-append (frame_bytes payload) [], length-frame payload, so_far.count, fits);
  read = if_value old.told (λ b. range area len b ≡ frames (payloads ++ payload ∷ []) ++ range (area + (len - (left - (5 + length payload)))) (left - (5 + length payload)) b) (λ b told.
      let here = at_value now.told (λ b. FrameIs (Some payload) (range (area + (len - left)) left b)) b (so_far.only.stays.told ∙ told) frame in
      read_more area len left b payload here.behind payloads fits (omega (arith, so_far.count)) here.bytes (at_value old.told (λ b. range area len b ≡ frames payloads ++ range (area + (len - left)) left b) b told so_far.read));
}
