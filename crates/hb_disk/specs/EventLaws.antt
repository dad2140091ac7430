-- A disk of bytes with their record is a disk.
use Rattle.std.proofs.Common.{inl, inr, ℕ, ◌^◌, ◌<◌, ◌≤◌, List, [], ◌∷◌, length, refl, subst, arith}
use Rattle.std.specs.List.{All}
use Rattle.std.proofs.lemmas.List.Elements.{All-head}
use Rattle.hb_disk.specs.Model.{IsDisk, last_value}
use Rattle.std.proofs.lemmas.Option.{same_Some}
use Rattle.hb_disk.specs.Events.{IsImage, IsImageSince, LiesWithin, AreKept, disk_after}
use Rattle.hb_disk.specs.declared.event.Event.{Event}

-- the bytes are one of their images
pub own_image : (bytes : List ℕ) (events : List Event) → All (λ x. x < 2 ^ 8) bytes → IsImage bytes events bytes
own_image bytes events fit = record { long = refl; fit = fit; kept = λ i shut. refl }

-- an image of now is one since any moment
pub since_now : (t : ℕ) (bytes : List ℕ) (events : List Event) (c : List ℕ) → IsImage bytes events c → IsImageSince t bytes events c
since_now t bytes [] c image = image
since_now t bytes (e ∷ es) c image = inl image

-- and since now there is no other
pub only_since : (clock size : ℕ) (bytes : List ℕ) (events : List Event) (c : List ℕ) → AreKept clock size events → IsImageSince clock bytes events c → IsImage bytes events c
only_since clock size bytes [] c kept left = left
only_since clock size bytes (e ∷ es) c kept (inl image) = image
only_since clock size bytes (e ∷ es) c kept (inr past) =
    let first = All-head (λ (e : Event). (e.clock < clock) × LiesWithin e.change size) e es kept in
    absurd (omega (arith, first.0, past.0))

pub history_is_disk : (bytes : List ℕ) (events : List Event) (clock reads writes : ℕ) → All (λ x. x < 2 ^ 8) bytes → length bytes ≤ last_value → clock ≤ last_value
    → AreKept clock (length bytes) events → IsDisk (disk_after bytes events clock reads writes)
history_is_disk bytes events clock reads writes fit size_fits clock_fits kept = record {
  as_read = λ b told. subst (λ (l : List ℕ). IsImage bytes events l) (same_Some bytes b told) (own_image bytes events fit);
  long = λ b image. image.long;
  bytes = λ b image. image.fit;
  counts_now = λ t b le image. since_now t bytes events b image;
  only_now = λ b left. only_since clock (length bytes) bytes events b kept left;
  clock_fits = clock_fits;
  size_fits = size_fits;
}
