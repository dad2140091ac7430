-- What a history keeps where some of its bytes are overwritten.
use Rattle.std.proofs.Common.{◌≡◌, ℕ, ◌+◌, ◌<◌, ◌≤◌, ◌^◌, List, length, reverse, sym, ap, ◌∙◌, subst}
use Rattle.std.specs.List.{All}
use Rattle.std.specs.Vec.{with_items}
use Rattle.std.proofs.lemmas.List.{with_items_is}
use Rattle.std.proofs.lemmas.List.Elements.{All-same}
use Rattle.hb_disk.specs.declared.history.History.{History}
use Rattle.hb_disk.specs.Model.{overwritten, last_value}
use Rattle.hb_disk.specs.Events.{AreKept}
use Rattle.hb_disk.proofs.Facts.OverwrittenLaws.{All-overwritten, length-overwritten}

module _ (old : History) (slice new : List ℕ) (at : ℕ) (piece : List ℕ) (fits : at + length piece ≤ length old.bytes.items)
    (value : slice ≡ old.bytes.items) (made : new ≡ overwritten slice at piece) where
  whole : new ≡ overwritten old.bytes.items at piece
  whole = made ∙ ap (λ (l : List ℕ). overwritten l at piece) value

  items : (with_items old.bytes new).items ≡ new
  items = with_items_is old.bytes new (ap (λ (l : List ℕ). length l) whole ∙ length-overwritten old.bytes.items at piece fits ∙ sym old.bytes.ok.0)

  long : length (with_items old.bytes new).items ≡ length old.bytes.items
  long = ap (λ (l : List ℕ). length l) (items ∙ whole) ∙ length-overwritten old.bytes.items at piece fits

  pub overwritten_bytes : (with_items old.bytes new).items ≡ overwritten old.bytes.items at piece
  overwritten_bytes = items ∙ whole

  pub bytes_fit : All (λ x. x < 2 ^ 8) piece → All (λ x. x < 2 ^ 8) (with_items old.bytes new).items
  bytes_fit piece_fits = All-same (λ x. x < 2 ^ 8) (with_items old.bytes new).items (overwritten old.bytes.items at piece) overwritten_bytes (All-overwritten old.bytes.items at piece fits old.bytes_fit piece_fits)

  pub size_fits : length (with_items old.bytes new).items ≤ last_value
  size_fits = subst (λ (n : ℕ). n ≤ last_value) (sym long) old.size_fits

  pub events_fit : AreKept old.clock (length (with_items old.bytes new).items) (reverse old.events.items)
  events_fit = subst (λ (n : ℕ). AreKept old.clock n (reverse old.events.items)) (sym long) old.events_fit
