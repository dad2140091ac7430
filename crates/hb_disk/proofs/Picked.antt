-- What the images of a past moment are, event by event.
use Rattle.std.proofs.Common.{◌≡◌, ◌⊎◌, inl, inr, ⊎_elim, ℕ, ◌+◌, ◌-◌, ◌^◌, ◌<◌, ◌≤◌, true, false, cond, List, [], ◌∷◌, ◌++◌, length, get_or, replicate, reverse, Option, Some, None, MatchOption, refl, sym, ap, ◌∙◌, subst, arith}
use Rattle.std.specs.Prelude.{ltb, is_some}
use Rattle.std.specs.List.{All}
use Rattle.std.proofs.lemmas.Bool.{cases_eq, le-ltb}
use Rattle.std.proofs.lemmas.List.{reverse-append, get_or-replicate, length-replicate}
use Rattle.std.proofs.lemmas.List.Elements.{All-head, All-tail}
use Rattle.hb_disk.specs.Model.{overwritten}
use Rattle.hb_disk.proofs.Facts.TornLaws.{IsOutside, cases_range}
use Rattle.hb_disk.proofs.Facts.OverwrittenLaws.{length-overwritten, overwritten-inside, overwritten-outside}
use Rattle.hb_lemmas.proofs.Options.{at_value}
use Rattle.hb_disk.specs.Events.{IsOpen, IsImage, IsImageSince, IsNoise, IsPicked, AllLieWithin, LiesWithin, rewound, as_synced, undone, range_of}
use Rattle.hb_disk.specs.declared.event.Change.{Change}
use Rattle.hb_disk.specs.declared.event.Change.TheVariants.{Wrote, Tried, Synced}
use Rattle.hb_disk.specs.declared.event.Pick.{Pick}
use Rattle.hb_disk.specs.declared.event.Pick.TheVariants.{Old, New, Noise}
use Rattle.hb_disk.specs.declared.event.Event.{Event}

-- with the newest first
pub last_first : (rest earlier : List Event) (e : Event) → rest ≡ earlier ++ e ∷ [] → reverse rest ≡ e ∷ reverse earlier
last_first rest earlier e is = ap reverse is ∙ reverse-append earlier (e ∷ [])

pub reach_first : (size : ℕ) (e : Event) (es : List Event) → AllLieWithin size (e ∷ es) → LiesWithin e.change size
reach_first size e es reach = All-head (λ (e : Event). LiesWithin e.change size) e es reach

pub reach_rest : (size : ℕ) (e : Event) (es : List Event) → AllLieWithin size (e ∷ es) → AllLieWithin size es
reach_rest size e es reach = All-tail (λ (e : Event). LiesWithin e.change size) e es reach

-- taking a change back leaves as many bytes
pub undone_long : (change : Change) (bytes : List ℕ) → LiesWithin change (length bytes) → length (undone change bytes) ≡ length bytes
undone_long (Wrote at before) bytes reach = length-overwritten bytes at before.items reach
undone_long (Tried at len) bytes reach = refl
undone_long Synced bytes reach = refl

-- and the same outside its range
undone_outside : (change : Change) (bytes : List ℕ) → LiesWithin change (length bytes) → (range : ℕ × ℕ) → range_of change ≡ Some range → (i : ℕ) → IsOutside range.0 range.1 i
    → get_or (undone change bytes) i 0 ≡ get_or bytes i 0
undone_outside (Wrote at before) bytes reach range is i outside =
    let same : (at, length before.items) ≡ range = cc in
    overwritten-outside bytes at before.items reach i (subst (λ (r : ℕ × ℕ). IsOutside r.0 r.1 i) (sym same) outside)
undone_outside (Tried at len) bytes reach range is i outside = refl
undone_outside Synced bytes reach range is i outside = cc

-- whether a place is open, where the newest event's range is known
open_by : (e : Event) (es : List Event) (i : ℕ) (o : Option (ℕ × ℕ)) → range_of e.change ≡ o → IsOpen (e ∷ es) i
    → MatchOption o ⊥ (λ range. ((range.0 ≤ i) × (i < range.0 + range.1)) ⊎ IsOpen es i)
open_by e es i o is h =
    let Q : Option (ℕ × ℕ) → Type 0 = λ o. MatchOption o ⊥ (λ range. ((range.0 ≤ i) × (i < range.0 + range.1)) ⊎ IsOpen es i) in subst Q is h

by_open : (e : Event) (es : List Event) (i : ℕ) (o : Option (ℕ × ℕ)) → range_of e.change ≡ o
    → MatchOption o ⊥ (λ range. ((range.0 ≤ i) × (i < range.0 + range.1)) ⊎ IsOpen es i) → IsOpen (e ∷ es) i
by_open e es i o is h =
    let Q : Option (ℕ × ℕ) → Type 0 = λ o. MatchOption o ⊥ (λ range. ((range.0 ≤ i) × (i < range.0 + range.1)) ⊎ IsOpen es i) in subst Q (sym is) h

-- where nothing is open, nothing is changed
pub noise_none : (byte : ℕ) (bytes : List ℕ) → IsNoise byte bytes [] bytes
noise_none byte bytes = record { long = refl; noisy = λ i low is_open. absurd is_open; kept = λ i shut. refl }

pub noise_synced : (byte : ℕ) (bytes : List ℕ) (e : Event) (es : List Event) → range_of e.change ≡ None → IsNoise byte bytes (e ∷ es) bytes
noise_synced byte bytes e es is = record { long = refl; noisy = λ i low is_open. absurd (open_by e es i None is is_open); kept = λ i shut. refl }

-- one range more
pub noise_more : (byte : ℕ) (bytes : List ℕ) (e : Event) (es : List Event) (at n : ℕ) (image : List ℕ) → range_of e.change ≡ Some (at, n) → at + n ≤ length bytes
    → IsNoise byte (overwritten bytes at (replicate n byte)) es image → IsNoise byte bytes (e ∷ es) image
noise_more byte bytes e es at n image is fits noise =
    let piece : List ℕ = replicate n byte in
    let piece_long : length piece ≡ n = length-replicate n byte in
    let fits_piece : at + length piece ≤ length bytes = omega (arith, piece_long, fits) in
    let now = overwritten bytes at piece in
    let now_long : length now ≡ length bytes = length-overwritten bytes at piece fits_piece in
    let filled : (i : ℕ) → (at ≤ i) → (i < at + n) → get_or now i 0 ≡ byte = λ i low high.
    overwritten-inside bytes at piece fits_piece i low (omega (arith, piece_long, high)) ∙ get_or-replicate n (i - at) byte 0 (omega (arith, low, high)) in
    record {
      long = noise.long ∙ now_long;
      noisy = λ i low is_open. ⊎_elim
          (λ within. elim (cases_eq (get_or image i 0) byte) [
            | inl same ↦ same
            | inr other ↦ absurd (other (noise.kept i (λ earlier. other (noise.noisy i (omega (arith, low, now_long)) earlier)) ∙ filled i within.0 within.1))
          ])
          (λ earlier. noise.noisy i (omega (arith, low, now_long)) earlier)
          (open_by e es i (Some (at, n)) is is_open);
      kept = λ i shut.
          noise.kept i (λ earlier. shut (by_open e es i (Some (at, n)) is (inr earlier)))
          ∙ elim (cases_range at (length piece) i) [
            | inl within ↦ absurd (shut (by_open e es i (Some (at, n)) is (inl (within.0, omega (arith, within.1, piece_long)))))
            | inr outside ↦ overwritten-outside bytes at piece fits_piece i outside
          ];
    }

-- the bytes of the last sync are an image
synced_long : (bytes : List ℕ) (events : List Event) → AllLieWithin (length bytes) events → length (as_synced bytes events) ≡ length bytes
synced_long bytes [] reach = refl
synced_long bytes (e ∷ es) reach =
    let before = undone e.change bytes in
    let long = undone_long e.change bytes (reach_first (length bytes) e es reach) in
    let rest = synced_long before es (subst (λ n. AllLieWithin n es) (sym long) (reach_rest (length bytes) e es reach)) in
    elim (is_some (range_of e.change)) as (λ b. length (cond b (as_synced before es) bytes) ≡ length bytes) [ true ↦ rest ∙ long | false ↦ refl ]

synced_kept : (bytes : List ℕ) (events : List Event) → AllLieWithin (length bytes) events → (i : ℕ) → (IsOpen events i → ⊥) → get_or (as_synced bytes events) i 0 ≡ get_or bytes i 0
synced_kept bytes [] reach i shut = refl
synced_kept bytes (e ∷ es) reach i shut =
    let before = undone e.change bytes in
    let here = reach_first (length bytes) e es reach in
    let long = undone_long e.change bytes here in
    let rest = synced_kept before es (subst (λ n. AllLieWithin n es) (sym long) (reach_rest (length bytes) e es reach)) i in
    elim (range_of e.change) as (λ o. range_of e.change ≡ o → get_or (cond (is_some o) (as_synced before es) bytes) i 0 ≡ get_or bytes i 0) [
      | None ↦ λ is. refl
      | Some range ↦ λ is.
          rest (λ earlier. shut (by_open e es i (Some range) is (inr earlier)))
          ∙ elim (cases_range range.0 range.1 i) [
            | inl within ↦ absurd (shut (by_open e es i (Some range) is (inl within)))
            | inr outside ↦ undone_outside e.change bytes here range is i outside
          ]
    ] refl

-- what is picked is an image
pub picked_image : (pick : Pick) (bytes : List ℕ) (events : List Event) (image : List ℕ) → AllLieWithin (length bytes) events → All (λ x. x < 2 ^ 8) image
    → IsPicked pick bytes events image → IsImage bytes events image
picked_image Old bytes events image reach fit is = record {
  long = ap length is ∙ synced_long bytes events reach;
  fit = fit;
  kept = λ i shut. ap (λ (l : List ℕ). get_or l i 0) is ∙ synced_kept bytes events reach i shut;
}
picked_image New bytes events image reach fit is = record {
  long = ap length is;
  fit = fit;
  kept = λ i shut. ap (λ (l : List ℕ). get_or l i 0) is;
}
picked_image (Noise byte) bytes events image reach fit is = record { long = is.long; fit = fit; kept = is.kept }

-- and an image of a moment before some call is one since the first
pub moment_since : (before : ℕ) (bytes : List ℕ) (events : List Event) (image : List ℕ)
    → IsImage (rewound before bytes events).0 (rewound before bytes events).1 image → IsImageSince 0 bytes events image
moment_since before bytes [] image = λ h. h
moment_since before bytes (e ∷ es) image =
    let earlier = rewound before (undone e.change bytes) es in
    elim (ltb e.call before) as (λ b. IsImage (cond b (bytes, e ∷ es) earlier).0 (cond b (bytes, e ∷ es) earlier).1 image → IsImageSince 0 bytes (e ∷ es) image) [
      | true ↦ λ h. inl h
      | false ↦ λ h. inr (omega arith, moment_since before (undone e.change bytes) es image h)
    ]

-- the steps of the loops that go over the events from the newest back
pub reach_of : (size : ℕ) (rest earlier : List Event) (e : Event) → rest ≡ earlier ++ e ∷ [] → AllLieWithin size (reverse rest) → LiesWithin e.change size × AllLieWithin size (reverse earlier)
reach_of size rest earlier e is reach =
    let here = subst (λ (es : List Event). AllLieWithin size es) (last_first rest earlier e is) reach in
    (reach_first size e (reverse earlier) here, reach_rest size e (reverse earlier) here)

pub reach_undone : (bytes now : List ℕ) (e : Event) (es : List Event) → now ≡ undone e.change bytes → LiesWithin e.change (length bytes) → AllLieWithin (length bytes) es → AllLieWithin (length now) es
reach_undone bytes now e es is reach rest = subst (λ n. AllLieWithin n es) (sym (ap length is ∙ undone_long e.change bytes reach)) rest

pub rewound_more : (before : ℕ) (bytes now : List ℕ) (rest earlier : List Event) (e : Event) → rest ≡ earlier ++ e ∷ [] → now ≡ undone e.change bytes → before ≤ e.call
    → rewound before now (reverse earlier) ≡ rewound before bytes (reverse rest)
rewound_more before bytes now rest earlier e is undo le =
    ap (λ (l : List ℕ). rewound before l (reverse earlier)) undo
    ∙ sym (ap (λ b. cond b (bytes, e ∷ reverse earlier) (rewound before (undone e.change bytes) (reverse earlier))) (le-ltb e.call before le))
    ∙ ap (λ (es : List Event). rewound before bytes es) (sym (last_first rest earlier e is))

pub synced_more : (bytes now : List ℕ) (rest earlier : List Event) (e : Event) → rest ≡ earlier ++ e ∷ [] → now ≡ undone e.change bytes → is_some (range_of e.change) ≡ true
    → as_synced now (reverse earlier) ≡ as_synced bytes (reverse rest)
synced_more bytes now rest earlier e is undo some =
    ap (λ (l : List ℕ). as_synced l (reverse earlier)) undo
    ∙ sym (ap (λ b. cond b (as_synced (undone e.change bytes) (reverse earlier)) bytes) some)
    ∙ ap (λ (es : List Event). as_synced bytes es) (sym (last_first rest earlier e is))

pub noise_step : (byte : ℕ) (bytes now : List ℕ) (rest earlier : List Event) (e : Event) (at n : ℕ) (image : List ℕ) → rest ≡ earlier ++ e ∷ [] → range_of e.change ≡ Some (at, n)
    → at + n ≤ length bytes → now ≡ overwritten bytes at (replicate n byte) → IsNoise byte now (reverse earlier) image → IsNoise byte bytes (reverse rest) image
noise_step byte bytes now rest earlier e at n image is range fits filled noise =
    subst (λ (es : List Event). IsNoise byte bytes es image) (sym (last_first rest earlier e is))
    (noise_more byte bytes e (reverse earlier) at n image range fits (subst (λ (l : List ℕ). IsNoise byte l (reverse earlier) image) filled noise))

-- where no event is left, and where the last one is a sync, no place is open
pub noise_end : (byte : ℕ) (bytes : List ℕ) (rest : List Event) → length rest ≡ 0 → IsNoise byte bytes (reverse rest) bytes
noise_end byte bytes [] none = noise_none byte bytes
noise_end byte bytes (e ∷ es) none = absurd (omega arith)

pub noise_stop : (byte : ℕ) (bytes : List ℕ) (rest earlier : List Event) (e : Event) → rest ≡ earlier ++ e ∷ [] → range_of e.change ≡ None → IsNoise byte bytes (reverse rest) bytes
noise_stop byte bytes rest earlier e is closed = subst (λ (es : List Event). IsNoise byte bytes es bytes) (sym (last_first rest earlier e is)) (noise_synced byte bytes e (reverse earlier) closed)

pub reach_range : (size : ℕ) (e : Event) (at n : ℕ) → range_of e.change ≡ Some (at, n) → LiesWithin e.change size → at + n ≤ size
reach_range size e at n is reach = at_value (range_of e.change) (λ range. range.0 + range.1 ≤ size) (at, n) is reach
