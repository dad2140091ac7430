-- What a crash leaves in each step of the writing of a superblock.
use Rattle.std.proofs.Common.{◌≡◌, ◌≢◌, inl, inr, ℕ, ◌+◌, ◌-◌, ◌%◌, ◌≤◌, List, [], ◌∷◌, length, take, drop, get_or, Option, Some, None, IsSome, Result, Ok, refl, sym, ap, ◌∙◌, subst, arith}
use Rattle.std.proofs.Math.Dec.{eqb}
use Rattle.std.proofs.lemmas.Bool.{cases_Bool, eqb-true, eqb-false}
use Rattle.std.proofs.lemmas.List.{ext_get_or}
use Rattle.hb_disk.specs.Model.{DiskModel, IsDisk, overwritten, Torn}
use Rattle.hb_disk.specs.Calls.{Writes, Syncs, Leaves, Becomes, IsSynced, FrameOrNot, Apart, open_gate}
use Rattle.hb_disk.specs.Runs.{Rewrites, WritesThrough}
use Rattle.hb_disk.proofs.Facts.TornLaws.{cases_range, Torn-itself, Torn-wider, Torn-twice, Torn-elsewhere}
use Rattle.hb_disk.proofs.Facts.OverwrittenLaws.{length-overwritten, overwritten-inside, overwritten-outside, overwritten-reads}
use Rattle.hb_disk.proofs.Facts.RunLaws.{Leaves-start, Leaves-call, Leaves-weaker, Leaves-then}
use Rattle.hb_lemmas.proofs.Options.{some_value, at_value}
use Rattle.std.proofs.lemmas.Option.{same_Some}
use Rattle.hb_disk.proofs.Facts.BecomesLaws.{told_written}
use Rattle.hb_disk.proofs.Facts.RewriteLaws.{Rewrites-write, Rewrites-sync, Rewrites-torn, WritesThrough-after}
use Rattle.hb_disk.proofs.Facts.SyncedLaws.{only_told, part_of}
use Rattle.hb_layout.specs.declared.meta.Meta.{Meta}
use Rattle.hb_layout.specs.Offsets.{slot_offset}
use Rattle.hb_super.specs.Superblocks.{IsLegal, HasSuper, IsNewest, body_bytes, next_turn}
use Rattle.hb_super.specs.Moments.{WriteLeaves, IsUncovered}
use Rattle.hb_super.proofs.Supers.{gate_at, body_at, same_place, after_other}
use Rattle.hb_super.proofs.Bodies.{known_body}
use Rattle.hb_super.proofs.Facts.Gates.{never_both}
use Rattle.hb_super.proofs.Facts.BodyLaws.{frame_long}

-- a place lies in the first two pages
pub place_fits : (turn : ℕ) → slot_offset turn + 41 ≤ 8192
place_fits turn = omega arith

-- the places of a turn and the next
pub next_apart : (turn old : ℕ) → turn ≡ next_turn old → turn % 2 ≢ old % 2
next_apart turn old next = omega (arith, next)

pub places_apart : (turn old : ℕ) → turn ≡ next_turn old → Apart (slot_offset old) 41 (slot_offset turn) 41
places_apart turn old next = elim (cases_Bool (eqb (old % 2) 0)) [
  | inl even ↦ inl (omega (arith, next, eqb-true (old % 2) 0 even))
  | inr odd ↦ inr (omega (arith, next, eqb-false (old % 2) 0 odd))
]

-- a turn of the same place as the next is the next, or comes before the old
before_old : (turn old other : ℕ) → turn ≡ next_turn old → old ≤ 3 → other ≤ 3 → other % 2 ≢ old % 2 → other ≢ turn → old ≡ next_turn other
before_old turn old other next old_fits other_fits differs not_it = omega (arith, next, old_fits, other_fits, differs, not_it)

-- bytes with a frame in their place
module _ (bytes : List ℕ) (turn : ℕ) (meta : Meta) (legal : IsLegal turn meta) (long : 8192 ≤ length bytes) where
  abbrev frame : List ℕ
  frame = open_gate ∷ body_bytes turn meta

  fits : slot_offset turn + length frame ≤ length bytes
  fits = omega (arith, long, frame_long turn meta, place_fits turn)

  pub framed_super : HasSuper (overwritten bytes (slot_offset turn) frame) turn meta
  framed_super =
      let whole = overwritten bytes (slot_offset turn) frame in
      let read : take 41 (drop (slot_offset turn) whole) ≡ frame =
      ap (λ (n : ℕ). take n (drop (slot_offset turn) whole)) (sym (frame_long turn meta)) ∙ overwritten-reads bytes (slot_offset turn) frame fits in
      record {
        legal = legal;
        gate = sym (gate_at whole (slot_offset turn)) ∙ ap (λ (l : List ℕ). get_or l 0 0) read;
        body = sym (body_at whole (slot_offset turn)) ∙ ap (λ (l : List ℕ). drop 1 l) read;
      }

  -- the closed gate is overwritten too
  pub overwritten_again : overwritten (overwritten bytes (slot_offset turn) (0 ∷ [])) (slot_offset turn) frame ≡ overwritten bytes (slot_offset turn) frame
  overwritten_again =
      let closed = overwritten bytes (slot_offset turn) (0 ∷ []) in
      let one_fits : slot_offset turn + length {A = ℕ} (0 ∷ []) ≤ length bytes = omega (arith, fits) in
      let as_long : length closed ≡ length bytes = length-overwritten bytes (slot_offset turn) (0 ∷ []) one_fits in
      let still : slot_offset turn + length frame ≤ length closed = omega (arith, as_long, fits) in
      ext_get_or 0 (overwritten closed (slot_offset turn) frame) (overwritten bytes (slot_offset turn) frame)
      (length-overwritten closed (slot_offset turn) frame still ∙ as_long ∙ sym (length-overwritten bytes (slot_offset turn) frame fits))
      (λ i h. elim (cases_range (slot_offset turn) (length frame) i) [
        | inl within ↦ overwritten-inside closed (slot_offset turn) frame still i within.0 within.1 ∙ sym (overwritten-inside bytes (slot_offset turn) frame fits i within.0 within.1)
        | inr outside ↦
            overwritten-outside closed (slot_offset turn) frame still i outside
            ∙ overwritten-outside bytes (slot_offset turn) (0 ∷ []) one_fits i (elim outside [ inl front ↦ inl front | inr behind ↦ inr (omega (arith, behind)) ])
            ∙ sym (overwritten-outside bytes (slot_offset turn) frame fits i outside)
      ])

  pub closed_gate : get_or (overwritten bytes (slot_offset turn) (0 ∷ [])) (slot_offset turn) 0 ≡ 0
  closed_gate =
      overwritten-inside bytes (slot_offset turn) (0 ∷ []) (omega (arith, fits)) (slot_offset turn) (omega arith) (omega arith)
      ∙ ap (λ (i : ℕ). get_or (0 ∷ []) i 0) (none_left (slot_offset turn))
    where
      none_left : (i : ℕ) → i - i ≡ 0
      none_left i = omega arith

-- a frame that was written at this place, with these bytes, is that of this turn
pub framed_wrote : {T E : Type 0} (r : Result T E) (d new : DiskModel) (turn : ℕ) (meta : Meta) (at : ℕ) (bytes : List ℕ) → at ≡ slot_offset turn → bytes ≡ body_bytes turn meta
    → WritesThrough (λ b. overwritten b at (open_gate ∷ bytes)) (Torn at (1 + length bytes)) 4 r d new
    → WritesThrough (λ b. overwritten b (slot_offset turn) (open_gate ∷ body_bytes turn meta)) (Torn (slot_offset turn) 41) 4 r d new
framed_wrote r d new turn meta at bytes at_is bytes_are wrote =
    subst (λ (n : ℕ). WritesThrough (λ b. overwritten b (slot_offset turn) (open_gate ∷ body_bytes turn meta)) (Torn (slot_offset turn) n) 4 r d new) (let long : 1 + length (body_bytes turn meta) ≡ 41 = omega (arith, frame_long turn meta) in long)
    (subst (λ (place : ℕ). WritesThrough (λ b. overwritten b place (open_gate ∷ body_bytes turn meta)) (Torn place (1 + length (body_bytes turn meta))) 4 r d new) at_is
    (subst (λ (body : List ℕ). WritesThrough (λ b. overwritten b at (open_gate ∷ body)) (Torn at (1 + length body)) 4 r d new) bytes_are wrote))

module _ (d : DiskModel) (is_disk : IsDisk d) (room : 8192 ≤ d.size) (turn : ℕ) (meta : Meta) (legal : IsLegal turn meta) where
  abbrev place : ℕ
  place = slot_offset turn

  abbrev body : List ℕ
  body = body_bytes turn meta

  long : (c : List ℕ) → d.Image c → 8192 ≤ length c
  long c image = omega (arith, is_disk.long c image, room)

  module _ (old : ℕ) (said : Meta) (next : turn ≡ next_turn old) (synced : IsSynced d 0 8192) (b : List ℕ) (told : d.told ≡ Some b) (newest : IsNewest b old said) where
    abbrev Left : List ℕ → Type 0
    Left = WriteLeaves d b old said turn meta

    -- a part of an image that lies in the two places
    image_part : (a : List ℕ) → d.Image a → (at n : ℕ) → at + n ≤ 8192 → take n (drop at a) ≡ take n (drop at b)
    image_part a image at n within = part_of 0 8192 at n a b (omega arith) within (synced.each b a told image)

    old_there : (a c : List ℕ) → d.Image a → Torn place 41 a c → HasSuper c old said
    old_there a c image torn =
        same_place b c old said
        (Torn-elsewhere place 41 (slot_offset old) 41 a c (places_apart turn old next) torn ∙ image_part a image (slot_offset old) 41 (place_fits old))
        newest.there

    -- the old one is the newest where the other place has none of the new turn
    old_newest : (a c : List ℕ) → d.Image a → Torn place 41 a c → ((m : Meta) → HasSuper c turn m → ⊥) → IsNewest c old said
    old_newest a c image torn none = record {
      there = old_there a c image torn;
      newer = λ other m has differs. before_old turn old other next newest.there.legal.turn_fits has.legal.turn_fits differs
          (λ e. none m (subst (λ (t : ℕ). HasSuper c t m) e has));
    }

    closed_left : (a c : List ℕ) → d.Image a → Torn place 41 a c → get_or c place 0 ≢ open_gate → Left c
    closed_left a c image torn closed = record {
      base = a;
      image = image;
      elsewhere = torn;
      newest = inl (old_newest a c image torn (λ m has. closed has.gate));
    }

    -- the gate is torn, and what stands behind it is as it was
    module _ (a c : List ℕ) (image : d.Image a) (torn : Torn place 1 a c) where
      wide : Torn place 41 a c
      wide = Torn-wider place 1 place 41 a c (omega arith) (omega arith) torn

      body_kept : take 40 (drop (place + 1) c) ≡ take 40 (drop (place + 1) b)
      body_kept = Torn-elsewhere place 1 (place + 1) 40 a c (inr (omega arith)) torn ∙ image_part a image (place + 1) 40 (omega (arith, place_fits turn))

      uncovered : get_or c place 0 ≡ open_gate → (m : Meta) → IsLegal turn m → take 40 (drop (place + 1) c) ≡ body_bytes turn m → IsUncovered b turn c
      uncovered is_open m m_legal is = record {
        said = m;
        closed = λ was_open. never_both turn old next
            (newest.newer turn m (record { legal = m_legal; gate = was_open; body = sym body_kept ∙ is }) (next_apart turn old next));
        body = sym body_kept ∙ is;
        newest = after_other c turn old m said (record { legal = m_legal; gate = is_open; body = is }) (old_there a c image wide) (next_apart turn old next) next;
      }

      pub gate_left : Left c
      gate_left = record {
        base = a;
        image = image;
        elsewhere = wide;
        newest = elim (cases_Bool (eqb (get_or c place 0) open_gate)) [
          | inl is_open ↦ elim (known_body (take 40 (drop (place + 1) c)) turn) [
            | inl has ↦ inr (inr (uncovered (eqb-true (get_or c place 0) open_gate is_open) has.0 has.1 has.2))
            | inr none ↦ inl (old_newest a c image wide (λ m has. none (m, has.legal, has.body)))
          ]
          | inr closed ↦ inl (old_newest a c image wide (λ m has. eqb-false (get_or c place 0) open_gate closed has.gate))
        ];
      }

    pub start_left : (c : List ℕ) → d.Image c → Left c
    start_left c image = gate_left c c image (Torn-itself place 1 c (is_disk.bytes c image))

    -- the frame is whole behind its open gate, or the gate is closed
    framed_left : (a e c : List ℕ) → d.Image a → Torn place 1 a e → FrameOrNot place body e c → Left c
    framed_left a e c image torn framed =
        let e_long : 8192 ≤ length e = omega (arith, torn.as_long, long a image) in
        let elsewhere : Torn place 41 e c = subst (λ (n : ℕ). Torn place n e c) (let long : 1 + length (body_bytes turn meta) ≡ 41 = omega (arith, frame_long turn meta) in long) framed.elsewhere in
        let wide : Torn place 41 a c = Torn-twice place 41 a e c (Torn-wider place 1 place 41 a e (omega arith) (omega arith) torn) elsewhere in
        elim (cases_Bool (eqb (get_or c place 0) open_gate)) [
          | inl is_open ↦
              let whole : c ≡ overwritten e place (open_gate ∷ body) = framed.whole (eqb-true (get_or c place 0) open_gate is_open) in
              let here : HasSuper c turn meta = subst (λ (l : List ℕ). HasSuper l turn meta) (sym whole) (framed_super e turn meta legal e_long) in
              record {
                base = a;
                image = image;
                elsewhere = wide;
                newest = inr (inl (after_other c turn old meta said here (old_there a c image wide) (next_apart turn old next) next));
              }
          | inr closed ↦ closed_left a c image wide (eqb-false (get_or c place 0) open_gate closed)
        ]

    module _ {T E : Type 0} (first : Result T E) (one : DiskModel) (gate_written : Writes place (0 ∷ []) first d one) where
      pub run_one : Leaves d one Left
      run_one = Leaves-call first d d one Left (Leaves-start d Left is_disk start_left) gate_written.ticks
          (λ c image. let from = gate_written.crash c image in gate_left from.0 c from.1 from.2)

      module _ (second : Result T E) (two : DiskModel) (gate_synced : Syncs second one two) where
        pub run_two : Leaves d two Left
        run_two = Leaves-call second d one two Left run_one gate_synced.ticks
            (λ c image. let from = gate_written.crash c (gate_synced.crash c image) in gate_left from.0 c from.1 from.2)

        pub run_all : (new : DiskModel) → Leaves two new (λ c. (e : List ℕ) × two.Image e × FrameOrNot place body e c) → Leaves d new Left
        run_all new run = Leaves-then d two new Left run_two
            (Leaves-weaker two new (λ c. (e : List ℕ) × two.Image e × FrameOrNot place body e c) Left
            (λ c framed.
            let from = gate_written.crash framed.0 (gate_synced.crash framed.0 framed.1) in
            framed_left from.0 framed.0 c from.1 from.2 framed.2) run)

        -- the same where the frame was written at this place, with these bytes
        pub run_behind : (new : DiskModel) (at : ℕ) (bytes : List ℕ) → at ≡ place → bytes ≡ body
            → Leaves two new (λ c. (e : List ℕ) × two.Image e × FrameOrNot at bytes e c) → Leaves d new Left
        run_behind new at bytes at_is bytes_are run =
            run_all new (subst (λ (n : ℕ). Leaves two new (λ c. (e : List ℕ) × two.Image e × FrameOrNot n body e c)) at_is
            (subst (λ (l : List ℕ). Leaves two new (λ c. (e : List ℕ) × two.Image e × FrameOrNot at l e c)) bytes_are run))

  -- What a read then gives.
  module _ {T E : Type 0} (first : Result T E) (v : T) (first_ok : first ≡ Ok v) (one : DiskModel) (gate_written : Writes place (0 ∷ []) first d one)
      (second : Result T E) (w : T) (second_ok : second ≡ Ok w) (two : DiskModel) (gate_synced : Syncs second one two) where
    closed_told : (b : List ℕ) → d.told ≡ Some b → one.told ≡ Some (overwritten b place (0 ∷ []))
    closed_told b told = told_written first v place (0 ∷ []) d one b first_ok told gate_written

    pub gate_closed : IsSome two.told → (c : List ℕ) → two.Image c → get_or c place 0 ≢ open_gate
    gate_closed tells c image = by_cases d.told refl
      where
        by_cases : (o : Option (List ℕ)) → d.told ≡ o → get_or c place 0 ≢ open_gate
        by_cases None none =
            let some = some_value two.told tells in
            absurd (cc (sym some.1 ∙ gate_synced.same ∙ gate_written.silent none))
        by_cases (Some b) told =
            let only : c ≡ overwritten b place (0 ∷ []) = only_told second w one two (overwritten b place (0 ∷ [])) second_ok (closed_told b told) gate_synced c image in
            λ is_open. cc (sym (ap (λ (l : List ℕ). get_or l place 0) only ∙ closed_gate b turn meta legal (long b (is_disk.as_read b told))) ∙ is_open)

  -- the place alone was touched
  module _ {T E : Type 0} (first : Result T E) (one : DiskModel) (is_one : IsDisk one) (gate_written : Writes place (0 ∷ []) first d one) where
    pub wrote_one : Rewrites (Torn place 41) 1 first d one
    wrote_one = Rewrites-write first place (0 ∷ []) place 41 d one is_disk is_one (omega (arith, room, place_fits turn)) (omega arith) (omega arith) gate_written

    module _ (v : T) (first_ok : first ≡ Ok v) (second : Result T E) (two : DiskModel) (gate_synced : Syncs second one two) where
      pub wrote_two : Rewrites (Torn place 41) 2 second d two
      wrote_two = Rewrites-torn first second place 41 1 1 d one two v first_ok wrote_one (Rewrites-sync second place 41 one two is_one gate_synced)

      pub wrote_behind : (w : T) → second ≡ Ok w → {F G : Type 0} (last : Result F G) (new : DiskModel) (at : ℕ) (bytes : List ℕ) → at ≡ place → bytes ≡ body
          → WritesThrough (λ b. overwritten b at (open_gate ∷ bytes)) (Torn at (1 + length bytes)) 4 last two new
          → WritesThrough (λ b. overwritten b place (open_gate ∷ body)) (Torn place 41) 6 last d new
      wrote_behind w second_ok last new at bytes at_is bytes_are wrote =
          WritesThrough-after second w last (λ b. overwritten b place (0 ∷ [])) (λ b. overwritten b place (open_gate ∷ body)) (λ b. overwritten b place (open_gate ∷ body)) place 41 2 4 d two new second_ok wrote_two
          (λ b told. gate_synced.same ∙ closed_told first v first_ok one gate_written second w second_ok two gate_synced b told)
          (λ b told. overwritten_again b turn meta legal (long b (is_disk.as_read b told)))
          (framed_wrote last two new turn meta at bytes at_is bytes_are wrote)

  -- the new one is the newest
  pub newest_written : (old : ℕ) (said : Meta) → turn ≡ next_turn old → (b : List ℕ) → d.told ≡ Some b → IsNewest b old said → (new : DiskModel) → Becomes (Torn place 41) d new
      → new.told ≡ Some (overwritten b place (open_gate ∷ body)) → IsNewest (overwritten b place (open_gate ∷ body)) turn meta
  newest_written old said next b told newest new run new_told =
      let c = overwritten b place (open_gate ∷ body) in
      let after = at_value d.told (λ b. (c : List ℕ) × (new.told ≡ Some c) × Torn place 41 b c) b told run.told in
      let same : after.0 ≡ c = same_Some after.0 c (sym after.1 ∙ new_told) in
      let torn : Torn place 41 b c = subst (λ (l : List ℕ). Torn place 41 b l) same after.2 in
      after_other c turn old meta said
      (framed_super b turn meta legal (long b (is_disk.as_read b told)))
      (same_place b c old said (Torn-elsewhere place 41 (slot_offset old) 41 b c (places_apart turn old next) torn) newest.there)
      (next_apart turn old next) next
