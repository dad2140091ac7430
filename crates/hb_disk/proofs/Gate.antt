-- What a crash leaves in each step of a write behind a gate.
use Rattle.std.proofs.Common.{◌≡◌, ◌≢◌, inl, inr, ℕ, ◌+◌, ◌<◌, ◌≤◌, List, [], ◌∷◌, length, get_or, Some, Result, Ok, refl, sym, ap, ◌∙◌, subst, arith}
use Rattle.hb_disk.specs.Model.{DiskModel, IsDisk, overwritten, Torn}
use Rattle.hb_disk.specs.Calls.{Writes, Syncs, Leaves, FrameOrNot, open_gate}
use Rattle.hb_disk.specs.Runs.{Rewrites}
use Rattle.hb_disk.proofs.Facts.TornLaws.{Torn-from, Torn-same, Torn-wider}
use Rattle.hb_disk.proofs.Facts.OverwrittenLaws.{length-overwritten, overwritten-outside, overwritten-from}
use Rattle.hb_disk.proofs.Facts.TwoPieceLaws.{overwritten-joined}
use Rattle.hb_disk.proofs.Facts.RunLaws.{Leaves-start, Leaves-call}
use Rattle.hb_disk.proofs.Facts.BecomesLaws.{told_written}
use Rattle.hb_disk.proofs.Facts.RewriteLaws.{Rewrites-write, Rewrites-sync, Rewrites-torn}
use Rattle.hb_disk.proofs.Facts.SyncedLaws.{only_told}

module _ (old : DiskModel) (gate : ℕ) (body : List ℕ) where
  -- an image of before, with the frame whole or a closed gate in its place
  abbrev pub Framed : List ℕ → Type 0
  Framed c = (b : List ℕ) × old.Image b × FrameOrNot gate body b c

  module _ (b : List ℕ) (told : old.told ≡ Some b) (disk : IsDisk old) (inside : gate + 1 + length body ≤ old.size)
      (closed : (c : List ℕ) → old.Image c → get_or c gate 0 ≢ open_gate) where
    fits : gate + 1 + length body ≤ length b
    fits = omega (arith, disk.long b (disk.as_read b told))

    -- nothing was written yet
    pub same_framed : (c : List ℕ) → old.Image c → Framed c
    same_framed c image = (
      c,
      image,
      record {
        elsewhere = Torn-from gate (1 + length body) c c refl (disk.bytes c image) (λ i h outside. refl);
        whole = λ is_open. absurd (closed c image is_open);
      },
    )

    -- the body is torn behind the closed gate
    pub body_framed : (a c : List ℕ) → old.Image a → Torn (gate + 1) (length body) a c → Framed c
    body_framed a c image torn = (
      a,
      image,
      record {
        elsewhere = Torn-wider (gate + 1) (length body) gate (1 + length body) a c (omega arith) (omega arith) torn;
        whole = λ is_open. absurd (closed a image (sym (Torn-same (gate + 1) (length body) a c torn gate (inl (omega arith))) ∙ is_open));
      },
    )

    -- the bytes with the body behind the closed gate
    abbrev staged : List ℕ
    staged = overwritten b (gate + 1) body

    -- where the gate is torn open the frame is whole
    pub opened : (c : List ℕ) → Torn gate 1 staged c → get_or c gate 0 ≡ open_gate → c ≡ overwritten b gate (open_gate ∷ body)
    opened c torn is_open =
        overwritten-from staged gate (open_gate ∷ []) (omega (arith, fits, length-overwritten b (gate + 1) body fits)) c torn (λ i h. at_gate c is_open i h)
        ∙ overwritten-joined b gate (open_gate ∷ []) body fits
      where
        at_gate : (c : List ℕ) → get_or c gate 0 ≡ open_gate → (i : ℕ) → i < 1 → get_or c (gate + i) 0 ≡ get_or (open_gate ∷ []) i 0
        at_gate c is_open i h =
            let first : i ≡ 0 = omega arith in
            let here : gate + i ≡ gate = omega arith in
            ap (λ (j : ℕ). get_or c j 0) here ∙ is_open ∙ ap (λ (j : ℕ). get_or (open_gate ∷ []) j 0) (sym first)

    pub gate_framed : (c : List ℕ) → Torn gate 1 staged c → Framed c
    gate_framed c torn = (
      b,
      disk.as_read b told,
      record {
        elsewhere = Torn-from gate (1 + length body) b c (torn.as_long ∙ length-overwritten b (gate + 1) body fits) torn.bytes (λ i h outside.
            Torn-same gate 1 staged c torn i (elim outside [ inl front ↦ inl front | inr behind ↦ inr (omega arith) ])
            ∙ overwritten-outside b (gate + 1) body fits i (elim outside [ inl front ↦ inl (omega arith) | inr behind ↦ inr (omega arith) ]));
        whole = opened c torn;
      },
    )

    module _ {T E : Type 0} (first : Result T E) (one : DiskModel) (body_written : Writes (gate + 1) body first old one) where
      pub run_one : Leaves old one Framed
      run_one = Leaves-call first old old one Framed (Leaves-start old Framed disk same_framed) body_written.ticks
          (λ c image. let from = body_written.crash c image in body_framed from.0 c from.1 from.2)

      module _ (second : Result T E) (two : DiskModel) (body_synced : Syncs second one two) where
        pub run_two : Leaves old two Framed
        run_two = Leaves-call second old one two Framed run_one body_synced.ticks
            (λ c image. let from = body_written.crash c (body_synced.crash c image) in body_framed from.0 c from.1 from.2)

        module _ (v w : T) (first_ok : first ≡ Ok v) (second_ok : second ≡ Ok w) (third : Result T E) (three : DiskModel) (gate_written : Writes gate (open_gate ∷ []) third two three) where
          staged_told : two.told ≡ Some staged
          staged_told = body_synced.same ∙ told_written first v (gate + 1) body old one b first_ok told body_written

          three_framed : (c : List ℕ) → three.Image c → Framed c
          three_framed c image =
              let from = gate_written.crash c image in
              let is : from.0 ≡ staged = only_told second w one two staged second_ok (told_written first v (gate + 1) body old one b first_ok told body_written) body_synced from.0 from.1 in
              gate_framed c (subst (λ (l : List ℕ). Torn gate 1 l c) is from.2)

          pub run_three : Leaves old three Framed
          run_three = Leaves-call third old two three Framed run_two gate_written.ticks three_framed

          pub run_four : (last : Result T E) (new : DiskModel) → Syncs last three new → Leaves old new Framed
          run_four last new gate_synced = Leaves-call last old three new Framed run_three gate_synced.ticks (λ c image. three_framed c (gate_synced.crash c image))

          -- what a read gives once the gate is open
          pub three_told : (u : T) → third ≡ Ok u → three.told ≡ Some (overwritten b gate (open_gate ∷ body))
          three_told u third_ok =
              told_written third u gate (open_gate ∷ []) two three staged third_ok staged_told gate_written
              ∙ ap Some (overwritten-joined b gate (open_gate ∷ []) body fits)

  -- the calls touched the frame's range alone
  abbrev pub InFrame : List ℕ → List ℕ → Type 0
  InFrame = Torn gate (1 + length body)

  module _ (disk : IsDisk old) (inside : gate + 1 + length body ≤ old.size) (one : DiskModel) (is_one : IsDisk one) {T E : Type 0}
      (first : Result T E) (body_written : Writes (gate + 1) body first old one) where
    pub wrote_one : Rewrites InFrame 1 first old one
    wrote_one = Rewrites-write first (gate + 1) body gate (1 + length body) old one disk is_one inside (omega arith) (omega arith) body_written

    module _ (v : T) (first_ok : first ≡ Ok v) (second : Result T E) (two : DiskModel) (body_synced : Syncs second one two) where
      pub wrote_two : Rewrites InFrame 2 second old two
      wrote_two = Rewrites-torn first second gate (1 + length body) 1 1 old one two v first_ok wrote_one (Rewrites-sync second gate (1 + length body) one two is_one body_synced)

      module _ (w : T) (second_ok : second ≡ Ok w) (is_two : IsDisk two) (third : Result T E) (three : DiskModel) (is_three : IsDisk three)
          (gate_written : Writes gate (open_gate ∷ []) third two three) where
        pub wrote_three : Rewrites InFrame 3 third old three
        wrote_three = Rewrites-torn second third gate (1 + length body) 2 1 old two three w second_ok wrote_two
            (Rewrites-write third gate (open_gate ∷ []) gate (1 + length body) two three is_two is_three (omega (arith, body_synced.ticks.size, body_written.ticks.size, inside)) (omega arith) (omega arith) gate_written)

        pub wrote_four : (x : T) → third ≡ Ok x → (last : Result T E) (new : DiskModel) → Syncs last three new → Rewrites InFrame 4 last old new
        wrote_four x third_ok last new gate_synced =
            Rewrites-torn third last gate (1 + length body) 3 1 old three new x third_ok wrote_three (Rewrites-sync last gate (1 + length body) three new is_three gate_synced)
