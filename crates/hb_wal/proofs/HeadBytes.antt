-- What five bytes at a place tell of the frame that begins there.
use Rattle.std.proofs.Common.{◌≡◌, ◌≢◌, ◌⊎◌, inl, inr, ℕ, ◌+◌, ◌-◌, ◌^◌, ◌<◌, ◌≤◌, List, [], ◌∷◌, ◌++◌, length, get_or, take, drop, sym, ap, ◌∙◌, subst, arith, append_assoc, length-take, length-drop}
use Rattle.std.proofs.lemmas.List.{take-take, drop-take, drop-drop, take-append-drop, drop_more, get_or-take}
use Rattle.hb_lemmas.specs.Numbers.{big_endian}
use Rattle.hb_disk.specs.Calls.{open_gate}
use Rattle.hb_wal.specs.Frames.{IsEnd, IsBadFrame, range}
use Rattle.hb_wal.specs.Reading.{BeginsFrame}
use Rattle.hb_wal.proofs.Facts.AreaBytes.{length-range}

-- a few bytes are an end
pub few_end : (rest : List ℕ) → length rest < 5 → IsEnd rest
few_end [] few = tt
few_end (gate ∷ rest) few = inl (omega (arith, few))

module _ (b : List ℕ) (at left : ℕ) (inside : at + left ≤ length b) where
  abbrev rest : List ℕ
  rest = range at left b

  count : length rest ≡ left
  count = length-range at left b inside

  pub short_end : left < 5 → IsEnd rest
  short_end few = few_end rest (omega (arith, count, few))

  module _ (enough : 5 ≤ left) where
    head : take 5 rest ≡ take 5 (drop at b)
    head = take-take 5 left (drop at b) enough

    pub closed_gate_end : get_or (take 5 (drop at b)) 0 0 ≢ open_gate → IsEnd rest
    closed_gate_end closed =
        let first : get_or rest 0 0 ≡ get_or (take 5 (drop at b)) 0 0 = sym (get_or-take 5 rest 0 0 (omega arith)) ∙ ap (λ (l : List ℕ). get_or l 0 0) head in
        subst IsEnd (sym (drop_more rest 0 0 (omega (arith, count, enough)))) (inr (λ e. closed (sym first ∙ e)))

    module _ (len : ℕ) (fits : len < 2 ^ 32) (is : take 5 (drop at b) ≡ open_gate ∷ big_endian 4 len) where
      pub bad_frame : (len ≡ 0) ⊎ (left - 5 < len) → IsBadFrame rest
      bad_frame bad = record {
        len = len;
        behind = drop 5 rest;
        fits = fits;
        bytes = sym (take-append-drop 5 rest) ∙ ap (λ (l : List ℕ). l ++ drop 5 rest) (head ∙ is);
        bad = elim bad [ inl none ↦ inl none | inr long ↦ inr (omega (arith, length-drop 5 rest, count, long)) ];
      }

      module _ (some : len ≢ 0) (whole : len ≤ left - 5) where
        abbrev pub payload : List ℕ
        payload = take len (drop (at + 5) b)

        pub payload_long : length payload ≡ len
        payload_long = omega (arith, length-take len (drop (at + 5) b), length-drop (at + 5) b, inside, whole, enough)

        there : take len (drop 5 rest) ≡ payload
        there =
            let split : left ≡ 5 + (left - 5) = omega (arith, enough) in
            ap (λ (n : ℕ). take len (drop 5 (take n (drop at b)))) split
            ∙ ap (λ (l : List ℕ). take len l) (drop-take 5 (left - 5) (drop at b))
            ∙ take-take len (left - 5) (drop 5 (drop at b)) whole
            ∙ ap (λ (l : List ℕ). take len l) (drop-drop 5 at b)

        pub good_frame : BeginsFrame rest payload
        good_frame = record {
          fits = record { some = omega (arith, payload_long, some); short = omega (arith, payload_long, fits) };
          behind = drop len (drop 5 rest);
          bytes =
              sym (take-append-drop 5 rest)
              ∙ (λ i. (head ∙ is ∙ ap (λ (n : ℕ). open_gate ∷ big_endian 4 n) (sym payload_long)) i ++ (sym (take-append-drop len (drop 5 rest)) ∙ ap (λ (l : List ℕ). l ++ drop len (drop 5 rest)) there) i)
              ∙ sym (append_assoc (open_gate ∷ big_endian 4 (length payload)) payload (drop len (drop 5 rest)));
        }
