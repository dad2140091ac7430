-- How the bytes of an area are taken apart into frames.
use Rattle.std.proofs.Common.{◌≡◌, ◌≢◌, ◌⊎◌, inl, inr, ℕ, zero, suc, ◌^◌, ◌<◌, ◌≤◌, List, [], ◌∷◌, ◌++◌, length, get_or, take, drop, refl, sym, ap, ◌∙◌, subst, arith, append_assoc, length-take, length-drop}
use Rattle.std.specs.List.{All}
use Rattle.std.proofs.Math.Dec.{eqb}
use Rattle.std.proofs.lemmas.Bool.{cases_Bool, cases_lt, eqb-true, eqb-false}
use Rattle.std.proofs.lemmas.List.{drop_more, drop-drop, get_or_past, take-append-drop}
use Rattle.std.proofs.lemmas.List.Elements.{All-head, All-tail, All-cons, All-nil, All-drop, All-take, All-get_or}
use Rattle.std.proofs.lemmas.Nat.{be_bytes_4}
use Rattle.byteorder.specs.Endian.{big_number}
use Rattle.hb_lemmas.specs.Numbers.{big_endian}
use Rattle.hb_disk.specs.Calls.{open_gate}
use Rattle.hb_wal.specs.Frames.{frames, frame_bytes, IsPayload, IsEnd, IsBadFrame, HasFrames, HasBadFrame, OneWay}
use Rattle.hb_wal.proofs.Facts.FrameHeads.{head_of, no_frame_at_bad, no_head_at_end, same_frame}
use Rattle.hb_wal.proofs.HeadBytes.{few_end}

-- ---- an area is read in one way

-- what stops the reading, so that no frame stands there
abbrev Stops : List ℕ → Type 0
Stops rest = (p xs : List ℕ) → IsPayload p → rest ≡ frame_bytes p ++ xs → ⊥

-- two readings of the same bytes
same_reading : (p q : List (List ℕ)) (rest other : List ℕ) → All IsPayload p → All IsPayload q → Stops rest → Stops other → frames p ++ rest ≡ frames q ++ other → (p ≡ q) × (rest ≡ other)
same_reading [] [] rest other p_fit q_fit stops stops' e = (refl, e)
same_reading [] (y ∷ ys) rest other p_fit q_fit stops stops' e = absurd (stops y (frames ys ++ other) (All-head IsPayload y ys q_fit) (e ∙ append_assoc (frame_bytes y) (frames ys) other))
same_reading (x ∷ xs) [] rest other p_fit q_fit stops stops' e = absurd (stops' x (frames xs ++ rest) (All-head IsPayload x xs p_fit) (sym e ∙ append_assoc (frame_bytes x) (frames xs) rest))
same_reading (x ∷ xs) (y ∷ ys) rest other p_fit q_fit stops stops' e =
    let one = same_frame x y (frames xs ++ rest) (frames ys ++ other) (All-head IsPayload x xs p_fit).short (All-head IsPayload y ys q_fit).short
    (sym (append_assoc (frame_bytes x) (frames xs) rest) ∙ e ∙ append_assoc (frame_bytes y) (frames ys) other) in
    let more = same_reading xs ys rest other (All-tail IsPayload x xs p_fit) (All-tail IsPayload y ys q_fit) stops stops' one.1 in
    (λ i. one.0 i ∷ more.0 i, more.1)

at_end_stops : (rest : List ℕ) → IsEnd rest → Stops rest
at_end_stops rest end p xs fits e = no_head_at_end (length p) (p ++ xs) rest end (e ∙ head_of p xs)

at_bad_stops : (rest : List ℕ) → IsBadFrame rest → Stops rest
at_bad_stops rest bad p xs fits e = no_frame_at_bad p xs rest fits e bad

pub one_way : (area : List ℕ) → OneWay area
one_way area = record {
  frames = λ p q here there. (same_reading p q here.rest there.rest here.payloads_fit there.payloads_fit (at_end_stops here.rest here.at_end) (at_end_stops there.rest there.at_end) (sym here.bytes ∙ there.bytes)).0;
  bad = λ p q here there. (same_reading p q here.rest there.rest here.payloads_fit there.payloads_fit (at_bad_stops here.rest here.bad) (at_bad_stops there.rest there.bad) (sym here.bytes ∙ there.bytes)).0;
  not_both = λ p q here there.
      let same = same_reading p q here.rest there.rest here.payloads_fit there.payloads_fit (at_end_stops here.rest here.at_end) (at_bad_stops there.rest there.bad) (sym here.bytes ∙ there.bytes) in
      no_head_at_end there.bad.len there.bad.behind there.rest (subst IsEnd same.1 here.at_end) there.bad.bytes;
}

-- ---- every area is read

-- four bytes spell a number
abbrev number : List ℕ → ℕ
number four = big_number 4 four

spelled : (four : List ℕ) → length four ≡ 4 → ((i : ℕ) → get_or four i 0 < 256) → four ≡ big_endian 4 (number four)
unfolding big_endian
spelled four count small = sym (be_bytes_4 four (number four) count small (omega arith))

small_number : (four : List ℕ) → ((i : ℕ) → get_or four i 0 < 256) → number four < 2 ^ 32
small_number four small = omega (arith, small 0, small 1, small 2, small 3)

small_bytes : (bytes : List ℕ) → All (λ x. x < 2 ^ 8) bytes → (i : ℕ) → get_or bytes i 0 < 256
small_bytes bytes all i = elim (cases_lt i (length bytes)) [
  | inl here ↦ omega (arith, All-get_or (λ x. x < 2 ^ 8) bytes i 0 here all)
  | inr past ↦ omega (arith, get_or_past bytes i 0 past)
]

abbrev Total : List ℕ → Type 0
Total area = ((p : List (List ℕ)) × HasFrames area p) ⊎ ((p : List (List ℕ)) × HasBadFrame area p)

ends_here : (area : List ℕ) → IsEnd area → Total area
ends_here area end = inl ([], record { payloads_fit = All-nil IsPayload; rest = area; bytes = refl; at_end = end })

module _ (area : List ℕ) (long : 5 ≤ length area) (all : All (λ x. x < 2 ^ 8) area) (is_open : get_or area 0 0 ≡ open_gate) where
  abbrev four : List ℕ
  four = take 4 (drop 1 area)

  abbrev len : ℕ
  len = number four

  abbrev behind : List ℕ
  behind = drop 5 area

  four_small : (i : ℕ) → get_or four i 0 < 256
  four_small = small_bytes four (All-take (λ x. x < 2 ^ 8) 4 (drop 1 area) (All-drop (λ x. x < 2 ^ 8) 1 area all))

  head_is : area ≡ open_gate ∷ big_endian 4 len ++ behind
  head_is =
      let four_long : length four ≡ 4 = omega (arith, length-take 4 (drop 1 area), length-drop 1 area, long) in
      drop_more area 0 0 (omega (arith, long))
      ∙ (λ i. is_open i ∷ (sym (take-append-drop 4 (drop 1 area)) ∙ (λ j. spelled four four_long four_small j ++ drop-drop 4 1 area j)) i)

  pub bad_here : (len ≡ 0) ⊎ (length behind < len) → Total area
  bad_here bad = inr ([], record { payloads_fit = All-nil IsPayload; rest = area; bytes = refl; bad = record { len = len; behind = behind; fits = small_number four four_small; bytes = head_is; bad = bad } })

  module _ (some : len ≢ 0) (whole : len ≤ length behind) where
    abbrev payload : List ℕ
    payload = take len behind

    payload_long : length payload ≡ len
    payload_long = omega (arith, length-take len behind, whole)

    payload_fits : IsPayload payload
    payload_fits = record { some = omega (arith, payload_long, some); short = omega (arith, payload_long, small_number four four_small) }

    frame_is : area ≡ frame_bytes payload ++ drop len behind
    frame_is =
        head_is ∙ (λ i. open_gate ∷ big_endian 4 (sym payload_long i) ++ sym (take-append-drop len behind) i)
        ∙ sym (append_assoc (open_gate ∷ big_endian 4 (length payload)) payload (drop len behind))

    pub frame_here : Total (drop len behind) → Total area
    frame_here (inl more) = inl (
      payload ∷ more.0,
      record {
        payloads_fit = All-cons IsPayload payload more.0 payload_fits more.1.payloads_fit;
        rest = more.1.rest;
        bytes = frame_is ∙ ap (λ (l : List ℕ). frame_bytes payload ++ l) more.1.bytes ∙ sym (append_assoc (frame_bytes payload) (frames more.0) more.1.rest);
        at_end = more.1.at_end;
      },
    )
    frame_here (inr more) = inr (
      payload ∷ more.0,
      record {
        payloads_fit = All-cons IsPayload payload more.0 payload_fits more.1.payloads_fit;
        rest = more.1.rest;
        bytes = frame_is ∙ ap (λ (l : List ℕ). frame_bytes payload ++ l) more.1.bytes ∙ sym (append_assoc (frame_bytes payload) (frames more.0) more.1.rest);
        bad = more.1.bad;
      },
    )

total : (n : ℕ) (area : List ℕ) → length area ≤ n → All (λ x. x < 2 ^ 8) area → Total area
total zero area fits all = ends_here area (few_end area (omega (arith, fits)))
total (suc n) area fits all = elim (cases_lt (length area) 5) [
  | inl few ↦ ends_here area (few_end area few)
  | inr long ↦ elim (cases_Bool (eqb (get_or area 0 0) open_gate)) [
    | inr closed ↦ ends_here area (subst IsEnd (sym (drop_more area 0 0 (omega (arith, long)))) (inr (eqb-false (get_or area 0 0) open_gate closed)))
    | inl gate ↦
        let is_open = eqb-true (get_or area 0 0) open_gate gate in
        elim (cases_Bool (eqb (len area long all is_open) 0)) [
          | inl none ↦ bad_here area long all is_open (inl (eqb-true (len area long all is_open) 0 none))
          | inr some ↦ elim (cases_lt (length (behind area long all is_open)) (len area long all is_open)) [
            | inl short ↦ bad_here area long all is_open (inr short)
            | inr whole ↦ frame_here area long all is_open (eqb-false (len area long all is_open) 0 some) whole
                (total n (drop (len area long all is_open) (behind area long all is_open))
                (omega (arith, fits, long, length-drop (len area long all is_open) (behind area long all is_open), length-drop 5 area))
                (All-drop (λ x. x < 2 ^ 8) (len area long all is_open) (behind area long all is_open) (All-drop (λ x. x < 2 ^ 8) 5 area all)))
          ]
        ]
  ]
]

pub somehow : (area : List ℕ) → All (λ x. x < 2 ^ 8) area → Total area
somehow area all = total (length area) area (omega arith) all
