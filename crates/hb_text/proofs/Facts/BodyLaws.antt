-- A printed body is of one body alone, and its line is one line.
use Rattle.std.specs.Prelude.{◌≡◌, ◌≢◌, ℕ, ◌+◌, ◌/◌, ◌%◌, ◌<◌, ◌≤◌, ◌^◌, true, nat_lt, List, [], ◌∷◌, ◌++◌, All, codes, refl}
use Rattle.std.proofs.Common.{inl, inr, ◌⊎◌, sym, ap, ◌∙◌, arith, subst, append-nil, append_assoc, ◌≢◌, ℕ}
use Rattle.std.specs.List.{list_all, flat_map, AllByRecursion}
use Rattle.std.specs.Char.{is_ascii_digit}
use Rattle.std.specs.Fmt.{decimal}
use Rattle.std.proofs.lemmas.Bool.{and_parts}
use Rattle.std.proofs.lemmas.Bool.Decides.{nat_tests}
use Rattle.std.proofs.lemmas.Fmt.{digits_decimal}
use Rattle.std.proofs.lemmas.List.Elements.{All-head, All-tail}
use Rattle.std.proofs.Math.Nat.{div-add-mod}
use Rattle.hb_space.specs.Points.{IsPoint, IsBody}
use Rattle.hb_space.specs.declared.records.Record.{Record}
use Rattle.hb_set.specs.declared.commands.Reply.TheVariants.{Found}
use Rattle.hb_text.specs.BodyText.{body_text, byte_digits, hex_digit, is_visible, IsVisible}
use Rattle.hb_text.specs.Output.{numbers_text, record_text, reply_text}
use Rattle.hb_text.specs.TextLaws.{HasNo}
use Rattle.hb_text.specs.Words.{lines_of}
use Rattle.hb_lemmas.proofs.Booleans.{chosen}
use Rattle.hb_text.proofs.Facts.NumberLaws.{own}
use Rattle.hb_text.proofs.Facts.TextLaws.{lines_come_back}
use Rattle.hb_lemmas.proofs.Lists.{whole}

-- the digits of the numbers below ten stand apart from the others
abbrev IsDigitOf : ℕ → ℕ → Type 0
IsDigitOf n d = ((n < 10) × (d ≡ 48 + n)) ⊎ ((10 ≤ n) × (d ≡ 87 + n))

digit_is : (n : ℕ) → IsDigitOf n (hex_digit n)
digit_is n = elim (chosen (nat_lt n 10) (48 + n) (87 + n) (hex_digit n) refl) [
  | inl low ↦ inl (grind (arith, nat_tests, low.0), sym low.1)
  | inr high ↦ inr (grind (arith, nat_tests, high.0), sym high.1)
]

one_number : (a b d : ℕ) → IsDigitOf a d → IsDigitOf b d → a ≡ b
one_number a b d (inl x) (inl y) = omega (arith, x.1, y.1)
one_number a b d (inl x) (inr y) = absurd (omega (arith, x.0, x.1, y.0, y.1))
one_number a b d (inr x) (inl y) = absurd (omega (arith, x.0, x.1, y.0, y.1))
one_number a b d (inr x) (inr y) = omega (arith, x.1, y.1)

same_digit : (a b : ℕ) → hex_digit a ≡ hex_digit b → a ≡ b
same_digit a b e = one_number a b (hex_digit a) (digit_is a) (subst (λ (d : ℕ). IsDigitOf b d) (sym e) (digit_is b))

same_parts : (c d : ℕ) → c / 16 ≡ d / 16 → c % 16 ≡ d % 16 → c ≡ d
same_parts c d high low = omega (arith, high, low, div-add-mod c 16, div-add-mod d 16)

same_bytes : (a b : List ℕ) → flat_map byte_digits a ≡ flat_map byte_digits b → a ≡ b
same_bytes [] [] e = refl
same_bytes [] (d ∷ b) e = absurd cc
same_bytes (c ∷ a) [] e = absurd cc
same_bytes (c ∷ a) (d ∷ b) e =
    let high : hex_digit (c / 16) ≡ hex_digit (d / 16) = cc in
    let low : hex_digit (c % 16) ≡ hex_digit (d % 16) = cc in
    let rest : flat_map byte_digits a ≡ flat_map byte_digits b = cc in
    let first = same_parts c d (same_digit (c / 16) (d / 16) high) (same_digit (c % 16) (d % 16) low) in
    let behind = same_bytes a b rest in
    cc

-- the sign tells the spellings apart
pub one_body : (a b : List ℕ) → body_text a ≡ body_text b → a ≡ b
unfolding body_text
one_body a b e = elim (chosen (list_all is_visible a) (61 ∷ a) (37 ∷ flat_map byte_digits a) (body_text b) e) [
  | inl x ↦ elim (chosen (list_all is_visible b) (61 ∷ b) (37 ∷ flat_map byte_digits b) (61 ∷ a) (sym x.1)) [
    | inl y ↦ let same = y.1 in cc
    | inr y ↦ let same = y.1 in absurd cc
  ]
  | inr x ↦ elim (chosen (list_all is_visible b) (61 ∷ b) (37 ∷ flat_map byte_digits b) (37 ∷ flat_map byte_digits a) (sym x.1)) [
    | inl y ↦ let same = y.1 in absurd cc
    | inr y ↦ let same : flat_map byte_digits b ≡ flat_map byte_digits a = cc in same_bytes a b (sym same)
  ]
]

digit_visible : (n d : ℕ) → n < 16 → IsDigitOf n d → IsVisible d
digit_visible n d few (inl x) = (omega (arith, x.0, x.1), omega (arith, x.0, x.1))
digit_visible n d few (inr x) = (omega (arith, x.0, x.1, few), omega (arith, x.0, x.1, few))

digits_visible : (bytes : List ℕ) → All (λ c. c < 2 ^ 8) bytes → AllByRecursion IsVisible (flat_map byte_digits bytes)
digits_visible [] fits = tt
digits_visible (c ∷ bytes) fits =
    let byte : c < 256 = All-head (λ (x : ℕ). x < 2 ^ 8) c bytes fits in
    let high : c / 16 < 16 = omega (arith, byte, div-add-mod c 16) in
    let low : c % 16 < 16 = omega arith in
    (digit_visible (c / 16) _ high (digit_is (c / 16)), (digit_visible (c % 16) _ low (digit_is (c % 16)), digits_visible bytes (All-tail (λ (x : ℕ). x < 2 ^ 8) c bytes fits)))

pub as_it_is : (bytes : List ℕ) → list_all is_visible bytes ≡ true → AllByRecursion IsVisible bytes
as_it_is [] all = tt
as_it_is (c ∷ bytes) all =
    let parts = and_parts (is_visible c) (list_all is_visible bytes) all in
    ((grind (arith, nat_tests, parts.0), grind (arith, nat_tests, parts.0)), as_it_is bytes parts.1)

pub printed_is_visible : (body : List ℕ) → IsBody body → AllByRecursion IsVisible (body_text body)
unfolding body_text
printed_is_visible body fits = elim (chosen (list_all is_visible body) (61 ∷ body) (37 ∷ flat_map byte_digits body) (body_text body) refl) [
  | inl x ↦ subst (λ (text : List ℕ). AllByRecursion IsVisible text) x.1 ((omega arith, omega arith), as_it_is body x.0)
  | inr x ↦ subst (λ (text : List ℕ). AllByRecursion IsVisible text) x.1 ((omega arith, omega arith), digits_visible body fits.fits)
]

-- no line feed stands in what is visible, and none in a number
visible_no_feed : (bytes : List ℕ) → AllByRecursion IsVisible bytes → HasNo 10 bytes
visible_no_feed [] all = tt
visible_no_feed (c ∷ bytes) all = ((λ (is : c ≡ 10). omega (arith, all.0.0, is)), visible_no_feed bytes all.1)

digits_no_feed : (bytes : List ℕ) → list_all is_ascii_digit bytes ≡ true → HasNo 10 bytes
digits_no_feed [] all = tt
digits_no_feed (c ∷ bytes) all =
    let parts = and_parts (is_ascii_digit c) (list_all is_ascii_digit bytes) all in
    let digit : 48 ≤ c = grind (arith, nat_tests, parts.0) in
    ((λ (is : c ≡ 10). omega (arith, digit, is)), digits_no_feed bytes parts.1)

number_no_feed : (n : ℕ) → n < 2 ^ 64 → HasNo 10 (decimal n)
number_no_feed n small = digits_no_feed (decimal n) (digits_decimal own n small)

numbers_no_feed : (ns : List ℕ) → All (λ n. n < 2 ^ 64) ns → HasNo 10 (numbers_text ns)
numbers_no_feed [] small = tt
numbers_no_feed (n ∷ ns) small =
    ((λ (is : 32 ≡ 10). omega (arith, is)), whole (λ (c : ℕ). c ≢ 10) (decimal n) (numbers_text ns) (number_no_feed n (All-head (λ (x : ℕ). x < 2 ^ 64) n ns small)) (numbers_no_feed ns (All-tail (λ (x : ℕ). x < 2 ^ 64) n ns small)))

one_line : (text : List ℕ) → HasNo 10 text → lines_of (text ++ 10 ∷ []) ≡ text ∷ []
one_line text none = ap lines_of (sym (append-nil (text ++ 10 ∷ []))) ∙ lines_come_back (text ∷ []) (none, tt)

other_byte : (c : ℕ) → 11 ≤ c → c ≢ 10
other_byte c above is = omega (arith, above, is)

found_is : HasNo 10 (codes " found ")
found_is = (other_byte _ (omega arith), (other_byte _ (omega arith), (other_byte _ (omega arith), (other_byte _ (omega arith), (other_byte _ (omega arith), (other_byte _ (omega arith), (other_byte _ (omega arith), tt)))))))

pub found_is_a_line : (line : ℕ) (body : List ℕ) → line < 2 ^ 64 → IsBody body → lines_of (reply_text line (Found body)) ≡ (decimal line ++ (codes " found " ++ body_text body)) ∷ []
found_is_a_line line body small fits =
    let said = whole (λ (c : ℕ). c ≢ 10) (codes " found ") (body_text body) found_is (visible_no_feed (body_text body) (printed_is_visible body fits)) in
    ap lines_of (sym (append_assoc (decimal line) (codes " found " ++ body_text body) (codes "\n")))
    ∙ one_line (decimal line ++ (codes " found " ++ body_text body)) (whole (λ (c : ℕ). c ≢ 10) (decimal line) (codes " found " ++ body_text body) (number_no_feed line small) said)

pub record_is_a_line : (r : Record) → IsPoint r.key → IsBody r.body → lines_of (record_text r) ≡ ((43 ∷ numbers_text r.key) ++ codes " " ++ body_text r.body) ∷ []
record_is_a_line r point body =
    let key : HasNo 10 (43 ∷ numbers_text r.key) = (other_byte 43 (omega arith), numbers_no_feed r.key point.fits) in
    let front = whole (λ (c : ℕ). c ≢ 10) (43 ∷ numbers_text r.key) (codes " ") key (other_byte 32 (omega arith), tt) in
    one_line ((43 ∷ numbers_text r.key) ++ codes " " ++ body_text r.body) (whole (λ (c : ℕ). c ≢ 10) ((43 ∷ numbers_text r.key) ++ codes " ") (body_text r.body) front (visible_no_feed (body_text r.body) (printed_is_visible r.body body)))
