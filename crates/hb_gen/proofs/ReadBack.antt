-- What a generated text says: the lines that were drawn.
use Rattle.std.proofs.Common.{◌≡◌, ℕ, zero, suc, ◌+◌, ◌<◌, ◌≤◌, ◌^◌, Bool, true, false, cond, List, [], ◌∷◌, ◌++◌, length, Some, Ok, refl, ap, ◌∙◌, arith}
use Rattle.std.specs.Prelude.{map, nat_le, nat_lt, not}
use Rattle.std.specs.List.{AllByRecursion, list_all, list_any}
use Rattle.std.specs.Fmt.{decimal}
use Rattle.std.proofs.lemmas.Bool.Decides.{nat_tests}
use Rattle.std.proofs.lemmas.Fmt.{length-decimal-le}
use Rattle.std.proofs.lemmas.List.{length-append}
use Rattle.hb_space.specs.Points.{IsAttributeCount}
use Rattle.hb_set.specs.declared.scripts.Line.{Line}
use Rattle.hb_text.specs.Grammar.{words_read, line_read, lines_read, text_read}
use Rattle.hb_text.specs.StepWords.{session_of}
use Rattle.hb_text.specs.TextLaws.{HasNo, with_line_feeds}
use Rattle.hb_text.specs.Words.{lines_of, words_of, is_empty, is_printable}
use Rattle.hb_text.proofs.Facts.NumberLaws.{numbers_are_decimal}
use Rattle.hb_text.proofs.Facts.TextLaws.{lines_come_back}
use Rattle.hb_gen.specs.Draws.{next_state}
use Rattle.hb_gen.specs.Lines.{drawn_line, drawn_session, behind_line, lines_from, generated}
use Rattle.hb_gen.specs.Spelling.{command_text, line_text, lines_text, generated_text}
use Rattle.hb_gen.proofs.PlainWords.{decimal_plain, plain_line, IsPlainLine}
use Rattle.hb_gen.proofs.LineWords.{command_words, command_spaced, command_plain, command_length, command_back, no_step, IsSaid}
use Rattle.hb_gen.proofs.DrawnLines.{command_said, session_fits}

-- a line's spelling, without its line feed
abbrev bare_text : Line → List ℕ
bare_text line = decimal line.session ++ command_text line.command

-- a line over k attributes that words can say
record IsSaidLine (k number : ℕ) (line : Line) : Type 0 where
  number_is : line.number ≡ number
  session_from : 1 ≤ line.session
  session_to : line.session ≤ 8
  command : IsSaid k line.command

session_back : (session : ℕ) → 1 ≤ session → session ≤ 8 → session_of (decimal session) ≡ Some session
session_back session from to =
    let small : session < 2 ^ 64 = omega arith in
    let low : nat_le 1 session ≡ true = grind (arith, nat_tests) in
    let high : nat_le session 16 ≡ true = grind (arith, nat_tests) in
    rw ((numbers_are_decimal (decimal session) session small).1 refl, low, high) refl

words_back : (allowed : Bool) (k taken number : ℕ) (line : Line) → IsSaidLine k number line → words_read allowed k taken number (decimal line.session ∷ command_words line.command) ≡ Ok (record { line = Some line; steps = [] })
unfolding words_read
words_back allowed k taken number line said =
    rw (no_step line.session (omega (arith, said.session_to)), session_back line.session said.session_from said.session_to, command_back k line.command said.command, said.number_is) refl

spelled_plain : (k number : ℕ) (line : Line) → IsSaidLine k number line → IsPlainLine (bare_text line) (decimal line.session ∷ command_words line.command)
spelled_plain k number line said =
    rw (command_spaced line.command) (plain_line (decimal line.session) (command_words line.command) (decimal_plain line.session (omega (arith, said.session_to))) (command_plain k line.command said.command))

spelled_length : (k number : ℕ) (line : Line) → k ≤ 4 → IsSaidLine k number line → length (bare_text line) ≤ 256
spelled_length k number line few said =
    let session : length (decimal line.session) ≤ 20 = length-decimal-le 20 line.session (omega arith) (omega (arith, said.session_to)) (omega (arith, said.session_to)) in
    omega (arith, length-append (decimal line.session) (command_text line.command), session, command_length k line.command few said.command)

passed : {A : Type 0} (b : Bool) (x y z : A) → b ≡ false → y ≡ z → cond b x y ≡ z
passed true x y z e r = absurd (cc)
passed false x y z e r = r

line_back : (allowed : Bool) (k taken number : ℕ) (line : Line) → k ≤ 4 → number ≤ 1000000 → IsSaidLine k number line → line_read allowed k taken number (bare_text line) ≡ Ok (record { line = Some line; steps = [] })
unfolding line_read
line_back allowed k taken number line few low said =
    let plain = spelled_plain k number line said in
    let short = spelled_length k number line few said in
    let some : 0 < length (bare_text line) = plain.some in
    let not_many : nat_lt 1000000 number ≡ false = grind (arith, nat_tests) in
    let not_empty : is_empty (bare_text line) ≡ false = grind (arith, nat_tests, some) in
    let not_long : nat_lt 256 (length (bare_text line)) ≡ false = grind (arith, nat_tests, short) in
    passed (nat_lt 1000000 number) _ _ _ not_many
    (passed (is_empty (bare_text line)) _ _ _ not_empty
    (passed (nat_lt 256 (length (bare_text line))) _ _ _ not_long
    (passed (not (list_all is_printable (bare_text line))) _ _ _ (ap not plain.printable)
    (passed (list_any is_empty (words_of (bare_text line))) _ _ _ (ap (list_any is_empty) plain.words_are ∙ plain.spacing)
    (ap (words_read allowed k taken number) plain.words_are ∙ words_back allowed k taken number line said)))))

drawn_said : (k number x : ℕ) → 0 < k → number ≤ 1000000 → IsSaidLine k number (drawn_line k number x)
drawn_said k number x some low =
    let session = session_fits x in
    record { number_is = refl; session_from = session.0; session_to = session.1; command = command_said k number (drawn_session x) (next_state x) some (omega arith) session.1 }

-- over k attributes
module _ (k : ℕ) (attributes : IsAttributeCount k) where
  lines_back : (allowed : Bool) (taken number n x : ℕ) → number + n ≤ 1000001 → lines_read allowed k taken number (map bare_text (lines_from k number n x)) ≡ Ok (record { lines = lines_from k number n x; steps = [] })
  unfolding lines_read lines_from
  lines_back allowed taken number zero x low = refl
  lines_back allowed taken number (suc n) x low =
      let said = drawn_said k number x attributes.some (omega arith) in
      let more = lines_back allowed (taken + 0) (number + 1) n (behind_line k x) (omega arith) in
      rw (line_back allowed k taken number (drawn_line k number x) attributes.few (omega arith) said, more) refl

  no_feeds : (number n x : ℕ) → number + n ≤ 1000001 → AllByRecursion (HasNo 10) (map bare_text (lines_from k number n x))
  unfolding lines_from
  no_feeds number zero x low = tt
  no_feeds number (suc n) x low =
      ((spelled_plain k number (drawn_line k number x) (drawn_said k number x attributes.some (omega arith))).one_line, no_feeds (number + 1) n _ (omega arith))

bare_lines : (lines : List Line) → lines_text lines ≡ with_line_feeds (map bare_text lines)
bare_lines [] = refl
bare_lines (line ∷ lines) = ap (λ rest. line_text line ++ rest) (bare_lines lines)

pub generated_is_read : (allowed : Bool) (x n k : ℕ) → n ≤ 1000000 → IsAttributeCount k → text_read allowed k (generated_text x n k) ≡ Ok (record { lines = generated x n k; steps = [] })
generated_is_read allowed x n k low attributes =
    ap (λ text. lines_read allowed k 0 1 (lines_of text)) (bare_lines (generated x n k))
    ∙ ap (lines_read allowed k 0 1) (lines_come_back (map bare_text (generated x n k)) (no_feeds k attributes 1 n x (omega arith)))
    ∙ lines_back k attributes allowed 0 1 n x (omega arith)
