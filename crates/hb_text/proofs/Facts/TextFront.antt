-- The front of a text that is too long decides what the text says: its first bad line begins within that front.
use Rattle.std.specs.Prelude.{◌≡◌, ℕ, suc, ◌+◌, ◌*◌, ◌<◌, ◌≤◌, Bool, nat_lt, List, [], ◌∷◌, ◌++◌, length, Result, Ok, Err, refl}
use Rattle.std.proofs.Common.{zero, inl, inr, sym, ap, ◌∙◌, arith, append-nil}
use Rattle.std.proofs.lemmas.Bool.Decides.{nat_tests}
use Rattle.std.proofs.lemmas.Bool.{cond-true, cond-false}
use Rattle.hb_text.specs.declared.rules.TextRule.{TextRule}
use Rattle.hb_text.specs.declared.rules.TextRule.TheVariants.{TooMany, LongLine}
use Rattle.hb_text.specs.declared.rules.BadLine.{BadLine}
use Rattle.hb_space.specs.declared.form.TheConstants.{LINE}
use Rattle.hb_text.specs.Grammar.{line_read, lines_read, at_line, text_read, with_said, Said, Reading}
use Rattle.hb_text.specs.Words.{◌>>=◌, lines_of, is_empty}
use Rattle.hb_text.proofs.Facts.FirstLineFeed.{first_of, HasFeed, HasNoFeed, cut}
use Rattle.hb_text.proofs.Facts.TextLength.{line_bytes}

-- the rule that a line breaks which is longer than all lines that may follow it, by how many may
abbrev broken_rule : ℕ → TextRule
broken_rule zero = TooMany
broken_rule (suc m) = LongLine

-- whether step lines are allowed
module _ (allowed : Bool) where
  -- the rules that bound the number of lines, and their bytes
  too_many : (k taken number : ℕ) (line : List ℕ) → 1000000 < number → line_read allowed k taken number line ≡ Err TooMany
  unfolding line_read
  too_many k taken number line many = cond-true (nat_lt 1000000 number) _ _ (grind (arith, nat_tests, many))

  too_long : (k taken number : ℕ) (line : List ℕ) → number ≤ 1000000 → 256 < length line → line_read allowed k taken number line ≡ Err LongLine
  unfolding line_read
  too_long k taken number line few long =
      cond-false (nat_lt 1000000 number) _ _ (grind (arith, nat_tests, few))
      ∙ cond-false (is_empty line) _ _ (grind (arith, nat_tests, long))
      ∙ cond-true (nat_lt LINE (length line)) _ _ (grind (arith, nat_tests, long))

  line_breaks : (k taken number m : ℕ) (line : List ℕ) → number + m ≡ 1000001 → 257 * m < length line → line_read allowed k taken number line ≡ Err (broken_rule m)
  line_breaks k taken number zero line sum long = too_many k taken number line (omega arith)
  line_breaks k taken number (suc m) line sum long = too_long k taken number line (omega arith) (omega arith)

  lines_break : (k taken number m : ℕ) (lines : List (List ℕ)) → number + m ≡ 1000001 → 257 * m < length (first_of lines) → lines_read allowed k taken number lines ≡ Err (record { line = number; rule = broken_rule m })
  unfolding lines_read
  lines_break k taken number m [] sum long = absurd (omega arith)
  lines_break k taken number m (line ∷ lines) sum long = rw (line_breaks k taken number m line sum long) refl

  -- where a line breaks a rule, the lines behind it don't count
  same_behind : (number : ℕ) (read : Result Said TextRule) (f g : Said → Result Reading BadLine) → ((said : Said) → read ≡ Ok said → f said ≡ g said) → (at_line number read >>= f) ≡ (at_line number read >>= g)
  same_behind number (Ok said) f g same = same said refl
  same_behind number (Err rule) f g same = refl

  same_after : (k taken number : ℕ) (line : List ℕ) (lines others : List (List ℕ)) → ((said : Said) → line_read allowed k taken number line ≡ Ok said → lines_read allowed k (taken + length said.steps) (number + 1) lines ≡ lines_read allowed k (taken + length said.steps) (number + 1) others) → lines_read allowed k taken number (line ∷ lines) ≡ lines_read allowed k taken number (line ∷ others)
  unfolding lines_read
  same_after k taken number line lines others same =
      same_behind number (line_read allowed k taken number line)
      (λ said. lines_read allowed k (taken + length said.steps) (number + 1) lines >>= (λ more. Ok (with_said said more)))
      (λ said. lines_read allowed k (taken + length said.steps) (number + 1) others >>= (λ more. Ok (with_said said more)))
      (λ said ok. ap (λ (read : Result Reading BadLine). read >>= (λ more. Ok (with_said said more))) (same said ok))

  feed_same : (k taken number : ℕ) (front rest other : List ℕ) (h : HasFeed front) → ((said : Said) → line_read allowed k taken number h.line ≡ Ok said → lines_read allowed k (taken + length said.steps) (number + 1) (lines_of (h.behind ++ rest)) ≡ lines_read allowed k (taken + length said.steps) (number + 1) (lines_of (h.behind ++ other))) → lines_read allowed k taken number (lines_of (front ++ rest)) ≡ lines_read allowed k taken number (lines_of (front ++ other))
  feed_same k taken number front rest other h same =
      ap (lines_read allowed k taken number) (h.cuts rest)
      ∙ same_after k taken number h.line (lines_of (h.behind ++ rest)) (lines_of (h.behind ++ other)) same
      ∙ sym (ap (lines_read allowed k taken number) (h.cuts other))

  no_feed_same : (k taken number m : ℕ) (front rest other : List ℕ) → HasNoFeed front → number + m ≡ 1000001 → 257 * m < length front → lines_read allowed k taken number (lines_of (front ++ rest)) ≡ lines_read allowed k taken number (lines_of (front ++ other))
  no_feed_same k taken number m front rest other h sum long =
      lines_break k taken number m (lines_of (front ++ rest)) sum (omega (arith, h rest))
      ∙ sym (lines_break k taken number m (lines_of (front ++ other)) sum (omega (arith, h other)))

  -- a front longer than all lines that may still come reads the same, whatever follows it
  front_same : (k taken number m : ℕ) (front rest other : List ℕ) → number + m ≡ 1000001 → 257 * m < length front → lines_read allowed k taken number (lines_of (front ++ rest)) ≡ lines_read allowed k taken number (lines_of (front ++ other))
  front_same k taken number zero front rest other sum long = elim (cut front) [
    | inl h ↦ feed_same k taken number front rest other h (λ said ok. cc (too_many k taken number h.line (omega arith)))
    | inr h ↦ no_feed_same k taken number zero front rest other h sum long
  ]
  front_same k taken number (suc m) front rest other sum long = elim (cut front) [
    | inl h ↦ feed_same k taken number front rest other h (λ said ok.
        front_same k (taken + length said.steps) (number + 1) m h.behind rest other (omega arith) (omega (arith, h.bytes, (line_bytes allowed k taken number h.line said ok).1)))
    | inr h ↦ no_feed_same k taken number (suc m) front rest other h sum long
  ]

  -- more than 257,000,000 bytes read the same, whatever follows them
  pub front_is_all : (k : ℕ) (front rest : List ℕ) → 257000000 < length front → text_read allowed k (front ++ rest) ≡ text_read allowed k front
  front_is_all k front rest long =
      front_same k 0 1 1000000 front rest [] (omega arith) (omega arith)
      ∙ ap (λ text. text_read allowed k text) (append-nil front)

  -- the first bad line of a front of a text that is too long is the first bad line of the text
  pub front_decides : (k : ℕ) (front rest : List ℕ) → 257000000 < length front → (bad : BadLine) → text_read allowed k front ≡ Err bad → text_read allowed k (front ++ rest) ≡ Err bad
  front_decides k front rest long bad e = front_is_all k front rest long ∙ e
