-- A text that grows by a line: what was added so far, and the lines that are still wanted, stay the text in all.
use Rattle.std.proofs.Common.{◌≡◌, ℕ, suc, ◌+◌, ◌-◌, ◌<◌, ◌≤◌, List, ◌++◌, sym, ap, ◌∙◌, arith, append_assoc, append-nil}
use Rattle.hb_set.specs.declared.scripts.Line.{Line}
use Rattle.hb_gen.specs.Lines.{drawn_line, behind_line, lines_from}
use Rattle.hb_gen.specs.Spelling.{line_text, lines_text}

-- n lines in all, i so far, at the state x
module _ (k n i x : ℕ) where
  pub line_added : (front new all : List ℕ) (y : ℕ) (line : Line) → i < n → line ≡ drawn_line k (i + 1) x → y ≡ behind_line k x → new ≡ front ++ line_text line → front ++ lines_text (lines_from k (i + 1) (n - i) x) ≡ all → new ++ lines_text (lines_from k (i + 1 + 1) (n - (i + 1)) y) ≡ all
  unfolding lines_from
  line_added front new all y line more line_is y_is new_is before =
      let one : n - i ≡ suc (n - (i + 1)) = omega arith in
      rw (new_is, line_is, y_is) (append_assoc front (line_text (drawn_line k (i + 1) x)) _ ∙ sym (ap (λ m. front ++ lines_text (lines_from k (i + 1) m x)) one) ∙ before)

  pub lines_added : (front all : List ℕ) → n ≤ i → front ++ lines_text (lines_from k (i + 1) (n - i) x) ≡ all → front ≡ all
  unfolding lines_from
  lines_added front all past before =
      let none : n - i ≡ 0 = omega arith in
      sym (ap (λ m. front ++ lines_text (lines_from k (i + 1) m x)) none ∙ append-nil front) ∙ before
