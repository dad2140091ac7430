-- The sessions that have a line sit down one by one.
use Rattle.std.proofs.Common.{◌≡◌, ◌≢◌, ℕ, ◌+◌, ◌≤◌, ◌==◌, Bool, true, false, cond, List, [], ◌∷◌, ◌++◌, count_by, refl, sym, ap, ◌∙◌, arith, ne_eqb}
use Rattle.std.proofs.lemmas.Bool.{eq-eqb}
use Rattle.std.proofs.lemmas.List.Sums.{sum_by-append}
use Rattle.hb_lemmas.proofs.Booleans.{if_same}
use Rattle.hb_set.specs.declared.scripts.Line.{Line}
use Rattle.hb_run.specs.Seats.{AreSessionsTo, has_line}

abbrev times : ℕ → List ℕ → ℕ
times actor actors = count_by (λ a. a == actor) actors

pub none_yet : (lines : List Line) → AreSessionsTo 0 lines []
none_yet lines = record { sessions = λ session from to. absurd (omega (arith, from, to)); nobody_else = λ actor behind. refl }

-- one more at the end
one_more : (actor last : ℕ) (actors : List ℕ) → times actor (actors ++ last ∷ []) ≡ times actor actors + cond (last == actor) 1 0
one_more actor last actors = sum_by-append (λ (a : ℕ). cond (a == actor) 1 0) actors (last ∷ []) ∙ ap (λ (n : ℕ). times actor actors + n) (alone (cond (last == actor) 1 0))
  where
    alone : (n : ℕ) → 0 + n ≡ n
    alone n = omega arith

pub sits : (lines : List Line) (most : ℕ) (actors new : List ℕ) → AreSessionsTo most lines actors → new ≡ cond (has_line lines (most + 1)) (actors ++ (most + 1) ∷ []) actors → AreSessionsTo (most + 1) lines new
sits lines most actors new before is = by (has_line lines (most + 1)) refl is
  where
    last_or_before : (session : ℕ) → session ≤ most + 1 → (session ≢ most + 1) → session ≤ most
    last_or_before session to off = omega (arith, to, off)

    by : (b : Bool) → has_line lines (most + 1) ≡ b → new ≡ cond b (actors ++ (most + 1) ∷ []) actors → AreSessionsTo (most + 1) lines new
    by false has same = record {
      sessions = λ session from to. ap (times session) same ∙ if_same session (most + 1) (λ b. times session actors ≡ cond (has_line lines session) 1 0)
          (λ last. before.nobody_else session (omega (arith, last)) ∙ sym (ap (λ (n : ℕ). cond (has_line lines n) 1 0) last ∙ ap (λ (b : Bool). cond b 1 0) has))
          (λ off. before.sessions session from (last_or_before session to off));
      nobody_else = λ actor behind. ap (times actor) same ∙ before.nobody_else actor (omega (arith, behind));
    }
    by true has same = record {
      sessions = λ session from to. ap (times session) same ∙ one_more session (most + 1) actors ∙ if_same session (most + 1) (λ b. times session actors + cond ((most + 1) == session) 1 0 ≡ cond (has_line lines session) 1 0)
          (λ last. ap (λ (n : ℕ). n + cond ((most + 1) == session) 1 0) (before.nobody_else session (omega (arith, last))) ∙ ap (λ (b : Bool). 0 + cond b 1 0) (eq-eqb (most + 1) session (sym last))
          ∙ sym (ap (λ (n : ℕ). cond (has_line lines n) 1 0) last ∙ ap (λ (b : Bool). cond b 1 0) has))
          (λ off. ap (λ (b : Bool). times session actors + cond b 1 0) (ne_eqb (most + 1) session (λ same. off (sym same))) ∙ nothing (times session actors) ∙ before.sessions session from (last_or_before session to off));
      nobody_else = λ actor behind. ap (times actor) same ∙ one_more actor (most + 1) actors ∙ ap (λ (b : Bool). times actor actors + cond b 1 0) (ne_eqb (most + 1) actor (λ same. omega (arith, behind, same)))
          ∙ nothing (times actor actors) ∙ before.nobody_else actor (omega (arith, behind));
    }
      where
        nothing : (n : ℕ) → n + 0 ≡ n
        nothing n = omega arith
