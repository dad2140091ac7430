-- The test for the corners of a box.
use Rattle.std.proofs.Common.{◌≡◌, ℕ, zero, suc, true, false, cond, List, [], ◌∷◌, length, Option, Some, None, refl, sym, arith}
use Rattle.std.specs.Prelude.{◌↔◌, IsSome, IfSome}
use Rattle.std.proofs.lemmas.Bool.{and_parts, and_from, le-leb, leb-true, false≢true}
use Rattle.hb_space.specs.Boxes.{Area}
use Rattle.hb_page_codec.specs.Reading.{ReadsAs}
use Rattle.hb_page_codec.specs.ReadingFields.{are_ordered, area_between}
use Rattle.hb_space.specs.Points.{AtMost}

pub ordered : (lo hi : List ℕ) → length lo ≡ length hi → are_ordered lo hi ≡ true → AtMost lo hi
ordered [] hi same e i lt = absurd (omega arith)
ordered (l ∷ ls) [] same e i lt = absurd (omega arith)
ordered (l ∷ ls) (h ∷ hs) same e zero lt = leb-true l h (and_parts _ _ e).0
ordered (l ∷ ls) (h ∷ hs) same e (suc i) lt = ordered ls hs (omega arith) (and_parts _ _ e).1 i (omega arith)

pub ordered_test : (lo hi : List ℕ) → length lo ≡ length hi → AtMost lo hi → are_ordered lo hi ≡ true
ordered_test [] hi same h = refl
ordered_test (l ∷ ls) [] same h = absurd (omega arith)
ordered_test (l ∷ ls) (k ∷ ks) same h = and_from _ _ (le-leb l k (h 0 (omega arith))) (ordered_test ls ks (omega arith) (λ i lt. h (suc i) (omega arith)))

pub is_between : (lo hi : List ℕ) (made : Option Area) → length lo ≡ length hi → (IsSome made ↔ AtMost lo hi) → IfSome made (λ a. (a.lo ≡ lo) × (a.hi ≡ hi)) → ReadsAs (λ a. a) made (area_between lo hi)
is_between lo hi (Some a) same is corners =
    let test = ordered_test lo hi same (is.0 refl) in
    rw (test, sym corners.0, sym corners.1) refl
is_between lo hi None same is corners =
    let area : Area = record { lo = lo; hi = hi } in
    elim (are_ordered lo hi) as (λ b. are_ordered lo hi ≡ b → cond b (Some area) None ≡ None) [
      | true ↦ λ e. absurd (false≢true (is.1 (ordered lo hi same e)))
      | false ↦ λ e. refl
    ] refl
