-- Boxes that meet no sibling leaf's.
use Rattle.std.proofs.Common.{◌≡◌, ℕ, zero, suc, ◌<◌, ◌↔◌, Bool, true, false, not, List, [], ◌∷◌, ◌++◌, get_or, IsTrue, refl, sym, subst, arith}
use Rattle.std.specs.List.{All}
use Rattle.std.proofs.lemmas.List.Elements.{All-append}
use Rattle.hb_space.specs.Boxes.{Area, Meets}
use Rattle.hb_frag.specs.Leaves.{Placed, siblings}
use Rattle.hb_frag.proofs.Facts.NamesListed.{siblings-append}

-- none of these boxes meets the box
abbrev pub AllClear : Area → List (ℕ × Area) → Type 0
AllClear a xs = All (λ s. ¬ (Meets s.1 a)) xs

pub clear_left : (a : Area) (xs ys : List (ℕ × Area)) → AllClear a (xs ++ ys) → AllClear a xs
clear_left a [] ys h k d l = absurd (omega arith)
clear_left a (x ∷ xs) ys h zero d l = h zero d (omega arith)
clear_left a (x ∷ xs) ys h (suc k) d l = clear_left a xs ys (λ j e m. h (suc j) e (omega arith)) k d (omega arith)

pub clear_right : (a : Area) (xs ys : List (ℕ × Area)) → AllClear a (xs ++ ys) → AllClear a ys
clear_right a [] ys h = h
clear_right a (x ∷ xs) ys h = clear_right a xs ys (λ j e m. h (suc j) e (omega arith))

-- whether a sibling leaf alone is clear of the box
pub clear_alone : (a area : Area) (page : ℕ) (m : Bool) → (IsTrue m ↔ Meets area a) → IsTrue (not m) ↔ AllClear a ((page, area) ∷ [])
clear_alone a area page true h = (λ t. absurd (cc), λ w. absurd (w zero (page, area) (omega arith) (h.0 refl)))
clear_alone a area page false h = (
  λ t k d l. elim k as (λ k. k < 1 → ¬ (Meets (get_or ((page, area) ∷ []) k d).1 a)) [ zero ↦ λ l m. absurd (let e = h.1 m in cc) | suc k ↦ λ l. absurd (omega arith) ] l,
  λ w. refl,
)

-- the second of two lists, where the first is clear; and where it isn't
pub clear_then : (a : Area) (xs ys : List Placed) (b c : Bool) → (IsTrue b ↔ AllClear a (siblings xs)) → b ≡ true → (IsTrue c ↔ AllClear a (siblings ys)) → IsTrue c ↔ AllClear a (siblings (xs ++ ys))
clear_then a xs ys b c h first k =
    let P : List (ℕ × Area) → Type 0 = λ v. IsTrue c ↔ AllClear a v in
    subst P (sym (siblings-append xs ys)) (
      λ t. All-append (λ s. ¬ (Meets s.1 a)) (siblings xs) (siblings ys) (h.0 first) (k.0 t),
      λ w. k.1 (clear_right a (siblings xs) (siblings ys) w),
    )

pub clear_else : (a : Area) (xs ys : List Placed) (b : Bool) → (IsTrue b ↔ AllClear a (siblings xs)) → b ≡ false → IsTrue b ↔ AllClear a (siblings (xs ++ ys))
clear_else a xs ys b h first =
    let P : List (ℕ × Area) → Type 0 = λ v. IsTrue b ↔ AllClear a v in
    subst P (sym (siblings-append xs ys)) (
      λ t. absurd (cc),
      λ w. absurd (let e = h.1 (clear_left a (siblings xs) (siblings ys) w) in cc),
    )
