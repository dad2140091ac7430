-- The first page of the whole space of each level.
use Rattle.std.proofs.Common.{◌≡◌, ◌≢◌, inl, inr, ℕ, ◌+◌, ◌==◌, true, not, List, [], ◌∷◌, ◌++◌, length, Option, Some, None, slice_get, refl, sym, ap, ◌∙◌, subst, arith}
use Rattle.std.proofs.lemmas.Bool.{eq-eqb, false≢true, ne_eqb}
use Rattle.std.proofs.lemmas.List.{length_push}
use Rattle.hb_space.specs.Boxes.{Area}
use Rattle.hb_sound.specs.declared.page_facts.Seen.{Seen}
use Rattle.hb_sound.specs.declared.page_facts.Fact.{Fact}
use Rattle.hb_sound.specs.declared.page_facts.Fact.TheVariants.{Live, Free}
use Rattle.hb_sound.specs.declared.names.Times.{Times}
use Rattle.hb_sound.specs.Covers.{AreFirsts, HasBox, IsLooseSeen, SeesSome}
use Rattle.hb_sound.specs.Facts.{if_seen, seen_at}
use Rattle.hb_sound.specs.Told.{item_at}
use Rattle.hb_sound.specs.Walks.{IsLeast}
use Rattle.hb_lemmas.proofs.Lists.{get-push_cases}

pub firsts_on : (facts : List Fact) (level : ℕ) (whole : Area) (firsts : List ℕ) (first : ℕ) → AreFirsts facts level whole firsts
    → IsLeast (SeesSome (HasBox level whole) facts) first → AreFirsts facts (level + 1) whole (firsts ++ first ∷ [])
firsts_on facts level whole firsts first are is = (
  length_push firsts first ∙ ap (λ (n : ℕ). n + 1) are.0,
  λ at item e. elim (get-push_cases firsts first at item e) [
    | inl before ↦ are.1 at item before
    | inr last ↦
        let Q : ℕ → Type 0 = λ n. IsLeast (SeesSome (HasBox n whole) facts) item in
        let P : ℕ → Type 0 = λ n. IsLeast (SeesSome (HasBox level whole) facts) n in
        subst Q (sym (last.0 ∙ are.0)) (subst P last.1 is)
  ],
)

pub seen_fact : (o : Option Fact) (seen : Seen) → if_seen o ≡ Some seen → o ≡ Some (Live seen)
seen_fact None seen e = let never : None ≡ Some seen = e in cc
seen_fact (Some (Live own)) seen e = let is : own ≡ seen = cc in ap (λ (x : Seen). Some (Live x)) is
seen_fact (Some (Free next)) seen e = let never : None ≡ Some seen = e in cc

-- of the whole space: loose exactly where it isn't the first of its level
module _ (facts : List Fact) (whole : Area) (firsts : List ℕ) (id first : ℕ) (seen : Seen) (times : Times)
    (are : AreFirsts facts (length firsts) whole firsts) (there : slice_get firsts seen.level ≡ Some first) (at : seen_at facts id ≡ Some seen) (boxed : seen.area ≡ whole) where
  least : IsLeast (SeesSome (HasBox seen.level whole) facts) first
  least = are.1 seen.level first there

  pub not_first_is_loose : first ≢ id → IsLooseSeen facts whole id seen times
  not_first_is_loose other =
      let here : SeesSome (HasBox seen.level whole) facts id = (Live seen, seen_fact (item_at facts id) seen at, (refl, boxed)) in
      let le = least.least id here in
      inl (boxed, first, omega (arith, le, other), least.here)

  pub loose_is_not_first : IsLooseSeen facts whole id seen times → first ≢ id
  loose_is_not_first (inl beside) e = let le = least.least beside.1 beside.3 in let lt = beside.2 in absurd (omega (arith, le, lt, e))
  loose_is_not_first (inr less) e = less.0 boxed

-- a test of two numbers
pub apart : (a b : ℕ) → not (a == b) ≡ true → a ≢ b
apart a b t e = false≢true (sym (ap not (eq-eqb a b e)) ∙ t)

pub tells_apart : (a b : ℕ) → a ≢ b → not (a == b) ≡ true
tells_apart a b other = ap not (ne_eqb a b other)
