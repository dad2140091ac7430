-- What is known of the pages that were read stays known while more of them are read.
use Rattle.std.proofs.Common.{◌≡◌, ◌⊎◌, inl, inr, ℕ, zero, suc, ◌+◌, List, [], ◌∷◌, ◌++◌, length, Option, Some, None, refl, sym, ap, ◌∙◌, subst, arith}
use Rattle.std.proofs.lemmas.List.Elements.{All-weaker}
use Rattle.hb_space.specs.Boxes.{Area}
use Rattle.hb_frag.specs.declared.leaves.Leaf.{Leaf}
use Rattle.hb_frag.specs.declared.leaves.Leaf.TheVariants.{Records, Child, Sibling}
use Rattle.hb_frag.specs.declared.pages.Page.{Page}
use Rattle.hb_frag.specs.declared.pages.Page.TheVariants as pages
use Rattle.hb_frag.specs.Leaves.{Placed, leaves_of}
use Rattle.hb_ops.proofs.Facts.PlacedLaws.{placed}
use Rattle.hb_sound.specs.declared.page_facts.Seen.{Seen}
use Rattle.hb_sound.specs.declared.page_facts.Fact.{Fact}
use Rattle.hb_sound.specs.declared.page_facts.Fact.TheVariants.{Live, Free}
use Rattle.hb_sound.specs.declared.rests.Rest.{Rest}
use Rattle.hb_sound.specs.declared.rests.Rest.TheVariants.{Nothing, Lone, More}
use Rattle.hb_sound.specs.Facts.{FindsBelow, if_seen, seen_at}
use Rattle.hb_sound.specs.Links.{IsRestOf, Knows, KnowsTold}
use Rattle.hb_sound.specs.Told.{item_at}
use Rattle.hb_lemmas.proofs.Lists.{get-push_cases, get-longer}

-- an item of a list stays where it is when one more comes
item_later : {A : Type 0} (xs : List A) (x : A) (id : ℕ) (y : A) → item_at xs id ≡ Some y → item_at (xs ++ x ∷ []) id ≡ Some y
item_later {A} xs x zero y e = let never : None ≡ Some y = e in cc
item_later {A} xs x (suc n) y e = get-longer xs (x ∷ []) n y e

-- and each item is one of before, or the one that came
item_end : {A : Type 0} (xs : List A) (x : A) (id : ℕ) (y : A) → item_at (xs ++ x ∷ []) id ≡ Some y → (item_at xs id ≡ Some y) ⊎ ((id ≡ length xs + 1) × (x ≡ y))
item_end {A} xs x zero y e = inl e
item_end {A} xs x (suc n) y e = elim (get-push_cases xs x n y e) [
  | inl before ↦ inl before
  | inr last ↦ let at = last.0 in inr (omega (arith, at), last.1)
]

module _ (facts : List Fact) (x : Fact) where
  seen_later : (id : ℕ) (o : Option Fact) (seen : Seen) → item_at facts id ≡ o → if_seen o ≡ Some seen → seen_at (facts ++ x ∷ []) id ≡ Some seen
  seen_later id None seen at e = let never : None ≡ Some seen = e in cc
  seen_later id (Some (Live own)) seen at e = ap if_seen (item_later facts x id (Live own) at) ∙ e
  seen_later id (Some (Free next)) seen at e = let never : None ≡ Some seen = e in cc

  below_later : (level : ℕ) (leaf : Leaf) (area : Area) → FindsBelow facts level (placed leaf area) → FindsBelow (facts ++ x ∷ []) level (placed leaf area)
  below_later level (Records records) area finds = record { below = tt }
  below_later level (Sibling name) area finds = record { below = tt }
  below_later level (Child name) area finds =
      let sees = finds.below in
      record { below = (sees.0, seen_later name (item_at facts name) sees.0 refl sees.1, sees.2, sees.3, sees.4) }

  rest_later : (level : ℕ) (leaves : List Placed) (rest : Rest) → IsRestOf facts level leaves rest → IsRestOf (facts ++ x ∷ []) level leaves rest
  rest_later level leaves Nothing is =
      (is.0, All-weaker (FindsBelow facts level) (FindsBelow (facts ++ x ∷ []) level) (λ p h. below_later level p.leaf p.area h) leaves is.1)
  rest_later level leaves (Lone name area) is =
      (is.0, All-weaker (FindsBelow facts level) (FindsBelow (facts ++ x ∷ []) level) (λ p h. below_later level p.leaf p.area h) leaves is.1)
  rest_later level leaves More is = tt

  knows_later : (fact : Fact) (page : Page) → Knows facts fact page → Knows (facts ++ x ∷ []) fact page
  knows_later (Live seen) (pages.Live page) knows = (knows.0, rest_later page.level (leaves_of page.frag page.area) seen.rest knows.1)
  knows_later (Live seen) (pages.Free next) knows = absurd knows
  knows_later (Free next) (pages.Live page) knows = absurd knows
  knows_later (Free next) (pages.Free other) knows = tt

-- one more is
pub knows_more : (facts : List Fact) (told : List (Option Page)) (n : ℕ) (fact : Fact) → length facts ≡ n → KnowsTold facts told
    → ((page : Page) → item_at told (n + 1) ≡ Some (Some page) → Knows facts fact page) → KnowsTold (facts ++ fact ∷ []) told
knows_more facts told n fact count known is id own page at there = elim (item_end facts fact id own at) [
  | inl before ↦ knows_later facts fact own page (known id own page before there)
  | inr last ↦
      let e : id ≡ n + 1 = last.0 ∙ ap (λ (m : ℕ). m + 1) count in
      let Q : Fact → Type 0 = λ f. Knows (facts ++ fact ∷ []) f page in
      let here : item_at told (n + 1) ≡ Some (Some page) = ap (λ (m : ℕ). item_at told m) (sym e) ∙ there in
      subst Q last.1 (knows_later facts fact fact page (is page here))
]
