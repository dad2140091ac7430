-- Reading the pages one by one, where they are told.
use Rattle.std.proofs.Common.{◌≡◌, inl, inr, ℕ, zero, suc, ◌+◌, ◌≤◌, List, [], ◌∷◌, ◌++◌, length, take, Option, Some, None, IfSome, slice_get, refl, sym, ap, ◌∙◌, subst, arith}
use Rattle.std.proofs.lemmas.Bool.{cases_lt}
use Rattle.hb_lemmas.proofs.Lists.{place_within}
use Rattle.hb_frag.specs.declared.pages.Page.{Page}
use Rattle.hb_layout.specs.declared.meta.Meta.{Meta}
use Rattle.hb_sound.specs.declared.page_facts.Fact.{Fact}
use Rattle.hb_sound.specs.Facts.{AreFactsOf, IsFactOf}
use Rattle.hb_sound.specs.Links.{Knows, KnowsTold}
use Rattle.hb_sound.specs.Told.{CoversFile, IsHole, item_at, shown_pages}
use Rattle.hb_sound.proofs.Firsts.{item_behind}
use Rattle.hb_sound.proofs.KnownPages.{knows_more}

-- no hole so far, and these are the facts of the pages so far
pub record IsReadTo (meta : Meta) (told : List (Option Page)) (n : ℕ) (facts : List Fact) : Type 0 where
  pub whole : (id : ℕ) → id ≤ n → ¬ (IsHole meta told id)
  pub facts_are : AreFactsOf meta facts (shown_pages (take n told))
  pub known : KnowsTold facts told

pub take_more : {A : Type 0} (xs : List A) (n : ℕ) (x : A) → slice_get xs n ≡ Some x → take (n + 1) xs ≡ take n xs ++ x ∷ []
take_more {A} [] n x e = let never : None ≡ Some x = e in cc
take_more {A} (y ∷ xs) zero x e = let is : y ≡ x = cc in ap (λ (z : A). z ∷ []) is
take_more {A} (y ∷ xs) (suc n) x e =
    let one : suc n + 1 ≡ suc (n + 1) = omega arith in
    ap (λ (m : ℕ). take m (y ∷ xs)) one ∙ ap (λ (l : List A). y ∷ l) (take_more xs n x e)

shown_more : (xs : List (Option Page)) (page : Page) → shown_pages (xs ++ Some page ∷ []) ≡ shown_pages xs ++ page ∷ []
shown_more [] page = refl
shown_more (None ∷ xs) page = shown_more xs page
shown_more (Some first ∷ xs) page = ap (λ (l : List Page). first ∷ l) (shown_more xs page)

facts_more : (meta : Meta) (facts : List Fact) (pages : List Page) (fact : Fact) (page : Page) → AreFactsOf meta facts pages → IsFactOf meta fact page
    → AreFactsOf meta (facts ++ fact ∷ []) (pages ++ page ∷ [])
facts_more meta [] [] fact page are is = (is, tt)
facts_more meta [] (other ∷ pages) fact page are is = absurd are
facts_more meta (own ∷ facts) [] fact page are is = absurd are
facts_more meta (own ∷ facts) (other ∷ pages) fact page are is = (are.0, facts_more meta facts pages fact page are.1 is)

-- one more page is there
pub read_more : (meta : Meta) (told : List (Option Page)) (n : ℕ) (facts : List Fact) (fact : Fact) → CoversFile meta told → IsReadTo meta told n facts → length facts ≡ n → n + 1 ≤ meta.pages
    → ((page : Page) → item_at told (n + 1) ≡ Some (Some page) → IsFactOf meta fact page) → (item_at told (n + 1) ≡ Some None → ⊥)
    → ((page : Page) → item_at told (n + 1) ≡ Some (Some page) → Knows facts fact page)
    → IsReadTo meta told (n + 1) (facts ++ fact ∷ [])
read_more meta told n facts fact covers read count within is there knows =
    let found = place_within told n (omega (arith, covers, within)) in
    let at : item_at told (n + 1) ≡ Some found.0 = item_behind told n ∙ found.1 in
    let page = some_page found.0 (λ e. there (at ∙ ap (λ (o : Option Page). Some o) e)) in
    let here : slice_get told n ≡ Some (Some page.0) = found.1 ∙ ap (λ (o : Option Page). Some o) page.1 in
    let fact_is = is page.0 (item_behind told n ∙ here) in
    let Q : List Page → Type 0 = λ l. AreFactsOf meta (facts ++ fact ∷ []) l in
    record {
      whole = λ id le hole. elim (cases_lt n id) [
        | inl lt ↦
            let e : id ≡ n + 1 = omega (arith, lt, le) in
            let Q : ℕ → Type 0 = λ m. IsHole meta told m in
            absurd (not_hole (subst Q e hole))
        | inr before ↦ read.whole id before hole
      ];
      facts_are = subst Q (sym (ap shown_pages (take_more told n (Some page.0) here) ∙ shown_more (take n told) page.0))
          (facts_more meta facts (shown_pages (take n told)) fact page.0 read.facts_are fact_is);
      known = knows_more facts told n fact count read.known knows;
    }
  where
    some_page : (o : Option Page) → (o ≡ None → ⊥) → (page : Page) × (o ≡ Some page)
    some_page None none = absurd (none refl)
    some_page (Some page) none = (page, refl)

    not_hole : IsHole meta told (n + 1) → ⊥
    not_hole hole = elim hole.2 [ inl beyond ↦ omega (arith, beyond, within) | inr none ↦ there none ]

-- the same where nothing may be told
pub if_more : (o : Option (List (Option Page))) (meta : Meta) (n : ℕ) (facts : List Fact) (fact : Fact) → IfSome o (CoversFile meta) → IfSome o (λ told. IsReadTo meta told n facts) → length facts ≡ n → n + 1 ≤ meta.pages
    → IfSome o (λ told. (page : Page) → item_at told (n + 1) ≡ Some (Some page) → IsFactOf meta fact page) → IfSome o (λ told. item_at told (n + 1) ≡ Some None → ⊥)
    → IfSome o (λ told. (page : Page) → item_at told (n + 1) ≡ Some (Some page) → Knows facts fact page)
    → IfSome o (λ told. IsReadTo meta told (n + 1) (facts ++ fact ∷ []))
if_more None meta n facts fact covers read count within is there knows = tt
if_more (Some told) meta n facts fact covers read count within is there knows = read_more meta told n facts fact covers read count within is there knows
