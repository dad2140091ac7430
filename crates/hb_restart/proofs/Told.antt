-- What the audit is told of a file that is opened.
use Rattle.std.proofs.Common.{◌≡◌, ◌⊎◌, inl, inr, ℕ, zero, suc, ◌+◌, ◌<◌, ◌≤◌, List, [], ◌∷◌, length, take, slice_get, Option, Some, None, IfSome, Result, Ok, Err, IfOk, refl, sym, ap, ◌∙◌, arith}
use Rattle.std.proofs.lemmas.Option.{same_Some, slice_get_within}
use Rattle.hb_frag.specs.declared.pages.Page.{Page}
use Rattle.hb_frag.specs.declared.pages.Page.TheVariants.{Live, Free}
use Rattle.hb_layout.specs.declared.meta.Meta.{Meta}
use Rattle.hb_page_codec.specs.ReadingPages.{page_of_bytes}
use Rattle.hb_page_codec.specs.Weight.{IsLight}
use Rattle.hb_space.specs.declared.form.TheConstants.{PAGE}
use Rattle.hb_sound.specs.Told.{CoversFile, GivesPage, item_at, shown_pages}
use Rattle.hb_store.specs.States.{IsSameLayout}
use Rattle.hb_store.specs.Opening.{place_bytes}
use Rattle.hb_restart.specs.Source.{touched_or, page_there, page_weight, pages_from, told_pages}

pub told_long : (page : ℕ → Option Page) (id n : ℕ) → length (pages_from page id n) ≡ n
told_long page id zero = refl
told_long page id (suc n) = let behind = told_long page (suc id) n in omega (arith, behind)

told_slice : (page : ℕ → Option Page) (id n k : ℕ) → k + 1 ≤ n → slice_get (pages_from page id n) k ≡ Some (page (id + k))
told_slice page id zero k most = absurd (omega (arith, most))
told_slice page id (suc n) zero most = ap (λ (m : ℕ). Some (page m)) (let e : id ≡ id + 0 = omega arith in e)
told_slice page id (suc n) (suc k) most =
    told_slice page (suc id) n k (omega (arith, most)) ∙ ap (λ (m : ℕ). Some (page m)) (let e : suc id + k ≡ id + suc k = omega arith in e)

-- each number up to the last is told of, and no other
pub told_at : (page : ℕ → Option Page) (n id : ℕ) → 1 ≤ id → id ≤ n → item_at (pages_from page 1 n) id ≡ Some (page id)
told_at page n zero some most = absurd (omega (arith, some))
told_at page n (suc k) some most = told_slice page 1 n k (omega (arith, most)) ∙ ap (λ (m : ℕ). Some (page m)) (let e : 1 + k ≡ suc k = omega arith in e)

pub told_is : (page : ℕ → Option Page) (n id : ℕ) (there : Option Page) → item_at (pages_from page 1 n) id ≡ Some there → (1 ≤ id) × (id ≤ n) × (page id ≡ there)
told_is page n zero there e = absurd (let never : None ≡ Some there = e in cc)
told_is page n (suc k) there e =
    let most = slice_get_within (pages_from page 1 n) k there e in
    let long = told_long page 1 n in
    (omega arith, omega (arith, most, long), same_Some (page (suc k)) there (sym (told_at page n (suc k) (omega arith) (omega (arith, most, long))) ∙ e))

-- what a source gives
pub gives_touched : (o : Option (List ℕ)) (said : Meta) (touched : ℕ → Option Page) (id : ℕ) (page : Page) → touched id ≡ Some page → GivesPage (told_pages o said touched) id (Some page)
gives_touched None said touched id page is = tt
gives_touched (Some b) said touched id page is = λ there e.
    ap (λ (o : Option Page). touched_or o (page_of_bytes (place_bytes said id b))) (sym is) ∙ (told_is (page_there b said touched) said.pages id there e).2

pub gives_none : (o : Option (List ℕ)) (said : Meta) (touched : ℕ → Option Page) (id : ℕ) → (id ≡ 0) ⊎ (said.pages < id) → GivesPage (told_pages o said touched) id None
gives_none None said touched id outside = tt
gives_none (Some b) said touched id outside = λ there e.
    let told = told_is (page_there b said touched) said.pages id there e in
    elim outside [ inl none ↦ absurd (omega (arith, none, told.0)) | inr beyond ↦ absurd (omega (arith, beyond, told.1)) ]

pub gives_place : (o : Option (List ℕ)) (said : Meta) (touched : ℕ → Option Page) (id : ℕ) (page : Option Page) → touched id ≡ None → IfSome o (λ b. page ≡ page_of_bytes (place_bytes said id b))
    → GivesPage (told_pages o said touched) id page
gives_place None said touched id page none read = tt
gives_place (Some b) said touched id page none read = λ there e.
    read ∙ ap (λ (o : Option Page). touched_or o (page_of_bytes (place_bytes said id b))) (sym none) ∙ (told_is (page_there b said touched) said.pages id there e).2

pub gives_read : {E : Type 0} (r : Result (Option Page) E) (o : Option (List ℕ)) (said : Meta) (touched : ℕ → Option Page) (id : ℕ) → touched id ≡ None
    → IfOk r (λ page. IfSome o (λ b. page ≡ page_of_bytes (place_bytes said id b))) → IfOk r (λ page. GivesPage (told_pages o said touched) id page)
gives_read (Ok page) o said touched id none read = gives_place o said touched id page none read
gives_read (Err e) o said touched id none read = tt

-- every page that the file may have is told of
pub covers : (o : Option (List ℕ)) (said meta : Meta) (touched : ℕ → Option Page) → IsSameLayout said meta → IfSome (told_pages o said touched) (CoversFile meta)
covers None said meta touched same = tt
covers (Some b) said meta touched same = let long = told_long (page_there b said touched) 1 said.pages in let pages = same.pages in omega (arith, long, pages)

-- what a page weighs
pub light_page : (page : Page) → page_weight page ≤ PAGE → IsLight page
light_page (Live page) light = light
light_page (Free next) light = tt

pub weight_page : (page : Page) → IsLight page → page_weight page ≤ PAGE
weight_page (Live page) light = light
weight_page (Free next) light = omega arith

-- the pages that are shown of a list without a hole
pub shown_each : (list : List (Option Page)) → ((k : ℕ) → slice_get list k ≡ Some None → ⊥)
    → (length (shown_pages list) ≡ length list) × ((k : ℕ) (page : Page) → slice_get (shown_pages list) k ≡ Some page → slice_get list k ≡ Some (Some page))
shown_each [] none = (refl, λ k page e. absurd (let never : None ≡ Some page = e in cc))
shown_each (None ∷ rest) none = absurd (none 0 refl)
shown_each (Some first ∷ rest) none =
    let behind = shown_each rest (λ k e. none (suc k) e) in
    (let long = behind.0 in omega (arith, long), at behind.1)
  where
    at : ((k : ℕ) (page : Page) → slice_get (shown_pages rest) k ≡ Some page → slice_get rest k ≡ Some (Some page)) → (k : ℕ) (page : Page) → slice_get (first ∷ shown_pages rest) k ≡ Some page
        → slice_get (Some first ∷ rest) k ≡ Some (Some page)
    at behind zero page e = ap (λ (o : Option Page). Some o) e
    at behind (suc k) page e = behind k page e

-- what stands in the front of a list stands in the list
pub front_at : {A : Type 0} (n : ℕ) (list : List A) (k : ℕ) (x : A) → slice_get (take n list) k ≡ Some x → (k < n) × (slice_get list k ≡ Some x)
front_at {A} zero list k x e = absurd (let never : None ≡ Some x = e in cc)
front_at {A} (suc n) [] k x e = absurd (let never : None ≡ Some x = e in cc)
front_at {A} (suc n) (y ∷ list) zero x e = (omega arith, e)
front_at {A} (suc n) (y ∷ list) (suc k) x e = let behind = front_at n list k x e in (let less = behind.0 in omega (arith, less), behind.1)
