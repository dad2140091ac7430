-- The pages of a file: which numbers they have, what it is to set one, and what a sound file's free chain says.
use Rattle.std.proofs.Common.{◌≡◌, ◌≢◌, inl, inr, ℕ, zero, suc, ◌+◌, ◌-◌, ◌<◌, ◌≤◌, max, true, false, cond, eqb, List, [], ◌∷◌, ◌++◌, length, set, Contains, Option, Some, None, IsSome, refl, sym, ap, subst, ◌∙◌, arith, length-append}
use Rattle.std.proofs.Math.ListN.{length-set}
use Rattle.std.proofs.lemmas.Bool.{cases_lt, eqb-true, eqb-false, ne_eqb}
use Rattle.std.proofs.lemmas.Option.{none-some}
use Rattle.hb_frag.specs.declared.pages.Page.{Page}
use Rattle.hb_frag.specs.declared.pages.Page.TheVariants.{Live, Free}
use Rattle.hb_ops.specs.Files.{FileState, last_of, page_at, page_of}
use Rattle.hb_ops.specs.Operations.{with_page}
use Rattle.hb_ops.specs.Sound.{IsChain, IsSound, count_live}
use Rattle.hb_ops.proofs.Facts.PageNumberLaws.{page_at-suc, page_at-zero, with_page-behind, with_page-there}
use Rattle.hb_lemmas.proofs.Lists.{get-push_last, get-push_other}
use Rattle.hb_space.proofs.Facts.Lists.{get-set_other, get-set_same}

-- ---- numbers

pub page_in_range : (pages : List Page) (id : ℕ) (p : Page) → page_at pages id ≡ Some p → (1 ≤ id) × (id ≤ length pages)
page_in_range [] id p e = absurd (none-some p e)
page_in_range (x ∷ xs) id p e =
    elim (eqb id 0) as (λ b. eqb id 0 ≡ b → cond b None (cond (eqb id 1) (Some x) (page_at xs (id - 1))) ≡ Some p → (1 ≤ id) × (id ≤ length (x ∷ xs))) [
      | true ↦ λ here found. absurd (none-some p found)
      | false ↦ λ some found. elim (eqb id 1) as (λ b. eqb id 1 ≡ b → cond b (Some x) (page_at xs (id - 1)) ≡ Some p → (1 ≤ id) × (id ≤ length (x ∷ xs))) [
        | true ↦ λ one _. let e : id ≡ 1 = eqb-true id 1 one in (omega (arith, e), omega (arith, e))
        | false ↦ λ more behind. let in_rest = page_in_range xs (id - 1) p behind in (omega (arith, in_rest.0), omega (arith, in_rest.0, in_rest.1))
      ] refl found
    ] refl e

pub page_there : (pages : List Page) (id : ℕ) → 1 ≤ id → id ≤ length pages → (p : Page) × (page_at pages id ≡ Some p)
page_there [] id some high = absurd (omega (arith, some, high))
page_there (x ∷ xs) id some high =
    elim (eqb id 0) as (λ b. eqb id 0 ≡ b → (p : Page) × (cond b None (cond (eqb id 1) (Some x) (page_at xs (id - 1))) ≡ Some p)) [
      | true ↦ λ here. let e : id ≡ 0 = eqb-true id 0 here in absurd (omega (arith, e, some))
      | false ↦ λ _. elim (eqb id 1) as (λ b. eqb id 1 ≡ b → (p : Page) × (cond b (Some x) (page_at xs (id - 1)) ≡ Some p)) [
        | true ↦ λ _. (x, refl)
        | false ↦ λ more. let ne = eqb-false id 1 more in page_there xs (id - 1) (omega (arith, some, ne)) (omega (arith, some, high))
      ] refl
    ] refl

-- behind another page it has the next number
pub page_behind : (x : Page) (xs : List Page) (id : ℕ) → 1 ≤ id → page_at (x ∷ xs) (id + 1) ≡ page_at xs id
page_behind x xs id some =
    let back : id + 1 - 1 ≡ id = omega arith in
    ap (λ b. cond b None (cond (eqb (id + 1) 1) (Some x) (page_at xs (id + 1 - 1)))) (ne_eqb (id + 1) 0 (λ e. absurd (omega (arith, e))))
    ∙ ap (λ b. cond b (Some x) (page_at xs (id + 1 - 1))) (ne_eqb (id + 1) 1 (λ e. absurd (omega (arith, e, some)))) ∙ ap (page_at xs) back

-- a page that is there, and is the file's wherever it is there
pub in_file_at : (s : FileState) (q : ℕ) (o : Option Page) → IsSome o → ((page : Page) → o ≡ Some page → page_of s q ≡ Some page) → o ≡ page_of s q
in_file_at s q None h is = cc h
in_file_at s q (Some page) h is = sym (is page refl)

-- ---- setting a page

-- a page stands under its number, and the others as before
pub record HasSet (pages : List Page) (id : ℕ) (new : Page) (after : List Page) : Type 0 where
  pub there : page_at after id ≡ Some new
  pub others : (q : ℕ) → q ≢ id → page_at after q ≡ page_at pages q
  pub long : length after ≡ max (length pages) id

sets_inside : (pages : List Page) (n : ℕ) (new : Page) → n < length pages → HasSet pages (suc n) new (set pages n new)
sets_inside pages n new lt = record {
  there = page_at-suc (set pages n new) n ∙ get-set_same pages n new lt;
  others = others;
  long = let e = length-set pages n new in omega (arith, e, lt);
}
  where
    others : (q : ℕ) → q ≢ suc n → page_at (set pages n new) q ≡ page_at pages q
    others zero ne = page_at-zero (set pages n new) ∙ sym (page_at-zero pages)
    others (suc m) ne = page_at-suc (set pages n new) m ∙ get-set_other pages n m new (λ e. ne (ap suc e)) ∙ sym (page_at-suc pages m)

sets_behind : (pages : List Page) (new : Page) → HasSet pages (suc (length pages)) new (pages ++ (new ∷ []))
sets_behind pages new = record {
  there = page_at-suc (pages ++ (new ∷ [])) (length pages) ∙ get-push_last pages new;
  others = others;
  long = let e = length-append pages (new ∷ []) in omega (arith, e);
}
  where
    others : (q : ℕ) → q ≢ suc (length pages) → page_at (pages ++ (new ∷ [])) q ≡ page_at pages q
    others zero ne = page_at-zero (pages ++ (new ∷ [])) ∙ sym (page_at-zero pages)
    others (suc m) ne = page_at-suc (pages ++ (new ∷ [])) m ∙ get-push_other pages m new (λ e. ne (ap suc e)) ∙ sym (page_at-suc pages m)

pub sets_page : (pages : List Page) (id : ℕ) (new : Page) → 1 ≤ id → id ≤ length pages + 1 → HasSet pages id new (with_page id new pages)
sets_page pages zero new some high = absurd (omega (arith, some))
sets_page pages (suc n) new some high = elim (cases_lt n (length pages)) [
  | inl lt ↦ subst (λ (after : List Page). HasSet pages (suc n) new after) (sym (with_page-there pages n new lt)) (sets_inside pages n new lt)
  | inr le ↦
      let at : length pages ≡ n = omega (arith, le, high) in
      subst (λ (m : ℕ). HasSet pages (suc m) new (with_page (suc m) new pages)) at
      (subst (λ (after : List Page). HasSet pages (suc (length pages)) new after) (sym (with_page-behind pages new)) (sets_behind pages new))
]

-- ---- sound files

-- the head is a free page
pub sound_head : (s : FileState) → IsSound s → s.meta.free ≢ 0 → (next : ℕ) × (page_of s s.meta.free ≡ Some (Free next))
sound_head s sound some = by_chain sound.counted.chain sound.counted.chained
  where
    by_chain : (chain : List ℕ) → IsChain s s.meta.free chain → (next : ℕ) × (page_of s s.meta.free ≡ Some (Free next))
    by_chain [] none = absurd (some none)
    by_chain (id ∷ rest) is = (is.2, subst (λ (n : ℕ). page_of s n ≡ Some (Free is.2)) (sym is.0) is.3)

-- where no page is free, all are in use
all_live : (pages : List Page) → ((id next : ℕ) → page_at pages id ≡ Some (Free next) → ⊥) → count_live pages ≡ length pages
all_live [] none = refl
all_live (Free next ∷ rest) none = absurd (none 1 next refl)
all_live (Live page ∷ rest) none =
    let more = all_live rest (λ id next is. none (id + 1) next (page_behind (Live page) rest id (page_in_range rest id (Free next) is).0 ∙ is)) in
    omega (arith, more)

-- without a free page there is room only behind the highest page
pub sound_room : (s : FileState) → IsSound s → s.meta.free ≡ 0 → s.meta.high ≡ s.meta.pages → s.meta.live ≡ s.meta.pages
sound_room s sound none high = by_chain sound.counted.chain sound.counted.chained sound.counted.all
  where
    by_chain : (chain : List ℕ) → IsChain s s.meta.free chain → ((id next : ℕ) → page_of s id ≡ Some (Free next) → Contains chain id) → s.meta.live ≡ s.meta.pages
    by_chain [] ends all =
        let live = all_live s.pages (λ id next is. let never : Contains [] id = all id next is in absurd (omega (arith, never.1))) in
        sound.counted.live ∙ live ∙ sound.rooted.numbered ∙ high
    by_chain (id ∷ rest) is all = absurd (is.1 none)

-- a chain of free pages stays where these stay as they are
pub chain_kept : (s t : FileState) → ((id next : ℕ) → page_of s id ≡ Some (Free next) → page_of t id ≡ Some (Free next)) → (head : ℕ) (chain : List ℕ) → IsChain s head chain → IsChain t head chain
chain_kept s t stays head [] h = h
chain_kept s t stays head (id ∷ rest) h = (h.0, h.1, h.2, stays id h.2 h.3, chain_kept s t stays h.2 rest h.4)

-- ---- a list of files

pub last_of-append : (s : FileState) (later : List FileState) (n : FileState) → last_of s (later ++ n ∷ []) ≡ n
last_of-append s [] n = refl
last_of-append s (next ∷ later) n = last_of-append next later n
