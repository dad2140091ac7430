-- The pages of a file with another page under a number: one in place of a page in use, or one in use in place of a free page or behind the last.
use Rattle.std.proofs.Common.{◌≡◌, ◌≢◌, ℕ, zero, suc, ◌+◌, ◌≤◌, List, [], ◌∷◌, ◌++◌, length, set, slice_get, Some, None, refl, sym, ap, subst, ◌∙◌, arith}
use Rattle.std.proofs.lemmas.List.{length-append, length-set}
use Rattle.std.proofs.lemmas.Option.{slice_get_within}
use Rattle.hb_frag.specs.declared.pages.Page.{Page}
use Rattle.hb_frag.specs.declared.pages.Page.TheVariants.{Live, Free}
use Rattle.hb_frag.specs.Leaves.{siblings_of}
use Rattle.hb_ops.specs.Files.{page_at}
use Rattle.hb_ops.specs.Operations.{with_page}
use Rattle.hb_ops.specs.Sound.{count_live, count_name, times_named}
use Rattle.hb_ops.proofs.Facts.PageNumberLaws.{page_at-suc, page_at-zero, place_of, with_page-behind, with_page-there}
use Rattle.hb_lemmas.proofs.Lists.{get-push_other, get-push_last}
use Rattle.hb_space.proofs.Facts.Lists.{get-set_other, get-set_same}

-- what a page adds to the pages in use, and to the names
abbrev pub lives : Page → ℕ
lives (Live page) = 1
lives (Free next) = 0

abbrev pub names_in : ℕ → Page → ℕ
names_in id (Live page) = count_name id (siblings_of page)
names_in id (Free next) = 0

count-cons : (q : Page) (rest : List Page) → count_live (q ∷ rest) ≡ lives q + count_live rest
count-cons (Live page) rest = omega arith
count-cons (Free next) rest = omega arith

times-cons : (id : ℕ) (q : Page) (rest : List Page) → times_named id (q ∷ rest) ≡ names_in id q + times_named id rest
times-cons id (Live page) rest = refl
times-cons id (Free next) rest = omega arith

count-set : (pages : List Page) (n : ℕ) (q new : Page) → slice_get pages n ≡ Some q → count_live (set pages n new) + lives q ≡ count_live pages + lives new
count-set [] n q new e = cc
count-set (x ∷ xs) zero q new e =
    let is : x ≡ q = cc in
    let same = ap lives is in
    let one = count-cons x xs in
    let two = count-cons new xs in
    omega (arith, same, one, two)
count-set (x ∷ xs) (suc n) q new e =
    let rest = count-set xs n q new e in
    let one = count-cons x xs in
    let two = count-cons x (set xs n new) in
    omega (arith, rest, one, two)

times-set : (id : ℕ) (pages : List Page) (n : ℕ) (q new : Page) → slice_get pages n ≡ Some q → times_named id (set pages n new) + names_in id q ≡ times_named id pages + names_in id new
times-set id [] n q new e = cc
times-set id (x ∷ xs) zero q new e =
    let is : x ≡ q = cc in
    let same = ap (names_in id) is in
    let one = times-cons id x xs in
    let two = times-cons id new xs in
    omega (arith, same, one, two)
times-set id (x ∷ xs) (suc n) q new e =
    let rest = times-set id xs n q new e in
    let one = times-cons id x xs in
    let two = times-cons id x (set xs n new) in
    omega (arith, rest, one, two)

count-push : (pages : List Page) (new : Page) → count_live (pages ++ (new ∷ [])) ≡ count_live pages + lives new
count-push [] new = let one = count-cons new [] in omega (arith, one)
count-push (x ∷ xs) new =
    let rest = count-push xs new in
    let one = count-cons x xs in
    let two = count-cons x (xs ++ (new ∷ [])) in
    omega (arith, rest, one, two)

times-push : (id : ℕ) (pages : List Page) (new : Page) → times_named id (pages ++ (new ∷ [])) ≡ times_named id pages + names_in id new
times-push id [] new = let one = times-cons id new [] in omega (arith, one)
times-push id (x ∷ xs) new =
    let rest = times-push id xs new in
    let one = times-cons id x xs in
    let two = times-cons id x (xs ++ (new ∷ [])) in
    omega (arith, rest, one, two)

-- pages afterwards: the new page stands under the number, the others as before, and one page went away or none
pub record HasInstead (pages : List Page) (id : ℕ) (was now : Page) (after : List Page) : Type 0 where
  pub there : page_at after id ≡ Some now
  pub others : (other : ℕ) → other ≢ id → page_at after other ≡ page_at pages other
  pub counted : count_live after + lives was ≡ count_live pages + lives now
  pub times : (name : ℕ) → times_named name after + names_in name was ≡ times_named name pages + names_in name now

instead : (pages : List Page) (n : ℕ) (was now : Page) → slice_get pages n ≡ Some was → HasInstead pages (suc n) was now (set pages n now)
instead pages n was now e = record {
  there = page_at-suc (set pages n now) n ∙ get-set_same pages n now (slice_get_within pages n was e);
  others = others;
  counted = count-set pages n was now e;
  times = λ name. times-set name pages n was now e;
}
  where
    others : (other : ℕ) → other ≢ suc n → page_at (set pages n now) other ≡ page_at pages other
    others zero ne = page_at-zero (set pages n now) ∙ sym (page_at-zero pages)
    others (suc m) ne = page_at-suc (set pages n now) m ∙ get-set_other pages n m now (λ e. ne (ap suc e)) ∙ sym (page_at-suc pages m)

pub put_instead : (pages : List Page) (id : ℕ) (was now : Page) → page_at pages id ≡ Some was → HasInstead pages id was now (with_page id now pages) × (length (with_page id now pages) ≡ length pages)
put_instead pages id was now e =
    let here = place_of pages id was e in
    let is : with_page id now pages ≡ set pages here.0 now = ap (λ (m : ℕ). with_page m now pages) here.1 ∙ with_page-there pages here.0 now (slice_get_within pages here.0 was here.2) in (
      subst (λ (after : List Page). HasInstead pages id was now after) (sym is)
          (subst (λ (m : ℕ). HasInstead pages m was now (set pages here.0 now)) (sym here.1) (instead pages here.0 was now here.2)),
      ap length is ∙ length-set pages here.0 now,
    )

-- behind the last page nothing went away, which is as if a free page had
pushed : (pages : List Page) (now : Page) → HasInstead pages (suc (length pages)) (Free 0) now (pages ++ (now ∷ []))
pushed pages now = record {
  there = page_at-suc (pages ++ (now ∷ [])) (length pages) ∙ get-push_last pages now;
  others = others;
  counted = let e = count-push pages now in omega (arith, e);
  times = λ name. let e = times-push name pages now in omega (arith, e);
}
  where
    others : (other : ℕ) → other ≢ suc (length pages) → page_at (pages ++ (now ∷ [])) other ≡ page_at pages other
    others zero ne = page_at-zero (pages ++ (now ∷ [])) ∙ sym (page_at-zero pages)
    others (suc m) ne = page_at-suc (pages ++ (now ∷ [])) m ∙ get-push_other pages m now (λ e. ne (ap suc e)) ∙ sym (page_at-suc pages m)

pub put_behind : (pages : List Page) (id : ℕ) (now : Page) → id ≡ suc (length pages) → HasInstead pages id (Free 0) now (with_page id now pages) × (length (with_page id now pages) ≡ length pages + 1)
put_behind pages id now e =
    let is : with_page id now pages ≡ pages ++ (now ∷ []) = ap (λ (m : ℕ). with_page m now pages) e ∙ with_page-behind pages now in (
      subst (λ (after : List Page). HasInstead pages id (Free 0) now after) (sym is)
          (subst (λ (m : ℕ). HasInstead pages m (Free 0) now (pages ++ (now ∷ []))) (sym e) (pushed pages now)),
      ap length is ∙ length-append pages (now ∷ []),
    )

-- nothing stands behind the last page
get_behind : (pages : List Page) → slice_get pages (length pages) ≡ None
get_behind [] = refl
get_behind (x ∷ xs) = get_behind xs

pub none_behind : (pages : List Page) (id : ℕ) → id ≡ suc (length pages) → page_at pages id ≡ None
none_behind pages id e = ap (page_at pages) e ∙ page_at-suc pages (length pages) ∙ get_behind pages

-- no more pages are in use than there are
pub live_few : (pages : List Page) → count_live pages ≤ length pages
live_few [] = omega arith
live_few (Live page ∷ rest) = let r = live_few rest in omega (arith, r)
live_few (Free next ∷ rest) = let r = live_few rest in omega (arith, r)
