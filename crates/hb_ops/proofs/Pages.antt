-- The records of the page at a number among those of the other pages.
use Rattle.std.proofs.Common.{◌≡◌, ◌≢◌, ℕ, zero, suc, List, [], ◌∷◌, ◌++◌, set, slice_get, flat_map, Some, refl, sym, ap, ◌∙◌, arith, append_assoc}
use Rattle.std.specs.List.{AllByRecursion}
use Rattle.hb_space.specs.declared.records.Record.{Record}
use Rattle.hb_frag.specs.declared.pages.Page.{Page}
use Rattle.hb_ops.specs.Files.{page_records}
use Rattle.hb_lemmas.proofs.Lists.{whole}
use Rattle.std.proofs.lemmas.Option.{same_Some}

-- no record of these pages has the point
abbrev pub Lack : List ℕ → List Record → Type 0
Lack p records = AllByRecursion (λ (r : Record). r.key ≢ p) records

all_lack : (p : List ℕ) (pages : List Page) → ((m : ℕ) (q : Page) → slice_get pages m ≡ Some q → Lack p (page_records q)) → Lack p (flat_map page_records pages)
all_lack p [] h = tt
all_lack p (x ∷ xs) h = whole (λ (r : Record). r.key ≢ p) (page_records x) (flat_map page_records xs) (h zero x refl) (all_lack p xs (λ m q e. h (suc m) q e))

-- The records of all pages are some, those of the page at the place, and some: with another page there it has that one's.
pub record StandsAmong (pages : List Page) (n : ℕ) (page : Page) : Type 0 where
  pub before : List Record
  pub after : List Record
  pub is : flat_map page_records pages ≡ before ++ (page_records page ++ after)
  pub changed : (new : Page) → flat_map page_records (set pages n new) ≡ before ++ (page_records new ++ after)
  pub lack_before : (p : List ℕ) → ((m : ℕ) (q : Page) → m ≢ n → slice_get pages m ≡ Some q → Lack p (page_records q)) → Lack p before
  pub lack_after : (p : List ℕ) → ((m : ℕ) (q : Page) → m ≢ n → slice_get pages m ≡ Some q → Lack p (page_records q)) → Lack p after

pub stands_among : (pages : List Page) (n : ℕ) (page : Page) → slice_get pages n ≡ Some page → StandsAmong pages n page
stands_among [] n page e = cc
stands_among (x ∷ xs) zero page e = record {
  before = [];
  after = flat_map page_records xs;
  is = ap (λ (q : Page). page_records q ++ flat_map page_records xs) (same_Some x page e);
  changed = λ new. refl;
  lack_before = λ p h. tt;
  lack_after = λ p h. all_lack p xs (λ m q at. h (suc m) q (λ e. omega arith) at);
}
stands_among (x ∷ xs) (suc n) page e =
    let rest = stands_among xs n page e in
    record {
      before = page_records x ++ rest.before;
      after = rest.after;
      is = ap (λ (rs : List Record). page_records x ++ rs) rest.is ∙ sym (append_assoc (page_records x) rest.before (page_records page ++ rest.after));
      changed = λ new. ap (λ (rs : List Record). page_records x ++ rs) (rest.changed new) ∙ sym (append_assoc (page_records x) rest.before (page_records new ++ rest.after));
      lack_before = λ p h. whole (λ (r : Record). r.key ≢ p) (page_records x) rest.before (h zero x (λ e. omega arith) refl) (rest.lack_before p (λ m q ne at. h (suc m) q (λ e. ne (omega arith)) at));
      lack_after = λ p h. rest.lack_after p (λ m q ne at. h (suc m) q (λ e. ne (omega arith)) at);
    }
