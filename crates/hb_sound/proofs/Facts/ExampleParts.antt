-- What the examples have in common: a file whose pages are all in use.
use Rattle.std.proofs.Common.{◌≡◌, ◌≢◌, ◌⊎◌, inl, inr, ℕ, zero, suc, ◌+◌, ◌<◌, List, [], ◌∷◌, map, slice_get, Contains, Some, sym, ap, subst, ◌∙◌, arith}
use Rattle.std.specs.List.{AllByRecursion}
use Rattle.std.proofs.lemmas.List.Elements.{All-contains}
use Rattle.std.proofs.lemmas.Bool.{cases_eq}
use Rattle.hb_space.specs.Boxes.{Area, Holds, whole_area}
use Rattle.hb_space.specs.declared.records.Record.{Record}
use Rattle.hb_frag.specs.declared.leaves.Leaf.{Leaf}
use Rattle.hb_frag.specs.declared.leaves.Leaf.TheVariants.{Records, Child, Sibling}
use Rattle.hb_frag.specs.declared.pages.LivePage.{LivePage}
use Rattle.hb_frag.specs.declared.pages.Page.TheVariants.{Live, Free}
use Rattle.hb_frag.specs.Leaves.{Placed, leaves_of, siblings_of}
use Rattle.hb_frag.proofs.Facts.RisingRecords.{Rise, rising}
use Rattle.hb_frag.specs.Rules.{IsInOrder}
use Rattle.hb_layout.specs.declared.meta.Meta.{Meta}
use Rattle.hb_ops.specs.Files.{FileState, live_page, page_of}
use Rattle.hb_ops.specs.Sound.{ChildrenMatch, IsCovered, IsCounted, SiblingsMatch, count_live, times_named, HasSame, HasBelow}
use Rattle.hb_sound.proofs.Facts.PagePlaces.{place_of}
use Rattle.hb_ops.proofs.Facts.PageNumberLaws.{page_at-suc, page_at-zero}
use Rattle.std.proofs.lemmas.List.Elements.{All-from_recursion}

-- a file whose pages are all in use
abbrev pub all_live : Meta → List LivePage → FileState
all_live meta pages = record { meta = meta; pages = map Live pages }

pub each_has : {X : Type 0} (P : X → Type 0) (xs : List X) (y : X) → AllByRecursion P xs → Contains xs y → P y
each_has P xs y each has = All-contains P xs y (All-from_recursion P xs each) has

-- what holds of the pages of a list, the first of which has the number n
abbrev pub AllNumbered : (ℕ → LivePage → Type 0) → ℕ → List LivePage → Type 0
AllNumbered P n [] = Unit {0}
AllNumbered P n (page ∷ rest) = P n page × AllNumbered P (suc n) rest

none_at : (pages : List LivePage) (n next : ℕ) → slice_get (map Live pages) n ≡ Some (Free next) → ⊥
none_at [] n next e = cc
none_at (page ∷ rest) zero next e = cc
none_at (page ∷ rest) (suc n) next e = none_at rest n next e

at_place : (P : ℕ → LivePage → Type 0) (pages : List LivePage) (first n : ℕ) (page : LivePage) → AllNumbered P first pages → slice_get (map Live pages) n ≡ Some (Live page) → P (first + n) page
at_place P [] first n page each e = absurd (let no : ⊥ = cc in no)
at_place P (x ∷ rest) first zero page each e =
    let same : x ≡ page = cc in
    subst (λ (q : LivePage). P (first + 0) q) same (subst (λ (k : ℕ). P k x) (let k : first ≡ first + 0 = omega arith in k) each.0)
at_place P (x ∷ rest) first (suc n) page each e =
    subst (λ (k : ℕ). P k page) (let k : suc first + n ≡ first + suc n = omega arith in k) (at_place P rest (suc first) n page each.1 e)

module _ (meta : Meta) (pages : List LivePage) where
  -- none of the pages is free
  pub none_free : (id next : ℕ) → page_of (all_live meta pages) id ≡ Some (Free next) → ⊥
  none_free zero next e = let none = page_at-zero (map Live pages) in cc
  none_free (suc n) next e = none_at pages n next (sym (page_at-suc (map Live pages) n) ∙ e)

  pub counted : meta.free ≡ 0 → meta.live ≡ count_live (map Live pages) → IsCounted (all_live meta pages)
  counted free live = record { chain = []; chained = free; all = λ id next e. absurd (none_free id next e); live = live }

  -- what holds of each of the pages holds of every page in use
  pub each_page : (P : ℕ → LivePage → Type 0) → AllNumbered P 1 pages → (id : ℕ) (page : LivePage) → live_page (all_live meta pages) id ≡ Some page → P id page
  each_page P each id page live =
      let here = place_of (all_live meta pages) id page live in
      subst (λ (n : ℕ). P n page) (let same : 1 + here.0 ≡ id = let e = here.1 in omega (arith, e) in same) (at_place P pages 1 here.0 page each here.2)

-- what a leaf that names a page says of that page
module _ (s : FileState) (level : ℕ) where
  abbrev pub SiblingIsThere : ℕ × Area → Type 0
  SiblingIsThere x = HasSame s level x.0 x.1

  abbrev pub ChildIsThere : Placed → Type 0
  ChildIsThere x = names x.leaf x.area
    where
      names : Leaf → Area → Type 0
      names (Records records) area = Unit {0}
      names (Child name) area = HasBelow s level name area
      names (Sibling name) area = Unit {0}

module _ (meta : Meta) (pages : List LivePage) where
  abbrev pub HasSiblings : ℕ → LivePage → Type 0
  HasSiblings id page = AllByRecursion (SiblingIsThere (all_live meta pages) page.level) (siblings_of page)

  abbrev pub HasChildren : ℕ → LivePage → Type 0
  HasChildren id page = AllByRecursion (ChildIsThere (all_live meta pages) page.level) (leaves_of page.frag page.area)

  pub siblings_match : AllNumbered HasSiblings 1 pages → SiblingsMatch (all_live meta pages)
  siblings_match each id page name area live has =
      each_has (SiblingIsThere (all_live meta pages) page.level) (siblings_of page) (name, area) (each_page meta pages HasSiblings each id page live) has

  pub children_match : AllNumbered HasChildren 1 pages → ChildrenMatch (all_live meta pages)
  children_match each id page name area live has =
      each_has (ChildIsThere (all_live meta pages) page.level) (leaves_of page.frag page.area) (record { leaf = Child name; area = area }) (each_page meta pages HasChildren each id page live) has

-- A page of the whole space has the number that goes with its level, and no sibling leaf names it; one names every other.
pub record IsFirst (s : FileState) (number : ℕ → ℕ) (id : ℕ) (page : LivePage) : Type 0 where
  pub whole : page.area ≡ whole_area s.meta.k
  pub goes : id ≡ number page.level
  pub never : times_named id s.pages ≡ 0

pub record IsLater (s : FileState) (id : ℕ) (page : LivePage) : Type 0 where
  pub part : page.area ≢ whole_area s.meta.k
  pub once : times_named id s.pages ≡ 1

abbrev pub HasPlace : FileState → (ℕ → ℕ) → ℕ → LivePage → Type 0
HasPlace s number id page = IsFirst s number id page ⊎ IsLater s id page

pub first : {s : FileState} {number : ℕ → ℕ} {id : ℕ} {page : LivePage} → page.area ≡ whole_area s.meta.k → id ≡ number page.level → times_named id s.pages ≡ 0 → HasPlace s number id page
first whole goes never = inl (record { whole = whole; goes = goes; never = never })

pub later : {s : FileState} {number : ℕ → ℕ} {id : ℕ} {page : LivePage} → page.area ≢ whole_area s.meta.k → times_named id s.pages ≡ 1 → HasPlace s number id page
later part once = inr (record { part = part; once = once })

-- a page of the whole space on each level below a height
abbrev pub HasFirst : FileState → ℕ → Type 0
HasFirst s level = (id : ℕ) × (page : LivePage) × (live_page s id ≡ Some page) × (page.level ≡ level) × (page.area ≡ whole_area s.meta.k)

abbrev pub HaveFirsts : FileState → ℕ → Type 0
HaveFirsts s zero = Unit {0}
HaveFirsts s (suc level) = HasFirst s level × HaveFirsts s level

first_of : (s : FileState) (height level : ℕ) → HaveFirsts s height → level < height → HasFirst s level
first_of s zero level each lt = absurd (omega (arith, lt))
first_of s (suc height) level each lt = elim (cases_eq level height) [
  | inl is ↦ subst (λ (n : ℕ). HasFirst s n) (sym is) each.0
  | inr other ↦ first_of s height level each.1 (omega (arith, lt, other))
]

module _ (meta : Meta) (pages : List LivePage) (number : ℕ → ℕ) (each : AllNumbered (HasPlace (all_live meta pages) number) 1 pages) where
  place : (id : ℕ) (page : LivePage) → live_page (all_live meta pages) id ≡ Some page → HasPlace (all_live meta pages) number id page
  place = each_page meta pages (HasPlace (all_live meta pages) number) each

  as_first : (id : ℕ) (page : LivePage) → live_page (all_live meta pages) id ≡ Some page → page.area ≡ whole_area meta.k → IsFirst (all_live meta pages) number id page
  as_first id page live whole = elim (place id page live) [ inl has ↦ has | inr has ↦ absurd (has.part whole) ]

  as_later : (id : ℕ) (page : LivePage) → live_page (all_live meta pages) id ≡ Some page → page.area ≢ whole_area meta.k → IsLater (all_live meta pages) id page
  as_later id page live part = elim (place id page live) [ inl has ↦ absurd (part has.whole) | inr has ↦ has ]

  pub is_covered : HaveFirsts (all_live meta pages) meta.height → IsCovered (all_live meta pages)
  is_covered firsts = record {
    first = λ level lt. first_of (all_live meta pages) meta.height level firsts lt;
    alone = λ id other page same live is level whole too. (as_first id page live whole).goes ∙ ap number level ∙ sym (as_first other same is too).goes;
    not_named = λ id page live whole. (as_first id page live whole).never;
    named_once = λ id page live part. (as_later id page live part).once;
  }

-- a leaf without records, and one with them
pub no_records : (name : ℕ) (area : Area) → IsInOrder (record { leaf = Child name; area = area })
no_records name area = record { inside = λ k d lt. absurd (omega (arith, lt)); rising = λ i j d less lt. absurd (omega (arith, lt)) }

pub none_given : (name : ℕ) (area : Area) → IsInOrder (record { leaf = Sibling name; area = area })
none_given name area = record { inside = λ k d lt. absurd (omega (arith, lt)); rising = λ i j d less lt. absurd (omega (arith, lt)) }

pub in_order : (records : List Record) (area : Area) → AllByRecursion (λ (r : Record). Holds area r.key) records → Rise records → IsInOrder (record { leaf = Records records; area = area })
in_order records area each rise = record { inside = All-from_recursion (λ (r : Record). Holds area r.key) records each; rising = rising records rise }
