-- Where the records of a file stand: what its contents have under a point is the body of a record of some leaf, and the other way round.
use Rattle.std.proofs.Common.{◌≡◌, ℕ, zero, suc, ◌==◌, inl, inr, Bool, true, false, cond, List, [], ◌∷◌, map, flat_map, length, slice_get, Some, refl, sym, subst, ◌∙◌, arith, eq-eqb, ne_eqb}
use Rattle.std.specs.List.{Contains}
use Rattle.std.specs.Ordering.{eq_by_cmp}
use Rattle.std.specs.FinMap as finite
use Rattle.std.proofs.lemmas.Bool.{cases_eq}
use Rattle.std.proofs.lemmas.Cmp.{nat_list_cmp_total}
use Rattle.std.proofs.lemmas.Grind.{flat_map-append}
use Rattle.std.proofs.lemmas.List.Elements.{All-contains, Contains-append_cases, Contains-append_left, Contains-append_right}
use Rattle.hb_space.specs.Boxes.{Area, IsArea, Holds, side_below, side_from}
use Rattle.hb_space.specs.Points.{IsPoint, point_cmp}
use Rattle.hb_space.specs.declared.records.Record.{Record}
use Rattle.hb_frag.specs.declared.leaves.Leaf.{Leaf}
use Rattle.hb_frag.specs.declared.leaves.Leaf.TheVariants.{Records, Child, Sibling}
use Rattle.hb_frag.specs.declared.pages.LivePage.{LivePage}
use Rattle.hb_frag.specs.declared.pages.Page.{Page}
use Rattle.hb_frag.specs.declared.pages.Page.TheVariants.{Live, Free}
use Rattle.hb_frag.specs.Trees.{Tree, Tip, Cut}
use Rattle.hb_frag.specs.Leaves.{Placed, leaf_at, leaves, leaves_of, records_of}
use Rattle.hb_frag.specs.Rules.{IsInOrder}
use Rattle.hb_ops.specs.Files.{FileState, contents_of, file_records, live_page, page_records}
use Rattle.hb_ops.specs.Sound.{FitsFile}
use Rattle.hb_ops.specs.Standing.{StandsThere}
use Rattle.hb_sound.specs.Laws.{TreeLaws}
use Rattle.hb_sound.specs.PointWalks.{IsPointOf}
use Rattle.hb_sound.proofs.Facts.PagePlaces.{live_there}
use Rattle.hb_ops.proofs.Facts.PlacedLaws.{placed}
use Rattle.hb_lemmas.proofs.Orderings.{equal_so}
use Rattle.hb_lemmas.proofs.Lists.{member_place}
use Rattle.hb_space.proofs.Facts.PointOrder.{exact_points}
use Rattle.hb_ops.proofs.Facts.Finds.{body_at, entry_of}

-- a leaf of a page of level 0 has the record
pub record HasRecord (s : FileState) (r : Record) : Type 0 where
  pub id : ℕ
  pub page : LivePage
  pub live : live_page s id ≡ Some page
  pub level : page.level ≡ 0
  pub leaf : Placed
  pub there : Contains (leaves_of page.frag page.area) leaf
  pub among : Contains (records_of leaf.leaf) r

-- a record of the list has this point and this body
record Gives (records : List Record) (q body : List ℕ) : Type 0 where
  rec : Record
  has : Contains records rec
  key : rec.key ≡ q
  value : rec.body ≡ body

gives_later : (x : Record) (records : List Record) (q body : List ℕ) → Gives records q body → Gives (x ∷ records) q body
gives_later x records q body g = record { rec = g.rec; has = Contains-append_right (x ∷ []) records g.rec g.has; key = g.key; value = g.value }

by_test : (q body : List ℕ) (x : Record) (records : List Record) → (body_at q records ≡ Some body → Gives records q body) → (b : Bool) → eq_by_cmp point_cmp q x.key ≡ b → cond b (Some x.body) (body_at q records) ≡ Some body → Gives (x ∷ records) q body
by_test q body x records rest true t is = record { rec = x; has = (zero, omega arith, refl); key = sym (exact_points q x.key (equal_so (point_cmp q x.key) t)); value = let same : x.body ≡ body = cc in same }
by_test q body x records rest false f is = gives_later x records q body (rest is)

body_given : (q body : List ℕ) (records : List Record) → body_at q records ≡ Some body → Gives records q body
body_given q body [] e = absurd (let no : ⊥ = cc in no)
body_given q body (x ∷ records) e = by_test q body x records (body_given q body records) (eq_by_cmp point_cmp q x.key) refl e

-- a record of all pages is one of some page
record InPage (pages : List Page) (r : Record) : Type 0 where
  place : ℕ
  page : Page
  there : slice_get pages place ≡ Some page
  has : Contains (page_records page) r

in_page : (pages : List Page) (r : Record) → Contains (flat_map page_records pages) r → InPage pages r
in_page [] r (k, lt, e) = absurd (omega arith)
in_page (q ∷ rest) r has = elim (Contains-append_cases (page_records q) (flat_map page_records rest) r has) [
  | inl l ↦ record { place = zero; page = q; there = refl; has = l }
  | inr later ↦ let w = in_page rest r later in record { place = suc w.place; page = w.page; there = w.there; has = w.has }
]

-- of a leaf there
pub in_leaf : (t : Tree) (area : Area) (r : Record) → Contains (flat_map records_of (leaves t)) r → (x : Placed) × Contains (leaves_of t area) x × Contains (records_of x.leaf) r
in_leaf (Tip leaf) area r has = elim (Contains-append_cases (records_of leaf) [] r has) [
  | inl l ↦ (placed leaf area, (zero, omega arith, refl), l)
  | inr none ↦ absurd (omega (arith, none.1))
]
in_leaf (Cut axis value left right) area r has =
    let below = leaves_of left (side_below area axis value) in
    let from = leaves_of right (side_from area axis value) in
    elim (Contains-append_cases (flat_map records_of (leaves left)) (flat_map records_of (leaves right)) r (subst (λ (rs : List Record). Contains rs r) (flat_map-append records_of (leaves left) (leaves right)) has)) [
      | inl l ↦ let w = in_leaf left (side_below area axis value) r l in (w.0, Contains-append_left below from w.0 w.1, w.2)
      | inr l ↦ let w = in_leaf right (side_from area axis value) r l in (w.0, Contains-append_right below from w.0 w.1, w.2)
    ]

on_level : (level : ℕ) (rs : List Record) (r : Record) → Contains (cond (level == 0) rs []) r → (level ≡ 0) × Contains rs r
on_level level rs r has = elim (cases_eq level 0) [
  | inl on ↦ (on, subst (λ (b : Bool). Contains (cond b rs []) r) (eq-eqb level 0 on) has)
  | inr above ↦ let none : Contains [] r = subst (λ (b : Bool). Contains (cond b rs []) r) (ne_eqb level 0 above) has in absurd (omega (arith, none.1))
]

pub of_page : (s : FileState) (n : ℕ) (q : Page) (r : Record) → slice_get s.pages n ≡ Some q → Contains (page_records q) r → HasRecord s r
of_page s n (Free next) r e (k, lt, is) = absurd (omega arith)
of_page s n (Live page) r e has =
    let on = on_level page.level (flat_map records_of (leaves page.frag)) r has in
    let w = in_leaf page.frag page.area r on.1 in
    record { id = suc n; page = page; live = live_there s n page e; level = on.0; leaf = w.0; there = w.1; among = w.2 }

pub of_page_id : (s : FileState) (n : ℕ) (q : Page) (r : Record) (e : slice_get s.pages n ≡ Some q) (has : Contains (page_records q) r) → (of_page s n q r e has).id ≡ suc n
unfolding of_page
of_page_id s n (Free next) r e (k, lt, is) = absurd (omega arith)
of_page_id s n (Live page) r e has = refl

-- what the contents have under a point
pub record IsBodyOf (s : FileState) (q body : List ℕ) : Type 0 where
  pub rec : Record
  pub has : HasRecord s rec
  pub key : rec.key ≡ q
  pub value : rec.body ≡ body

pub contents_stand : (s : FileState) (q body : List ℕ) → finite.get (contents_of s) q ≡ Some body → IsBodyOf s q body
contents_stand s q body e =
    let found : body_at q (file_records s) ≡ Some body = sym (finite.get-from_entries nat_list_cmp_total (map entry_of (file_records s)) q) ∙ e in
    let g = body_given q body (file_records s) found in
    let w = in_page s.pages g.rec g.has in
    record { rec = g.rec; has = of_page s w.place w.page g.rec w.there w.has; key = g.key; value = g.value }

stands_from : (page : LivePage) (r : Record) (leaf : Leaf) (area : Area) → leaf_at page r.key ≡ Some (placed leaf area) → Contains (records_of leaf) r → StandsThere page r.key r
stands_from page r (Records records) area at has = let w = member_place records r has in record { records = records; area = area; leaf = at; place = w.0; among = w.1; key = refl }
stands_from page r (Child name) area at (k, lt, e) = absurd (omega arith)
stands_from page r (Sibling name) area at (k, lt, e) = absurd (omega arith)

-- a record's point, in a page with a box
pub record StandsAt (s : FileState) (page : LivePage) (r : Record) : Type 0 where
  pub point : IsPointOf s r.key
  pub stands : StandsThere page r.key r

pub stands_at : TreeLaws → ((a : Area) (p : List ℕ) → IsArea a → Holds a p → IsPoint p) → (s : FileState) (r : Record) (h : HasRecord s r) → FitsFile s.meta h.page → IsArea h.page.area → StandsAt s h.page r
stands_at trees points s r h made area =
    let page = h.page in
    let order : IsInOrder h.leaf = All-contains IsInOrder (leaves_of page.frag page.area) h.leaf made.in_order h.there in
    let held : Holds h.leaf.area r.key = All-contains (λ (r : Record). Holds h.leaf.area r.key) (records_of h.leaf.leaf) r order.inside h.among in
    let box : IsArea h.leaf.area = All-contains (λ (l : Placed). IsArea l.area) (leaves_of page.frag page.area) h.leaf (trees.areas page.frag page.area area made.well_cut) h.there in
    let as_many : length h.leaf.area.lo ≡ length page.area.lo = All-contains (λ (l : Placed). length l.area.lo ≡ length page.area.lo) (leaves_of page.frag page.area) h.leaf (trees.attributes page.frag page.area) h.there in
    record {
      point = record { point = points h.leaf.area r.key box held; attributes = held.same ∙ as_many ∙ made.fits.attributes };
      stands = stands_from page r h.leaf.leaf h.leaf.area ((trees.only page.frag page.area r.key h.leaf area made.well_cut).1 (h.there, held)) h.among;
    }
