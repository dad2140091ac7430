-- A page whose leaf at a point has records: its weight and its tree once they are changed.
use Rattle.std.proofs.Common.{◌≡◌, ◌≢◌, ℕ, ◌+◌, ◌<◌, ◌≤◌, ◌==◌, max, Bool, true, false, cond, List, [], ◌∷◌, ◌++◌, length, get_or, map, sum, take, drop, All, AllPairs, Any, Option, Some, None, sym, ap, subst, ◌∙◌, arith, inl, inr, eq-eqb, ne_eqb, nat_lt}
use Rattle.std.proofs.lemmas.List.{map-append, length-append, length-take, length-drop}
use Rattle.std.proofs.lemmas.List.Elements.{All-head, All-tail}
use Rattle.std.proofs.lemmas.List.Sums.{sum_by-append, sum_by-cons}
use Rattle.hb_space.specs.Boxes.{Area, Holds, holds, side_below, side_from}
use Rattle.hb_space.specs.declared.records.Record.{Record}
use Rattle.hb_frag.specs.declared.leaves.Leaf.{Leaf}
use Rattle.hb_frag.specs.declared.leaves.Leaf.TheVariants.{Records}
use Rattle.hb_frag.specs.declared.pages.LivePage.{LivePage}
use Rattle.hb_frag.specs.declared.paths.Side.TheVariants.{Left, Right}
use Rattle.hb_frag.specs.Trees.{Tree, Tip, Cut}
use Rattle.hb_frag.specs.Leaves.{IsWellCut, Placed, WellCut, first_at, leaf_at, leaf_weight, leaves_of, records_of, weight_of, with_leaf_at}
use Rattle.hb_frag.specs.Paths.{StaysInside, way_to}
use Rattle.hb_frag.specs.Rules.{AreInOrder, IsInOrder, Precedes, capacity_of, point_of}
use Rattle.hb_frag.proofs.Facts.OrderedLeaves.{sides_apart}
use Rattle.hb_layout.specs.declared.meta.Meta.{Meta}
use Rattle.hb_ops.specs.Recording.{HasGap, HasPlace, IsOpenAt, FitsDel, FitsPut, joined, on_records, page_with, put_page}
use Rattle.hb_ops.proofs.Facts.Places.{gap_lacks, joined_at, place_has}
use Rattle.hb_ops.proofs.Facts.Tips.{first_append, first_held, parted, tip_at, unchanged}
use Rattle.hb_lemmas.specs.Places.{IsGapFor, IsPlaceOf}
use Rattle.hb_space.specs.Points.{point_cmp}

-- what is true of each leaf is true of the first one at a point
pub first_has : (P : Placed → Type 0) (p : List ℕ) (xs : List Placed) (placed : Placed) → first_at p xs ≡ Some placed → All P xs → P placed
first_has P p [] placed e all = absurd (let no : ⊥ = cc in no)
first_has P p (x ∷ xs) placed e all = elim (holds x.area p) as (λ b. cond b (Some x) (first_at p xs) ≡ Some placed → P placed) [
  | true ↦ λ e. let same : x ≡ placed = cc in subst P same (All-head P x xs all)
  | false ↦ λ e. first_has P p xs placed e (All-tail P x xs all)
] e

pub rising_at : (page : LivePage) (p : List ℕ) (records : List Record) (area : Area) → AreInOrder page → leaf_at page p ≡ Some (record { leaf = Records records; area = area }) → AllPairs Precedes records
rising_at page p records area order e = (first_has IsInOrder p (leaves_of page.frag page.area) (record { leaf = Records records; area = area }) e order).rising

abbrev pub placed_records : Option Placed → List Record
placed_records None = []
placed_records (Some placed) = records_of placed.leaf

-- there is one leaf at a point
pub same_records : (page : LivePage) (p : List ℕ) (records others : List Record) (a b : Area) → leaf_at page p ≡ Some (record { leaf = Records records; area = a }) → leaf_at page p ≡ Some (record { leaf = Records others; area = b }) → records ≡ others
same_records page p records others a b e f = ap placed_records (sym e ∙ f)

-- a page that a put or a delete fits is open
pub open_by_put : (meta : Meta) (page : LivePage) (rec : Record) → (fits : FitsPut meta page rec) → IsOpenAt meta page rec.key fits.absent.records
open_by_put meta page rec fits = record {
  made = fits.made;
  level = fits.level;
  inside = first_held rec.key page.frag page.area (record { leaf = Records fits.absent.records; area = fits.absent.area }) fits.made.well_cut fits.absent.leaf;
  area = fits.absent.area;
  leaf = fits.absent.leaf;
}

pub open_by_del : (meta : Meta) (page : LivePage) (point : List ℕ) → (fits : FitsDel meta page point) → IsOpenAt meta page point fits.there.records
open_by_del meta page point fits = record {
  made = fits.made;
  level = fits.level;
  inside = first_held point page.frag page.area (record { leaf = Records fits.there.records; area = fits.there.area }) fits.made.well_cut fits.there.leaf;
  area = fits.there.area;
  leaf = fits.there.leaf;
}

-- what leaves weigh, one of them apart
weights : (before : List Leaf) (leaf : Leaf) (after : List Leaf) → sum (map leaf_weight (before ++ (leaf ∷ after))) ≡ sum (map leaf_weight before) + (leaf_weight leaf + sum (map leaf_weight after))
weights before leaf after =
    ap sum (map-append leaf_weight before (leaf ∷ after))
    ∙ sum_by-append (λ (n : ℕ). n) (map leaf_weight before) (map leaf_weight (leaf ∷ after))
    ∙ ap (λ (n : ℕ). sum (map leaf_weight before) + n) (sum_by-cons (λ (n : ℕ). n) (leaf_weight leaf) (map leaf_weight after))

-- a page with the records of a leaf changed weighs as much more as the leaf does
pub weight_changed : (page : LivePage) (p : List ℕ) (records : List Record) (area : Area) (change : List Record → List Record) → WellCut page → leaf_at page p ≡ Some (record { leaf = Records records; area = area }) → weight_of (page_with p change page).frag + max 1 (length records) ≡ weight_of page.frag + max 1 (length (change records))
weight_changed page p records area change cut e =
    let at = parted p page.frag page.area (record { leaf = Records records; area = area }) cut e in
    let old : weight_of page.frag ≡ sum (map leaf_weight at.before) + (max 1 (length records) + sum (map leaf_weight at.after)) = ap (λ (ls : List Leaf). sum (map leaf_weight ls)) at.is ∙ weights at.before (Records records) at.after in
    let new : weight_of (page_with p change page).frag ≡ sum (map leaf_weight at.before) + (max 1 (length (change records)) + sum (map leaf_weight at.after)) = ap (λ (ls : List Leaf). sum (map leaf_weight ls)) (at.changed (on_records change)) ∙ weights at.before (Records (change records)) at.after in
    omega arith

length-joined : (records : List Record) (rec : Record) (i : ℕ) → IsGapFor point_cmp point_of records rec.key i → length (joined rec records) ≡ length records + 1
length-joined records rec i gap =
    let parts : length (joined rec records) ≡ length (take i records) + length (rec ∷ drop i records) = ap length (joined_at records rec i gap) ∙ length-append (take i records) (rec ∷ drop i records) in
    omega (arith, parts, length-take i records, length-drop i records, gap.in_range)

one_more : (records : List Record) → (n m : ℕ) → n + max 1 (length records) ≡ m + max 1 (length records + 1) → n ≡ m + cond (length records == 0) 0 1
one_more [] n m e = omega arith
one_more (x ∷ xs) n m e =
    let more : ◌≡◌ {A = ℕ} (cond (length (x ∷ xs) == 0) 0 1) 1 = ap (λ (b : Bool). cond b 0 1) (ne_eqb (length (x ∷ xs)) 0 (λ e. omega arith)) in
    omega arith

pub weight_after_put : (meta : Meta) (page : LivePage) (rec : Record) (records : List Record) (i : ℕ) → IsOpenAt meta page rec.key records → IsGapFor point_cmp point_of records rec.key i → weight_of (put_page rec page).frag ≡ weight_of page.frag + cond (length records == 0) 0 1
weight_after_put meta page rec records i opened gap =
    let changed = weight_changed page rec.key records opened.area (joined rec) opened.made.well_cut opened.leaf in
    one_more records (weight_of (put_page rec page).frag) (weight_of page.frag) (changed ∙ ap (λ (n : ℕ). weight_of page.frag + max 1 n) (length-joined records rec i gap))

-- so a put is allowed where the point has a gap and the page has room, and not without room, nor where the point is there
pub gap_found : (meta : Meta) (page : LivePage) (rec : Record) (records : List Record) (i : ℕ) → IsOpenAt meta page rec.key records → IsGapFor point_cmp point_of records rec.key i → weight_of page.frag + cond (length records == 0) 0 1 ≤ meta.dcap → HasGap meta page rec records i
gap_found meta page rec records i opened gap room = record {
  fits = record {
    made = opened.made;
    level = opened.level;
    absent = record { records = records; area = opened.area; leaf = opened.leaf; keeps = gap_lacks records rec.key i gap };
    room = omega (arith, weight_after_put meta page rec records i opened gap);
  };
  opened = opened;
  gap = gap;
}

pub no_room : (meta : Meta) (page : LivePage) (rec : Record) (records : List Record) (i : ℕ) → IsOpenAt meta page rec.key records → IsGapFor point_cmp point_of records rec.key i → meta.dcap < weight_of page.frag + cond (length records == 0) 0 1 → ¬ (FitsPut meta page rec)
no_room meta page rec records i opened gap full fits = omega (arith, weight_after_put meta page rec records i opened gap, fits.room)

pub taken : (meta : Meta) (page : LivePage) (rec : Record) (records : List Record) (i : ℕ) → IsOpenAt meta page rec.key records → IsPlaceOf point_of records rec.key i → ¬ (FitsPut meta page rec)
taken meta page rec records i opened here fits =
    let same : fits.absent.records ≡ records = same_records page rec.key fits.absent.records records fits.absent.area opened.area fits.absent.leaf opened.leaf in
    let some : Record = record { key = []; body = [] } in
    subst (λ (rs : List Record). All (λ (r : Record). r.key ≢ rec.key) rs) same fits.absent.keeps i some here.in_range (here.same_key some)

-- and a delete where the point is there, and not where it has a gap
pub place_found : (meta : Meta) (page : LivePage) (point : List ℕ) (records : List Record) (i : ℕ) → IsOpenAt meta page point records → IsPlaceOf point_of records point i → HasPlace meta page point records i
place_found meta page point records i opened here = record {
  fits = record {
    made = opened.made;
    level = opened.level;
    there = record { records = records; area = opened.area; leaf = opened.leaf; keeps = place_has records point i here };
  };
  opened = opened;
  found = here;
}

pub missing : (meta : Meta) (page : LivePage) (point : List ℕ) (records : List Record) (i : ℕ) → IsOpenAt meta page point records → IsGapFor point_cmp point_of records point i → ¬ (FitsDel meta page point)
missing meta page point records i opened gap fits =
    let same : fits.there.records ≡ records = same_records page point fits.there.records records fits.there.area opened.area fits.there.leaf opened.leaf in
    let any : Any (λ (r : Record). r.key ≡ point) records = subst (λ (rs : List Record). Any (λ (r : Record). r.key ≡ point) rs) same fits.there.keeps in
    gap_lacks records point i gap any.0 any.1 any.2 (ap (λ (r : Record). r.key) any.3 ∙ any.4)

-- what a page weighs that is open
pub weighs_little : (meta : Meta) (page : LivePage) (point : List ℕ) (records : List Record) → IsOpenAt meta page point records → weight_of page.frag ≤ meta.dcap
weighs_little meta page point records opened =
    let light = opened.made.filled.light in
    let capacity : capacity_of page.level meta.dcap meta.icap ≡ meta.dcap = ap (λ (b : Bool). cond b meta.dcap meta.icap) (eq-eqb page.level 0 opened.level) in
    omega arith

-- two changes that make the same of the leaf make the same of the tree
pub same_change : (p : List ℕ) (f g : Leaf → Leaf) (tree : Tree) (area : Area) (placed : Placed) → IsWellCut tree area → first_at p (leaves_of tree area) ≡ Some placed → f placed.leaf ≡ g placed.leaf → with_leaf_at p f tree area ≡ with_leaf_at p g tree area
same_change p f g (Tip leaf) area placed cut e same =
    let here : leaf ≡ placed.leaf = ap (λ (x : Placed). x.leaf) (tip_at p leaf area placed e).1 in
    let alike : f leaf ≡ g leaf = ap f here ∙ same ∙ sym (ap g here) in
    ap (λ (l : Leaf). Tip (cond (holds area p) l leaf)) alike
same_change p f g (Cut axis value left right) area placed cut e same =
    let below = side_below area axis value in
    let from = side_from area axis value in
    elim (first_append p (leaves_of left below) (leaves_of right from) placed e) [
      | inl l ↦
          let out : ¬ (Holds from p) = λ h. sides_apart area axis value p cut.0 (first_held p left below placed cut.1 l) h in
          let one = same_change p f g left below placed cut.1 l same in
          let other : with_leaf_at p f right from ≡ with_leaf_at p g right from = unchanged p f right from cut.2 out ∙ sym (unchanged p g right from cut.2 out) in
          λ i. Cut axis value (one i) (other i)
      | inr r ↦
          let out : ¬ (Holds below p) = λ h. sides_apart area axis value p cut.0 h (first_held p right from placed cut.2 r) in
          let one : with_leaf_at p f left below ≡ with_leaf_at p g left below = unchanged p f left below cut.1 out ∙ sym (unchanged p g left below cut.1 out) in
          let other = same_change p f g right from placed cut.2 r same in
          λ i. Cut axis value (one i) (other i)
    ]

-- the page that a change makes, from the records that it makes of the leaf's
pub page_made : (meta : Meta) (page : LivePage) (p : List ℕ) (records made : List Record) (change : List Record → List Record) → IsOpenAt meta page p records → made ≡ change records → (record { level = page.level; area = page.area; frag = with_leaf_at p (λ leaf. Records made) page.frag page.area }) ≡ page_with p change page
page_made meta page p records made change opened is =
    let same = same_change p (λ leaf. Records made) (on_records change) page.frag page.area (record { leaf = Records records; area = opened.area }) opened.made.well_cut opened.leaf (ap Records is) in
    λ i. record { level = page.level; area = page.area; frag = same i }

-- the way to a leaf stays in the tree
pub way_stays : (p : List ℕ) (tree : Tree) → StaysInside (way_to p tree) tree
way_stays p (Tip leaf) = tt
way_stays p (Cut axis value left right) = elim (nat_lt (get_or p axis 0) value) as (λ b. StaysInside (cond b (Left ∷ way_to p left) (Right ∷ way_to p right)) (Cut axis value left right)) [
  | true ↦ way_stays p left
  | false ↦ way_stays p right
]
