-- A page whose leaf at a point has records: its level, whether it has room, and what it weighs with one more.
use Rattle.std.proofs.Common.{◌≡◌, inl, inr, ℕ, ◌+◌, ◌<◌, ◌≤◌, Bool, true, false, cond, List, [], ◌∷◌, length, Some, arith, zero, suc, Any}
use Rattle.std.specs.List.{Contains, filter, slice_get}
use Rattle.std.specs.Ordering.{is_gt, is_lt}
use Rattle.std.specs.declared.cmp.Ordering.{Ordering}
use Rattle.std.specs.declared.cmp.Ordering.TheVariants.{Less, Equal, Greater}
use Rattle.std.proofs.lemmas.Bool.{cases_lt}
use Rattle.std.proofs.lemmas.List.{length-append}
use Rattle.std.proofs.lemmas.List.Elements.{All-contains, All-contains_itself}
use Rattle.std.proofs.lemmas.Option.{none-some}
use Rattle.hb_ops.proofs.Facts.Opened.{first_has, weight_changed}
use Rattle.hb_frag.specs.Leaves.{WellCut, leaf_at, leaves, leaves_of, weight_of}
use Rattle.hb_frag.specs.Rules.{BelongsAt}
use Rattle.hb_frag.specs.declared.leaves.Leaf.TheVariants.{Records}
use Rattle.hb_frag.specs.declared.pages.LivePage.{LivePage}
use Rattle.hb_layout.specs.Limits.{IsLayout}
use Rattle.hb_layout.specs.declared.meta.Meta.{Meta}
use Rattle.hb_ops.proofs.Facts.PlacedLaws.{placed, placed_is_leaf}
use Rattle.hb_ops.specs.Recording.{FitsPut, joined, put_page}
use Rattle.hb_ops.specs.Sound.{FitsFile}
use Rattle.hb_ops.specs.Standing.{StandsNot}
use Rattle.hb_space.specs.Boxes.{Area}
use Rattle.hb_space.specs.Points.{point_cmp}
use Rattle.hb_space.specs.declared.records.Record.{Record}

-- records stand at level 0 alone
pub records_below : (meta : Meta) (page : LivePage) (p : List ℕ) (records : List Record) (area : Area) → FitsFile meta page → leaf_at page p ≡ Some (record { leaf = Records records; area = area }) → page.level ≡ 0
records_below meta page p records area made leaf =
    let there = first_has (Contains (leaves_of page.frag page.area)) p (leaves_of page.frag page.area) (placed (Records records) area) leaf (All-contains_itself (leaves_of page.frag page.area)) in
    All-contains (BelongsAt page.level) (leaves page.frag) (Records records) made.filled.kinds (placed_is_leaf page.frag page.area (placed (Records records) area) there)

-- where a record of an absent point can't be put, the page has no room for it
pub no_room_left : (meta : Meta) (page : LivePage) (rec : Record) → FitsFile meta page → StandsNot page rec.key → ¬ (FitsPut meta page rec) → meta.dcap < weight_of (put_page rec page).frag
no_room_left meta page rec made absent unfit = elim (cases_lt meta.dcap (weight_of (put_page rec page).frag)) [
  | inl full ↦ full
  | inr room ↦ absurd (unfit (record {
    made = made;
    level = records_below meta page rec.key absent.records absent.area made absent.leaf;
    absent = record { records = absent.records; area = absent.area; leaf = absent.leaf; keeps = absent.lack };
    room = omega (arith, room);
  }))
]

-- ---- one record more weighs one more at most

one_side : (o : Ordering) → cond (is_lt o) 1 0 + cond (is_gt o) 1 0 ≤ 1
one_side Less = omega arith
one_side Equal = omega arith
one_side Greater = omega arith

pub length_cond : (b : Bool) (r : Record) (rs : List Record) → length (cond b (r ∷ rs) rs) ≡ cond b 1 0 + length rs
length_cond true r rs = omega arith
length_cond false r rs = omega arith

few_sides : (rec : Record) (records : List Record) → length (filter (λ r. is_lt (point_cmp r.key rec.key)) records) + length (filter (λ r. is_gt (point_cmp r.key rec.key)) records) ≤ length records
few_sides rec [] = omega arith
few_sides rec (r ∷ records) =
    let lesser = filter (λ (r : Record). is_lt (point_cmp r.key rec.key)) records in
    let greater = filter (λ (r : Record). is_gt (point_cmp r.key rec.key)) records in
    let one = length_cond (is_lt (point_cmp r.key rec.key)) r lesser in
    let two = length_cond (is_gt (point_cmp r.key rec.key)) r greater in
    let rest = few_sides rec records in
    let both = one_side (point_cmp r.key rec.key) in
    omega (arith, one, two, rest, both)

joined_few : (rec : Record) (records : List Record) → length (joined rec records) ≤ length records + 1
joined_few rec records =
    let sides = few_sides rec records in
    let whole = length-append (filter (λ (r : Record). is_lt (point_cmp r.key rec.key)) records) (rec ∷ filter (λ (r : Record). is_gt (point_cmp r.key rec.key)) records) in
    omega (arith, sides, whole)

pub put_weighs : (page : LivePage) (rec : Record) (records : List Record) (area : Area) → WellCut page → leaf_at page rec.key ≡ Some (record { leaf = Records records; area = area }) → weight_of (put_page rec page).frag ≤ weight_of page.frag + 1
put_weighs page rec records area cut leaf =
    let changed = weight_changed page rec.key records area (joined rec) cut leaf in
    let few = joined_few rec records in
    omega (arith, changed, few)

-- so a page without room weighs 6 at least
pub full_page_weighs : (meta : Meta) (page : LivePage) (rec : Record) → IsLayout meta → FitsFile meta page → StandsNot page rec.key → meta.dcap < weight_of (put_page rec page).frag → 6 ≤ weight_of page.frag
full_page_weighs meta page rec layout made absent full =
    let more = put_weighs page rec absent.records absent.area made.well_cut absent.leaf in
    let least = layout.dcap_least in
    omega (arith, more, least, full)

-- the record at a place is one of the point
pub any_at : (records : List Record) (place : ℕ) (r : Record) (p : List ℕ) → slice_get records place ≡ Some r → r.key ≡ p → Any (λ (r : Record). r.key ≡ p) records
any_at [] place r p is key = absurd (none-some r is)
any_at (x ∷ records) zero r p is key = let same : x ≡ r = cc in (0, r, omega arith, same, key)
any_at (x ∷ records) (suc place) r p is key = let rest = any_at records place r p is key in (suc rest.0, rest.1, omega (arith, rest.2), rest.3, rest.4)
