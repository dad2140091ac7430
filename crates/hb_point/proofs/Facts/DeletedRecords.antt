-- What a page weighs once the record of a point is gone.
use Rattle.std.proofs.Common.{◌≡◌, ℕ, ◌+◌, ◌-◌, ◌<◌, ◌≤◌, max, List, [], ◌∷◌, length, take, drop, AllPairs, Some, ap, subst, ◌∙◌, arith, zero, suc}
use Rattle.std.specs.List.{slice_get}
use Rattle.std.proofs.lemmas.List.{length-append, length-take, length-drop}
use Rattle.std.proofs.lemmas.Option.{none-some}
use Rattle.hb_frag.specs.Leaves.{leaf_at, weight_of}
use Rattle.hb_frag.specs.Rules.{Precedes, point_of}
use Rattle.hb_frag.specs.declared.leaves.Leaf.TheVariants.{Records}
use Rattle.hb_frag.specs.declared.pages.LivePage.{LivePage}
use Rattle.hb_layout.specs.declared.meta.Meta.{Meta}
use Rattle.hb_ops.proofs.Facts.Opened.{rising_at, same_records, weight_changed}
use Rattle.hb_ops.proofs.Facts.Places.{without_at}
use Rattle.hb_ops.specs.Recording.{del_page, without}
use Rattle.hb_ops.specs.Sound.{FitsFile}
use Rattle.hb_ops.specs.Standing.{StandsThere}
use Rattle.hb_space.specs.Boxes.{Area}
use Rattle.hb_space.specs.declared.records.Record.{Record}
use Rattle.hb_lemmas.specs.Places.{IsPlaceOf}

-- the record of the point stands at its place
pub is_at : (records : List Record) (place : ℕ) (r : Record) (p : List ℕ) → slice_get records place ≡ Some r → r.key ≡ p → IsPlaceOf point_of records p place
is_at [] place r p is key = absurd (none-some r is)
is_at (x ∷ records) zero r p is key = let same : x ≡ r = cc in record { in_range = omega arith; same_key = λ d. ap (λ (q : Record). q.key) same ∙ key }
is_at (x ∷ records) (suc place) r p is key =
    let rest = is_at records place r p is key in
    let range = rest.in_range in
    record { in_range = omega (arith, range); same_key = λ d. rest.same_key d }

one_fewer : (records : List Record) (p : List ℕ) (place : ℕ) → AllPairs Precedes records → IsPlaceOf point_of records p place → length (without p records) + 1 ≡ length records
one_fewer records p place rise here =
    let is = ap (λ (rs : List Record). length rs) (without_at records p place rise here) in
    let both = length-append (take place records) (drop (place + 1) records) in
    let front = length-take place records in
    let back = length-drop (place + 1) records in
    let range = here.in_range in
    omega (arith, is, both, front, back, range)

-- So a leaf of two records or more weighs one less, and one of a single record as much as before.
pub weighs_without : (meta : Meta) (page : LivePage) (p : List ℕ) (records : List Record) (area : Area) (found : Record) → FitsFile meta page → leaf_at page p ≡ Some (record { leaf = Records records; area = area }) → StandsThere page p found →
    weight_of (del_page p page).frag + max 1 (length records) ≡ weight_of page.frag + max 1 (length records - 1)
weighs_without meta page p records area found made leaf there =
    let same = same_records page p there.records records there.area area there.leaf leaf in
    let here = subst (λ (rs : List Record). IsPlaceOf point_of rs p there.place) same (is_at there.records there.place found p there.among there.key) in
    let rise = rising_at page p records area made.in_order leaf in
    let fewer = one_fewer records p there.place rise here in
    let changed = weight_changed page p records area (without p) made.well_cut leaf in
    changed ∙ ap (λ (n : ℕ). weight_of page.frag + max 1 n) (let n : length (without p records) ≡ length records - 1 = omega (arith, fewer) in n)

pub weighs_less : (meta : Meta) (page : LivePage) (p : List ℕ) (records : List Record) (area : Area) (found : Record) → FitsFile meta page → leaf_at page p ≡ Some (record { leaf = Records records; area = area }) → StandsThere page p found →
    1 < length records → weight_of (del_page p page).frag + 1 ≡ weight_of page.frag
weighs_less meta page p records area found made leaf there more = let is = weighs_without meta page p records area found made leaf there in omega (arith, is, more)

pub weighs_same : (meta : Meta) (page : LivePage) (p : List ℕ) (records : List Record) (area : Area) (found : Record) → FitsFile meta page → leaf_at page p ≡ Some (record { leaf = Records records; area = area }) → StandsThere page p found →
    length records ≤ 1 → weight_of page.frag ≡ weight_of (del_page p page).frag
weighs_same meta page p records area found made leaf there one = let is = weighs_without meta page p records area found made leaf there in omega (arith, is, one)
