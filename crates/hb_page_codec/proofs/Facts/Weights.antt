-- How many bytes a page takes, by what it weighs.
use Rattle.std.proofs.Common.{◌≡◌, ℕ, zero, suc, ◌+◌, ◌*◌, ◌<◌, ◌≤◌, ◌^◌, List, [], ◌∷◌, ◌++◌, length, ap, ◌∙◌, length-append, arith}
use Rattle.std.specs.List.{flat_map, AllByRecursion}
use Rattle.std.proofs.lemmas.List.Concat.{flat_map-cons}
use Rattle.std.proofs.lemmas.List.Elements.{recursion_from_All}
use Rattle.hb_lemmas.specs.Numbers.{big_endian}
use Rattle.hb_space.specs.declared.form.TheConstants.{KMAX}
use Rattle.hb_space.specs.declared.records.Record.{Record}
use Rattle.hb_frag.specs.declared.leaves.Leaf.TheVariants.{Records, Child, Sibling}
use Rattle.hb_frag.specs.declared.pages.LivePage.{LivePage}
use Rattle.hb_frag.specs.declared.pages.Page.{Page}
use Rattle.hb_frag.specs.declared.pages.Page.TheVariants.{Live, Free}
use Rattle.hb_frag.specs.Trees.{Tree, Tip, Cut}
use Rattle.hb_frag.specs.Leaves.{leaves, weight_of}
use Rattle.hb_frag.specs.Rules.{BelongsAt, IsFilledRight, capacity_of}
use Rattle.hb_frag.specs.Grammar.{point_bytes, record_bytes, tree_bytes, page_fields, FitsRecord, FitsTree, FitsPage, HasSpelling, SpellsPage}
use Rattle.hb_page_codec.specs.Weight.{IsLight}
use Rattle.hb_page_codec.proofs.Facts.Fields.{length_point, length_record}
use Rattle.hb_page_codec.proofs.Writes.{length-cut}
use Rattle.hb_page_codec.proofs.Facts.PageLaws.{zeros_left}
use Rattle.hb_frag.proofs.Facts.Parts.{weight_cut}
use Rattle.hb_lemmas.proofs.Numbers.{length_big_endian}
use Rattle.hb_lemmas.proofs.Lists.{parts}

-- each record has a byte at least
records_long : (rs : List Record) → length rs ≤ length (flat_map record_bytes rs)
records_long [] = omega arith
records_long (r ∷ rs) =
    let step : length (flat_map record_bytes (r ∷ rs)) ≡ length (record_bytes r) + length (flat_map record_bytes rs) = ap length (flat_map-cons record_bytes r rs) ∙ length-append (record_bytes r) (flat_map record_bytes rs) in
    omega (arith, step, length-append (point_bytes r.key) (length r.body ∷ r.body), records_long rs)

-- a tree weighs no more than it has bytes
weight_short : (t : Tree) → weight_of t ≤ length (tree_bytes t)
weight_short (Tip (Records rs)) = omega (arith, records_long rs, length-append (1 ∷ big_endian 2 (length rs)) (flat_map record_bytes rs))
weight_short (Tip (Child page)) = omega arith
weight_short (Tip (Sibling page)) = omega arith
weight_short (Cut axis value left right) = omega (arith, weight_cut axis value left right, length-cut axis value left right, weight_short left, weight_short right)

page_length : (page : LivePage) → length (page_fields (Live page)) ≡ 4 + 8 * length page.area.lo + 8 * length page.area.hi + length (tree_bytes page.frag)
page_length page =
    let lo = point_bytes page.area.lo in
    let hi = point_bytes page.area.hi in
    omega (arith, length-append (1 ∷ page.level ∷ length page.area.lo ∷ 0 ∷ lo ++ hi) (tree_bytes page.frag), length-append (1 ∷ page.level ∷ length page.area.lo ∷ 0 ∷ lo) hi, length_point page.area.lo, length_point page.area.hi)

pub is_light : (bytes : List ℕ) (page : Page) → SpellsPage bytes page → IsLight page
is_light bytes (Free next) s = tt
is_light bytes (Live page) s = omega (arith, weight_short page.frag, page_length page, zeros_left bytes (Live page) s)

-- records take at most 65 bytes each
records_short : (k : ℕ) (rs : List Record) → k ≤ KMAX → AllByRecursion (FitsRecord k) rs → length (flat_map record_bytes rs) ≤ 65 * length rs
records_short k [] few fits = omega arith
records_short k (r ∷ rs) few fits =
    let step : length (flat_map record_bytes (r ∷ rs)) ≡ length (record_bytes r) + length (flat_map record_bytes rs) = ap length (flat_map-cons record_bytes r rs) ∙ length-append (record_bytes r) (flat_map record_bytes rs) in
    omega (arith, step, length_record k r fits.0, fits.0.body.few, few, records_short k rs few fits.1)

-- a tree has at most 78 bytes for each unit of its weight, and a cut less than leaves
data_short : (k : ℕ) (t : Tree) → k ≤ KMAX → FitsTree k t → length (tree_bytes t) + 10 ≤ 78 * weight_of t
data_short k (Tip (Records rs)) few fits =
    omega (arith, records_short k rs few (recursion_from_All (FitsRecord k) rs fits.1), length-append (1 ∷ big_endian 2 (length rs)) (flat_map record_bytes rs), length_big_endian 2 (length rs))
data_short k (Tip (Child page)) few fits = omega (arith, length_big_endian 4 page)
data_short k (Tip (Sibling page)) few fits = omega (arith, length_big_endian 4 page)
data_short k (Cut axis value left right) few fits =
    omega (arith, weight_cut axis value left right, length-cut axis value left right, data_short k left few fits.2, data_short k right few fits.3)

-- above level 0 at most 15
index_short : (level : ℕ) (t : Tree) → 0 < level → AllByRecursion (BelongsAt level) (leaves t) → length (tree_bytes t) + 10 ≤ 15 * weight_of t
index_short level (Tip (Records rs)) above kinds = let ground : level ≡ 0 = kinds.0 in absurd (omega (arith, ground))
index_short level (Tip (Child page)) above kinds = omega (arith, length_big_endian 4 page)
index_short level (Tip (Sibling page)) above kinds = omega (arith, length_big_endian 4 page)
index_short level (Cut axis value left right) above kinds =
    omega (arith, weight_cut axis value left right, length-cut axis value left right, index_short level left above (parts (BelongsAt level) (leaves left) (leaves right) kinds).0, index_short level right above (parts (BelongsAt level) (leaves left) (leaves right) kinds).1)

tree_short : (level k : ℕ) (t : Tree) (dcap icap : ℕ) → k ≤ KMAX → FitsTree k t → AllByRecursion (BelongsAt level) (leaves t) → weight_of t ≤ capacity_of level dcap icap → dcap ≤ 48 → icap ≤ 256 → length (tree_bytes t) ≤ 3840
tree_short zero k t dcap icap few fits kinds light small large = omega (arith, data_short k t few fits)
tree_short (suc level) k t dcap icap few fits kinds light small large =
    let weight : weight_of t ≤ icap = grind (arith, light) in
    omega (arith, index_short (suc level) t (omega arith) kinds)

pub filled_page_short : (page : LivePage) (dcap icap : ℕ) → FitsPage (Live page) → IsFilledRight page dcap icap → dcap ≤ 48 → icap ≤ 256 → HasSpelling (Live page)
filled_page_short page dcap icap fits filled small large =
    let tree = tree_short page.level (length page.area.lo) page.frag dcap icap fits.1.lo_point.few fits.2 (recursion_from_All (BelongsAt page.level) (leaves page.frag) filled.kinds) filled.light small large in
    record { fits = fits; short = omega (arith, tree, page_length page, fits.1.lo_point.few, fits.1.hi_point.few) }

pub free_page_short : (next : ℕ) → next < 2 ^ 32 → HasSpelling (Free next)
free_page_short next fits = record { fits = fits; short = omega (arith, length_big_endian 4 next) }
