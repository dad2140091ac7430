-- A page that is split: of each leaf of the page that stays and of the one that is made, where it comes from.
use Rattle.std.proofs.Common.{◌≡◌, ℕ, ◌+◌, ◌⊎◌, inl, inr, List, ◌++◌, Some, sym, subst, arith}
use Rattle.std.specs.List.{All, Contains}
use Rattle.std.proofs.lemmas.List.Elements.{All-contains, Contains-append_cases, Contains-append_left, Contains-append_right}
use Rattle.hb_space.specs.Boxes.{Area}
use Rattle.hb_frag.specs.declared.leaves.Leaf.TheVariants.{Records, Sibling}
use Rattle.hb_frag.specs.declared.pages.LivePage.{LivePage}
use Rattle.hb_frag.specs.declared.paths.Side.{Side}
use Rattle.hb_frag.specs.Trees.{Tree, Tip}
use Rattle.hb_frag.specs.Leaves.{Placed, leaves, leaves_of, weight_of}
use Rattle.hb_frag.specs.Laws.{IsStretch}
use Rattle.hb_frag.specs.Paths.{part_at, with_part}
use Rattle.hb_frag.specs.Rules.{BelongsAt, IsInOrder}
use Rattle.hb_ops.specs.Extracting.{FitsPart, fresh_page, source_page}
use Rattle.hb_ops.specs.declared.leaf_cuts.LeafCut.{LeafCut}
use Rattle.hb_ops.specs.Cutting.{cut_through}
use Rattle.hb_ops.proofs.Facts.CutLeafLaws.{StemsFrom, reached_stems, through_stems}
use Rattle.hb_ops.proofs.Facts.PlacedLaws.{placed_is_leaf, placed}

-- what the laws of parts say
pub record PartLaws : Type 0 where
  pub leaves : (path : List Side) (t : Tree) (a : Area) (part : Tree × Area) → part_at path t a ≡ Some part → IsStretch path t a part
  pub weight : (path : List Side) (t : Tree) (a : Area) (part : Tree × Area) (other : Tree) → part_at path t a ≡ Some part → weight_of (with_part path t other) + weight_of part.0 ≡ weight_of t + weight_of other

-- what stems from a stretch stems from the whole
stems_further : (front middle behind : List Placed) (x : Placed) → StemsFrom middle x → StemsFrom ((front ++ middle) ++ behind) x
stems_further front middle behind x stems = elim stems [
  | inl has ↦ inl (Contains-append_left (front ++ middle) behind x (Contains-append_right front middle x has))
  | inr w ↦ inr (record {
    records = w.records;
    leaf = w.leaf;
    all = w.all;
    area = w.area;
    there = Contains-append_left (front ++ middle) behind (placed (Records w.all) w.area) (Contains-append_right front middle (placed (Records w.all) w.area) w.there);
    some = w.some;
    in_order = w.in_order;
  })
]

-- a leaf that comes from those of a page stands at its level and is in order, as those do
pub stems_belong : (level : ℕ) (t : Tree) (area : Area) → All (BelongsAt level) (leaves t) → (x : Placed) → StemsFrom (leaves_of t area) x → BelongsAt level x.leaf
stems_belong level t area kinds x stems = elim stems [
  | inl has ↦ All-contains (BelongsAt level) (leaves t) x.leaf kinds (placed_is_leaf t area x has)
  | inr w ↦ subst (BelongsAt level) (sym w.leaf) (All-contains (BelongsAt level) (leaves t) (Records w.all) kinds (placed_is_leaf t area (placed (Records w.all) w.area) w.there))
]

-- and is in order where all of those are
pub stems_in_order : (old : List Placed) → All IsInOrder old → (x : Placed) → StemsFrom old x → IsInOrder x
stems_in_order old order x stems = elim stems [
  | inl has ↦ All-contains IsInOrder old x order has
  | inr w ↦ w.in_order (All-contains IsInOrder old (placed (Records w.all) w.area) order w.there)
]

-- a sibling leaf is in order
pub sibling_in_order : (name : ℕ) (area : Area) → IsInOrder (placed (Sibling name) area)
sibling_in_order name area = record { inside = λ k d lt. absurd (omega arith); rising = λ i j d lt in_range. absurd (omega arith) }

-- where the leaves of both pages come from
module _ (laws : PartLaws) (fresh_id : ℕ) (path : List Side) (cuts : List LeafCut) (page : LivePage) (part : Tree × Area) (fits : FitsPart path cuts page part) where
  abbrev pub old : List Placed
  old = leaves_of page.frag page.area

  abbrev pub fresh : LivePage
  fresh = fresh_page cuts page part

  abbrev pub source : LivePage
  source = source_page fresh_id path cuts page part

  abbrev pub opened : Tree
  opened = cut_through cuts part.0 (Tip (Sibling fresh_id))

  -- the leaves of the part stand among those of the page
  pub stretch : IsStretch path page.frag page.area part
  stretch = laws.leaves path page.frag page.area part fits.there

  -- a leaf of the page that is made comes from the old ones
  pub fresh_stems : (y : Placed) → Contains (leaves_of fresh.frag fresh.area) y → StemsFrom old y
  fresh_stems y has =
      subst (λ (ls : List Placed). StemsFrom ls y) (sym stretch.whole)
      (stems_further stretch.front (leaves_of part.0 part.1) stretch.behind y (reached_stems cuts part.0 part.1 fits.parted y has))

  -- so does one of the part that stays, but for the one that names the new page
  middle_stems : (y : Placed) → Contains (leaves_of opened part.1) y → (placed (Sibling fresh_id) fresh.area ≡ y) ⊎ StemsFrom old y
  middle_stems y has = elim (through_stems fresh_id cuts part.0 part.1 fits.parted y has) [
    | inl is ↦ inl is
    | inr stems ↦ inr (subst (λ (ls : List Placed). StemsFrom ls y) (sym stretch.whole) (stems_further stretch.front (leaves_of part.0 part.1) stretch.behind y stems))
  ]

  same_in_old : (y : Placed) → Contains ((stretch.front ++ leaves_of part.0 part.1) ++ stretch.behind) y → Contains old y
  same_in_old y has = subst (λ (ls : List Placed). Contains ls y) (sym stretch.whole) has

  -- and one of the page that stays too, or it names that page
  pub source_stems : (y : Placed) → Contains (leaves_of source.frag source.area) y → (placed (Sibling fresh_id) fresh.area ≡ y) ⊎ StemsFrom old y
  source_stems y has =
      elim (Contains-append_cases (stretch.front ++ leaves_of opened part.1) stretch.behind y (subst (λ (ls : List Placed). Contains ls y) (stretch.other opened) has)) [
        | inl l ↦ elim (Contains-append_cases stretch.front (leaves_of opened part.1) y l) [
          | inl f ↦ inr (inl (same_in_old y (Contains-append_left (stretch.front ++ leaves_of part.0 part.1) stretch.behind y (Contains-append_left stretch.front (leaves_of part.0 part.1) y f))))
          | inr m ↦ middle_stems y m
        ]
        | inr r ↦ inr (inl (same_in_old y (Contains-append_right (stretch.front ++ leaves_of part.0 part.1) stretch.behind y r)))
      ]
