-- Child leaves with their boxes: which pages they name, and what is known of a point in such a box.
use Rattle.std.proofs.Common.{◌≡◌, ◌⊎◌, inl, inr, ℕ, ◌+◌, ◌<◌, ◌≤◌, List, [], ◌∷◌, length, map, All, sym, ◌∙◌, subst, arith}
use Rattle.std.specs.List.{Contains}
use Rattle.std.proofs.lemmas.List.Elements.{All-contains}
use Rattle.hb_lemmas.proofs.Lists.{each_member, first_member, later_member, member_cases, no_member}
use Rattle.hb_space.specs.Boxes.{Area, IsArea, Holds, Within}
use Rattle.hb_space.proofs.Facts.Boxes.{Holds-within}
use Rattle.hb_frag.specs.declared.leaves.Leaf.{Leaf}
use Rattle.hb_frag.specs.declared.leaves.Leaf.TheVariants.{Child, Sibling}
use Rattle.hb_frag.specs.declared.pages.LivePage.{LivePage}
use Rattle.hb_frag.specs.Leaves.{Placed, leaves, leaves_of, siblings, siblings_of}
use Rattle.hb_frag.specs.Rules.{BelongsAt}
use Rattle.hb_frag.proofs.Facts.Tiles.{first_tells, leaves_placed, tiles_attributes, tiles_within}
use Rattle.hb_layout.specs.declared.meta.Meta.{Meta}
use Rattle.hb_ops.proofs.Facts.PlacedLaws.{placed, placed_is_leaf, sibling_is_leaf, child_listed, listed_child}
use Rattle.hb_ops.specs.Owing.{NamesChildAt}
use Rattle.hb_ops.specs.Settled.{HasChild}
use Rattle.hb_ops.specs.Sound.{FitsFile}
use Rattle.hb_tidy.specs.Placing.{HasGiven, HasPlacedChild, StandsBelow, placed_children}

-- ---- the list of child leaves

-- a leaf without its box is one with some box
with_box : (ls : List Placed) (name : ℕ) → Contains (map (λ (l : Placed). l.leaf) ls) (Child name) → (area : Area) × Contains ls (placed (Child name) area)
with_box [] name has = absurd (no_member (Child name) has)
with_box (x ∷ rest) name has = by (member_cases x.leaf (map (λ (l : Placed). l.leaf) rest) (Child name) has) (with_box rest name)
  where
    by : (x.leaf ≡ Child name) ⊎ Contains (map (λ (l : Placed). l.leaf) rest) (Child name) → (Contains (map (λ (l : Placed). l.leaf) rest) (Child name) → (area : Area) × Contains rest (placed (Child name) area)) → (area : Area) × Contains (x ∷ rest) (placed (Child name) area)
    by (inl here) in_rest = (x.area, subst (λ (leaf : Leaf). Contains (x ∷ rest) (placed leaf x.area)) here (first_member x rest))
    by (inr later) in_rest = let found = in_rest later in (found.0, later_member x rest (placed (Child name) found.0) found.1)

-- so a page that is named is named over some box
pub named_over : (page : LivePage) (name : ℕ) → Contains (leaves page.frag) (Child name) → (area : Area) × Contains (placed_children page) (name, area)
named_over page name has =
    let found = with_box (leaves_of page.frag page.area) name (subst (λ (ls : List Leaf). Contains ls (Child name)) (sym (leaves_placed page.frag page.area)) has) in
    (found.0, child_listed (leaves_of page.frag page.area) name found.0 found.1)

pub names_child : (page : LivePage) (name : ℕ) (area : Area) → HasChild page name area → Contains (leaves page.frag) (Child name)
names_child page name area has = placed_is_leaf page.frag page.area (placed (Child name) area) has

-- ---- a child leaf of a page that is well made

module _ (meta : Meta) (parent : LivePage) (name : ℕ) (area : Area) (made : FitsFile meta parent) (leaf : HasChild parent name area) where
  -- it has the file's number of attributes, and the page is above level 0
  pub leaf_attributes : length area.lo ≡ meta.k
  leaf_attributes =
      All-contains (λ (l : Placed). length l.area.lo ≡ length parent.area.lo) (leaves_of parent.frag parent.area) (placed (Child name) area) (tiles_attributes parent.frag parent.area) leaf
      ∙ made.fits.attributes

  pub above_records : 1 ≤ parent.level
  above_records =
      let some : 0 < parent.level = All-contains (BelongsAt parent.level) (leaves parent.frag) (Child name) made.filled.kinds (names_child parent name area leaf) in
      omega (arith, some)

  pub stands_there : (page : LivePage) → IsArea parent.area → FitsFile meta page → (page.level + 1 ≡ parent.level) × Within area page.area → IsArea page.area → StandsBelow meta parent name area page
  stands_there page whole good (level, within) below = record { above = record { made = made; whole = whole; leaf = leaf }; below_made = good; below_area = below; level = level; within = within }

pub leaves_are_placed : (meta : Meta) (parent : LivePage) → FitsFile meta parent → IsArea parent.area → All (λ (leaf : ℕ × Area). HasPlacedChild meta parent leaf.0 leaf.1) (placed_children parent)
leaves_are_placed meta parent made whole =
    each_member (λ (leaf : ℕ × Area). HasPlacedChild meta parent leaf.0 leaf.1) (placed_children parent) (λ leaf has. record { made = made; whole = whole; leaf = listed_child (leaves_of parent.frag parent.area) leaf.0 leaf.1 has })

-- ---- a point of its box

module _ (meta : Meta) (parent : LivePage) (name : ℕ) (area : Area) (child : LivePage) (p : List ℕ) (stands : StandsBelow meta parent name area child) (held : Holds area p) where
  pub parent_holds : Holds parent.area p
  parent_holds =
      let inside = All-contains (λ (l : Placed). Within l.area parent.area) (leaves_of parent.frag parent.area) (placed (Child name) area) (tiles_within parent.frag parent.area stands.above.whole stands.above.made.well_cut) stands.above.leaf in
      Holds-within area parent.area p (leaf_attributes meta parent name area stands.above.made stands.above.leaf ∙ sym stands.above.made.fits.attributes) inside held

  pub child_holds : Holds child.area p
  child_holds = Holds-within area child.area p (leaf_attributes meta parent name area stands.above.made stands.above.leaf ∙ sym stands.below_made.fits.attributes) stands.within held

  pub child_there : NamesChildAt parent p
  child_there = record {
    outer = name;
    leaf = area;
    at_point = (first_tells parent.frag parent.area p (placed (Child name) area) stands.above.whole stands.above.made.well_cut).1 (stands.above.leaf, held);
  }

-- ---- sibling leaves

siblings_attributes : (ls : List Placed) (k : ℕ) → All (λ (l : Placed). length l.area.lo ≡ k) ls → All (λ (s : ℕ × Area). length s.1.lo ≡ k) (siblings ls)
siblings_attributes ls k all = each_member (λ (s : ℕ × Area). length s.1.lo ≡ k) (siblings ls) (λ s has. All-contains (λ (l : Placed). length l.area.lo ≡ k) ls (placed (Sibling s.0) s.1) all (sibling_is_leaf ls s.0 s.1 has))

-- the boxes that a page gave away have the file's number of attributes
given_attributes : (meta : Meta) (page : LivePage) → FitsFile meta page → All (λ (s : ℕ × Area). length s.1.lo ≡ meta.k) (siblings_of page)
given_attributes meta page made =
    subst (λ (k : ℕ). All (λ (s : ℕ × Area). length s.1.lo ≡ k) (siblings_of page)) made.fits.attributes
    (siblings_attributes (leaves_of page.frag page.area) (length page.area.lo) (tiles_attributes page.frag page.area))

-- as many as the leaf that it stands below
pub common_attributes : (meta : Meta) (parent : LivePage) (area : Area) (child : LivePage) (given : Area) → HasGiven meta parent area child given → length area.lo ≡ length given.lo
common_attributes meta parent area child given has =
    leaf_attributes meta parent has.name area has.stands.above.made has.stands.above.leaf
    ∙ sym (All-contains (λ (s : ℕ × Area). length s.1.lo ≡ meta.k) (siblings_of child) (has.inner, given) (given_attributes meta child has.stands.below_made) has.listed)
