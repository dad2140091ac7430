-- What one walk over the bytes of a page goes past.
use Rattle.std.proofs.Common.{◌≡◌, ◌↔◌, ℕ, ◌*◌, ◌<◌, ◌≤◌, Bool, true, false, not, cond, eqb, List, length, Option, Some, None, option_map, IfSome, IsSomeAnd, IsTrue, refl, sym, ap, subst, ◌∙◌, arith}
use Rattle.std.proofs.lemmas.Bool.{false≢true}
use Rattle.std.proofs.lemmas.Option.{same_Some}
use Rattle.std.specs.List.{list_all}
use Rattle.hb_lemmas.specs.Options.{◌>>=◌}
use Rattle.hb_lemmas.proofs.Lists.{All-parts}
use Rattle.hb_lemmas.proofs.Options.{at_value, not_none, of_value, one_value, value_and}
use Rattle.hb_space.specs.Boxes.{Area, Cuts, side_below, side_from}
use Rattle.hb_space.specs.declared.form.TheConstants.{PAGE}
use Rattle.hb_frag.specs.declared.leaves.Leaf.TheVariants as leaves
use Rattle.hb_frag.specs.declared.pages.Page.{Page}
use Rattle.hb_frag.specs.declared.pages.Page.TheVariants.{Live, Free}
use Rattle.hb_frag.specs.Trees.{Tree, Tip, Cut}
use Rattle.hb_frag.specs.Leaves.{leaves as leaves_in}
use Rattle.hb_frag.specs.Rules.{AreAlike, BelongsAt, IsFilledRight, IsSiblingTip, capacity_of}
use Rattle.hb_frag.proofs.Facts.Parts.{weight_cut}
use Rattle.hb_frag.proofs.Facts.Sides.{same-side_from}
use Rattle.hb_layout.specs.declared.meta.Meta.{Meta}
use Rattle.hb_page_codec.specs.Reading.{ReadsAs, number_at}
use Rattle.hb_page_codec.specs.ReadingFields.{area_at, axis_at}
use Rattle.hb_page_codec.specs.ReadingPages.{cut_at, tree_at, head_at, live_at, fields_at, page_of_bytes}
use Rattle.hb_view.specs.declared.leaves.LeafView.{LeafView}
use Rattle.hb_view.specs.declared.well_made.Passed.{Passed}
use Rattle.hb_view.specs.Behind.{name_behind}
use Rattle.hb_view.specs.Limits.{meta_with}
use Rattle.hb_view.specs.WellMade.{GoesPast, GoesPastTree, IsLoneSibling, IsTreeWellMade, KeepsRules, PassesOver, ShouldBeOne, SpellWellMade, free_at, lone_leaf}
use Rattle.hb_view.proofs.Checked.{ending, whole}
use Rattle.hb_view.proofs.Cornered.{has_corners, point_count}
use Rattle.hb_view.proofs.Headed.{spelled_long}
use Rattle.hb_view.proofs.ListsPassed.{if_then}
use Rattle.hb_view.proofs.Passing.{order_splits}

-- what a walk says that went past a tree, and one that stopped
pub went_past : (level : ℕ) (area : Area) (before : ℕ) (read : Option (Tree × List ℕ)) (passed : Passed) (b : Bool) → GoesPastTree level area before read passed b → b ≡ true → PassesOver level area before read passed
went_past level area before read passed b h e = subst (λ (t : Bool). GoesPastTree level area before read passed t) e h

pub has_stopped : (level : ℕ) (area : Area) (before : ℕ) (read : Option (Tree × List ℕ)) (passed : Passed) (b : Bool) → GoesPastTree level area before read passed b → b ≡ false → IfSome read (λ x. ¬ (IsTreeWellMade level area x.0))
has_stopped level area before read passed b h e = subst (λ (t : Bool). GoesPastTree level area before read passed t) e h

-- ---- two sides by their leaves

pub alike_tells : (l r : Tree) → ShouldBeOne (lone_leaf l) (lone_leaf r) ↔ AreAlike l r
alike_tells (Cut axis value below from) r = (λ h. h, λ h. h)
alike_tells (Tip (leaves.Sibling page)) r = (λ h. h, λ h. h)
alike_tells (Tip (leaves.Records rs)) (Tip (leaves.Records others)) = (λ h. h, λ h. h)
alike_tells (Tip (leaves.Records rs)) (Tip (leaves.Child page)) = (λ h. h, λ h. h)
alike_tells (Tip (leaves.Records rs)) (Tip (leaves.Sibling page)) = (λ h. h, λ h. h)
alike_tells (Tip (leaves.Records rs)) (Cut axis value below from) = (λ h. h, λ h. h)
alike_tells (Tip (leaves.Child page)) (Tip (leaves.Records rs)) = (λ h. h, λ h. h)
alike_tells (Tip (leaves.Child page)) (Tip (leaves.Child other)) = (λ h. h, λ h. h)
alike_tells (Tip (leaves.Child page)) (Tip (leaves.Sibling other)) = (λ h. h, λ h. h)
alike_tells (Tip (leaves.Child page)) (Cut axis value below from) = (λ h. h, λ h. h)

-- by the leaves that two walks told
pub alike_sides : (l r : Tree) (left right : Option LeafView) → left ≡ lone_leaf l → right ≡ lone_leaf r → ShouldBeOne left right ↔ AreAlike l r
alike_sides l r left right el er =
    subst (λ (o : Option LeafView). ShouldBeOne o right ↔ AreAlike l r) (sym el) (subst (λ (o : Option LeafView). ShouldBeOne (lone_leaf l) o ↔ AreAlike l r) (sym er) (alike_tells l r))

sibling_tells : (t : Tree) → IsLoneSibling (lone_leaf t) ↔ IsSiblingTip t
sibling_tells (Tip (leaves.Records rs)) = (λ h. h, λ h. h)
sibling_tells (Tip (leaves.Child page)) = (λ h. h, λ h. h)
sibling_tells (Tip (leaves.Sibling page)) = (λ h. h, λ h. h)
sibling_tells (Cut axis value below from) = (λ h. h, λ h. h)

pub sibling_root : (t : Tree) (leaf : Option LeafView) → leaf ≡ lone_leaf t → IsLoneSibling leaf ↔ IsSiblingTip t
sibling_root t leaf e = subst (λ (o : Option LeafView). IsLoneSibling o ↔ IsSiblingTip t) (sym e) (sibling_tells t)

-- ---- a cut

cut_well_made : (level axis value : ℕ) (area : Area) (l r : Tree) → Cuts area axis value → IsTreeWellMade level (side_below area axis value) l → IsTreeWellMade level (side_from area axis value) r → ¬ (AreAlike l r) → IsTreeWellMade level area (Cut axis value l r)
cut_well_made level axis value area l r cuts below from other = record {
  well_cut = (cuts, below.well_cut, from.well_cut);
  kinds = (All-parts (BelongsAt level) (leaves_in l) (leaves_in r)).1 (below.kinds, from.kinds);
  in_order = (order_splits area axis value l r).1 (below.in_order, from.in_order);
  normal = (other, below.normal, from.normal);
}

below_well_made : (level axis value : ℕ) (area : Area) (l r : Tree) → IsTreeWellMade level area (Cut axis value l r) → IsTreeWellMade level (side_below area axis value) l
below_well_made level axis value area l r made = record {
  well_cut = made.well_cut.1;
  kinds = ((All-parts (BelongsAt level) (leaves_in l) (leaves_in r)).0 made.kinds).0;
  in_order = ((order_splits area axis value l r).0 made.in_order).0;
  normal = made.normal.1;
}

from_well_made : (level axis value : ℕ) (area : Area) (l r : Tree) → IsTreeWellMade level area (Cut axis value l r) → IsTreeWellMade level (side_from area axis value) r
from_well_made level axis value area l r made = record {
  well_cut = made.well_cut.2;
  kinds = ((All-parts (BelongsAt level) (leaves_in l) (leaves_in r)).0 made.kinds).1;
  in_order = ((order_splits area axis value l r).0 made.in_order).1;
  normal = made.normal.2;
}

-- a plane, and where the left side begins
pub record PlaneAt (k : ℕ) (bytes : List ℕ) (axis value : ℕ) (left : List ℕ) : Type 0 where
  pub behind : List ℕ
  pub attribute : axis_at k bytes ≡ Some (axis, behind)
  pub number : number_at 8 behind ≡ Some (value, left)

cut_is : (k : ℕ) (bytes left : List ℕ) (axis value : ℕ) → PlaneAt k bytes axis value left → cut_at (tree_at k) k bytes ≡ (tree_at k left >>= λ l. tree_at k l.1 >>= λ r. Some (Cut axis value l.0 r.0, r.1))
unfolding cut_at
cut_is k bytes left axis value plane = rw (plane.attribute, plane.number) refl

cut_passed : (k level axis value : ℕ) (area below above : Area) (before : ℕ) (bytes left : List ℕ) (first second passed : Passed) → PlaneAt k bytes axis value left → Cuts area axis value → below ≡ side_below area axis value → above ≡ side_from area axis value
    → (p : PassesOver level below before (tree_at k left) first) → (q : PassesOver level above first.weight (tree_at k first.rest.now) second) → ¬ (ShouldBeOne first.leaf second.leaf)
    → passed.rest.now ≡ second.rest.now → passed.weight ≡ second.weight → passed.leaf ≡ None → PassesOver level area before (cut_at (tree_at k) k bytes) passed
cut_passed k level axis value area below above before bytes left first second passed plane cuts eb ea p q other rest weight leaf = record {
  tree = Cut axis value p.tree q.tree;
  there = cut_is k bytes left axis value plane
      ∙ ap (λ (o : Option (Tree × List ℕ)). o >>= λ l. tree_at k l.1 >>= λ r. Some (Cut axis value l.0 r.0, r.1)) p.there
      ∙ ap (λ (o : Option (Tree × List ℕ)). o >>= λ r. Some (Cut axis value p.tree r.0, r.1)) q.there
      ∙ ap (λ (b : List ℕ). Some (Cut axis value p.tree q.tree, b)) (sym rest);
  well_made = cut_well_made level axis value area p.tree q.tree cuts (subst (λ (a : Area). IsTreeWellMade level a p.tree) eb p.well_made) (subst (λ (a : Area). IsTreeWellMade level a q.tree) ea q.well_made)
      (λ alike. other ((alike_sides p.tree q.tree first.leaf second.leaf p.leaf q.leaf).1 alike));
  weight = omega (arith, weight, p.weight, q.weight, weight_cut axis value p.tree q.tree);
  leaf = leaf;
}

-- a side has as many attributes
pub side_count : (area whole above : Area) (k axis value : ℕ) → whole ≡ area → above ≡ side_from whole axis value → length area.lo ≡ k → length above.lo ≡ k
side_count area whole above k axis value ew ea same = ap (λ (a : Area). length a.lo) ea ∙ same-side_from whole axis value ∙ ap (λ (a : Area). length a.lo) ew ∙ same

-- it stops where no such cut can be well made
cut_stops : (k level axis value : ℕ) (area : Area) (bytes left : List ℕ) → PlaneAt k bytes axis value left
    → ((l r : Tree × List ℕ) → tree_at k left ≡ Some l → tree_at k l.1 ≡ Some r → ¬ (IsTreeWellMade level area (Cut axis value l.0 r.0))) → IfSome (cut_at (tree_at k) k bytes) (λ x. ¬ (IsTreeWellMade level area x.0))
cut_stops k level axis value area bytes left plane never =
    subst (λ (o : Option (Tree × List ℕ)). IfSome o (λ x. ¬ (IsTreeWellMade level area x.0))) (sym (cut_is k bytes left axis value plane))
    (if_then (tree_at k left) (λ l. tree_at k l.1 >>= λ r. Some (Cut axis value l.0 r.0, r.1)) _ (λ l el. if_then (tree_at k l.1) (λ r. Some (Cut axis value l.0 r.0, r.1)) _ (λ r er. never l r el er)))

pub left_stops : (k level axis value : ℕ) (area below : Area) (bytes left : List ℕ) → PlaneAt k bytes axis value left → below ≡ side_below area axis value → IfSome (tree_at k left) (λ x. ¬ (IsTreeWellMade level below x.0)) → IfSome (cut_at (tree_at k) k bytes) (λ x. ¬ (IsTreeWellMade level area x.0))
left_stops k level axis value area below bytes left plane eb stopped =
    cut_stops k level axis value area bytes left plane (λ l r el er. λ made.
    at_value (tree_at k left) (λ x. ¬ (IsTreeWellMade level below x.0)) l el stopped (subst (λ (a : Area). IsTreeWellMade level a l.0) (sym eb) (below_well_made level axis value area l.0 r.0 made)))

-- the bytes behind the left side are one
same_behind : (k : ℕ) (left right : List ℕ) (tree : Tree) (l : Tree × List ℕ) → tree_at k left ≡ Some (tree, right) → tree_at k left ≡ Some l → right ≡ l.1
same_behind k left right tree l e el = ap (λ (x : Tree × List ℕ). x.1) (one_value (tree_at k left) (tree, right) l e el)

pub right_stops : (k level axis value : ℕ) (area above : Area) (bytes left right : List ℕ) (tree : Tree) → PlaneAt k bytes axis value left → tree_at k left ≡ Some (tree, right) → above ≡ side_from area axis value
    → IfSome (tree_at k right) (λ x. ¬ (IsTreeWellMade level above x.0)) → IfSome (cut_at (tree_at k) k bytes) (λ x. ¬ (IsTreeWellMade level area x.0))
right_stops k level axis value area above bytes left right tree plane e ea stopped =
    cut_stops k level axis value area bytes left plane (λ l r el er. λ made.
    at_value (tree_at k right) (λ x. ¬ (IsTreeWellMade level above x.0)) r (ap (tree_at k) (same_behind k left right tree l e el) ∙ er) stopped
    (subst (λ (a : Area). IsTreeWellMade level a r.0) (sym ea) (from_well_made level axis value area l.0 r.0 made)))

alike_stops : (k level axis value : ℕ) (area below above : Area) (before : ℕ) (bytes left : List ℕ) (first second : Passed) → PlaneAt k bytes axis value left → (p : PassesOver level below before (tree_at k left) first)
    → (q : PassesOver level above first.weight (tree_at k first.rest.now) second) → ShouldBeOne first.leaf second.leaf → IfSome (cut_at (tree_at k) k bytes) (λ x. ¬ (IsTreeWellMade level area x.0))
alike_stops k level axis value area below above before bytes left first second plane p q one =
    cut_stops k level axis value area bytes left plane (λ l r el er. λ made.
    let same_left : p.tree ≡ l.0 = ap (λ (x : Tree × List ℕ). x.0) (one_value (tree_at k left) (p.tree, first.rest.now) l p.there el) in
    let there : tree_at k first.rest.now ≡ Some r = ap (tree_at k) (same_behind k left first.rest.now p.tree l p.there el) ∙ er in
    let same_right : q.tree ≡ r.0 = ap (λ (x : Tree × List ℕ). x.0) (one_value (tree_at k first.rest.now) (q.tree, second.rest.now) r q.there there) in
    let alike = (alike_sides p.tree q.tree first.leaf second.leaf p.leaf q.leaf).0 one in
    made.normal.0 (subst (λ (t : Tree). AreAlike l.0 t) same_right (subst (λ (t : Tree). AreAlike t q.tree) same_left alike)))

-- at a cut whose sides were passed
pub cut_judged : (k level axis value : ℕ) (area below above : Area) (before : ℕ) (bytes left : List ℕ) (first second passed : Passed) (alike : Bool) → PlaneAt k bytes axis value left → Cuts area axis value → below ≡ side_below area axis value → above ≡ side_from area axis value
    → PassesOver level below before (tree_at k left) first → PassesOver level above first.weight (tree_at k first.rest.now) second → (IsTrue alike ↔ ShouldBeOne first.leaf second.leaf)
    → passed.rest.now ≡ second.rest.now → passed.weight ≡ second.weight → passed.leaf ≡ None → GoesPastTree level area before (cut_at (tree_at k) k bytes) passed (not alike)
cut_judged k level axis value area below above before bytes left first second passed true plane cuts eb ea p q tells rest weight leaf = alike_stops k level axis value area below above before bytes left first second plane p q (tells.0 refl)
cut_judged k level axis value area below above before bytes left first second passed false plane cuts eb ea p q tells rest weight leaf =
    cut_passed k level axis value area below above before bytes left first second passed plane cuts eb ea p q (λ one. false≢true (tells.1 one)) rest weight leaf

-- ---- a page in use

-- what a box that was read says of its attributes
pub box_count : (k : ℕ) (bytes : List ℕ) (x : Area × List ℕ) → area_at k bytes ≡ Some x → length x.0.lo ≡ k
box_count k bytes x e =
    let has = has_corners k bytes x e in
    let room : 8 * k ≤ length bytes = omega (arith, has.room) in
    sym (ap (λ (a : Area). length a.lo) has.corners) ∙ point_count k bytes room

-- a head, a box, and where the tree begins
pub record HeadAt (bytes : List ℕ) (level k : ℕ) (area : Area) (tree : List ℕ) : Type 0 where
  pub corners : List ℕ
  pub head : head_at bytes ≡ Some (level, k, corners)
  pub box : area_at k corners ≡ Some (area, tree)

live_is : (bytes : List ℕ) (level k : ℕ) (area : Area) (tree : List ℕ) → HeadAt bytes level k area tree → live_at bytes ≡ (tree_at k tree >>= λ t. Some (Live (record { level = level; area = area; frag = t.0 }), t.1))
unfolding live_at
live_is bytes level k area tree at = rw (at.head, at.box) refl

module _ (k height dcap icap : ℕ) where
  abbrev Keeps : Page → Type 0
  Keeps page = KeepsRules (meta_with k height dcap icap) page

  pub live_passed : (bytes : List ℕ) (level n : ℕ) (area : Area) (tree : List ℕ) (passed : Passed) → HeadAt bytes level n area tree → level < height → n ≡ k → (p : PassesOver level area 0 (tree_at n tree) passed)
      → passed.weight ≤ capacity_of level dcap icap → ¬ (IsLoneSibling passed.leaf) → GoesPast Keeps (live_at bytes) (Some passed.rest.now)
  live_passed bytes level n area tree passed at low same p light own = (
    Live (record { level = level; area = area; frag = p.tree }),
    live_is bytes level n area tree at ∙ ap (λ (o : Option (Tree × List ℕ)). o >>= λ t. Some (Live (record { level = level; area = area; frag = t.0 }), t.1)) p.there,
    record {
      fits = record { level = low; attributes = box_count n at.corners (area, tree) at.box ∙ same };
      well_cut = p.well_made.well_cut;
      filled = record { kinds = p.well_made.kinds; light = omega (arith, p.weight, light); own = λ tip. own ((sibling_root p.tree passed.leaf p.leaf).1 tip) };
      in_order = p.well_made.in_order;
      normal = p.well_made.normal;
    },
  )

  -- it stops where no such page can be well made
  live_stops : (bytes : List ℕ) (level n : ℕ) (corners : List ℕ) → head_at bytes ≡ Some (level, n, corners)
      → ((area : Area × List ℕ) (tree : Tree × List ℕ) → area_at n corners ≡ Some area → tree_at n area.1 ≡ Some tree → ¬ (Keeps (Live (record { level = level; area = area.0; frag = tree.0 })))) → IfSome (live_at bytes) (λ x. ¬ (Keeps x.0))
  unfolding live_at
  live_stops bytes level n corners eh never =
      if_then (head_at bytes) _ _ (λ h hh. let same : ◌≡◌ {A = ℕ × ℕ × List ℕ} (level, n, corners) h = one_value (head_at bytes) (level, n, corners) h eh hh in
      subst (λ (y : ℕ × ℕ × List ℕ). IfSome {T = Page × List ℕ} (area_at y.1 y.2 >>= λ area. tree_at y.1 area.1 >>= λ tree. Some (Live (record { level = y.0; area = area.0; frag = tree.0 }), tree.1)) (λ x. ¬ (Keeps x.0))) same
      (if_then (area_at n corners) _ _ (λ area ea. if_then (tree_at n area.1) _ _ (λ tree et. never area tree ea et))))

  pub live_too_high : (bytes : List ℕ) (level n : ℕ) (corners : List ℕ) → head_at bytes ≡ Some (level, n, corners) → height ≤ level → IfSome (live_at bytes) (λ x. ¬ (Keeps x.0))
  live_too_high bytes level n corners eh high = live_stops bytes level n corners eh (λ area tree ea et. λ keeps. absurd (omega (arith, high, keeps.fits.level)))

  pub live_other_count : (bytes : List ℕ) (level n : ℕ) (corners : List ℕ) → head_at bytes ≡ Some (level, n, corners) → ¬ (n ≡ k) → IfSome (live_at bytes) (λ x. ¬ (Keeps x.0))
  live_other_count bytes level n corners eh other = live_stops bytes level n corners eh (λ area tree ea et. λ keeps. other (sym (box_count n corners area ea) ∙ keeps.fits.attributes))

  pub live_headless : (bytes : List ℕ) → head_at bytes ≡ None → IfSome (live_at bytes) (λ x. ¬ (Keeps x.0))
  unfolding live_at
  live_headless bytes none = rw none tt

  pub live_boxless : (bytes : List ℕ) (level n : ℕ) (corners : List ℕ) → head_at bytes ≡ Some (level, n, corners) → area_at n corners ≡ None → IfSome (live_at bytes) (λ x. ¬ (Keeps x.0))
  live_boxless bytes level n corners eh none = live_stops bytes level n corners eh (λ area tree ea et. absurd (not_none (area_at n corners) area ea none))

  pub live_stopped : (bytes : List ℕ) (level n : ℕ) (area : Area) (tree : List ℕ) → HeadAt bytes level n area tree → IfSome (tree_at n tree) (λ x. ¬ (IsTreeWellMade level area x.0)) → IfSome (live_at bytes) (λ x. ¬ (Keeps x.0))
  live_stopped bytes level n area tree at stopped =
      subst (λ (o : Option (Page × List ℕ)). IfSome o (λ x. ¬ (Keeps x.0))) (sym (live_is bytes level n area tree at))
      (if_then (tree_at n tree) (λ t. Some (Live (record { level = level; area = area; frag = t.0 }), t.1)) _ (λ t et. λ keeps.
      at_value (tree_at n tree) (λ x. ¬ (IsTreeWellMade level area x.0)) t et stopped (record { well_cut = keeps.well_cut; kinds = keeps.filled.kinds; in_order = keeps.in_order; normal = keeps.normal })))

  -- where the tree is well made, and too heavy or a lone sibling leaf
  live_overfull : (bytes : List ℕ) (level n : ℕ) (area : Area) (tree rest : List ℕ) (whole : Tree) → HeadAt bytes level n area tree → tree_at n tree ≡ Some (whole, rest) → ¬ (IsFilledRight (record { level = level; area = area; frag = whole }) dcap icap)
      → IfSome (live_at bytes) (λ x. ¬ (Keeps x.0))
  live_overfull bytes level n area tree rest whole at there never =
      of_value (live_at bytes) (λ x. ¬ (Keeps x.0)) (Live (record { level = level; area = area; frag = whole }), rest)
      (live_is bytes level n area tree at ∙ ap (λ (o : Option (Tree × List ℕ)). o >>= λ t. Some (Live (record { level = level; area = area; frag = t.0 }), t.1)) there) (λ keeps. never keeps.filled)

  pub live_too_heavy : (bytes : List ℕ) (level n : ℕ) (area : Area) (tree : List ℕ) (passed : Passed) → HeadAt bytes level n area tree → PassesOver level area 0 (tree_at n tree) passed → capacity_of level dcap icap < passed.weight → IfSome (live_at bytes) (λ x. ¬ (Keeps x.0))
  live_too_heavy bytes level n area tree passed at p heavy = live_overfull bytes level n area tree passed.rest.now p.tree at p.there (λ filled. absurd (omega (arith, heavy, p.weight, filled.light)))

  pub live_lone_sibling : (bytes : List ℕ) (level n : ℕ) (area : Area) (tree : List ℕ) (passed : Passed) → HeadAt bytes level n area tree → PassesOver level area 0 (tree_at n tree) passed → IsLoneSibling passed.leaf → IfSome (live_at bytes) (λ x. ¬ (Keeps x.0))
  live_lone_sibling bytes level n area tree passed at p lone = live_overfull bytes level n area tree passed.rest.now p.tree at p.there (λ filled. filled.own ((sibling_root p.tree passed.leaf p.leaf).0 lone))

-- ---- a page

named_free : (meta : Meta) (o : Option (ℕ × List ℕ)) (result : Option (List ℕ)) → (o >>= λ page. Some page.1) ≡ result → GoesPast (KeepsRules meta) (o >>= λ next. Some (Free next.0, next.1)) result
named_free meta None None e = tt
named_free meta None (Some rest) e = cc e
named_free meta (Some n) None e = cc e
named_free meta (Some n) (Some rest) e = (Free n.0, ap (λ (b : List ℕ). Some (Free n.0, b)) (same_Some n.1 rest e), tt)

pub free_passed : {X : Type 0} (view : X → List ℕ) (meta : Meta) (bytes : List ℕ) (result : Option X) → ReadsAs view result (name_behind bytes) → GoesPast (KeepsRules meta) (free_at bytes) (option_map view result)
unfolding name_behind
free_passed view meta bytes (Some x) e = named_free meta (number_at 4 bytes) (Some (view x)) e
free_passed view meta bytes None e = named_free meta (number_at 4 bytes) None e

pub made_by_zeros : (meta : Meta) (bytes rest : List ℕ) (b : Bool) → length bytes ≡ PAGE → GoesPast (KeepsRules meta) (fields_at bytes) (Some rest) → b ≡ list_all (λ b. eqb b 0) rest → IsTrue b ↔ SpellWellMade meta bytes
unfolding ending
made_by_zeros meta bytes rest b long past test =
    let read : page_of_bytes bytes ≡ cond b (Some past.0) None = whole bytes long ∙ ap ending past.1 ∙ ap (λ (t : Bool). cond t (Some past.0) None) (sym test) in
    subst (λ (o : Option Page). IsTrue b ↔ IsSomeAnd o (KeepsRules meta)) (sym read) (tested b)
  where
    tested : (b : Bool) → IsTrue b ↔ IsSomeAnd (cond b (Some past.0) None) (KeepsRules meta)
    tested true = (λ t. past.2, λ keeps. refl)
    tested false = (λ t. absurd (false≢true t), λ never. absurd never)

pub never_made : (meta : Meta) (bytes : List ℕ) → length bytes ≡ PAGE → GoesPast (KeepsRules meta) (fields_at bytes) None → IsTrue false ↔ SpellWellMade meta bytes
unfolding ending
never_made meta bytes long stopped =
    (λ t. absurd (false≢true t), λ keeps. absurd (cases (fields_at bytes) stopped (subst (λ (o : Option Page). IsSomeAnd o (KeepsRules meta)) (whole bytes long) keeps)))
  where
    chosen : (page : Page) (b : Bool) → IsSomeAnd (cond b (Some page) None) (KeepsRules meta) → KeepsRules meta page
    chosen page true keeps = keeps
    chosen page false keeps = absurd keeps

    cases : (o : Option (Page × List ℕ)) → IfSome o (λ x. ¬ (KeepsRules meta x.0)) → IsSomeAnd (ending o) (KeepsRules meta) → ⊥
    cases None stopped keeps = keeps
    cases (Some x) stopped keeps = stopped (chosen x.0 (list_all (λ b. eqb b 0) x.1) keeps)

pub wrong_length : (meta : Meta) (bytes : List ℕ) → ¬ (length bytes ≡ PAGE) → IsTrue false ↔ SpellWellMade meta bytes
wrong_length meta bytes other = (λ t. absurd (false≢true t), λ keeps. let w = value_and (page_of_bytes bytes) (KeepsRules meta) keeps in absurd (other (spelled_long bytes w.0 w.1)))
