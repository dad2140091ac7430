-- Who is owed a leaf of the parent, and whether there is room for it.
use Rattle.std.proofs.Common.{◌≡◌, ◌≢◌, ℕ, zero, suc, ◌+◌, ◌<◌, ◌≤◌, ◌↔◌, inl, inr, List, [], ◌∷◌, length, get_or, Option, Some, IsSome, refl, sym, ap, subst, ◌∙◌, arith}
use Rattle.std.specs.List.{Contains}
use Rattle.std.proofs.lemmas.Bool.{cases_lt}
use Rattle.std.proofs.lemmas.List.Elements.{All-contains, Contains-append_right}
use Rattle.hb_space.specs.Boxes.{Area, IsArea, Holds}
use Rattle.hb_space.proofs.Facts.Boxes.{Meets-from_point}
use Rattle.hb_frag.specs.declared.leaves.Leaf.{Leaf}
use Rattle.hb_frag.specs.declared.leaves.Leaf.TheVariants.{Records, Child, Sibling}
use Rattle.hb_frag.specs.declared.pages.LivePage.{LivePage}
use Rattle.hb_frag.specs.declared.paths.Side.{Side}
use Rattle.hb_frag.specs.Trees.{Tree, Tip}
use Rattle.hb_frag.specs.Leaves.{Placed, first_at, leaf_at, leaves_of, siblings, weight_of, WellCut}
use Rattle.hb_frag.specs.Paths.{part_at, with_part, way_to}
use Rattle.hb_frag.specs.Carving.{carved}
use Rattle.hb_frag.specs.Normal.{normal}
use Rattle.hb_frag.specs.Rules.{IsNormal}
use Rattle.hb_frag.proofs.Facts.Points.{way_ends}
use Rattle.hb_frag.proofs.Facts.Tiles.{first_tells, found_where_held, tiles_areas}
use Rattle.hb_frag.proofs.Facts.CarvedPages.{carved_room}
use Rattle.hb_terms.specs.Plans.{IsPlan}
use Rattle.hb_ops.specs.Owing.{IsOwed, posted_parent, Posts, LacksRoom, MayPost}
use Rattle.hb_terms.specs.declared.plans.PostPlan.{PostPlan}
use Rattle.hb_terms.specs.declared.plans.PostPlan.TheVariants.{Nothing, Post, SplitFirst}
use Rattle.hb_layout.specs.declared.meta.Meta.{Meta}
use Rattle.hb_ops.specs.Posting.{FitsPost, posted}
use Rattle.hb_ops.specs.Sound.{FitsFile}
use Rattle.hb_lemmas.proofs.Options.{one_value}

-- what two leaves that were looked at say of who is owed one
pub owed_there : (parent child : LivePage) (p : List ℕ) (outer inner : ℕ) (above below : Leaf) (leaf area : Area) → leaf_at parent p ≡ Some (record { leaf = above; area = leaf }) → above ≡ Child outer → leaf_at child p ≡ Some (record { leaf = below; area = area }) → (below ≡ Sibling inner) × (inner ≢ outer) → IsOwed parent child p outer inner leaf area
owed_there parent child p outer inner above below leaf area h e k w =
    let P : Leaf → Type 0 = λ l. leaf_at parent p ≡ Some (record { leaf = l; area = leaf }) in
    let Q : Leaf → Type 0 = λ l. leaf_at child p ≡ Some (record { leaf = l; area = area }) in
    record { above = subst P e h; below = subst Q w.0 k; other = w.1 }

-- the way to the point ends at the parent's leaf
pub way_ends_there : (page : LivePage) (p : List ℕ) (leaf : Leaf) (area : Area) → IsArea page.area → WellCut page → Holds page.area p → leaf_at page p ≡ Some (record { leaf = leaf; area = area }) → part_at (way_to p page.frag) page.frag page.area ≡ Some (Tip leaf, area)
way_ends_there page p leaf area h cut held at =
    let w = way_ends page.frag page.area p h cut held in
    let first = w.1.first in
    let same : w.0 ≡ record { leaf = leaf; area = area } = cc in
    let P : Placed → Type 0 = λ l. part_at (way_to p page.frag) page.frag page.area ≡ Some (Tip l.leaf, l.area) in
    subst P same w.1.part

-- whether there is room is told by the two weights
pub room_told : (parent : LivePage) (p : List ℕ) (outer inner capacity : ℕ) (leaf area : Area) → IsArea parent.area → WellCut parent → Holds parent.area p → leaf_at parent p ≡ Some (record { leaf = Child outer; area = leaf }) → IsNormal parent.frag → weight_of parent.frag ≤ capacity → inner ≢ outer → (weight_of (posted_parent parent p outer inner leaf area) ≤ capacity) ↔ (weight_of parent.frag + weight_of (carved leaf area outer inner) ≤ capacity + 1)
room_told parent p outer inner capacity leaf area h cut held at normal light other =
    carved_room (way_to p parent.frag) parent.frag parent.area leaf area outer inner (way_ends_there parent p (Child outer) leaf h cut held at) capacity normal other light

-- so of the plans where a page is owed a leaf
module _ (parent child : LivePage) (p : List ℕ) (outer inner capacity : ℕ) (leaf area : Area) (h : IsArea parent.area) (cut : WellCut parent) (held : Holds parent.area p) (owed : IsOwed parent child p outer inner leaf area) (normal : IsNormal parent.frag) (light : weight_of parent.frag ≤ capacity) where
  told : (weight_of (posted_parent parent p outer inner leaf area) ≤ capacity) ↔ (weight_of parent.frag + weight_of (carved leaf area outer inner) ≤ capacity + 1)
  told = room_told parent p outer inner capacity leaf area h cut held owed.above normal light owed.other

  pub plan_posts : (at : List Side) → at ≡ way_to p parent.frag → weight_of parent.frag + weight_of (carved leaf area outer inner) ≤ capacity + 1 → Posts parent child p capacity at inner area
  plan_posts at way room = record { outer = outer; leaf = leaf; owed = owed; way = way; room = told.1 room }

  pub plan_splits : (weight_of parent.frag + weight_of (carved leaf area outer inner) ≤ capacity + 1 → ⊥) → LacksRoom parent child p capacity
  plan_splits none = record {
    outer = outer;
    inner = inner;
    leaf = leaf;
    area = area;
    owed = owed;
    heavy = elim (cases_lt capacity (weight_of (posted_parent parent p outer inner leaf area))) [ inl heavy ↦ heavy | inr room ↦ absurd (none (told.0 room)) ];
  }

-- a leaf at a point lies in the page, and its box has the point
at_leaf : (page : LivePage) (p : List ℕ) (placed : Placed) → IsArea page.area → WellCut page → leaf_at page p ≡ Some placed → Contains (leaves_of page.frag page.area) placed × Holds placed.area p
at_leaf page p placed h cut at = (first_tells page.frag page.area p placed h cut).0 at

sibling_behind : (leaf : Leaf) (area : Area) (xs : List Placed) (s : ℕ × Area) → Contains (siblings xs) s → Contains (siblings (record { leaf = leaf; area = area } ∷ xs)) s
sibling_behind (Records records) area xs s h = h
sibling_behind (Child page) area xs s h = h
sibling_behind (Sibling page) area xs s h = Contains-append_right ((page, area) ∷ []) (siblings xs) s h

sibling_listed : (xs : List Placed) (page : ℕ) (area : Area) (k : ℕ) → k < length xs → get_or xs k (record { leaf = Sibling page; area = area }) ≡ record { leaf = Sibling page; area = area } → Contains (siblings xs) (page, area)
sibling_listed [] page area k l e = absurd (omega arith)
sibling_listed (x ∷ xs) page area zero l e =
    let P : Placed → Type 0 = λ y. Contains (siblings (y ∷ xs)) (page, area) in
    subst P (sym e) (zero, omega arith, refl)
sibling_listed (x ∷ xs) page area (suc k) l e = sibling_behind x.leaf x.area xs (page, area) (sibling_listed xs page area k (omega arith) e)

-- so what is planned may be posted
pub planned_may_be : (parent child : LivePage) (p : List ℕ) (icap : ℕ) (at : List Side) (inner : ℕ) (area : Area) → IsArea parent.area → WellCut parent → IsArea child.area → WellCut child → IsPlan parent child p icap (Post at inner area) → MayPost parent child icap at inner area
planned_may_be parent child p icap at inner area h cut k cut' plan =
    let o = plan.owed in
    let up = at_leaf parent p (record { leaf = Child plan.outer; area = plan.leaf }) h cut o.above in
    let down = at_leaf child p (record { leaf = Sibling inner; area = area }) k cut' o.below in
    let some : IsSome (first_at p (leaves_of parent.frag parent.area)) = rw o.above refl in
    let held = (found_where_held parent.frag parent.area p h cut).0 some in
    let P : List Side → Type 0 = λ path. part_at path parent.frag parent.area ≡ Some (Tip (Child plan.outer), plan.leaf) in
    let Q : List Side → Type 0 = λ path. weight_of (normal (with_part path parent.frag (carved plan.leaf area plan.outer inner))) ≤ icap in
    record {
      outer = plan.outer;
      leaf = plan.leaf;
      place = subst P (sym plan.way) (way_ends_there parent p (Child plan.outer) plan.leaf h cut held o.above);
      other = o.other;
      leaf_area = All-contains (λ l. IsArea l.area) (leaves_of parent.frag parent.area) (record { leaf = Child plan.outer; area = plan.leaf }) (tiles_areas parent.frag parent.area h cut) up.0;
      given_area = All-contains (λ l. IsArea l.area) (leaves_of child.frag child.area) (record { leaf = Sibling inner; area = area }) (tiles_areas child.frag child.area k cut') down.0;
      attributes = sym down.1.same ∙ up.1.same;
      meets = Meets-from_point plan.leaf area p up.1 down.1;
      given = sibling_listed (leaves_of child.frag child.area) inner area down.0.0 down.0.1 down.0.2;
      room = subst Q (sym plan.way) plan.room;
    }

-- in a page of a level above 0 that keeps the rules of a page alone
pub plan_fits : (meta : Meta) (parent child : LivePage) (p : List ℕ) (at : List Side) (inner : ℕ) (area : Area) → FitsFile meta parent → 0 < parent.level → IsArea parent.area → IsArea child.area → WellCut child → IsPlan parent child p meta.icap (Post at inner area) → FitsPost meta parent at inner area
plan_fits meta parent child p at inner area made above h k cut' plan =
    let may = planned_may_be parent child p meta.icap at inner area h made.well_cut k cut' plan in
    record {
      made = made;
      above = above;
      outer = may.outer;
      box = may.leaf;
      leaf = may.place;
      other = λ same. may.other (sym same);
      meets = may.meets;
      room = subst (λ (o : Option (Tree × Area)). weight_of (posted at inner area parent.frag o) ≤ meta.icap) (sym may.place) may.room;
    }

-- two plans are the same
not_both : (parent child : LivePage) (p : List ℕ) (icap outer inner : ℕ) (leaf area : Area) (outer' inner' : ℕ) (leaf' area' : Area) → IsOwed parent child p outer inner leaf area → IsOwed parent child p outer' inner' leaf' area' → weight_of (posted_parent parent p outer inner leaf area) ≤ icap → icap < weight_of (posted_parent parent p outer' inner' leaf' area') → ⊥
not_both parent child p icap outer inner leaf area outer' inner' leaf' area' h k room heavy =
    let up = one_value (leaf_at parent p) (record { leaf = Child outer; area = leaf }) (record { leaf = Child outer'; area = leaf' }) h.above k.above in
    let down = one_value (leaf_at child p) (record { leaf = Sibling inner; area = area }) (record { leaf = Sibling inner'; area = area' }) h.below k.below in
    let names : Child outer ≡ Child outer' = ap (λ (l : Placed). l.leaf) up in
    let givens : Sibling inner ≡ Sibling inner' = ap (λ (l : Placed). l.leaf) down in
    let o : outer ≡ outer' = cc in
    let i : inner ≡ inner' = cc in
    let e : posted_parent parent p outer inner leaf area ≡ posted_parent parent p outer' inner' leaf' area' = λ j. posted_parent parent p (o j) (i j) (up j).area (down j).area in
    let w = ap weight_of e in
    omega arith

pub one_plan : (parent child : LivePage) (p : List ℕ) (icap : ℕ) (plan other : PostPlan) → IsPlan parent child p icap plan → IsPlan parent child p icap other → plan ≡ other
one_plan parent child p icap Nothing Nothing h k = refl
one_plan parent child p icap Nothing (Post at inner area) h k = absurd (h k.outer inner k.leaf area k.owed)
one_plan parent child p icap Nothing SplitFirst h k = absurd (h k.outer k.inner k.leaf k.area k.owed)
one_plan parent child p icap (Post at inner area) Nothing h k = absurd (k h.outer inner h.leaf area h.owed)
one_plan parent child p icap (Post at inner area) (Post at' inner' area') h k =
    let down = one_value (leaf_at child p) (record { leaf = Sibling inner; area = area }) (record { leaf = Sibling inner'; area = area' }) h.owed.below k.owed.below in
    let names : Sibling inner ≡ Sibling inner' = ap (λ (l : Placed). l.leaf) down in
    let i : inner ≡ inner' = cc in
    let w : at ≡ at' = h.way ∙ sym k.way in
    λ j. Post (w j) (i j) (down j).area
one_plan parent child p icap (Post at inner area) SplitFirst h k = absurd (not_both parent child p icap h.outer inner h.leaf area k.outer k.inner k.leaf k.area h.owed k.owed h.room k.heavy)
one_plan parent child p icap SplitFirst Nothing h k = absurd (k h.outer h.inner h.leaf h.area h.owed)
one_plan parent child p icap SplitFirst (Post at inner area) h k = absurd (not_both parent child p icap k.outer inner k.leaf area h.outer h.inner h.leaf h.area k.owed h.owed k.room h.heavy)
one_plan parent child p icap SplitFirst SplitFirst h k = refl
