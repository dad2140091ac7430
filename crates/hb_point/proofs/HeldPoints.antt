-- A page directly holds the box of one point exactly where it directly holds the point, and how a view of it tells that.
use Rattle.std.proofs.Common.{◌≡◌, ◌↔◌, ℕ, ◌<◌, Bool, false, IsTrue, List, length, get_or, Some, sym, ap, subst, ◌∙◌, arith}
use Rattle.std.proofs.lemmas.Bool.{false≢true}
use Rattle.std.proofs.lemmas.List.Elements.{All-contains, Contains-get_or}
use Rattle.hb_frag.proofs.Facts.Tiles.{first_tells, tiles_attributes}
use Rattle.hb_frag.specs.Leaves.{DirectlyCovers, DirectlyHolds, Placed, WellCut, leaf_at, leaves_of, siblings_of}
use Rattle.hb_frag.specs.declared.leaves.Leaf.{Leaf}
use Rattle.hb_frag.specs.declared.leaves.Leaf.TheVariants.{Records, Child, Sibling}
use Rattle.hb_frag.specs.declared.pages.LivePage.{LivePage}
use Rattle.hb_frag.specs.declared.pages.Page.{Page}
use Rattle.hb_frag.specs.declared.pages.Page.TheVariants.{Live, Free}
use Rattle.hb_lemmas.proofs.Options.{one_value}
use Rattle.hb_ops.proofs.Facts.PlacedLaws.{leaf_is_sibling, placed, sibling_is_leaf}
use Rattle.hb_point.specs.Asks.{CanHold}
use Rattle.hb_point.specs.Doing.{IsNoSibling}
use Rattle.hb_space.specs.Boxes.{Area, Holds, IsArea, Meets, point_area}
use Rattle.hb_view.specs.Views.{IsLiveAnd, ShowsLeaf, leaf_view}
use Rattle.hb_view.specs.declared.leaves.LeafView.{LeafView}
use Rattle.hb_view.specs.declared.leaves.LeafView.TheVariants as views

-- a box that holds a point meets the box of it, and the other way round
meets_there : (b : Area) (p : List ℕ) → Holds b p → Meets b (point_area p)
meets_there b p held = λ i l. let at = held.between i (omega (arith, held.same, l)) in omega (arith, at.0, at.1)

held_there : (b : Area) (p : List ℕ) → length p ≡ length b.lo → Meets b (point_area p) → Holds b p
held_there b p same meets = record {
  same = same;
  between = λ i l. let at = meets i (omega (arith, same, l)) in (omega (arith, at), omega (arith, at));
}

-- the boxes of sibling leaves have as many attributes as the page's
sibling_attributes : (page : LivePage) (k : ℕ) (s : ℕ × Area) → k < length (siblings_of page) → length (get_or (siblings_of page) k s).1.lo ≡ length page.area.lo
sibling_attributes page k s l =
    let one = get_or (siblings_of page) k s in
    All-contains (λ (l : Placed). length l.area.lo ≡ length page.area.lo) (leaves_of page.frag page.area) (placed (Sibling one.0) one.1) (tiles_attributes page.frag page.area)
    (sibling_is_leaf (leaves_of page.frag page.area) one.0 one.1 (Contains-get_or (siblings_of page) k s l))

pub held_by_point : (page : LivePage) (p : List ℕ) → length p ≡ length page.area.lo → DirectlyCovers page (point_area p) ↔ DirectlyHolds page p
held_by_point page p same = (
  λ covers. record {
    inside = record { same = same; between = λ i l. covers.inside i l };
    not_given = λ k s l held. covers.not_given k s l (meets_there (get_or (siblings_of page) k s).1 p held);
  },
  λ holds. record {
    inside = λ i l. holds.inside.between i l;
    not_given = λ k s l meets. holds.not_given k s l (held_there (get_or (siblings_of page) k s).1 p (same ∙ sym (sibling_attributes page k s l)) meets);
  },
)

-- it does so where its box has the point, and the leaf there isn't a sibling leaf
held_unless_sibling : (page : LivePage) (p : List ℕ) (w : Placed) → IsArea page.area → WellCut page → Holds page.area p → leaf_at page p ≡ Some w → ((name : ℕ) → w.leaf ≡ Sibling name → ⊥) → DirectlyHolds page p
held_unless_sibling page p w area cut held e other = record {
  inside = held;
  not_given = λ k s l there.
      let x = get_or (siblings_of page) k s in
      let is = (first_tells page.frag page.area p (placed (Sibling x.0) x.1) area cut).1 (sibling_is_leaf (leaves_of page.frag page.area) x.0 x.1 (Contains-get_or (siblings_of page) k s l), there) in
      other x.0 (ap (λ (l : Placed). l.leaf) (one_value (leaf_at page p) w (placed (Sibling x.0) x.1) e is));
}

no_sibling_there : (page : LivePage) (p : List ℕ) (name : ℕ) (b : Area) → IsArea page.area → WellCut page → DirectlyHolds page p → leaf_at page p ≡ Some (placed (Sibling name) b) → ⊥
no_sibling_there page p name b area cut direct e =
    let there = (first_tells page.frag page.area p (placed (Sibling name) b) area cut).0 e in
    All-contains (λ (x : ℕ × Area). ¬ (Holds x.1 p)) (siblings_of page) (name, b) direct.not_given (leaf_is_sibling (leaves_of page.frag page.area) name b there.0) there.1

-- as a view tells it
view_sibling : (leaf : Leaf) (name : ℕ) → leaf_view leaf ≡ views.Sibling name → leaf ≡ Sibling name
view_sibling (Records records) name e = cc
view_sibling (Child page) name e = cc
view_sibling (Sibling page) name e = cc

sibling_view : (leaf : Leaf) (name : ℕ) → leaf ≡ Sibling name → leaf_view leaf ≡ views.Sibling name
sibling_view leaf name e = ap leaf_view e

held_by_leaf : (page : LivePage) (p : List ℕ) (view : LeafView) (box : Area) (answer : Bool) → IsArea page.area → WellCut page → Holds page.area p → ShowsLeaf (leaf_at page p) view box → IsTrue answer ↔ IsNoSibling view → IsTrue answer ↔ DirectlyHolds page p
held_by_leaf page p view box answer area cut held shows tells = (
  λ yes. held_unless_sibling page p shows.placed area cut held shows.found (λ name is. tells.0 yes name (shows.leaf ∙ sibling_view shows.placed.leaf name is)),
  λ direct. tells.1 (λ name is.
      let leaf = view_sibling shows.placed.leaf name (sym shows.leaf ∙ is) in
      no_sibling_there page p name shows.placed.area area cut direct (shows.found ∙ ap (λ (l : Leaf). Some (record { leaf = l; area = shows.placed.area })) leaf)),
)

pub view_holds : (v : Page) (p : List ℕ) (own : Area) (view : LeafView) (box : Area) (answer : Bool) → IsArea own → IsLiveAnd v (λ page. own ≡ page.area) → Holds own p → IsLiveAnd v (λ page. CanHold page p) →
    IsLiveAnd v (λ page. ShowsLeaf (leaf_at page p) view box) → IsTrue answer ↔ IsNoSibling view → IsLiveAnd v (λ page. IsTrue answer ↔ DirectlyHolds page p)
view_holds (Live page) p own view box answer area is held can shows tells =
    held_by_leaf page p view box answer (subst IsArea is area) can.well_cut (subst (λ (a : Area). Holds a p) is held) shows tells
view_holds (Free next) p own view box answer area is held can shows tells = absurd can

pub view_lacks : (v : Page) (p : List ℕ) (own : Area) → IsLiveAnd v (λ page. own ≡ page.area) → (Holds own p → ⊥) → IsLiveAnd v (λ page. CanHold page p) → IsLiveAnd v (λ page. IsTrue false ↔ DirectlyHolds page p)
view_lacks (Live page) p own is out can = (λ never. absurd (false≢true never), λ direct. absurd (out (subst (λ (a : Area). Holds a p) (sym is) direct.inside)))
view_lacks (Free next) p own is out can = absurd can
