-- What a step asks for is in a sound file: a page in use, of the level and the box that are asked for.
use Rattle.hb_steps.proofs.Files.Names.{◌≡◌, ℕ, ◌-◌, ◌==◌, IsTrue, cond, List, [], ◌∷◌, Option, Some, None, refl, sym, ap, ◌∙◌, subst, arith, Contains, option_and_then, eqb-true, Leaf, Records, Child, Sibling, LivePage, Meta, Shared, Wanted, in_mode, named_child, wanted_page, names_child, HasAskedBox, box_of_sibling, this_box, Placed, first_named, leaf_at, leaves, leaves_of, siblings_of, named_leaf, FileState, IsSound, Area}
use Rattle.std.proofs.Common.{suc, true, false}
use Rattle.std.specs.List.{slice_get}
use Rattle.std.specs.Option.{option_map}
use Rattle.hb_lemmas.proofs.Lists.{place_member, mapped_place}
use Rattle.hb_latch.specs.declared.modes.Mode.{Mode}
use Rattle.hb_activity.specs.Wanting.{child_of, named_page, walk_next}
use Rattle.hb_steps.specs.Asking.{AskedBox, around_box, box_at, box_by_leaf, box_of_child, box_of_place, first_child_box}
use Rattle.hb_frag.proofs.Facts.Tiles.{leaves_placed}
use Rattle.hb_frag.specs.Leaves.{first_at, children}
use Rattle.hb_frag.specs.Trees.{Tree}
use Rattle.hb_ops.specs.Files.{live_page}
use Rattle.hb_ops.proofs.Facts.PlacedLaws.{leaf_is_sibling, placed, placed_leaf, listed_child}
use Rattle.hb_space.specs.Boxes.{holds, whole_area}

pub record IsThere (s : FileState) (wanted : Wanted) (asked : AskedBox) : Type 0 where
  pub page : LivePage
  pub live : live_page s wanted.page ≡ Some page
  pub level : page.level ≡ wanted.level
  pub box : HasAskedBox asked page.area

-- the leaf at a point is one of the page's
pub first_among : (p : List ℕ) (xs : List Placed) (w : Placed) → first_at p xs ≡ Some w → Contains xs w
first_among p [] w is = cc
first_among p (x ∷ xs) w is =
    elim (holds x.area p) as (λ b. cond b (Some x) (first_at p xs) ≡ Some w → Contains (x ∷ xs) w) [
      | true ↦ λ e. (0, omega arith, let same : x ≡ w = cc in same)
      | false ↦ λ e. let more = first_among p xs w e in (suc more.0, omega (arith, more.1), more.2)
    ] is

module _ (s : FileState) (sound : IsSound s) where
  -- a page that is asked for, and found so
  found : (name level : ℕ) (mode : Mode) (wanted : Wanted) (box asked : AskedBox) (page : LivePage) → wanted_page name level mode ≡ wanted → box ≡ asked → live_page s name ≡ Some page → page.level ≡ level → HasAskedBox box page.area → IsThere s wanted asked
  found name level mode wanted box asked page wants asks live on has = record {
    page = page;
    live = subst (λ (w : Wanted). live_page s w.page ≡ Some page) wants live;
    level = on ∙ ap (λ (w : Wanted). w.level) wants;
    box = subst (λ (b : AskedBox). HasAskedBox b page.area) asks has;
  }

  -- ---- the root

  pub root_there : (m : Meta) (k level : ℕ) (mode : Mode) (wanted : Wanted) (asked : AskedBox) → s.meta ≡ m → k ≡ m.k → level ≡ m.height - 1 → wanted_page m.root level mode ≡ wanted → this_box (whole_area k) ≡ asked → IsThere s wanted asked
  root_there m k level mode wanted asked meta is_k is_level wants asks =
      let top = sound.rooted.top in
      let height : s.meta.height ≡ m.height = ap (λ (x : Meta). x.height) meta in
      found m.root level mode wanted (this_box (whole_area k)) asked top.0 wants asks
      (ap (live_page s) (ap (λ (x : Meta). x.root) (sym meta)) ∙ top.1) (omega (arith, top.2, height, is_level))
      (top.3 ∙ ap whole_area (ap (λ (x : Meta). x.k) meta ∙ sym is_k))

  -- ---- the page that a leaf of another one names

  module _ (id : ℕ) (page : LivePage) (live : live_page s id ≡ Some page) where
    pub child_there : (name : ℕ) (area : Area) (mode : Mode) (wanted : Wanted) (asked : AskedBox) → Contains (leaves_of page.frag page.area) (placed (Child name) area)
        → wanted_page name (page.level - 1) mode ≡ wanted → around_box area ≡ asked → IsThere s wanted asked
    child_there name area mode wanted asked among wants asks =
        let named = sound.children id page name area live among in
        found name (page.level - 1) mode wanted (around_box area) asked named.0 wants asks named.1 (omega (arith, named.2)) named.3

    pub sibling_there : (name : ℕ) (area : Area) (mode : Mode) (wanted : Wanted) (asked : AskedBox) → Contains (leaves_of page.frag page.area) (placed (Sibling name) area)
        → wanted_page name page.level mode ≡ wanted → this_box area ≡ asked → IsThere s wanted asked
    sibling_there name area mode wanted asked among wants asks =
        let named = sound.siblings id page name area live (leaf_is_sibling (leaves_of page.frag page.area) name area among) in
        found name page.level mode wanted (this_box area) asked named.0 wants asks named.1 named.2 named.3

    by_leaf : (mode : ℕ → Mode) (leaf : Leaf) (area : Area) (wanted : Wanted) (asked : AskedBox) → Contains (leaves_of page.frag page.area) (placed leaf area)
        → in_mode mode (named_page page.level leaf) ≡ Some wanted → box_by_leaf (placed leaf area) ≡ Some asked → IsThere s wanted asked
    by_leaf mode (Records records) area wanted asked among wants asks = cc
    by_leaf mode (Child name) area wanted asked among wants asks = child_there name area (mode (page.level - 1)) wanted asked among (let same : wanted_page name (page.level - 1) (mode (page.level - 1)) ≡ wanted = cc in same) (let same : around_box area ≡ asked = cc in same)
    by_leaf mode (Sibling name) area wanted asked among wants asks = sibling_there name area (mode page.level) wanted asked among (let same : wanted_page name page.level (mode page.level) ≡ wanted = cc in same) (let same : this_box area ≡ asked = cc in same)

    by_child : (leaf : Leaf) (area : Area) (wanted : Wanted) (asked : AskedBox) → Contains (leaves_of page.frag page.area) (placed leaf area)
        → in_mode (λ level. Shared) (named_child page.level leaf) ≡ Some wanted → box_by_leaf (placed leaf area) ≡ Some asked → IsThere s wanted asked
    by_child (Records records) area wanted asked among wants asks = cc
    by_child (Child name) area wanted asked among wants asks = child_there name area Shared wanted asked among (let same : wanted_page name (page.level - 1) Shared ≡ wanted = cc in same) (let same : around_box area ≡ asked = cc in same)
    by_child (Sibling name) area wanted asked among wants asks = cc

    -- where a walk goes on, and the child of a poster
    pub onward_there : (mode : ℕ → Mode) (p : List ℕ) (wanted : Wanted) (asked : AskedBox) → in_mode mode (option_and_then (λ (l : Placed). named_page page.level l.leaf) (leaf_at page p)) ≡ Some wanted
        → option_and_then box_by_leaf (leaf_at page p) ≡ Some asked → IsThere s wanted asked
    onward_there mode p wanted asked wants asks = by (leaf_at page p) refl wants asks
      where
        by : (o : Option Placed) → leaf_at page p ≡ o → in_mode mode (option_and_then (λ (l : Placed). named_page page.level l.leaf) o) ≡ Some wanted → option_and_then box_by_leaf o ≡ Some asked → IsThere s wanted asked
        by None is wants asks = cc
        by (Some l) is wants asks = by_leaf mode l.leaf l.area wanted asked (first_among p (leaves_of page.frag page.area) l is) wants asks

    pub named_there : (p : List ℕ) (wanted : Wanted) (asked : AskedBox) → in_mode (λ level. Shared) (child_of page p) ≡ Some wanted → option_and_then box_by_leaf (leaf_at page p) ≡ Some asked → IsThere s wanted asked
    named_there p wanted asked wants asks = by (leaf_at page p) refl wants asks
      where
        by : (o : Option Placed) → leaf_at page p ≡ o → in_mode (λ level. Shared) (option_and_then (λ (l : Placed). named_child page.level l.leaf) o) ≡ Some wanted → option_and_then box_by_leaf o ≡ Some asked → IsThere s wanted asked
        by None is wants asks = cc
        by (Some l) is wants asks = by_child l.leaf l.area wanted asked (first_among p (leaves_of page.frag page.area) l is) wants asks

    -- a walk that holds the page
    pub held_there : (mode : ℕ → Mode) (meta : Meta) (goal : Option (List ℕ)) (now then : Option LivePage) (wanted : Wanted) (asked : AskedBox) → now ≡ Some page → then ≡ Some page
        → in_mode mode (walk_next goal (Some id) meta now) ≡ Some wanted → box_at then goal ≡ Some asked → IsThere s wanted asked
    held_there mode meta None now then wanted asked is was wants asks = cc
    held_there mode meta (Some p) now then wanted asked is was wants asks =
        onward_there mode p wanted asked
        (subst (λ (o : Option LivePage). in_mode mode (walk_next (Some p) (Some id) meta o) ≡ Some wanted) is wants)
        (subst (λ (o : Option LivePage). box_at o (Some p) ≡ Some asked) was asks)

  -- a walk that holds none
  pub begun_there : (mode : ℕ → Mode) (m : Meta) (k : ℕ) (goal : Option (List ℕ)) (page : Option LivePage) (wanted : Wanted) (asked : AskedBox) → s.meta ≡ m → k ≡ m.k
      → in_mode mode (walk_next goal None m page) ≡ Some wanted → Some (this_box (whole_area k)) ≡ Some asked → IsThere s wanted asked
  begun_there mode m k None page wanted asked meta is_k wants asks = cc
  begun_there mode m k (Some p) page wanted asked meta is_k wants asks =
      root_there m k (m.height - 1) (mode (m.height - 1)) wanted asked meta is_k refl
      (let same : wanted_page m.root (m.height - 1) (mode (m.height - 1)) ≡ wanted = cc in same) (let same : this_box (whole_area k) ≡ asked = cc in same)

-- ---- the pages that a consolidator asks for

-- the first box of a name is one of the boxes
pub first_box_among : (name : ℕ) (xs : List (ℕ × Area)) (area : Area) → first_named name xs ≡ Some area → Contains xs (name, area)
first_box_among name [] area is = cc
first_box_among name (x ∷ xs) area is =
    elim (x.0 == name) as (λ t. (x.0 == name) ≡ t → cond t (Some x.1) (first_named name xs) ≡ Some area → Contains (x ∷ xs) (name, area)) [
      | true ↦ λ same e. (0, omega arith, let one : x.1 ≡ area = cc in λ i. (eqb-true x.0 name same i, one i))
      | false ↦ λ other e. let more = first_box_among name xs area e in (suc more.0, omega (arith, more.1), more.2)
    ] refl is

-- so the box of the first child leaf of a name is one of such a leaf
pub first_child_among : (name : ℕ) (xs : List Placed) (area : Area) → first_child_box name xs ≡ Some area → Contains xs (placed (Child name) area)
first_child_among name xs area is = listed_child xs name area (first_box_among name (children xs) area is)

-- the leaf of a place, without its box and with it
pub leaf_of_place : (t : Tree) (area : Area) (place : ℕ) (leaf : Leaf) → slice_get (leaves t) place ≡ Some leaf → (l : Placed) × (slice_get (leaves_of t area) place ≡ Some l) × (l.leaf ≡ leaf)
leaf_of_place t area place leaf is = mapped_place (λ (l : Placed). l.leaf) (leaves_of t area) place leaf (ap (λ (ls : List Leaf). slice_get ls place) (leaves_placed t area) ∙ is)

module _ (s : FileState) (sound : IsSound s) (id : ℕ) (page : LivePage) (live : live_page s id ≡ Some page) where
  -- a child of the parent, by its first leaf from the left
  pub named_child_there : (name : ℕ) (mode : Mode) (then : Option LivePage) (wanted : Wanted) (asked : AskedBox) → then ≡ Some page → wanted_page name (page.level - 1) mode ≡ wanted → box_of_child then name ≡ Some asked → IsThere s wanted asked
  named_child_there name mode then wanted asked is wants asks = by (first_child_box name (leaves_of page.frag page.area)) refl (subst (λ (o : Option LivePage). box_of_child o name ≡ Some asked) is asks)
    where
      by : (o : Option Area) → first_child_box name (leaves_of page.frag page.area) ≡ o → option_map around_box o ≡ Some asked → IsThere s wanted asked
      by None is asks = cc
      by (Some area) is asks = child_there s sound id page live name area mode wanted asked (first_child_among name (leaves_of page.frag page.area) area is) wants (let same : around_box area ≡ asked = cc in same)

  -- a page to which the page gave a part of its box, by the leaf at a place
  pub placed_sibling_there : (name place : ℕ) (mode : Mode) (then : Option LivePage) (wanted : Wanted) (asked : AskedBox) → then ≡ Some page → slice_get (leaves page.frag) place ≡ Some (Sibling name)
      → wanted_page name page.level mode ≡ wanted → box_of_place then place ≡ Some asked → IsThere s wanted asked
  placed_sibling_there name place mode then wanted asked is there wants asks =
      let l = leaf_of_place page.frag page.area place (Sibling name) there in
      let among : Contains (leaves_of page.frag page.area) (placed (Sibling name) l.0.area) = subst (λ (x : Leaf). Contains (leaves_of page.frag page.area) (placed x l.0.area)) l.2 (place_member (leaves_of page.frag page.area) place l.0 l.1) in
      let found : box_by_leaf l.0 ≡ Some asked = subst (λ (o : Option Placed). option_and_then box_by_leaf o ≡ Some asked) l.1 (subst (λ (o : Option LivePage). box_of_place o place ≡ Some asked) is asks) in
      let box : box_by_leaf (placed (Sibling name) l.0.area) ≡ Some asked = subst (λ (x : Leaf). box_by_leaf (placed x l.0.area) ≡ Some asked) l.2 found in
      sibling_there s sound id page live name l.0.area mode wanted asked among wants (let same : this_box l.0.area ≡ asked = cc in same)

  -- and by its first sibling leaf to that page
  pub given_there : (name : ℕ) (level : ℕ) (mode : Mode) (then : Option LivePage) (wanted : Wanted) (asked : AskedBox) → then ≡ Some page → page.level ≡ level → wanted_page name level mode ≡ wanted → box_of_sibling then name ≡ Some asked → IsThere s wanted asked
  given_there name level mode then wanted asked is on wants asks = by (first_named name (siblings_of page)) refl (subst (λ (o : Option LivePage). box_of_sibling o name ≡ Some asked) is asks)
    where
      by : (o : Option Area) → first_named name (siblings_of page) ≡ o → option_map this_box o ≡ Some asked → IsThere s wanted asked
      by None is asks = cc
      by (Some area) is asks =
          let named = sound.siblings id page name area live (first_box_among name (siblings_of page) area is) in
          found s sound name level mode wanted (this_box area) asked named.0 wants (let same : this_box area ≡ asked = cc in same) named.1 (named.2 ∙ on) named.3

-- a child that a page names, with the box of a leaf
pub named_with_box : (page : LivePage) (name : ℕ) → IsTrue (names_child page name) → (b : Area) × Contains (leaves_of page.frag page.area) (placed (Child name) b)
named_with_box page name named = placed_leaf page.frag page.area (Child name) (named_leaf name (leaves page.frag) named)
