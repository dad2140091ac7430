-- The walk from the root: on each level to the page that directly holds the point, and then one level down.
use Rattle.std.proofs.Common.{◌≡◌, ℕ, zero, suc, ◌+◌, ◌<◌, inl, List, [], ◌∷◌, ◌++◌, length, Some, sym, subst, ◌∙◌, arith}
use Rattle.std.proofs.lemmas.List.Elements.{All-contains}
use Rattle.hb_space.specs.Boxes.{Area, IsArea, Holds, whole_area, volume}
use Rattle.hb_space.specs.declared.records.Record.{Record}
use Rattle.hb_frag.specs.declared.leaves.Leaf.{Leaf}
use Rattle.hb_frag.specs.declared.leaves.Leaf.TheVariants.{Records, Child, Sibling}
use Rattle.hb_frag.specs.declared.pages.LivePage.{LivePage}
use Rattle.hb_frag.specs.Leaves.{DirectlyHolds, Placed, leaf_at, leaves, leaves_of, siblings_of}
use Rattle.hb_frag.specs.Rules.{BelongsAt}
use Rattle.hb_ops.specs.Files.{FileState, live_page}
use Rattle.hb_ops.specs.Sound.{AreWellMade, ChildrenMatch, IsCovered, SiblingsMatch}
use Rattle.hb_sound.specs.Laws.{TreeLaws}
use Rattle.hb_sound.specs.PointWalks.{IsResponsible, IsWalk, LeadsOn, Sees}
use Rattle.hb_sound.proofs.HeldSomewhere.{WalksOn, found, holds_directly, leaf_there, some_leaf}
use Rattle.hb_sound.proofs.Facts.OneLevel.{holds_where_leaf}
use Rattle.hb_ops.proofs.Facts.PlacedLaws.{leaf_is_sibling, placed, placed_is_leaf}
use Rattle.hb_space.proofs.Facts.Boxes.{Holds-within}

-- a walk from the page down to the one that is responsible for the point
pub record WalksDown (s : FileState) (p : List ℕ) (id : ℕ) : Type 0 where
  pub rest : List ℕ
  pub last : ℕ
  pub walk : IsWalk s p id rest last
  pub records : List Record
  pub ends : Sees s p last (Records records)
  pub responsible : IsResponsible s p last

-- two walks with a step between them are one
joined_walk : (s : FileState) (p : List ℕ) (id middle next last : ℕ) (rest others : List ℕ) → IsWalk s p id rest middle → LeadsOn s p middle next → IsWalk s p next others last → IsWalk s p id (rest ++ (next ∷ others)) last
joined_walk s p id middle next last [] others walk leads behind = (subst (λ (n : ℕ). LeadsOn s p n next) (sym walk) leads, behind)
joined_walk s p id middle next last (x ∷ rest) others walk leads behind = (walk.0, joined_walk s p x middle next last rest others walk.1 leads behind)

module _ (laws : TreeLaws) (s : FileState) (made : AreWellMade s) (match : SiblingsMatch s) (children : ChildrenMatch s) (covered : IsCovered s) (area : IsArea (whole_area s.meta.k)) (p : List ℕ) where
  -- the leaf at a point is one that its page may have
  pub belongs : (id : ℕ) (page : LivePage) (leaf : Leaf) (b : Area) → live_page s id ≡ Some page → leaf_at page p ≡ Some (placed leaf b) → BelongsAt page.level leaf
  belongs id page leaf b live e =
      let there = leaf_there laws s made match covered area p id page leaf b live e in
      All-contains (BelongsAt page.level) (leaves page.frag) leaf (made id page live).filled.kinds (placed_is_leaf page.frag page.area (placed leaf b) there.0)

  -- where a page directly holds the point, it isn't a sibling leaf
  pub no_sibling : (id : ℕ) (page : LivePage) (name : ℕ) (b : Area) → live_page s id ≡ Some page → DirectlyHolds page p → leaf_at page p ≡ Some (placed (Sibling name) b) → ⊥
  no_sibling id page name b live direct e =
      let there = leaf_there laws s made match covered area p id page (Sibling name) b live e in
      All-contains (λ (x : ℕ × Area). ¬ (Holds x.1 p)) (siblings_of page) (name, b) direct.not_given (leaf_is_sibling (leaves_of page.frag page.area) name b there.0) there.1

  -- on level 0 it has records
  ends_here : (id : ℕ) (w : WalksOn s 0 p id) (leaf : Leaf) (b : Area) → leaf_at w.has.page p ≡ Some (placed leaf b) → WalksDown s p id
  ends_here id w (Records records) b e = record { rest = w.rest; last = w.last; walk = w.walk; records = records; ends = record { page = w.has.page; area = b; live = w.has.live; there = e }; responsible = w.has }
  ends_here id w (Child name) b e = let above : 0 < w.has.page.level = belongs w.last w.has.page (Child name) b w.has.live e in absurd (omega (arith, above, w.has.on))
  ends_here id w (Sibling name) b e = absurd (no_sibling w.last w.has.page name b w.has.live w.has.direct e)

  -- above it names a page one level down, whose box has the point
  pub record HasChild (page : LivePage) (name : ℕ) : Type 0 where
    pub named : LivePage
    pub live : live_page s name ≡ Some named
    pub below : named.level + 1 ≡ page.level
    pub inside : Holds named.area p

  pub child_below : (id : ℕ) (page : LivePage) (name : ℕ) (b : Area) → live_page s id ≡ Some page → leaf_at page p ≡ Some (placed (Child name) b) → HasChild page name
  child_below id page name b live e =
      let there = leaf_there laws s made match covered area p id page (Child name) b live e in
      let m = children id page name b live there.0 in
      let as_many : length b.lo ≡ length page.area.lo = All-contains (λ (l : Placed). length l.area.lo ≡ length page.area.lo) (leaves_of page.frag page.area) (placed (Child name) b) (laws.attributes page.frag page.area) there.0 in
      let same : length b.lo ≡ length m.0.area.lo = as_many ∙ (made id page live).fits.attributes ∙ sym (made name m.0 m.1).fits.attributes in
      record { named = m.0; live = m.1; below = m.2; inside = Holds-within b m.0.area p same m.3 there.1 }

  abbrev Below : ℕ → Type 0
  Below level = (id : ℕ) (page : LivePage) → live_page s id ≡ Some page → page.level ≡ level → Holds page.area p → WalksDown s p id

  goes_down : (level id : ℕ) → Below level → (w : WalksOn s (suc level) p id) (leaf : Leaf) (b : Area) → leaf_at w.has.page p ≡ Some (placed leaf b) → WalksDown s p id
  goes_down level id again w (Records records) b e = let bottom : w.has.page.level ≡ 0 = belongs w.last w.has.page (Records records) b w.has.live e in absurd (omega (arith, bottom, w.has.on))
  goes_down level id again w (Child name) b e =
      let page = w.has.page in
      let m = child_below w.last page name b w.has.live e in
      let on : m.named.level ≡ level = omega (arith, m.below, w.has.on) in
      let down = again name m.named m.live on m.inside in
      record {
        rest = w.rest ++ (name ∷ down.rest);
        last = down.last;
        walk = joined_walk s p id w.last name down.last w.rest down.rest w.walk (inl (record { page = page; area = b; live = w.has.live; there = e })) down.walk;
        records = down.records;
        ends = down.ends;
        responsible = down.responsible;
      }
  goes_down level id again w (Sibling name) b e = absurd (no_sibling w.last w.has.page name b w.has.live w.has.direct e)

  pub walks_down : (level : ℕ) → Below level
  walks_down zero id page live on held =
      let w = found laws s made match covered area p (suc (volume page.area)) zero id page live on held (omega arith) in
      let l = some_leaf laws s made match covered area p w.last w.has.page w.has.live w.has.direct.inside in
      ends_here id w l.0 l.1 l.2
  walks_down (suc level) id page live on held =
      let w = found laws s made match covered area p (suc (volume page.area)) (suc level) id page live on held (omega arith) in
      let l = some_leaf laws s made match covered area p w.last w.has.page w.has.live w.has.direct.inside in
      goes_down level id (walks_down level) w l.0 l.1 l.2

  -- a page whose leaf at the point has records is the one that is responsible
  pub responsible_for : (id : ℕ) (page : LivePage) (records : List Record) (b : Area) → live_page s id ≡ Some page → leaf_at page p ≡ Some (placed (Records records) b) → IsResponsible s p id
  responsible_for id page records b live e =
      let held = holds_where_leaf laws s made match covered area id page p (Records records) b live e in
      record { page = page; live = live; on = belongs id page (Records records) b live e; direct = holds_directly laws s made match covered area p id page (Records records) b live held e (λ name f. let no : ⊥ = cc in no) }
