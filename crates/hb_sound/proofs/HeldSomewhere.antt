-- The walk of sibling leaves for a point leads to a page of the level that directly holds it, since the boxes get smaller.
use Rattle.std.proofs.Common.{◌≡◌, ℕ, zero, suc, ◌<◌, inr, List, [], ◌∷◌, get_or, Option, Some, None, IsSome, refl, sym, ap, subst, ◌∙◌, arith}
use Rattle.std.specs.List.{Contains}
use Rattle.std.proofs.lemmas.List.Elements.{Contains-get_or}
use Rattle.hb_space.specs.Boxes.{Area, IsArea, Holds, whole_area, volume}
use Rattle.hb_frag.specs.declared.leaves.Leaf.{Leaf}
use Rattle.hb_frag.specs.declared.leaves.Leaf.TheVariants.{Records, Child, Sibling}
use Rattle.hb_frag.specs.declared.pages.LivePage.{LivePage}
use Rattle.hb_frag.specs.Leaves.{DirectlyHolds, Placed, leaf_at, leaves_of, siblings_of}
use Rattle.hb_ops.specs.Files.{FileState, live_page}
use Rattle.hb_ops.specs.Sound.{AreWellMade, IsCovered, SiblingsMatch}
use Rattle.hb_sound.specs.Laws.{TreeLaws}
use Rattle.hb_sound.specs.PointWalks.{HasOn, IsWalk}
use Rattle.hb_sound.proofs.Facts.OneLevel.{smaller, page_area, sibling_there}
use Rattle.hb_ops.proofs.Facts.PlacedLaws.{leaf_is_sibling, placed}
use Rattle.hb_sound.specs.LawsOfOperations.{HasDirectly}
use Rattle.hb_lemmas.proofs.Options.{one_value}

-- a walk from the page to one of the level that directly holds the point
pub record WalksOn (s : FileState) (level : ℕ) (p : List ℕ) (id : ℕ) : Type 0 where
  pub rest : List ℕ
  pub last : ℕ
  pub walk : IsWalk s p id rest last
  pub has : HasOn s level p last

-- a page that directly holds a point does so under any name of its number
pub under : (f : FileState) (level id other : ℕ) (p : List ℕ) → id ≡ other → HasOn f level p id → HasDirectly f other p
under f level id other p is has = (has.page, ap (live_page f) (sym is) ∙ has.live, has.direct)

-- and on its level
pub on_level : (f : FileState) (id : ℕ) (page : LivePage) (level : ℕ) (p : List ℕ) → live_page f id ≡ Some page → page.level ≡ level → HasDirectly f id p → HasOn f level p id
on_level f id page level p live level_is has = record { page = has.0; live = has.1; on = ap (λ (q : LivePage). q.level) (one_value (live_page f id) has.0 page has.1 live) ∙ level_is; direct = has.2 }

module _ (laws : TreeLaws) (s : FileState) (made : AreWellMade s) (match : SiblingsMatch s) (covered : IsCovered s) (area : IsArea (whole_area s.meta.k)) (p : List ℕ) where
  -- the leaf at a point is one of the page's, and its box holds the point
  pub leaf_there : (id : ℕ) (page : LivePage) (leaf : Leaf) (b : Area) → live_page s id ≡ Some page → leaf_at page p ≡ Some (placed leaf b) → Contains (leaves_of page.frag page.area) (placed leaf b) × Holds b p
  leaf_there id page leaf b live e = (laws.only page.frag page.area p (placed leaf b) (page_area laws s made match covered area id page live) (made id page live).well_cut).0 e

  -- a page directly holds a point of its box where the leaf there isn't a sibling leaf
  pub holds_directly : (id : ℕ) (page : LivePage) (leaf : Leaf) (b : Area) → live_page s id ≡ Some page → Holds page.area p → leaf_at page p ≡ Some (placed leaf b) → ((name : ℕ) → leaf ≡ Sibling name → ⊥) → DirectlyHolds page p
  holds_directly id page leaf b live held e other = record {
    inside = held;
    not_given = λ k d lt there.
        let x = get_or (siblings_of page) k d in
        let is = sibling_there laws s made match covered area id page x.0 x.1 p live (Contains-get_or (siblings_of page) k d lt) there in
        other x.0 (ap (λ (l : Placed). l.leaf) (one_value (leaf_at page p) (placed leaf b) (placed (Sibling x.0) x.1) e is));
  }

  -- and there is a leaf at each point of its box
  pub some_leaf : (id : ℕ) (page : LivePage) → live_page s id ≡ Some page → Holds page.area p → (leaf : Leaf) × (b : Area) × (leaf_at page p ≡ Some (placed leaf b))
  some_leaf id page live held =
      let is = (laws.some page.frag page.area p (page_area laws s made match covered area id page live) (made id page live).well_cut).1 held in
      taken (leaf_at page p) is
    where
      taken : (o : Option Placed) → IsSome o → (leaf : Leaf) × (b : Area) × (o ≡ Some (placed leaf b))
      taken None is = absurd (let no : ⊥ = cc in no)
      taken (Some l) is = (l.leaf, l.area, refl)

  stays : (level id : ℕ) (page : LivePage) → live_page s id ≡ Some page → page.level ≡ level → DirectlyHolds page p → WalksOn s level p id
  stays level id page live on direct = record { rest = []; last = id; walk = refl; has = record { page = page; live = live; on = on; direct = direct } }

  -- what holds of each smaller page of the level that has the point
  abbrev Smaller : ℕ → ℕ → Type 0
  Smaller n level = (id : ℕ) (page : LivePage) → live_page s id ≡ Some page → page.level ≡ level → Holds page.area p → volume page.area < n → WalksOn s level p id

  goes : (n level id : ℕ) (page : LivePage) (leaf : Leaf) (b : Area) → Smaller n level → live_page s id ≡ Some page → page.level ≡ level → Holds page.area p → volume page.area < suc n → leaf_at page p ≡ Some (placed leaf b) → WalksOn s level p id
  goes n level id page (Records records) b again live on held lt e = stays level id page live on (holds_directly id page (Records records) b live held e (λ name f. let no : ⊥ = cc in no))
  goes n level id page (Child name) b again live on held lt e = stays level id page live on (holds_directly id page (Child name) b live held e (λ other f. let no : ⊥ = cc in no))
  goes n level id page (Sibling name) b again live on held lt e =
      let there = leaf_there id page (Sibling name) b live e in
      let has = leaf_is_sibling (leaves_of page.frag page.area) name b there.0 in
      let m = match id page name b live has in
      let less = smaller laws s made match covered id page name b live has in
      let same = ap volume m.3 in
      let w = again name m.0 m.1 (m.2 ∙ on) (subst (λ (a : Area). Holds a p) (sym m.3) there.1) (omega (arith, less, same)) in
      record { rest = name ∷ w.rest; last = w.last; walk = (inr (record { page = page; area = b; live = live; there = e }), w.walk); has = w.has }

  pub found : (n level : ℕ) → Smaller n level
  found zero level id page live on held lt = absurd (omega arith)
  found (suc n) level id page live on held lt = let l = some_leaf id page live held in goes n level id page l.0 l.1 (found n level) live on held lt l.2
