-- The pages of one level, of which one has the whole space and each other one is named by exactly one sibling leaf of the level.
use Rattle.std.proofs.Common.{◌≡◌, ◌≢◌, ℕ, zero, suc, ◌+◌, ◌<◌, ◌≤◌, inl, inr, List, Option, Some, IsSome, refl, sym, ap, subst, ◌∙◌, arith}
use Rattle.std.specs.List.{Contains}
use Rattle.std.proofs.lemmas.List.Elements.{All-contains}
use Rattle.hb_space.specs.Boxes.{Area, IsArea, Holds, whole_area, volume}
use Rattle.hb_frag.specs.declared.leaves.Leaf.{Leaf}
use Rattle.hb_frag.specs.declared.leaves.Leaf.TheVariants.{Sibling}
use Rattle.hb_frag.specs.declared.pages.LivePage.{LivePage}
use Rattle.hb_frag.specs.Leaves.{Placed, leaf_at, leaves_of, siblings_of}
use Rattle.hb_ops.specs.Files.{FileState, live_page}
use Rattle.hb_ops.specs.Sound.{AreWellMade, IsCovered, SiblingsMatch}
pub use Rattle.hb_sound.specs.Laws.{TreeLaws}
use Rattle.hb_sound.proofs.Facts.PagePlaces.{live_there, page_no_larger, total}
use Rattle.hb_sound.proofs.SiblingLeaves.{named_among}
use Rattle.hb_ops.proofs.Facts.PlacedLaws.{placed, sibling_is_leaf}
use Rattle.hb_ops.proofs.Facts.KnownBoxes.{known_area}
use Rattle.hb_lemmas.proofs.Options.{one_value}
use Rattle.hb_ops.proofs.Facts.Volumes.{sibling_fewer}

-- the page is named by a sibling leaf of a page of its level, which is larger
pub record IsNamed (s : FileState) (id : ℕ) (page : LivePage) : Type 0 where
  pub by : ℕ
  pub namer : LivePage
  pub live : live_page s by ≡ Some namer
  pub level : namer.level ≡ page.level
  pub names : Contains (siblings_of namer) (id, page.area)
  pub larger : volume page.area < volume namer.area

module _ (laws : TreeLaws) (s : FileState) (made : AreWellMade s) (match : SiblingsMatch s) (covered : IsCovered s) where
  abbrev whole : Area
  whole = whole_area s.meta.k

  -- a sibling leaf's box is smaller than its page's
  pub smaller : (id : ℕ) (page : LivePage) (name : ℕ) (area : Area) → live_page s id ≡ Some page → Contains (siblings_of page) (name, area) → volume area < volume page.area
  smaller id page name area live has =
      let well = made id page live in
      sibling_fewer page.frag page.area name area well.well_cut well.filled.own has

  pub namer_of : (id : ℕ) (page : LivePage) → live_page s id ≡ Some page → page.area ≢ whole → IsNamed s id page
  namer_of id page live part =
      let once = covered.named_once id page live part in
      let w = named_among id s.pages (omega (arith, once)) in
      let here = live_there s w.place w.page w.there in
      let m = match (suc w.place) w.page id w.area here w.names in
      let same : m.0 ≡ page = one_value (live_page s id) m.0 page m.1 live in
      let area : w.area ≡ page.area = sym m.3 ∙ ap (λ (q : LivePage). q.area) same in
      let names : Contains (siblings_of w.page) (id, page.area) = subst (λ (a : Area). Contains (siblings_of w.page) (id, a)) area w.names in
      record {
        by = suc w.place;
        namer = w.page;
        live = here;
        level = sym m.2 ∙ ap (λ (q : LivePage). q.level) same;
        names = names;
        larger = smaller (suc w.place) w.page id page.area here names;
      }

  -- What holds of the page of the whole space, and of each page that a page of which it holds names, holds of every page.
  pub record Spreads (P : ℕ → LivePage → Type 0) : Type 0 where
    pub begins : (id : ℕ) (page : LivePage) → live_page s id ≡ Some page → page.area ≡ whole → P id page
    pub goes_on : (id : ℕ) (page : LivePage) (w : IsNamed s id page) → live_page s id ≡ Some page → P w.by w.namer → P id page

  spread_within : (P : ℕ → LivePage → Type 0) → Spreads P → (n id : ℕ) (page : LivePage) → live_page s id ≡ Some page → total s.pages ≤ n + volume page.area → P id page
  spread_within P spreads zero id page live near = elim (known_area page.area whole) [
    | inl is ↦ spreads.begins id page live is
    | inr ne ↦ let w = namer_of id page live ne in let most = page_no_larger s w.by w.namer w.live in absurd (omega (arith, w.larger, most))
  ]
  spread_within P spreads (suc n) id page live near = elim (known_area page.area whole) [
    | inl is ↦ spreads.begins id page live is
    | inr ne ↦ let w = namer_of id page live ne in spreads.goes_on id page w live (spread_within P spreads n w.by w.namer w.live (omega (arith, w.larger)))
  ]

  pub spread : (P : ℕ → LivePage → Type 0) → Spreads P → (id : ℕ) (page : LivePage) → live_page s id ≡ Some page → P id page
  spread P spreads id page live = spread_within P spreads (total s.pages) id page live (omega arith)

  -- so each page's box is a box
  pub page_area : IsArea whole → (id : ℕ) (page : LivePage) → live_page s id ≡ Some page → IsArea page.area
  page_area h = spread (λ id page. IsArea page.area) (record {
    begins = λ id page live is. subst IsArea (sym is) h;
    goes_on = λ id page w live area.
        let leaf : Placed = placed (Sibling id) page.area in
        All-contains (λ (l : Placed). IsArea l.area) (leaves_of w.namer.frag w.namer.area) leaf
        (laws.areas w.namer.frag w.namer.area area (made w.by w.namer w.live).well_cut)
        (sibling_is_leaf (leaves_of w.namer.frag w.namer.area) id page.area w.names);
  })

  -- the leaf at a point of a sibling leaf's box is that leaf, and the page's box holds the point
  pub sibling_there : IsArea whole → (id : ℕ) (page : LivePage) (name : ℕ) (area : Area) (p : List ℕ) → live_page s id ≡ Some page → Contains (siblings_of page) (name, area) → Holds area p → leaf_at page p ≡ Some (placed (Sibling name) area)
  sibling_there h id page name area p live has held =
      (laws.only page.frag page.area p (placed (Sibling name) area) (page_area h id page live) (made id page live).well_cut).1 (sibling_is_leaf (leaves_of page.frag page.area) name area has, held)

  pub holds_where_leaf : IsArea whole → (id : ℕ) (page : LivePage) (p : List ℕ) (leaf : Leaf) (area : Area) → live_page s id ≡ Some page → leaf_at page p ≡ Some (placed leaf area) → Holds page.area p
  holds_where_leaf h id page p leaf area live e =
      (laws.some page.frag page.area p (page_area h id page live) (made id page live).well_cut).0 (subst (λ (o : Option Placed). IsSome o) (sym e) refl)
