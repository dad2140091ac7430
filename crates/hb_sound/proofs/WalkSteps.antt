-- A step of a walk leads one level down, or to a box that is part of the page's.
use Rattle.std.proofs.Common.{◌≡◌, ◌≢◌, ℕ, ◌<◌, inl, inr, List, Some, sym, ap, subst, ◌∙◌, arith}
use Rattle.std.proofs.lemmas.List.Elements.{All-contains}
use Rattle.hb_space.specs.Boxes.{Area, IsArea, Holds, Within, whole_area, volume}
use Rattle.hb_frag.specs.declared.leaves.Leaf.{Leaf}
use Rattle.hb_frag.specs.declared.leaves.Leaf.TheVariants.{Child, Sibling}
use Rattle.hb_frag.specs.declared.pages.LivePage.{LivePage}
use Rattle.hb_frag.specs.Leaves.{Placed, leaf_at, leaves_of}
use Rattle.hb_ops.specs.Files.{FileState, live_page}
use Rattle.hb_ops.specs.Sound.{AreWellMade, ChildrenMatch, IsCovered, SiblingsMatch}
use Rattle.hb_sound.specs.Laws.{TreeLaws}
use Rattle.hb_sound.specs.PointWalks.{LeadsFurther, LeadsOn, Sees}
use Rattle.hb_sound.proofs.HeldSomewhere.{leaf_there}
use Rattle.hb_sound.proofs.Facts.OneLevel.{smaller, page_area}
use Rattle.hb_ops.proofs.Facts.PlacedLaws.{leaf_is_sibling, placed}
use Rattle.hb_sound.proofs.WalksDown.{child_below}
use Rattle.hb_lemmas.proofs.Options.{one_value}

seen_in : (s : FileState) (p : List ℕ) (id : ℕ) (leaf : Leaf) (page : LivePage) → live_page s id ≡ Some page → (x : Sees s p id leaf) → leaf_at page p ≡ Some (placed leaf x.area)
seen_in s p id leaf page live x = ap (λ (q : LivePage). leaf_at q p) (one_value (live_page s id) page x.page live x.live) ∙ x.there

module _ (laws : TreeLaws) (s : FileState) (made : AreWellMade s) (match : SiblingsMatch s) (children : ChildrenMatch s) (covered : IsCovered s) (area : IsArea (whole_area s.meta.k)) (p : List ℕ) where
  pub step_leads : (id next : ℕ) (page : LivePage) → live_page s id ≡ Some page → LeadsOn s p id next → LeadsFurther s p page next
  step_leads id next page live (inl x) =
      let m = child_below laws s made match children covered area p id page next x.area live (seen_in s p id (Child next) page live x) in
      record { named = m.named; live = m.live; further = record { inside = m.inside; further = inl m.below } }
  step_leads id next page live (inr x) =
      let there = leaf_there laws s made match covered area p id page (Sibling next) x.area live (seen_in s p id (Sibling next) page live x) in
      let has = leaf_is_sibling (leaves_of page.frag page.area) next x.area there.0 in
      let m = match id page next x.area live has in
      let less : volume x.area < volume page.area = smaller laws s made match covered id page next x.area live has in
      let within : Within x.area page.area = All-contains (λ (l : Placed). Within l.area page.area) (leaves_of page.frag page.area) (placed (Sibling next) x.area) (laws.within page.frag page.area (page_area laws s made match covered area id page live) (made id page live).well_cut) there.0 in
      let other : m.0.area ≢ page.area = λ e. let same : volume x.area ≡ volume page.area = ap volume (sym m.3 ∙ e) in absurd (omega (arith, less, same)) in
      record {
        named = m.0;
        live = m.1;
        further = record {
          inside = subst (λ (a : Area). Holds a p) (sym m.3) there.1;
          further = inr (m.2, subst (λ (a : Area). Within a page.area) (sym m.3) within, other);
        };
      }
