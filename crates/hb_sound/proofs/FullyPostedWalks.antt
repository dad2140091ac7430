-- In a fully posted file no walk from the root meets a sibling leaf, so each of its steps leads one level down.
use Rattle.std.proofs.Common.{◌≡◌, ℕ, suc, inl, inr, List, [], ◌∷◌, All, length, slice_index_or, Some, sym, ap, subst, arith}
use Rattle.hb_space.specs.Boxes.{Area, IsArea, Holds, whole_area}
use Rattle.hb_space.specs.declared.records.Record.{Record}
use Rattle.hb_frag.specs.declared.leaves.Leaf.TheVariants.{Records, Child}
use Rattle.hb_frag.specs.declared.pages.LivePage.{LivePage}
use Rattle.hb_frag.specs.Leaves.{DirectlyHolds, siblings_of}
use Rattle.hb_ops.specs.Files.{FileState, live_page}
use Rattle.hb_ops.specs.Sound.{AreWellMade, ChildrenMatch, IsCovered, SiblingsMatch}
use Rattle.hb_sound.specs.Laws.{SpaceLaws, TreeLaws, FullyPostedWalksAreShort}
use Rattle.hb_ops.specs.Settled.{AllPosted}
use Rattle.hb_sound.specs.PointWalks.{IsWalk, LeadsOn, Sees}
use Rattle.hb_sound.proofs.HeldSomewhere.{leaf_there}
use Rattle.hb_sound.proofs.Partition.{whole_holds, whole_is_area}
use Rattle.hb_sound.proofs.WalksDown.{belongs, child_below, no_sibling}
use Rattle.hb_space.proofs.Facts.Boxes.{Meets-from_point}
use Rattle.hb_lemmas.proofs.Options.{one_value}

module _ (laws : TreeLaws) (s : FileState) (made : AreWellMade s) (match : SiblingsMatch s) (children : ChildrenMatch s) (covered : IsCovered s) (area : IsArea (whole_area s.meta.k)) (p : List ℕ) (posted : AllPosted s) (last : ℕ) (records : List Record) (ends : Sees s p last (Records records)) where
  abbrev Falls : List ℕ → Type 0
  Falls rest = (id : ℕ) (page : LivePage) → live_page s id ≡ Some page → DirectlyHolds page p → IsWalk s p id rest last → length rest ≡ page.level

  at_end : Falls []
  at_end id page live direct walk =
      let bottom : ends.page.level ≡ 0 = belongs laws s made match children covered area p last ends.page (Records records) ends.area ends.live ends.there in
      let same = one_value (live_page s last) page ends.page (subst (λ (n : ℕ). live_page s n ≡ Some page) walk live) ends.live in
      let level = ap (λ (q : LivePage). q.level) same in
      omega (arith, bottom, level)

  one_step : (next : ℕ) (rest : List ℕ) → Falls rest → (id : ℕ) (page : LivePage) → live_page s id ≡ Some page → DirectlyHolds page p → LeadsOn s p id next → IsWalk s p next rest last → suc (length rest) ≡ page.level
  one_step next rest again id page live direct (inl sees) walk =
      let same = one_value (live_page s id) page sees.page live sees.live in
      let level = ap (λ (q : LivePage). q.level) same in
      let child = child_below laws s made match children covered area p id sees.page next sees.area sees.live sees.there in
      let there = leaf_there laws s made match covered area p id sees.page (Child next) sees.area sees.live sees.there in
      let apart = posted id next sees.page child.named sees.area sees.live there.0 child.live in
      let below : DirectlyHolds child.named p = record {
        inside = child.inside;
        not_given = λ k d lt held. apart k d lt (Meets-from_point sees.area (slice_index_or (siblings_of child.named) k d).1 p there.1 held);
      } in
      let behind = again next child.named child.live below walk in
      let down = child.below in
      omega (arith, behind, down, level)
  one_step next rest again id page live direct (inr sees) walk =
      let same = one_value (live_page s id) page sees.page live sees.live in
      absurd (no_sibling laws s made match children covered area p id sees.page next sees.area sees.live (subst (λ (q : LivePage). DirectlyHolds q p) same direct) sees.there)

  pub falls : (rest : List ℕ) → Falls rest
  falls [] id page live direct walk = at_end id page live direct walk
  falls (next ∷ rest) id page live direct walk = one_step next rest (falls rest) id page live direct walk.0 walk.1

pub fully_posted_walks_are_short : TreeLaws → SpaceLaws → FullyPostedWalksAreShort
fully_posted_walks_are_short trees space s p rest last sound full lone h whole =
    let top = sound.rooted.top in
    let none = lone top.0 top.1 in
    let direct : DirectlyHolds top.0 p = record {
      inside = whole_holds trees space s p top.0.area h top.3;
      not_given = subst (λ (xs : List (ℕ × Area)). All (λ x. ¬ (Holds x.1 p)) xs) (sym none) (λ k d lt. absurd (omega (arith, lt)));
    } in
    let fell = falls trees s sound.well_made sound.siblings sound.children sound.covered (whole_is_area trees space s p h) p full.posted last whole.records whole.ends rest s.meta.root top.0 top.1 direct whole.walk in
    let level = top.2 in
    omega (arith, fell, level)
