-- A file with another page in place of one in use, which has its level, its box and its sibling leaves: it is as sound as before.
use Rattle.std.proofs.Common.{◌≡◌, ◌≢◌, ℕ, ◌+◌, inl, inr, List, length, Some, refl, sym, ap, subst, ◌∙◌, arith}
use Rattle.std.specs.List.{Contains}
use Rattle.std.proofs.lemmas.Bool.{cases_eq}
use Rattle.hb_space.specs.Boxes.{Area, Within}
use Rattle.hb_frag.specs.declared.leaves.Leaf.TheVariants.{Child}
use Rattle.hb_frag.specs.declared.pages.LivePage.{LivePage}
use Rattle.hb_frag.specs.declared.pages.Page.TheVariants.{Live, Free}
use Rattle.hb_frag.specs.Leaves.{leaves_of, siblings_of}
use Rattle.hb_ops.specs.Files.{FileState, if_live, live_page, page_of}
use Rattle.hb_ops.specs.Operations.{with_page}
use Rattle.hb_ops.specs.Sound.{ChildrenMatch, FitsFile, IsCounted, IsCovered, IsRooted, IsSound, SiblingsMatch, count_name, times_named, HasBelow}
use Rattle.hb_ops.proofs.Facts.PageLists.{HasInstead, put_instead}
use Rattle.hb_ops.proofs.Facts.FilePages.{chain_kept}
use Rattle.hb_ops.proofs.Facts.PageNumberLaws.{live_so}
use Rattle.hb_ops.proofs.Facts.PlacedLaws.{placed}
use Rattle.std.proofs.lemmas.Option.{same_Some}

-- what the new page has in common with the one of before
pub record IsLike (page new : LivePage) : Type 0 where
  pub level : new.level ≡ page.level
  pub area : new.area ≡ page.area
  pub siblings : siblings_of new ≡ siblings_of page

module _ (s : FileState) (id : ℕ) (page new : LivePage) (live : live_page s id ≡ Some page) (like : IsLike page new) where
  abbrev pub after : FileState
  after = record { meta = s.meta; pages = with_page id (Live new) s.pages }

  was_live : page_of s id ≡ Some (Live page)
  was_live = live_so (page_of s id) page live

  put : HasInstead s.pages id (Live page) (Live new) after.pages × (length after.pages ≡ length s.pages)
  put = put_instead s.pages id (Live page) (Live new) was_live

  pub new_live : live_page after id ≡ Some new
  new_live = ap if_live put.0.there

  pub others_stay : (other : ℕ) → other ≢ id → page_of after other ≡ page_of s other
  others_stay other ne = put.0.others other ne

  -- a page in use before stays in use, and one in use afterwards was so before
  pub record Pair (other : ℕ) (was now : LivePage) : Type 0 where
    pub before : live_page s other ≡ Some was
    pub later : live_page after other ≡ Some now
    pub level : now.level ≡ was.level
    pub area : now.area ≡ was.area
    pub siblings : siblings_of now ≡ siblings_of was

  abbrev pair_here : (other : ℕ) → other ≡ id → Pair other page new
  pair_here other is = record {
    before = ap (live_page s) is ∙ live;
    later = ap (live_page after) is ∙ new_live;
    level = like.level;
    area = like.area;
    siblings = like.siblings;
  }

  pub pair_of_old : (other : ℕ) (was : LivePage) → live_page s other ≡ Some was → (now : LivePage) × Pair other was now
  pair_of_old other was e = elim (cases_eq other id) [
    | inl is ↦
        let same : page ≡ was = same_Some page was (sym live ∙ ap (live_page s) (sym is) ∙ e) in
        (new, subst (λ (q : LivePage). Pair other q new) same (pair_here other is))
    | inr ne ↦ (was, record { before = e; later = ap if_live (others_stay other ne) ∙ e; level = refl; area = refl; siblings = refl })
  ]

  pub pair_of_new : (other : ℕ) (now : LivePage) → live_page after other ≡ Some now → (was : LivePage) × Pair other was now
  pair_of_new other now e = elim (cases_eq other id) [
    | inl is ↦
        let same : new ≡ now = same_Some new now (sym new_live ∙ ap (live_page after) (sym is) ∙ e) in
        (page, subst (λ (q : LivePage). Pair other page q) same (pair_here other is))
    | inr ne ↦ (now, record { before = sym (ap if_live (others_stay other ne)) ∙ e; later = e; level = refl; area = refl; siblings = refl })
  ]

  -- a free page stays, and none is made
  free_stays : (other next : ℕ) → page_of s other ≡ Some (Free next) → page_of after other ≡ Some (Free next)
  free_stays other next e = elim (cases_eq other id) [
    | inl is ↦ let both : Some (Live page) ≡ Some (Free next) = sym was_live ∙ ap (page_of s) (sym is) ∙ e in absurd (let no : ⊥ = cc in no)
    | inr ne ↦ others_stay other ne ∙ e
  ]

  free_was : (other next : ℕ) → page_of after other ≡ Some (Free next) → page_of s other ≡ Some (Free next)
  free_was other next e = elim (cases_eq other id) [
    | inl is ↦ let both : Some (Live new) ≡ Some (Free next) = sym put.0.there ∙ ap (page_of after) (sym is) ∙ e in absurd (let no : ⊥ = cc in no)
    | inr ne ↦ sym (others_stay other ne) ∙ e
  ]

  rooted_again : IsRooted s → IsRooted after
  rooted_again h =
      let top = pair_of_old s.meta.root h.top.0 h.top.1 in
      record {
        numbered = put.1 ∙ h.numbered;
        some = h.some;
        high = h.high;
        root = h.root;
        free = h.free;
        live = h.live;
        top = (top.0, top.1.later, ap (λ (k : ℕ). k + 1) top.1.level ∙ h.top.2, top.1.area ∙ h.top.3);
      }

  counted_again : IsCounted s → IsCounted after
  counted_again h = record {
    chain = h.chain;
    chained = chain_kept s after free_stays s.meta.free h.chain h.chained;
    all = λ other next e. h.all other next (free_was other next e);
    live = let same = put.0.counted in let was = h.live in omega (arith, same, was);
  }

  siblings_match : SiblingsMatch s → SiblingsMatch after
  siblings_match h other now name area there has =
      let old = pair_of_new other now there in
      let named = h other old.0 name area old.1.before (subst (λ (ss : List (ℕ × Area)). Contains ss (name, area)) old.1.siblings has) in
      let again = pair_of_old name named.0 named.1 in
      (again.0, again.1.later, again.1.level ∙ named.2 ∙ sym old.1.level, again.1.area ∙ named.3)

  below_stays : (level name : ℕ) (area : Area) → HasBelow s level name area → HasBelow after level name area
  below_stays level name area b =
      let again = pair_of_old name b.0 b.1 in
      (again.0, again.1.later, ap (λ (k : ℕ). k + 1) again.1.level ∙ b.2, subst (λ (a : Area). Within area a) (sym again.1.area) b.3)

  times_again : (name : ℕ) → times_named name after.pages ≡ times_named name s.pages
  times_again name = let all = put.0.times name in let same = ap (count_name name) like.siblings in omega (arith, all, same)

  covered_again : IsCovered s → IsCovered after
  covered_again h = record {
    first = λ level lt.
        let old = h.first level lt in
        let again = pair_of_old old.0 old.1 old.2 in
        (old.0, again.0, again.1.later, again.1.level ∙ old.3, again.1.area ∙ old.4);
    alone = λ one two now same there there' level whole whole'.
        let a = pair_of_new one now there in
        let b = pair_of_new two same there' in
        h.alone one two a.0 b.0 a.1.before b.1.before (sym a.1.level ∙ level ∙ b.1.level) (sym a.1.area ∙ whole) (sym b.1.area ∙ whole');
    not_named = λ other now there whole. let old = pair_of_new other now there in times_again other ∙ h.not_named other old.0 old.1.before (sym old.1.area ∙ whole);
    named_once = λ other now there part. let old = pair_of_new other now there in times_again other ∙ h.named_once other old.0 old.1.before (λ whole. part (old.1.area ∙ whole));
  }

  -- where the new page is well made, and its child leaves name pages one level down
  module _ (made : FitsFile s.meta new) (children : (name : ℕ) (area : Area) → Contains (leaves_of new.frag new.area) (placed (Child name) area) → HasBelow s new.level name area) where
    children_match : ChildrenMatch s → ChildrenMatch after
    children_match h other now name area there has = elim (cases_eq other id) [
      | inl is ↦
          let same : new ≡ now = same_Some new now (sym new_live ∙ ap (live_page after) (sym is) ∙ there) in
          below_stays now.level name area
          (subst (λ (q : LivePage). Contains (leaves_of q.frag q.area) (placed (Child name) area) → HasBelow s q.level name area) same (children name area) has)
      | inr ne ↦ below_stays now.level name area (h other now name area (sym (ap if_live (others_stay other ne)) ∙ there) has)
    ]

    made_again : (other : ℕ) (now : LivePage) → ((was : LivePage) → live_page s other ≡ Some was → FitsFile s.meta was) → live_page after other ≡ Some now → FitsFile s.meta now
    made_again other now h there = elim (cases_eq other id) [
      | inl is ↦ subst (FitsFile s.meta) (same_Some new now (sym new_live ∙ ap (live_page after) (sym is) ∙ there)) made
      | inr ne ↦ h now (sym (ap if_live (others_stay other ne)) ∙ there)
    ]

    pub sound_again : IsSound s → IsSound after
    sound_again h = record {
      rooted = rooted_again h.rooted;
      counted = counted_again h.counted;
      well_made = λ other now there. made_again other now (h.well_made other) there;
      siblings = siblings_match h.siblings;
      children = children_match h.children;
      covered = covered_again h.covered;
    }
