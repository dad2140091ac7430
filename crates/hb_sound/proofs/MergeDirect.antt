-- A merge joins what two pages directly hold: on each level one page directly holds a point, before and afterwards, and but for
-- the two pages none changes what it directly holds.
use Rattle.std.proofs.Common.{◌≡◌, ◌≢◌, ℕ, ◌<◌, ◌⊎◌, inl, inr, List, Some, refl, sym, ap, subst, ◌∙◌, arith}
use Rattle.std.proofs.lemmas.Bool.{cases_eq}
use Rattle.hb_frag.specs.declared.pages.LivePage.{LivePage}
use Rattle.hb_frag.specs.Leaves.{DirectlyHolds, siblings_of}
use Rattle.hb_layout.specs.declared.meta.Meta.{Meta}
use Rattle.hb_ops.specs.Files.{FileState, live_page}
use Rattle.hb_ops.specs.Merging.{kept_page, parent_page}
use Rattle.hb_sound.specs.Laws.{SpaceLaws, TreeLaws}
use Rattle.hb_sound.specs.LawsOfMerges.{AreJoinedAt, MergesChangeThree, MergesJoinDirect, MergesKeepSound}
use Rattle.hb_sound.specs.LawsOfOperations.{HasDirectly}
use Rattle.hb_sound.specs.PointWalks.{HasOn, IsPointOf}
use Rattle.hb_sound.proofs.DoneMerges.{IsMerged, is_gone, merged, stays}
use Rattle.hb_sound.proofs.MergedLeaves.{MergeLaws, siblings_stay}
use Rattle.hb_sound.proofs.Partition.{each_point_is_held, no_point_is_held_twice}
use Rattle.hb_sound.proofs.PostSound.{direct_again}
use Rattle.hb_sound.proofs.HeldSomewhere.{on_level, under}
use Rattle.hb_lemmas.proofs.Options.{one_value}

-- a page like another one under the same number directly holds what that one did
like_it : (f g : FileState) (id : ℕ) (page now : LivePage) (level : ℕ) (p : List ℕ) → live_page f id ≡ Some page → live_page g id ≡ Some now → now.level ≡ page.level → now.area ≡ page.area → siblings_of now ≡ siblings_of page → HasOn f level p id → HasOn g level p id
like_it f g id page now level p live later same_level area siblings has =
    let same : has.page ≡ page = one_value (live_page f id) has.page page has.live live in
    record {
      page = now;
      live = later;
      on = same_level ∙ ap (λ (q : LivePage). q.level) (sym same) ∙ has.on;
      direct = direct_again page now p area siblings (subst (λ (q : LivePage). DirectlyHolds q p) same has.direct);
    }

module _ (trees : TreeLaws) (laws : MergeLaws) (s t : FileState) (parent keep gone : ℕ) (m : IsMerged s t parent keep gone) where
  abbrev above : LivePage
  above = m.changes.above

  abbrev new_above : LivePage
  new_above = parent_page keep gone above

  same_siblings : siblings_of new_above ≡ siblings_of above
  same_siblings = siblings_stay trees laws keep gone above

  -- what another page directly holds stays
  others_forth : (level id : ℕ) (p : List ℕ) → id ≢ keep → id ≢ gone → HasOn s level p id → HasOn t level p id
  others_forth level id p two three has = elim (cases_eq id parent) [
    | inl is ↦ like_it s t id above new_above level p (ap (live_page s) is ∙ m.changes.above_live) (ap (live_page t) is ∙ m.changes.parent_now) refl refl same_siblings has
    | inr one ↦ record { page = has.page; live = stays s t parent keep gone m id one two three ∙ has.live; on = has.on; direct = has.direct }
  ]

  others_back : (level id : ℕ) (p : List ℕ) → id ≢ keep → id ≢ gone → HasOn t level p id → HasOn s level p id
  others_back level id p two three has = elim (cases_eq id parent) [
    | inl is ↦ like_it t s id new_above above level p (ap (live_page t) is ∙ m.changes.parent_now) (ap (live_page s) is ∙ m.changes.above_live) refl refl (sym same_siblings) has
    | inr one ↦ record { page = has.page; live = sym (stays s t parent keep gone m id one two three) ∙ has.live; on = has.on; direct = has.direct }
  ]

  module _ (space : SpaceLaws) (p : List ℕ) (point : IsPointOf s p) where
    abbrev level : ℕ
    level = m.changes.kept.level

    point_now : IsPointOf t p
    point_now = record { point = point.point; attributes = point.attributes ∙ ap (λ (meta : Meta). meta.k) (sym m.meta) }

    low : level < s.meta.height
    low = m.fits.pages.kept_made.fits.level

    low_now : level < t.meta.height
    low_now = subst (λ (meta : Meta). level < meta.height) (sym m.meta) low

    forth : HasDirectly t keep p → HasDirectly s keep p ⊎ HasDirectly s gone p
    forth has =
        let now : HasOn t level p keep = on_level t keep (kept_page gone m.changes.kept m.changes.going) level p m.changes.keep_now refl has in
        let was = each_point_is_held trees space s level p m.sound point low in
        elim (cases_eq was.0 keep) [
          | inl is ↦ inl (under s level was.0 keep p is was.1)
          | inr two ↦ elim (cases_eq was.0 gone) [
            | inl is ↦ inr (under s level was.0 gone p is was.1)
            | inr three ↦ absurd (two (no_point_is_held_twice trees space t level p was.0 keep m.sound_now point_now (others_forth level was.0 p two three was.1) now))
          ]
        ]

    back : (id : ℕ) → (id ≡ keep) ⊎ (id ≡ gone) → HasOn s level p id → HasDirectly t keep p
    back id either has =
        let now = each_point_is_held trees space t level p m.sound_now point_now low_now in
        elim (cases_eq now.0 keep) [
          | inl is ↦ under t level now.0 keep p is now.1
          | inr two ↦ elim (cases_eq now.0 gone) [
            | inl is ↦ absurd (is_gone s t parent keep gone m now.0 now.1.page is now.1.live)
            | inr three ↦
                let same : now.0 ≡ id = no_point_is_held_twice trees space s level p now.0 id m.sound point (others_back level now.0 p two three now.1) has in
                elim either [ inl is ↦ absurd (two (same ∙ is)) | inr is ↦ absurd (three (same ∙ is)) ]
          ]
        ]

    keep_on : HasDirectly s keep p → HasOn s level p keep
    keep_on has = on_level s keep m.changes.kept level p m.changes.kept_live refl has

    gone_on : HasDirectly s gone p → HasOn s level p gone
    gone_on has = on_level s gone m.changes.going level p m.changes.gone_live same_level has
      where
        same_level : m.changes.going.level ≡ level
        same_level = omega (arith, m.fits.pages.kept_level, m.fits.pages.gone_level)

    pub joins_direct : AreJoinedAt s t keep gone p
    joins_direct = record {
      joined = (forth, λ has. elim has [ inl one ↦ back keep (inl refl) (keep_on one) | inr two ↦ back gone (inr refl) (gone_on two) ]);
      others = λ level id two three. (others_forth level id p two three, others_back level id p two three);
    }

pub merges_join_direct : TreeLaws → SpaceLaws → MergeLaws → MergesKeepSound → MergesChangeThree → MergesJoinDirect
merges_join_direct trees space laws sound changes s parent keep gone p may point =
    joins_direct trees laws s _ parent keep gone (merged sound changes s parent keep gone may) space p point
