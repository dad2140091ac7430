-- After a merge each page but the one that is free is in use as before, and is named as often, and the free chain begins with that one.
use Rattle.std.proofs.Common.{◌≡◌, ◌≢◌, ℕ, ◌+◌, ◌≤◌, ◌⊎◌, inl, inr, Bool, cond, List, ◌∷◌, length, None, Some, refl, sym, ap, subst, ◌∙◌, arith, eq-eqb, ne_eqb}
use Rattle.std.specs.List.{Contains}
use Rattle.std.proofs.lemmas.Bool.{cases_eq}
use Rattle.std.proofs.lemmas.Option.{same_Some}
use Rattle.hb_lemmas.proofs.Lists.{first_member, later_member}
use Rattle.hb_space.specs.Boxes.{Area, whole_area}
use Rattle.hb_frag.specs.declared.pages.LivePage.{LivePage}
use Rattle.hb_frag.specs.declared.pages.Page.TheVariants.{Live, Free}
use Rattle.hb_frag.specs.Leaves.{first_named, siblings_of}
use Rattle.hb_ops.specs.Files.{FileState, if_live, live_page, page_of}
use Rattle.hb_ops.specs.Merging.{kept_page, parent_page}
use Rattle.hb_ops.specs.Sound.{IsCounted, IsCovered, IsRooted, IsSound, SiblingsMatch, count_name, times_named}
use Rattle.hb_ops.proofs.Facts.FilePages.{chain_kept, page_in_range}
use Rattle.hb_ops.proofs.Facts.PageNumberLaws.{live_so}
use Rattle.hb_sound.specs.Laws.{TreeLaws}
use Rattle.hb_sound.proofs.CutNames.{once}
use Rattle.hb_sound.proofs.MergedLeaves.{MergeLaws, kept_so, names_again, siblings_from, siblings_stay}
use Rattle.hb_sound.proofs.Facts.MergedPages.{IsJoined, Joins, after as joined_file, gone_box, is_joined}
use Rattle.hb_sound.proofs.UnnamedPages.{named_some}
use Rattle.hb_sound.proofs.Facts.PagePlaces.{StaysLive, WasLive}

module _ (trees : TreeLaws) (laws : MergeLaws) (s : FileState) (parent keep gone : ℕ) (may : Joins s parent keep gone) (sound : IsSound s) where
  abbrev pub after : FileState
  after = joined_file s parent keep gone may

  abbrev pub above_now : LivePage
  above_now = parent_page keep gone may.above

  abbrev pub kept_now : LivePage
  kept_now = kept_page gone may.kept may.going

  joined : IsJoined s after parent keep gone may.above may.kept may.going above_now kept_now
  joined = is_joined s parent keep gone may

  pub found : first_named gone (siblings_of may.kept) ≡ Some may.going.area
  found = (gone_box s parent keep gone may sound.siblings).0

  pub named_gone : Contains (siblings_of may.kept) (gone, may.going.area)
  named_gone = (gone_box s parent keep gone may sound.siblings).1

  pub same_level : may.going.level ≡ may.kept.level
  same_level = let one = may.fits.pages.kept_level in let two = may.fits.pages.gone_level in omega (arith, one, two)

  -- ---- names

  times_again : (name : ℕ) → times_named name after.pages + once name gone ≡ times_named name s.pages
  times_again name =
      let all = joined.times name in
      let above = ap (count_name name) (siblings_stay trees laws keep gone may.above) in
      let kept = names_again trees laws gone may.kept may.going found name in
      let so = ap (λ (q : LivePage). count_name name (siblings_of q)) (kept_so trees laws gone may.kept may.going found) in
      omega (arith, all, above, kept, so)

  same_times : (name : ℕ) → name ≢ gone → times_named name after.pages ≡ times_named name s.pages
  same_times name ne =
      let none : once name gone ≡ 0 = ap (λ (b : Bool). cond b 1 0) (ne_eqb gone name (λ e. ne (sym e))) in
      let all = times_again name in
      omega (arith, none, all)

  -- the page to go hasn't the whole space
  pub part : may.going.area ≢ whole_area s.meta.k
  part whole =
      let none = sound.covered.not_named gone may.going may.gone_live whole in
      let some = named_some s keep gone may.kept may.going.area may.kept_live named_gone in
      absurd (omega (arith, none, some))

  -- so one leaf named it, and none does afterwards
  gone_none : times_named gone after.pages ≡ 0
  gone_none =
      let one : once gone gone ≡ 1 = ap (λ (b : Bool). cond b 1 0) (eq-eqb gone gone refl) in
      let all = times_again gone in
      let was = sound.covered.named_once gone may.going may.gone_live part in
      omega (arith, one, all, was)

  -- ---- the pages in use

  -- a page in use afterwards isn't the one that is free: it is one of the two that changed, or was there
  pub record OtherPage (id : ℕ) (new : LivePage) : Type 0 where
    pub live : live_page s id ≡ Some new
    pub not_parent : id ≢ parent
    pub not_keep : id ≢ keep

  pub not_gone : (id : ℕ) (new : LivePage) → live_page after id ≡ Some new → id ≢ gone
  not_gone id new live is = let both : None ≡ Some new = sym (ap if_live joined.gone_now) ∙ ap (live_page after) (sym is) ∙ live in absurd (let no : ⊥ = cc in no)

  pub comes_from : (id : ℕ) (new : LivePage) → live_page after id ≡ Some new → ((id ≡ parent) × (above_now ≡ new)) ⊎ ((id ≡ keep) × (kept_now ≡ new)) ⊎ OtherPage id new
  comes_from id new live = elim (cases_eq id parent) [
    | inl is ↦ inl (is, same_Some above_now new (sym (ap if_live joined.parent_now) ∙ ap (live_page after) (sym is) ∙ live))
    | inr not_parent ↦ elim (cases_eq id keep) [
      | inl is ↦ inr (inl (is, same_Some kept_now new (sym (ap if_live joined.keep_now) ∙ ap (live_page after) (sym is) ∙ live)))
      | inr not_keep ↦ inr (inr (record {
        live = sym (ap if_live (joined.others id not_parent not_keep (not_gone id new live))) ∙ live;
        not_parent = not_parent;
        not_keep = not_keep;
      }))
    ]
  ]

  -- it was in use with its level and its box
  pub was_live : (id : ℕ) (new : LivePage) → live_page after id ≡ Some new → WasLive s id new
  was_live id new live = elim (comes_from id new live) [
    | inl w ↦ record {
      old = may.above;
      live = ap (live_page s) w.0 ∙ may.above_live;
      level = ap (λ (q : LivePage). q.level) (sym w.1);
      area = ap (λ (q : LivePage). q.area) (sym w.1);
    }
    | inr other ↦ elim other [
      | inl w ↦ record {
        old = may.kept;
        live = ap (live_page s) w.0 ∙ may.kept_live;
        level = ap (λ (q : LivePage). q.level) (sym w.1);
        area = ap (λ (q : LivePage). q.area) (sym w.1);
      }
      | inr w ↦ record { old = new; live = w.live; level = refl; area = refl }
    ]
  ]

  -- and each page of before stays in use but that one
  pub stays_live : (id : ℕ) (old : LivePage) → live_page s id ≡ Some old → id ≢ gone → StaysLive after id old
  stays_live id old live not = elim (cases_eq id parent) [
    | inl is ↦
        let same : may.above ≡ old = same_Some may.above old (sym may.above_live ∙ ap (live_page s) (sym is) ∙ live) in
        record { new = above_now; live = ap (live_page after) is ∙ ap if_live joined.parent_now; level = ap (λ (q : LivePage). q.level) same; area = ap (λ (q : LivePage). q.area) same }
    | inr not_parent ↦ elim (cases_eq id keep) [
      | inl is ↦
          let same : may.kept ≡ old = same_Some may.kept old (sym may.kept_live ∙ ap (live_page s) (sym is) ∙ live) in
          record { new = kept_now; live = ap (live_page after) is ∙ ap if_live joined.keep_now; level = ap (λ (q : LivePage). q.level) same; area = ap (λ (q : LivePage). q.area) same }
      | inr not_keep ↦ record { new = old; live = ap if_live (joined.others id not_parent not_keep not) ∙ live; level = refl; area = refl }
    ]
  ]

  -- ---- sibling leaves

  -- a sibling leaf stood in a page of before, on that level
  record StoodIn (level name : ℕ) (area : Area) : Type 0 where
    by : ℕ
    page : LivePage
    live : live_page s by ≡ Some page
    height : page.level ≡ level
    has : Contains (siblings_of page) (name, area)

  of_kept : (name : ℕ) (area : Area) → Contains (siblings_of kept_now) (name, area) → StoodIn may.kept.level name area
  of_kept name area has =
      let there = subst (λ (q : LivePage). Contains (siblings_of q) (name, area)) (kept_so trees laws gone may.kept may.going found) has in
      elim (siblings_from trees laws gone may.kept may.going found name area there) [
        | inl k ↦ record { by = keep; page = may.kept; live = may.kept_live; height = refl; has = k }
        | inr g ↦ record { by = gone; page = may.going; live = may.gone_live; height = same_level; has = g }
      ]

  stood_in : (id : ℕ) (new : LivePage) (name : ℕ) (area : Area) → live_page after id ≡ Some new → Contains (siblings_of new) (name, area) → StoodIn new.level name area
  stood_in id new name area live has = elim (comes_from id new live) [
    | inl w ↦
        let there : Contains (siblings_of above_now) (name, area) = subst (λ (q : LivePage). Contains (siblings_of q) (name, area)) (sym w.1) has in
        record {
          by = parent;
          page = may.above;
          live = may.above_live;
          height = ap (λ (q : LivePage). q.level) w.1;
          has = subst (λ (ss : List (ℕ × Area)). Contains ss (name, area)) (siblings_stay trees laws keep gone may.above) there;
        }
    | inr other ↦ elim other [
      | inl w ↦ subst (λ (q : LivePage). Contains (siblings_of q) (name, area) → StoodIn q.level name area) w.1 (of_kept name area) has
      | inr w ↦ record { by = id; page = new; live = w.live; height = refl; has = has }
    ]
  ]

  pub siblings_match : SiblingsMatch after
  siblings_match id new name area live has =
      let was = stood_in id new name area live has in
      let m = sound.siblings was.by was.page name area was.live was.has in
      let some = named_some after id name new area live has in
      let ne : name ≢ gone = λ is. let none = ap (λ (n : ℕ). times_named n after.pages) is ∙ gone_none in absurd (omega (arith, some, none)) in
      let again = stays_live name m.0 m.1 ne in
      (again.new, again.live, again.level ∙ m.2 ∙ was.height, again.area ∙ m.3)

  pub covered_again : IsCovered after
  covered_again = record {
    first = λ level lt.
        let old = sound.covered.first level lt in
        let ne : old.0 ≢ gone = λ is. part (ap (λ (q : LivePage). q.area) (same_Some may.going old.1 (sym may.gone_live ∙ ap (live_page s) (sym is) ∙ old.2)) ∙ old.4) in
        let again = stays_live old.0 old.1 old.2 ne in
        (old.0, again.new, again.live, again.level ∙ old.3, again.area ∙ old.4);
    alone = λ id other new same live live' level whole whole'.
        let one = was_live id new live in
        let two = was_live other same live' in
        sound.covered.alone id other one.old two.old one.live two.live (sym one.level ∙ level ∙ two.level) (sym one.area ∙ whole) (sym two.area ∙ whole');
    not_named = λ id new live whole. let was = was_live id new live in same_times id (not_gone id new live) ∙ sound.covered.not_named id was.old was.live (sym was.area ∙ whole);
    named_once = λ id new live less. let was = was_live id new live in same_times id (not_gone id new live) ∙ sound.covered.named_once id was.old was.live (λ whole. less (was.area ∙ whole));
  }

  -- ---- the chain

  free_stays : (id next : ℕ) → page_of s id ≡ Some (Free next) → page_of after id ≡ Some (Free next)
  free_stays id next e = joined.others id (in_use parent may.above may.above_live) (in_use keep may.kept may.kept_live) (in_use gone may.going may.gone_live) ∙ e
    where
      in_use : (other : ℕ) (page : LivePage) → live_page s other ≡ Some page → id ≢ other
      in_use other page live is = let both : Some (Live page) ≡ Some (Free next) = sym (live_so (page_of s other) page live) ∙ ap (page_of s) (sym is) ∙ e in absurd (let no : ⊥ = cc in no)

  -- a free page was free, or is the one that went
  free_was : (id next : ℕ) → page_of after id ≡ Some (Free next) → (id ≡ gone) ⊎ (page_of s id ≡ Some (Free next))
  free_was id next e = elim (cases_eq id gone) [
    | inl is ↦ inl is
    | inr ne ↦ inr (sym (joined.others id (in_use parent above_now joined.parent_now) (in_use keep kept_now joined.keep_now) ne) ∙ e)
  ]
    where
      in_use : (other : ℕ) (page : LivePage) → page_of after other ≡ Some (Live page) → id ≢ other
      in_use other page there is = let both : Some (Live page) ≡ Some (Free next) = sym there ∙ ap (page_of after) (sym is) ∙ e in absurd (let no : ⊥ = cc in no)

  gone_range : (1 ≤ gone) × (gone ≤ length s.pages)
  gone_range = page_in_range s.pages gone (Live may.going) (live_so (page_of s gone) may.going may.gone_live)

  pub counted_again : IsCounted after
  counted_again = record {
    chain = gone ∷ sound.counted.chain;
    chained = (refl, λ none. let some = gone_range.0 in absurd (omega (arith, some, none)), s.meta.free, joined.gone_now, chain_kept s after free_stays s.meta.free sound.counted.chain sound.counted.chained);
    all = λ id next e. elim (free_was id next e) [
      | inl is ↦ subst (λ (n : ℕ). Contains (gone ∷ sound.counted.chain) n) (sym is) (first_member gone sound.counted.chain)
      | inr was ↦ later_member gone sound.counted.chain id (sound.counted.all id next was)
    ];
    live = let less = joined.counted in let was = sound.counted.live in omega (arith, less, was);
  }

  pub rooted_again : IsRooted after
  rooted_again =
      let h = sound.rooted in
      let ne : s.meta.root ≢ gone = λ is. part (ap (λ (q : LivePage). q.area) (same_Some may.going h.top.0 (sym may.gone_live ∙ ap (live_page s) (sym is) ∙ h.top.1)) ∙ h.top.3) in
      let top = stays_live s.meta.root h.top.0 h.top.1 ne in
      record {
        numbered = joined.numbered ∙ h.numbered;
        some = h.some;
        high = h.high;
        root = h.root;
        free = let in_file = gone_range.1 in let all = h.numbered in omega (arith, in_file, all);
        live = let few = h.live in omega (arith, few);
        top = (top.new, top.live, ap (λ (k : ℕ). k + 1) top.level ∙ h.top.2, top.area ∙ h.top.3);
      }
