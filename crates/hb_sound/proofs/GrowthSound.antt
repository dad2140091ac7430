-- After a growth each rule is kept, and so the file is sound.
use Rattle.std.proofs.Common.{◌≡◌, ℕ, zero, suc, ◌+◌, ◌<◌, ◌≤◌, inl, inr, Bool, cond, [], ◌∷◌, Some, refl, sym, ap, subst, ◌∙◌, arith, ne_eqb}
use Rattle.std.specs.List.{Contains}
use Rattle.std.proofs.lemmas.Bool.{cases_lt}
use Rattle.std.proofs.lemmas.List.{length-replicate}
use Rattle.hb_space.specs.Boxes.{Area, Within, whole_area}
use Rattle.hb_frag.specs.declared.leaves.Leaf.TheVariants.{Child}
use Rattle.hb_frag.specs.declared.pages.LivePage.{LivePage}
use Rattle.hb_frag.specs.Leaves.{Placed, leaves_of, siblings_of}
use Rattle.hb_frag.specs.Rules.{BelongsAt, IsInOrder, capacity_of}
use Rattle.hb_ops.specs.Files.{FileState, if_live, live_page}
use Rattle.hb_ops.specs.Sound.{AreWellMade, ChildrenMatch, FitsFile, IsCovered, IsRooted, IsSound, SiblingsMatch, times_named, HasBelow}
use Rattle.hb_space.proofs.Facts.Boxes.{Within-self}
use Rattle.hb_sound.proofs.Growths.{Growth, growth, grown}
use Rattle.hb_sound.specs.LawsOfOperations.{GrowthKeepsSound}
use Rattle.hb_ops.specs.Allocating.{new_root}
use Rattle.hb_sound.proofs.Facts.ExampleParts.{no_records}
use Rattle.std.proofs.lemmas.List.Elements.{All-from_recursion}
use Rattle.hb_sound.proofs.FileGrown.{IsGrown, comes_from, is_grown, stays_live}
use Rattle.hb_ops.proofs.Facts.PageLists.{live_few}
use Rattle.hb_ops.proofs.Facts.PlacedLaws.{placed}
use Rattle.hb_sound.proofs.SplitChains.{head_there}
use Rattle.hb_sound.proofs.SplitSound.{named_none}

-- a page above the ground may weigh 1, where a page of a higher level may
light : (level dcap icap : ℕ) → 0 < level → 1 ≤ icap → 1 ≤ capacity_of level dcap icap
light level dcap icap above room = subst (λ (b : Bool). 1 ≤ cond b dcap icap) (sym (ne_eqb level 0 (λ e. absurd (omega (arith, above, e))))) room

module _ (s : FileState) (x : Growth) (grew : IsGrown s x) where
  abbrev after : FileState
  after = grown s x

  fresh_live : live_page after x.fresh ≡ Some (new_root s.meta)
  fresh_live = ap if_live grew.there

  rooted_again : IsRooted s → IsRooted after
  rooted_again h =
      let now = grew.counted in
      let head = head_there after x.free_after now.chain now.chained in
      let few = live_few after.pages in
      let length_now = grew.numbered in
      let live_now = now.live in
      record {
        numbered = length_now;
        some = let le = h.some in omega (arith, le);
        high = grew.fits;
        root = omega arith;
        free = omega (arith, head, length_now);
        live = omega (arith, few, length_now, live_now);
        top = (new_root s.meta, fresh_live, refl, refl);
      }

  -- the page of before fits the file with one level more
  still_fits : (page : LivePage) → FitsFile s.meta page → FitsFile after.meta page
  still_fits page h = record {
    fits = record { level = let lt = h.fits.level in omega (arith, lt); attributes = h.fits.attributes };
    well_cut = h.well_cut;
    filled = h.filled;
    in_order = h.in_order;
    normal = h.normal;
  }

  some_levels : IsRooted s → 0 < s.meta.height
  some_levels h = let top = h.top.2 in omega (arith, top)

  root_fits : IsRooted s → 1 ≤ s.meta.icap → FitsFile after.meta (new_root s.meta)
  root_fits h room = record {
    fits = record { level = omega arith; attributes = length-replicate s.meta.k 0 };
    well_cut = tt;
    filled = record {
      kinds = All-from_recursion (BelongsAt s.meta.height) (Child s.meta.root ∷ []) (some_levels h, tt);
      light = light s.meta.height s.meta.dcap s.meta.icap (some_levels h) room;
      own = λ none. none;
    };
    in_order = All-from_recursion IsInOrder (placed (Child s.meta.root) (whole_area s.meta.k) ∷ []) (no_records s.meta.root (whole_area s.meta.k), tt);
    normal = tt;
  }

  made_again : IsRooted s → 1 ≤ s.meta.icap → AreWellMade s → AreWellMade after
  made_again rooted room h id page live = elim (comes_from s x grew id page live) [
    | inl w ↦ subst (FitsFile after.meta) (sym w.1) (root_fits rooted room)
    | inr was ↦ still_fits page (h id page was)
  ]

  -- the new root has no sibling leaf
  siblings_match : SiblingsMatch s → SiblingsMatch after
  siblings_match h id page name area live has = elim (comes_from s x grew id page live) [
    | inl w ↦ let none : Contains (siblings_of (new_root s.meta)) (name, area) = subst (λ (q : LivePage). Contains (siblings_of q) (name, area)) w.1 has in absurd (omega (arith, none.1))
    | inr was ↦
        let m = h id page name area was has in
        (m.0, stays_live s x grew name m.0 m.1, m.2, m.3)
  ]

  -- and one child leaf, of the whole space, which the old root has
  children_of_root : IsRooted s → (name : ℕ) (area : Area) → Contains (placed (Child s.meta.root) (whole_area s.meta.k) ∷ []) (placed (Child name) area) → HasBelow after s.meta.height name area
  children_of_root h name area (zero, lt, e) =
      let leaf = ap (λ (l : Placed). l.leaf) e in
      let same : s.meta.root ≡ name = cc in
      let box : whole_area s.meta.k ≡ area = ap (λ (l : Placed). l.area) e in
      (h.top.0, ap (live_page after) (sym same) ∙ stays_live s x grew s.meta.root h.top.0 h.top.1, h.top.2, subst (λ (a : Area). Within a h.top.0.area) (h.top.3 ∙ box) (Within-self h.top.0.area))
  children_of_root h name area (suc k, lt, e) = absurd (omega arith)

  children_match : IsRooted s → ChildrenMatch s → ChildrenMatch after
  children_match rooted h id page name area live has = elim (comes_from s x grew id page live) [
    | inl w ↦ subst (λ (q : LivePage). Contains (leaves_of q.frag q.area) (placed (Child name) area) → HasBelow after q.level name area) (sym w.1) (children_of_root rooted name area) has
    | inr was ↦
        let m = h id page name area was has in
        (m.0, stays_live s x grew name m.0 m.1, m.2, m.3)
  ]

  abbrev HasFirst : ℕ → Type 0
  HasFirst level = (id : ℕ) × (page : LivePage) × (live_page after id ≡ Some page) × (page.level ≡ level) × (page.area ≡ whole_area s.meta.k)

  first_again : IsCovered s → (level : ℕ) → level < s.meta.height + 1 → HasFirst level
  first_again h level lt = elim (cases_lt level s.meta.height) [
    | inl below ↦ let old = h.first level below in (old.0, old.1, stays_live s x grew old.0 old.1 old.2, old.3, old.4)
    | inr above ↦ (x.fresh, new_root s.meta, fresh_live, omega (arith, lt, above), refl)
  ]

  -- no page of before is on the new level
  lower : AreWellMade s → (id : ℕ) (page : LivePage) → live_page s id ≡ Some page → page.level ≡ s.meta.height → ⊥
  lower made id page live e = let lt = (made id page live).fits.level in absurd (omega (arith, lt, e))

  alone_again : AreWellMade s → IsCovered s → (id other : ℕ) (page same : LivePage) → live_page after id ≡ Some page → live_page after other ≡ Some same → page.level ≡ same.level → page.area ≡ whole_area s.meta.k → same.area ≡ whole_area s.meta.k → id ≡ other
  alone_again made h id other page same live live' level whole whole' = elim (comes_from s x grew id page live) [
    | inl one ↦ elim (comes_from s x grew other same live') [
      | inl two ↦ one.0 ∙ sym two.0
      | inr two ↦ absurd (lower made other same two (sym level ∙ ap (λ (q : LivePage). q.level) one.1))
    ]
    | inr one ↦ elim (comes_from s x grew other same live') [
      | inl two ↦ absurd (lower made id page one (level ∙ ap (λ (q : LivePage). q.level) two.1))
      | inr two ↦ h.alone id other page same one two level whole whole'
    ]
  ]

  covered_again : AreWellMade s → SiblingsMatch s → IsCovered s → IsCovered after
  covered_again made match h = record {
    first = first_again h;
    alone = alone_again made h;
    not_named = λ id page live whole. elim (comes_from s x grew id page live) [
      | inl w ↦ ap (λ (n : ℕ). times_named n after.pages) w.0 ∙ grew.times x.fresh ∙ named_none s x.fresh match grew.vacant
      | inr was ↦ grew.times id ∙ h.not_named id page was whole
    ];
    named_once = λ id page live part. elim (comes_from s x grew id page live) [
      | inl w ↦ absurd (part (ap (λ (q : LivePage). q.area) w.1))
      | inr was ↦ grew.times id ∙ h.named_once id page was part
    ];
  }

  pub sound_again : 1 ≤ s.meta.icap → IsSound s → IsSound after
  sound_again room h = record {
    rooted = rooted_again h.rooted;
    counted = grew.counted;
    well_made = made_again h.rooted room h.well_made;
    siblings = siblings_match h.siblings;
    children = children_match h.rooted h.children;
    covered = covered_again h.well_made h.siblings h.covered;
  }

pub growth_keeps_sound : GrowthKeepsSound
growth_keeps_sound s fresh free_after sound room may licensed =
    let x = growth fresh free_after in
    sound_again s x (is_grown s x sound may licensed) room sound
