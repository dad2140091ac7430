-- Rules 7 and 8: what the leaves of the pages name, from the facts to the pages.
use Rattle.std.proofs.Common.{◌≡◌, inl, inr, ℕ, ◌+◌, ◌≤◌, List, [], ◌∷◌, length, All, Contains, Option, Some, None, refl, sym, ap, ◌∙◌, subst, arith}
use Rattle.std.proofs.lemmas.Bool.{cases_eq}
use Rattle.std.proofs.lemmas.List.{length-set}
use Rattle.std.proofs.lemmas.List.Elements.{All-cons, All-contains, All-nil, Contains-append_cases, Contains-append_right}
use Rattle.hb_space.specs.Boxes.{Area, Within, side_below, side_from}
use Rattle.hb_frag.specs.declared.leaves.Leaf.{Leaf}
use Rattle.hb_frag.specs.declared.leaves.Leaf.TheVariants.{Records, Child, Sibling}
use Rattle.hb_frag.specs.declared.pages.LivePage.{LivePage}
use Rattle.hb_frag.specs.declared.pages.Page.{Page}
use Rattle.hb_frag.specs.Leaves.{Placed, leaves_of}
use Rattle.hb_frag.specs.Rules.{Fits}
use Rattle.hb_frag.specs.Trees.{Tree, Tip, Cut}
use Rattle.hb_layout.specs.declared.meta.Meta.{Meta}
use Rattle.hb_ops.proofs.Facts.KnownBoxes.{known_within, known_area}
use Rattle.hb_ops.specs.Files.{FileState, live_page}
use Rattle.hb_ops.specs.Sound.{ChildrenMatch, SiblingsMatch, HasBelow, HasSame}
use Rattle.hb_sound.specs.declared.page_facts.Seen.{Seen}
use Rattle.hb_sound.specs.declared.page_facts.Fact.{Fact}
use Rattle.hb_sound.specs.declared.page_facts.Fact.TheVariants.{Live}
use Rattle.hb_sound.specs.Names.{MissesChild, MissesSibling, KeepsLocally}
use Rattle.hb_sound.specs.Facts.{AreFactsOf, FindsBelow, FindsSame, SeesBelow, SeesSame, seen_at}
use Rattle.hb_sound.specs.Links.{IsFirstUpTo, LosesChild, LosesSibling}
use Rattle.hb_sound.specs.Told.{item_at, file_with}
use Rattle.hb_sound.specs.Walks.{IsLeast}
use Rattle.hb_sound.proofs.Bridge.{live_seen, seen_live}
use Rattle.hb_sound.proofs.Firsts.{item_within}
use Rattle.hb_lemmas.proofs.Decisions.{Known, both}
use Rattle.hb_lemmas.proofs.Lists.{only_one, first_member}
use Rattle.hb_sound.proofs.Levels.{seen_fact}
use Rattle.hb_sound.proofs.LocalBridge.{fits}
use Rattle.hb_ops.proofs.Facts.PlacedLaws.{placed, leaf_is_sibling, sibling_is_leaf}

-- the box of a leaf has as many attributes as that of its tree
leaf_attributes : (tree : Tree) (area : Area) (leaf : Leaf) (a : Area) → Contains (leaves_of tree area) (placed leaf a) → length a.lo ≡ length area.lo
leaf_attributes (Tip own) area leaf a h =
    ap (λ (p : Placed). length p.area.lo) (sym (only_one {X = Placed} (placed own area) (placed leaf a) h))
leaf_attributes (Cut axis value left right) area leaf a h =
    let below = side_below area axis value in
    let from = side_from area axis value in
    elim (Contains-append_cases (leaves_of left below) (leaves_of right from) (placed leaf a) h) [
      | inl here ↦ leaf_attributes left below leaf a here
      | inr here ↦ leaf_attributes right from leaf a here ∙ length-set area.lo axis value
    ]

known_same : (o : Option Seen) (level : ℕ) (area : Area) → Known ((seen : Seen) × (o ≡ Some seen) × (seen.level ≡ level) × (seen.area ≡ area))
known_same None level area = inr (λ h. let never : None ≡ Some h.0 = h.1 in cc)
known_same (Some own) level area = elim (both (cases_eq own.level level) (known_area own.area area)) [
  | inl is ↦ inl (own, refl, is.0, is.1)
  | inr fails ↦ inr (λ h.
      let e : Some own ≡ Some h.0 = h.1 in
      let is : own ≡ h.0 = cc in
      fails (ap (λ (s : Seen). s.level) is ∙ h.2, ap (λ (s : Seen). s.area) is ∙ h.3))
]

known_below : (o : Option Seen) (level : ℕ) (area : Area)
    → Known ((seen : Seen) × (o ≡ Some seen) × (seen.level + 1 ≡ level) × (length area.lo ≡ length seen.area.lo) × Within area seen.area)
known_below None level area = inr (λ h. let never : None ≡ Some h.0 = h.1 in cc)
known_below (Some own) level area = elim (both (cases_eq (own.level + 1) level) (both (cases_eq (length area.lo) (length own.area.lo)) (known_within area own.area))) [
  | inl is ↦ inl (own, refl, is.0, is.1.0, is.1.1)
  | inr fails ↦ inr (λ h.
      let e : Some own ≡ Some h.0 = h.1 in
      let is : h.0 ≡ own = cc in
      let Q : Seen → Type 0 = λ s. (s.level + 1 ≡ level) × ((length area.lo ≡ length s.area.lo) × Within area s.area) in
      fails (subst Q is (h.2, (h.3, h.4))))
]

module _ (facts : List Fact) (level : ℕ) where
  known_sibling : (leaf : Leaf) (area : Area) → Known (FindsSame facts level (placed leaf area))
  known_sibling (Records records) area = inl (record { same = tt })
  known_sibling (Child name) area = inl (record { same = tt })
  known_sibling (Sibling name) area = elim (known_same (seen_at facts name) level area) [
    | inl sees ↦ inl (record { same = sees })
    | inr fails ↦ inr (λ finds. fails finds.same)
  ]

  known_child : (leaf : Leaf) (area : Area) → Known (FindsBelow facts level (placed leaf area))
  known_child (Records records) area = inl (record { below = tt })
  known_child (Sibling name) area = inl (record { below = tt })
  known_child (Child name) area = elim (known_below (seen_at facts name) level area) [
    | inl sees ↦ inl (record { below = sees })
    | inr fails ↦ inr (λ finds. fails finds.below)
  ]

-- where not each leaf is good, one is bad
bad_one : (P : Placed → Type 0) → ((x : Placed) → Known (P x)) → (xs : List Placed) → ¬ (All P xs) → (x : Placed) × Contains xs x × (¬ (P x))
bad_one P know [] fails = absurd (fails (All-nil P))
bad_one P know (x ∷ xs) fails = elim (know x) [
  | inr bad ↦ (x, first_member {X = Placed} x xs, bad)
  | inl good ↦
      let rest = bad_one P know xs (λ all. fails (All-cons P x xs good all)) in
      (rest.0, Contains-append_right (x ∷ []) xs rest.0 rest.1, rest.2)
]

module _ (meta : Meta) (facts : List Fact) (list : List Page) (are : AreFactsOf meta facts list) where
  abbrev file : FileState
  file = file_with meta list

  -- a page in use has a number that the facts reach
  live_within : (id : ℕ) (page : LivePage) → live_page file id ≡ Some page → id ≤ length facts
  live_within id page at =
      let seen = seen_live meta facts list are id page at in
      item_within facts id (Live seen.0) (seen_fact (item_at facts id) seen.0 seen.1)

  same_has : (level name : ℕ) (area : Area) → SeesSame facts level name area → HasSame file level name area
  same_has level name area sees =
      let page = live_seen meta facts list are name sees.0 sees.1 in
      (page.0, page.1, sym page.2.level ∙ sees.2, sym page.2.area ∙ sees.3)

  has_same : (level name : ℕ) (area : Area) → HasSame file level name area → SeesSame facts level name area
  has_same level name area has =
      let seen = seen_live meta facts list are name has.0 has.1 in
      (seen.0, seen.1, seen.2.level ∙ has.2, seen.2.area ∙ has.3)

  loses_sibling : (id : ℕ) → LosesSibling facts list id → MissesSibling file id
  loses_sibling id loses =
      let page = loses.0 in
      let bad = bad_one (FindsSame facts page.level) (λ x. known_sibling facts page.level x.leaf x.area) (leaves_of page.frag page.area) loses.2 in
      by_leaf bad.0.leaf bad.0.area bad.1 bad.2
    where
      by_leaf : (leaf : Leaf) (area : Area) → Contains (leaves_of loses.0.frag loses.0.area) (placed leaf area) → ¬ (FindsSame facts loses.0.level (placed leaf area)) → MissesSibling file id
      by_leaf (Records records) area there bad = absurd (bad (record { same = tt }))
      by_leaf (Child name) area there bad = absurd (bad (record { same = tt }))
      by_leaf (Sibling name) area there bad = (
        loses.0,
        loses.1,
        name,
        area,
        leaf_is_sibling (leaves_of loses.0.frag loses.0.area) name area there,
        λ has. bad (record { same = has_same loses.0.level name area has }),
      )

  misses_sibling : (id : ℕ) → MissesSibling file id → LosesSibling facts list id
  misses_sibling id misses =
      let page = misses.0 in
      let all = leaves_of page.frag page.area in (
        page,
        misses.1,
        λ finds.
            let at = All-contains (FindsSame facts page.level) all (placed (Sibling misses.2) misses.3) finds (sibling_is_leaf all misses.2 misses.3 misses.4) in
            misses.5 (same_has page.level misses.2 misses.3 at.same),
      )

  pub least_sibling : (id : ℕ) → IsLeast (LosesSibling facts list) id → IsLeast (MissesSibling file) id
  least_sibling id least = record { here = loses_sibling id least.here; least = λ m misses. least.least m (misses_sibling m misses) }

  pub siblings_match : IsFirstUpTo (LosesSibling facts list) (length facts) None → SiblingsMatch file
  siblings_match none id page name area at there = elim (known_same (seen_at facts name) page.level area) [
    | inl sees ↦ same_has page.level name area sees
    | inr fails ↦ absurd (none id (live_within id page at) (misses_sibling id (page, at, name, area, there, λ has. fails (has_same page.level name area has))))
  ]

  module _ (kept : KeepsLocally file) where
    fits_file : (id : ℕ) (page : LivePage) → live_page file id ≡ Some page → Fits page meta.k meta.height
    fits_file id page at = elim (kept id page at) [ inl well ↦ well.fits | inr ten ↦ fits page meta 10 ten (omega arith) ]

    below_has : (level name : ℕ) (area : Area) → SeesBelow facts level name area → HasBelow file level name area
    below_has level name area sees =
        let page = live_seen meta facts list are name sees.0 sees.1 in
        let Q : Area → Type 0 = λ box. Within area box in
        (page.0, page.1, ap (λ (n : ℕ). n + 1) (sym page.2.level) ∙ sees.2, subst Q page.2.area sees.4)

    has_below : (level name : ℕ) (area : Area) → length area.lo ≡ meta.k → HasBelow file level name area → SeesBelow facts level name area
    has_below level name area attributes has =
        let seen = seen_live meta facts list are name has.0 has.1 in
        let own = fits_file name has.0 has.1 in
        let Q : Area → Type 0 = λ box. Within area box in (
          seen.0,
          seen.1,
          ap (λ (n : ℕ). n + 1) seen.2.level ∙ has.2,
          attributes ∙ sym own.attributes ∙ ap (λ (a : Area). length a.lo) (sym seen.2.area),
          subst Q (sym seen.2.area) has.3,
        )

    leaf_fits : (id : ℕ) (page : LivePage) (leaf : Leaf) (area : Area) → live_page file id ≡ Some page → Contains (leaves_of page.frag page.area) (placed leaf area) → length area.lo ≡ meta.k
    leaf_fits id page leaf area at there =
        let own = fits_file id page at in
        leaf_attributes page.frag page.area leaf area there ∙ own.attributes

    loses_child : (id : ℕ) → LosesChild facts list id → MissesChild file id
    loses_child id loses =
        let page = loses.0 in
        let bad = bad_one (FindsBelow facts page.level) (λ x. known_child facts page.level x.leaf x.area) (leaves_of page.frag page.area) loses.2 in
        by_leaf bad.0.leaf bad.0.area bad.1 bad.2
      where
        by_leaf : (leaf : Leaf) (area : Area) → Contains (leaves_of loses.0.frag loses.0.area) (placed leaf area) → ¬ (FindsBelow facts loses.0.level (placed leaf area)) → MissesChild file id
        by_leaf (Records records) area there bad = absurd (bad (record { below = tt }))
        by_leaf (Sibling name) area there bad = absurd (bad (record { below = tt }))
        by_leaf (Child name) area there bad = (
          loses.0,
          loses.1,
          name,
          area,
          there,
          λ has. bad (record { below = has_below loses.0.level name area (leaf_fits id loses.0 (Child name) area loses.1 there) has }),
        )

    misses_child : (id : ℕ) → MissesChild file id → LosesChild facts list id
    misses_child id misses =
        let page = misses.0 in (
          page,
          misses.1,
          λ finds.
              let at = All-contains (FindsBelow facts page.level) (leaves_of page.frag page.area) (placed (Child misses.2) misses.3) finds misses.4 in
              misses.5 (below_has page.level misses.2 misses.3 at.below),
        )

    pub least_child : (id : ℕ) → IsLeast (LosesChild facts list) id → IsLeast (MissesChild file) id
    least_child id least = record { here = loses_child id least.here; least = λ m misses. least.least m (misses_child m misses) }

    pub children_match : IsFirstUpTo (LosesChild facts list) (length facts) None → ChildrenMatch file
    children_match none id page name area at there = elim (known_below (seen_at facts name) page.level area) [
      | inl sees ↦ below_has page.level name area sees
      | inr fails ↦
          let attributes = leaf_fits id page (Child name) area at there in
          absurd (none id (live_within id page at) (misses_child id (page, at, name, area, there, λ has. fails (has_below page.level name area attributes has))))
    ]
