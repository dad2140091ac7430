-- The page in which another one is named: what each point's leaf names, whom its sibling leaves name, and that it is well made.
use Rattle.std.proofs.Common.{◌≡◌, ℕ, zero, suc, ◌<◌, ◌≤◌, ◌↔◌, ◌⊎◌, inl, inr, Bool, cond, List, [], ◌∷◌, ◌++◌, length, Option, Some, refl, sym, ap, subst, ◌∙◌, arith, ne_eqb}
use Rattle.std.specs.List.{All, Contains}
use Rattle.std.proofs.lemmas.List.Elements.{All-contains, Contains-append_cases, Contains-append_left, Contains-append_right}
use Rattle.hb_space.specs.Boxes.{Area, IsArea, Holds, Meets, Within, common_area}
use Rattle.hb_frag.specs.declared.leaves.Leaf.{Leaf}
use Rattle.hb_frag.specs.declared.leaves.Leaf.TheVariants.{Records, Child, Sibling}
use Rattle.hb_frag.specs.declared.pages.LivePage.{LivePage}
use Rattle.hb_frag.specs.declared.paths.Side.{Side}
use Rattle.hb_frag.specs.Carving.{carved}
use Rattle.hb_frag.specs.Laws.{IsStretch}
use Rattle.hb_frag.specs.Leaves.{Placed, IsWellCut, first_at, leaf_at, leaves, leaves_of, siblings, siblings_of, weight_of}
use Rattle.hb_frag.specs.Normal.{normal}
use Rattle.hb_frag.specs.Paths.{part_at, with_part}
use Rattle.hb_frag.specs.Rules.{BelongsAt, IsInOrder, IsNormal, IsSiblingTip, capacity_of}
use Rattle.hb_frag.specs.Trees.{Tree, Tip, Cut}
use Rattle.hb_layout.specs.declared.meta.Meta.{Meta}
use Rattle.hb_ops.specs.Posting.{FitsPost, post_page, posted}
use Rattle.hb_ops.specs.Sound.{FitsFile}
use Rattle.hb_frag.specs.CarvingLaws.{Carves, IsCarvedLeaf}
use Rattle.hb_frag.specs.NormalLaws.{KeepsLeaf, KeepsPoint, SaysTheSame}
use Rattle.hb_sound.specs.Laws.{TreeLaws}
use Rattle.hb_sound.specs.LawsOfPostings.{NamesAt}
use Rattle.hb_sound.proofs.Facts.ExampleParts.{no_records}
use Rattle.hb_ops.proofs.Facts.PlacedLaws.{each_leaf, placed, placed_is_leaf}
use Rattle.hb_lemmas.proofs.Lists.{each_member}
use Rattle.hb_lemmas.proofs.Options.{one_value, some_value}
use Rattle.hb_ops.proofs.Facts.PathLaws.{well_cut_again}
use Rattle.hb_space.proofs.Facts.Boxes.{Holds-within}
use Rattle.hb_frag.proofs.Facts.NamesListed.{siblings-append}

-- what the laws of parts, of carving and of joined leaves say
pub record PostLaws : Type 0 where
  pub parts : (path : List Side) (t : Tree) (a : Area) (part : Tree × Area) → part_at path t a ≡ Some part → IsStretch path t a part
  pub carves : (leaf area : Area) (outer inner : ℕ) → IsArea leaf → IsArea area → length area.lo ≡ length leaf.lo → Meets leaf area → Carves leaf area outer inner (carved leaf area outer inner)
  pub no_siblings : (leaf area : Area) (outer inner : ℕ) → siblings (leaves_of (carved leaf area outer inner) leaf) ≡ []
  pub all_joined : (t : Tree) → IsNormal (normal t)
  pub same : (t : Tree) → SaysTheSame t (normal t)
  pub common : (a b : Area) (p : List ℕ) → IsArea a → IsArea b → length a.lo ≡ length b.lo → Holds (common_area a b) p ↔ (Holds a p × Holds b p)

-- a leaf above the ground that keeps another one's says the same
pub kept_same : (level : ℕ) → 0 < level → (a b : Leaf) → BelongsAt level a → KeepsLeaf a b → b ≡ a
kept_same level above (Records records) b on kept = absurd (omega (arith, above, on))
kept_same level above (Child page) (Records others) on kept = absurd kept
kept_same level above (Child page) (Child other) on kept = ap Child (sym kept)
kept_same level above (Child page) (Sibling other) on kept = absurd kept
kept_same level above (Sibling page) (Records others) on kept = absurd kept
kept_same level above (Sibling page) (Child other) on kept = absurd kept
kept_same level above (Sibling page) (Sibling other) on kept = ap Sibling (sym kept)

siblings-between : (front middle other behind : List Placed) → siblings middle ≡ siblings other → siblings ((front ++ middle) ++ behind) ≡ siblings ((front ++ other) ++ behind)
siblings-between front middle other behind e =
    siblings-append (front ++ middle) behind
    ∙ ap (λ (ss : List (ℕ × Area)). ss ++ siblings behind) (siblings-append front middle ∙ ap (λ (ss : List (ℕ × Area)). siblings front ++ ss) e ∙ sym (siblings-append front other))
    ∙ sym (siblings-append (front ++ other) behind)

-- a lone sibling leaf names no child
lone_names_none : (t : Tree) (n : ℕ) → IsSiblingTip t → Contains (leaves t) (Child n) → ⊥
lone_names_none (Tip (Records records)) n lone has = absurd lone
lone_names_none (Tip (Child page)) n lone has = absurd lone
lone_names_none (Cut axis value left right) n lone has = absurd lone
lone_names_none (Tip (Sibling page)) n lone (zero, lt, e) = let no : ⊥ = cc in no
lone_names_none (Tip (Sibling page)) n lone (suc k, lt, e) = absurd (omega arith)

pub capacity_above : (level dcap icap : ℕ) → 0 < level → capacity_of level dcap icap ≡ icap
capacity_above level dcap icap above = ap (λ (b : Bool). cond b dcap icap) (ne_eqb level 0 (λ e. absurd (omega (arith, above, e))))

module _ (trees : TreeLaws) (laws : PostLaws) (meta : Meta) (page : LivePage) (at : List Side) (inner : ℕ) (area : Area) (page_box : IsArea page.area) (area_box : IsArea area) (attributes : length area.lo ≡ meta.k) (fits : FitsPost meta page at inner area) where
  abbrev pub outer : ℕ
  outer = fits.outer

  abbrev pub box : Area
  box = fits.box

  -- the tree with the leaf carved, before alike leaves are joined
  abbrev pub carving : Tree
  carving = carved box area outer inner

  abbrev pub opened : Tree
  opened = with_part at page.frag carving

  abbrev pub new : LivePage
  new = record { level = page.level; area = page.area; frag = normal opened }

  pub posted_so : post_page at inner area page ≡ new
  posted_so = ap (λ (o : Option (Tree × Area)). record { level = page.level; area = page.area; frag = posted at inner area page.frag o }) fits.leaf

  abbrev pub old : List Placed
  old = leaves_of page.frag page.area

  abbrev middle : List Placed
  middle = leaves_of carving box

  abbrev pub between : List Placed
  between = leaves_of opened page.area

  stretch : IsStretch at page.frag page.area (Tip (Child outer), box)
  stretch = laws.parts at page.frag page.area (Tip (Child outer), box) fits.leaf

  -- the leaf is one of the page's
  pub leaf_there : Contains old (placed (Child outer) box)
  leaf_there = subst (λ (ls : List Placed). Contains ls (placed (Child outer) box)) (sym stretch.whole)
      (Contains-append_left (stretch.front ++ (placed (Child outer) box ∷ [])) stretch.behind (placed (Child outer) box)
      (Contains-append_right stretch.front (placed (Child outer) box ∷ []) (placed (Child outer) box) (zero, omega arith, refl)))

  box_box : IsArea box
  box_box = All-contains (λ (l : Placed). IsArea l.area) old (placed (Child outer) box) (trees.areas page.frag page.area page_box fits.made.well_cut) leaf_there

  box_long : length box.lo ≡ length page.area.lo
  box_long = All-contains (λ (l : Placed). length l.area.lo ≡ length page.area.lo) old (placed (Child outer) box) (trees.attributes page.frag page.area) leaf_there

  area_long : length area.lo ≡ length box.lo
  area_long = attributes ∙ sym fits.made.fits.attributes ∙ sym box_long

  carves : Carves box area outer inner carving
  carves = laws.carves box area outer inner box_box area_box area_long fits.meets

  opened_cut : IsWellCut opened page.area
  opened_cut = well_cut_again at page.frag page.area (Tip (Child outer), box) carving fits.leaf fits.made.well_cut carves.cuts

  -- a leaf in between stood in the page, or the carving made it
  comes_from : (y : Placed) → Contains between y → Contains middle y ⊎ Contains old y
  comes_from y has = elim (Contains-append_cases (stretch.front ++ middle) stretch.behind y (subst (λ (ls : List Placed). Contains ls y) (stretch.other carving) has)) [
    | inl l ↦ elim (Contains-append_cases stretch.front middle y l) [
      | inl f ↦ inr (subst (λ (ls : List Placed). Contains ls y) (sym stretch.whole) (Contains-append_left (stretch.front ++ (placed (Child outer) box ∷ [])) stretch.behind y (Contains-append_left stretch.front (placed (Child outer) box ∷ []) y f)))
      | inr m ↦ inl m
    ]
    | inr b ↦ inr (subst (λ (ls : List Placed). Contains ls y) (sym stretch.whole) (Contains-append_right (stretch.front ++ (placed (Child outer) box ∷ [])) stretch.behind y b))
  ]

  goes_between : (y : Placed) → Contains middle y → Contains between y
  goes_between y has = subst (λ (ls : List Placed). Contains ls y) (sym (stretch.other carving)) (Contains-append_left (stretch.front ++ middle) stretch.behind y (Contains-append_right stretch.front middle y has))

  carved_leaf : (y : Placed) → Contains middle y → IsCarvedLeaf box area outer inner y
  carved_leaf y has = All-contains (IsCarvedLeaf box area outer inner) middle y carves.leaves has

  -- what the carving made are child leaves
  carved_child : (y : Placed) → Contains middle y → (n : ℕ) × (y.leaf ≡ Child n)
  carved_child y has = elim (carved_leaf y has) [
    | inl is ↦ (inner, ap (λ (l : Placed). l.leaf) is)
    | inr w ↦ (outer, w.0)
  ]

  opened_kinds : All (BelongsAt page.level) (leaves opened)
  opened_kinds = each_leaf (BelongsAt page.level) opened page.area (λ y has. elim (comes_from y has) [
    | inl m ↦ subst (BelongsAt page.level) (sym (carved_child y m).1) fits.above
    | inr o ↦ All-contains (BelongsAt page.level) (leaves page.frag) y.leaf fits.made.filled.kinds (placed_is_leaf page.frag page.area y o)
  ])

  opened_order : All IsInOrder between
  opened_order = each_member IsInOrder between (λ y has. elim (comes_from y has) [
    | inl m ↦ subst (λ (leaf : Leaf). IsInOrder (placed leaf y.area)) (sym (carved_child y m).1) (no_records (carved_child y m).0 y.area)
    | inr o ↦ All-contains IsInOrder old y fits.made.in_order o
  ])

  -- no sibling leaf changes
  pub siblings_stay : siblings_of new ≡ siblings_of page
  siblings_stay =
      (laws.same opened).siblings page.area
      ∙ ap siblings (stretch.other carving)
      ∙ siblings-between stretch.front middle (placed (Child outer) box ∷ []) stretch.behind (laws.no_siblings box area outer inner)
      ∙ ap siblings (sym stretch.whole)

  -- the new page is well made
  pub new_cut : IsWellCut new.frag new.area
  new_cut = (laws.same opened).cuts page.area opened_cut

  not_lone : IsSiblingTip new.frag → ⊥
  not_lone lone =
      let there = placed_is_leaf opened page.area (placed (Child inner) (common_area box area)) (goes_between (placed (Child inner) (common_area box area)) carves.new_child) in
      lone_names_none new.frag inner lone (((laws.same opened).names (Child inner) tt).1 there)

  new_light : weight_of new.frag ≤ capacity_of page.level meta.dcap meta.icap
  new_light =
      let weight : weight_of (post_page at inner area page).frag ≡ weight_of new.frag = ap (λ (q : LivePage). weight_of q.frag) posted_so in
      let most = capacity_above page.level meta.dcap meta.icap fits.above in
      omega (arith, weight, most, fits.room)

  pub new_made : FitsFile meta new
  new_made = record {
    fits = record { level = fits.made.fits.level; attributes = fits.made.fits.attributes };
    well_cut = new_cut;
    filled = record { kinds = (laws.same opened).kinds page.level opened_kinds; light = new_light; own = not_lone };
    in_order = (laws.same opened).order page.area page_box opened_cut opened_order;
    normal = laws.all_joined opened;
  }

  -- where the leaf of the new page at a point comes from
  module _ (p : List ℕ) (held : Holds page.area p) where
    pub keeps : KeepsPoint p between (leaves_of new.frag new.area)
    keeps = (laws.same opened).points page.area p page_box opened_cut held

    abbrev mid : Placed
    mid = keeps.before

    mid_there : Contains between mid × Holds mid.area p
    mid_there = (trees.only opened page.area p mid page_box opened_cut).0 keeps.old_leaf

    after_names : keeps.after.leaf ≡ mid.leaf
    after_names = kept_same page.level fits.above mid.leaf keeps.after.leaf
        (All-contains (BelongsAt page.level) (leaves opened) mid.leaf opened_kinds (placed_is_leaf opened page.area mid mid_there.0))
        keeps.kept

    was_first : (x : Placed) → Contains old x → Holds x.area p → leaf_at page p ≡ Some x
    was_first x has here = (trees.only page.frag page.area p x page_box fits.made.well_cut).1 (has, here)

    -- in the box of the leaf that was carved it is one that the carving made
    in_middle : Holds box p → Contains middle mid
    in_middle here =
        let w = carves.points p here in
        let has = (trees.only carving box p w.0 box_box carves.cuts).0 w.1 in
        let first = (trees.only opened page.area p w.0 page_box opened_cut).1 (goes_between w.0 has.0, has.1) in
        subst (Contains middle) (one_value (first_at p between) w.0 mid first keeps.old_leaf) has.0

    in_box : Contains middle mid → Holds box p
    in_box m = Holds-within mid.area box p
        (All-contains (λ (l : Placed). length l.area.lo ≡ length box.lo) middle mid (trees.attributes carving box) m)
        (All-contains (λ (l : Placed). Within l.area box) middle mid (trees.within carving box box_box carves.cuts) m)
        mid_there.1

    in_area : mid ≡ placed (Child inner) (common_area box area) → Holds area p
    in_area is = ((laws.common box area p box_box area_box (sym area_long)).0 (subst (λ (l : Placed). Holds l.area p) is mid_there.1)).1

    -- it names the new child at a point of the box that was given, or says what a leaf said there before
    pub record SaysAsBefore : Type 0 where
      pub was : Placed
      pub has : Contains old was
      pub here : Holds was.area p
      pub leaf : keeps.after.leaf ≡ was.leaf

    pub origin : ((keeps.after.leaf ≡ Child inner) × Holds box p × Holds area p) ⊎ SaysAsBefore
    origin = elim (comes_from mid mid_there.0) [
      | inl m ↦ elim (carved_leaf mid m) [
        | inl is ↦ inl (after_names ∙ ap (λ (l : Placed). l.leaf) is, in_box m, in_area is)
        | inr w ↦ inr (record { was = placed (Child outer) box; has = leaf_there; here = in_box m; leaf = after_names ∙ w.0 })
      ]
      | inr o ↦ inr (record { was = mid; has = o; here = mid_there.1; leaf = after_names })
    ]

    new_given : Holds box p → Holds area p → keeps.after.leaf ≡ Child inner
    new_given here in_it = elim (carved_leaf mid (in_middle here)) [
      | inl is ↦ after_names ∙ ap (λ (l : Placed). l.leaf) is
      | inr w ↦ absurd (w.1 p mid_there.1 in_it)
    ]

    pub names_at : NamesAt page new at inner area p
    names_at =
        let before = some_value (leaf_at page p) ((trees.some page.frag page.area p page_box fits.made.well_cut).1 held) in
        record {
          outer = outer;
          box = box;
          leaf = fits.leaf;
          before = before.0;
          after = keeps.after;
          was = before.1;
          now = keeps.new_leaf;
          given = new_given;
          kept = λ not. elim origin [
            | inl w ↦ absurd (not (w.1, w.2))
            | inr w ↦ w.leaf ∙ ap (λ (l : Placed). l.leaf) (one_value (leaf_at page p) w.was before.0 (was_first w.was w.has w.here) before.1)
          ];
        }
