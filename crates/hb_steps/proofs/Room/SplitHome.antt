-- Of a page of level 0 that is split: where a point that it directly held is at home afterwards. No other page is spoken of.
use Rattle.hb_steps.proofs.Room.Names.{◌≡◌, ◌⊎◌, inl, inr, ℕ, ◌<◌, List, [], ◌∷◌, Option, Some, None, refl, sym, ap, ◌∙◌, subst, arith, same_Some, Record, Meta, Sibling, LivePage, LeafCut, DirectlyHolds, Tree, Tip, cut_through, going, half_area, reached, staying, FitsPart, fresh_page, source_page, FitsFile, StandsNot, Area, IsArea}
use Rattle.std.proofs.Common.{zero, ◌++◌, get_or, IsSome}
use Rattle.std.specs.List.{Contains}
use Rattle.std.proofs.lemmas.List.Elements.{All-contains, Contains-append_left, Contains-append_right, Contains-get_or}
use Rattle.hb_frag.specs.declared.leaves.Leaf.{Leaf}
use Rattle.hb_frag.specs.declared.leaves.Leaf.TheVariants.{Records, Child}
use Rattle.hb_frag.specs.declared.paths.Side.{Side}
use Rattle.hb_frag.specs.Leaves.{Placed, leaf_at, leaves, leaves_of, records_of, siblings_of}
use Rattle.hb_frag.specs.Rules.{BelongsAt, IsInOrder}
use Rattle.hb_ops.proofs.Facts.Tips.{first_held}
use Rattle.hb_ops.proofs.Facts.CutLeafLaws.{StemsFrom}
use Rattle.hb_ops.proofs.Facts.PartedPageLaws.{fresh_made, source_made}
use Rattle.hb_ops.proofs.Facts.PlacedLaws.{leaf_is_sibling, placed, placed_is_leaf, sibling_is_leaf}
use Rattle.hb_ops.proofs.Facts.StemLaws.{PartLaws, fresh_stems, opened, source_stems, stretch}
use Rattle.hb_sound.proofs.Facts.RecordsParted.{cut_has_on}
use Rattle.hb_sound.proofs.Facts.OneLevel.{TreeLaws}
use Rattle.hb_sound.proofs.Facts.PagesParted.{stems_sibling}
use Rattle.hb_space.specs.Boxes.{Holds}

-- what the laws of pages say
pub record RoomLaws : Type 0 where
  pub trees : TreeLaws
  pub parts : PartLaws

-- ---- a page and a point

-- where records stand at a point, no leaf names a page there
names_none : (records : List Record) (a : Area) (name : ℕ) (b : Area) → placed (Records records) a ≡ placed (Sibling name) b → ⊥
names_none records a name b is = no (ap (λ (l : Placed). l.leaf) is)
  where
    no : Records records ≡ Sibling name → ⊥
    no is = cc

-- a page directly holds a point where its leaf there has records
pub holds_directly : (trees : TreeLaws) (page : LivePage) (p : List ℕ) (meta : Meta) → IsArea page.area → FitsFile meta page → StandsNot page p → DirectlyHolds page p
holds_directly trees page p meta box made absent = record {
  inside = first_held p page.frag page.area (placed (Records absent.records) absent.area) made.well_cut absent.leaf;
  not_given = λ k d lt there.
      let x = get_or (siblings_of page) k d in
      let is_leaf = sibling_is_leaf (leaves_of page.frag page.area) x.0 x.1 (Contains-get_or (siblings_of page) k d lt) in
      let is = (trees.only page.frag page.area p (placed (Sibling x.0) x.1) box made.well_cut).1 (is_leaf, there) in
      names_none absent.records absent.area x.0 x.1 (same_Some _ _ (sym absent.leaf ∙ is));
}

-- the leaf at a point of a page's box
pub record HasLeaf (page : LivePage) (p : List ℕ) : Type 0 where
  pub leaf : Placed
  pub is : leaf_at page p ≡ Some leaf
  pub there : Contains (leaves_of page.frag page.area) leaf
  pub held : Holds leaf.area p

has_leaf : (trees : TreeLaws) (meta : Meta) (page : LivePage) (p : List ℕ) → IsArea page.area → FitsFile meta page → Holds page.area p → HasLeaf page p
has_leaf trees meta page p box made inside = by (leaf_at page p) refl ((trees.some page.frag page.area p box made.well_cut).1 inside)
  where
    by : (o : Option Placed) → leaf_at page p ≡ o → IsSome o → HasLeaf page p
    by None is some = absurd (let no : ⊥ = cc in no)
    by (Some l) is some = let both = (trees.only page.frag page.area p l box made.well_cut).0 is in record { leaf = l; is = is; there = both.0; held = both.1 }

-- A page of level 0 directly holds the point and has no record of it.
pub record IsHome (meta : Meta) (page : LivePage) (p : List ℕ) : Type 0 where
  pub level : page.level ≡ 0
  pub made : FitsFile meta page
  pub direct : DirectlyHolds page p
  pub absent : StandsNot page p

-- ---- a leaf of a half that comes from the leaves of the page

module _ (trees : TreeLaws) (meta : Meta) (page : LivePage) (p : List ℕ) (box : IsArea page.area) (made : FitsFile meta page) (absent : StandsNot page p) where
  abbrev old : List Placed
  old = leaves_of page.frag page.area

  abbrev here : Placed
  here = placed (Records absent.records) absent.area

  -- an old leaf whose box holds the point is the one that stood there
  same_leaf : (y : Placed) → Contains old y → Holds y.area p → here ≡ y
  same_leaf y there held = same_Some here y (sym absent.leaf ∙ (trees.only page.frag page.area p y box made.well_cut).1 (there, held))

  -- so no record of an old leaf has the point
  old_lacks : (y : Placed) (r : Record) → Contains old y → Contains (records_of y.leaf) r → r.key ≡ p → ⊥
  old_lacks y r there among key =
      let order : IsInOrder y = All-contains IsInOrder old y made.in_order there in
      let held : Holds y.area p = subst (Holds y.area) key (All-contains (λ (r : Record). Holds y.area r.key) (records_of y.leaf) r order.inside among) in
      let stood : Contains absent.records r = subst (λ (l : Placed). Contains (records_of l.leaf) r) (sym (same_leaf y there held)) among in
      All-contains (λ (r : Record). r.key ≡ p → ⊥) absent.records r absent.lack stood key

  stems_lack : (y : Placed) (r : Record) → StemsFrom old y → Contains (records_of y.leaf) r → r.key ≡ p → ⊥
  stems_lack y r (inl has) among key = old_lacks y r has among key
  stems_lack y r (inr w) among key = old_lacks (placed (Records w.all) w.area) r w.there (w.some r (subst (λ (l : Leaf). Contains (records_of l) r) w.leaf among)) key

  module _ (q : LivePage) (level : q.level ≡ 0) (q_made : FitsFile meta q) (q_box : IsArea q.area) where
    home_by : (leaf : Leaf) (area : Area) → leaf_at q p ≡ Some (placed leaf area) → Contains (leaves_of q.frag q.area) (placed leaf area) → Holds area p → StemsFrom old (placed leaf area) → IsHome meta q p
    home_by (Records records) area is there held stems =
        let lacks : StandsNot q p = record { records = records; area = area; leaf = is; lack = λ k d lt. stems_lack (placed (Records records) area) (get_or records k d) stems (Contains-get_or records k d lt) } in
        record { level = level; made = q_made; direct = holds_directly trees q p meta q_box q_made lacks; absent = lacks }
    home_by (Child name) area is there held stems =
        let above : 0 < q.level = All-contains (BelongsAt q.level) (leaves q.frag) (Child name) q_made.filled.kinds (placed_is_leaf q.frag q.area (placed (Child name) area) there) in
        absurd (omega (arith, above, level))
    home_by (Sibling name) area is there held stems = absurd (names_none absent.records absent.area name area (same_leaf (placed (Sibling name) area) (stems_sibling old name area stems) held))

    -- a half whose leaf at the point comes from the page is its home
    home_at : (has : HasLeaf q p) → StemsFrom old has.leaf → IsHome meta q p
    home_at has stems = home_by has.leaf.leaf has.leaf.area has.is has.there has.held stems

-- ---- the leaf that names the new page

-- it stands where the cuts lead, with the box of the part that left
names_new : (fresh : ℕ) (cuts : List LeafCut) (tree : Tree) (area : Area) → Contains (leaves_of (cut_through cuts tree (Tip (Sibling fresh))) area) (placed (Sibling fresh) (reached cuts tree area).1)
names_new fresh [] tree area = (zero, omega arith, refl)
names_new fresh (cut ∷ cuts) tree area =
    cut_has_on cut.side cut.axis cut.value (cut_through cuts (going cut tree) (Tip (Sibling fresh))) (staying cut tree) area
    (placed (Sibling fresh) (reached cuts (going cut tree) (half_area cut area)).1) (names_new fresh cuts (going cut tree) (half_area cut area))

-- ---- the two halves of a page

module _ (laws : RoomLaws) (meta : Meta) (fresh_id : ℕ) (path : List Side) (cuts : List LeafCut) (page : LivePage) (part : Tree × Area) (box : IsArea page.area) (made : FitsFile meta page) (fits : FitsPart path cuts page part) where
  abbrev source : LivePage
  source = source_page fresh_id path cuts page part

  abbrev fresh : LivePage
  fresh = fresh_page cuts page part

  abbrev middle : Tree
  middle = opened laws.parts fresh_id path cuts page part fits

  source_well : FitsFile meta source
  source_well = source_made laws.parts meta fresh_id path cuts page part made fits

  fresh_well : FitsFile meta fresh
  fresh_well = fresh_made laws.parts meta fresh_id path cuts page part made fits

  abbrev front : List Placed
  front = (stretch laws.parts fresh_id path cuts page part fits).front

  abbrev behind : List Placed
  behind = (stretch laws.parts fresh_id path cuts page part fits).behind

  named : Contains (leaves_of source.frag source.area) (placed (Sibling fresh_id) fresh.area)
  named =
      let leaf = placed (Sibling fresh_id) fresh.area in
      subst (λ (ls : List Placed). Contains ls leaf) (sym ((stretch laws.parts fresh_id path cuts page part fits).other middle))
      (Contains-append_left (front ++ leaves_of middle part.1) behind leaf (Contains-append_right front (leaves_of middle part.1) leaf (names_new fresh_id cuts part.0 part.1)))

  fresh_box : IsArea fresh.area
  fresh_box = All-contains (λ (l : Placed). IsArea l.area) (leaves_of source.frag source.area) (placed (Sibling fresh_id) fresh.area) (laws.trees.areas source.frag source.area box source_well.well_cut) named

  module _ (p : List ℕ) where
    -- not both directly hold the point
    pub never_both : DirectlyHolds source p → DirectlyHolds fresh p → ⊥
    never_both first second = All-contains (λ (x : ℕ × Area). ¬ (Holds x.1 p)) (siblings_of source) (fresh_id, fresh.area) first.not_given (leaf_is_sibling (leaves_of source.frag source.area) fresh_id fresh.area named) second.inside

    module _ (level : page.level ≡ 0) (direct : DirectlyHolds page p) (absent : StandsNot page p) where
      fresh_home : Holds fresh.area p → IsHome meta fresh p
      fresh_home inside =
          let has = has_leaf laws.trees meta fresh p fresh_box fresh_well inside in
          home_at laws.trees meta page p box made absent fresh level fresh_well fresh_box has (fresh_stems laws.parts fresh_id path cuts page part fits has.leaf has.there)

      -- one is its home
      pub one_is_home : IsHome meta source p ⊎ IsHome meta fresh p
      one_is_home = by (source_stems laws.parts fresh_id path cuts page part fits has.leaf has.there)
        where
          has : HasLeaf source p
          has = has_leaf laws.trees meta source p box source_well direct.inside

          by : (placed (Sibling fresh_id) fresh.area ≡ has.leaf) ⊎ StemsFrom (leaves_of page.frag page.area) has.leaf → IsHome meta source p ⊎ IsHome meta fresh p
          by (inl is) = inr (fresh_home (subst (λ (l : Placed). Holds l.area p) (sym is) has.held))
          by (inr stems) = inl (home_at laws.trees meta page p box made absent source level source_well box has stems)
