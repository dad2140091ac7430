-- A record lies in a leaf whose box holds its point, so its page directly holds the point.
use Rattle.std.proofs.Common.{◌≡◌, ◌≢◌, ℕ, zero, ◌<◌, ◌==◌, inl, inr, Bool, cond, List, [], ◌++◌, length, flat_map, Some, refl, sym, ap, subst, arith, ne_eqb}
use Rattle.std.specs.List.{All, Contains}
use Rattle.std.proofs.lemmas.Bool.{cases_eq}
use Rattle.std.proofs.lemmas.Grind.{flat_map-append}
use Rattle.std.proofs.lemmas.List.Elements.{All-append, All-contains, All-nil, All-same, Contains-append_left, Contains-append_right}
use Rattle.hb_space.specs.Boxes.{Area, IsArea, Holds, side_below, side_from, whole_area}
use Rattle.hb_space.specs.declared.records.Record.{Record}
use Rattle.hb_frag.specs.declared.leaves.Leaf.{Leaf}
use Rattle.hb_frag.specs.declared.leaves.Leaf.TheVariants.{Records, Child, Sibling}
use Rattle.hb_frag.specs.declared.pages.LivePage.{LivePage}
use Rattle.hb_frag.specs.declared.pages.Page.{Page}
use Rattle.hb_frag.specs.declared.pages.Page.TheVariants.{Live, Free}
use Rattle.hb_frag.specs.Trees.{Tree, Tip, Cut}
use Rattle.hb_frag.specs.Leaves.{Placed, leaf_at, leaves, leaves_of, records_of}
use Rattle.hb_frag.specs.Rules.{IsInOrder}
use Rattle.hb_ops.specs.Files.{FileState, if_live, live_page, page_of, page_records}
use Rattle.hb_ops.specs.LawsOfContents.{OthersLack}
use Rattle.hb_ops.specs.Sound.{AreWellMade, IsCovered, SiblingsMatch}
use Rattle.hb_sound.specs.Laws.{TreeLaws}
use Rattle.hb_sound.specs.PointWalks.{HasOn}
use Rattle.hb_sound.proofs.HeldSomewhere.{holds_directly}
use Rattle.hb_sound.proofs.Facts.OneLevel.{holds_where_leaf, page_area}
use Rattle.hb_ops.proofs.Facts.PlacedLaws.{placed}

-- what holds of each record of each leaf holds of each record of the tree
all_records : (P : Record → Type 0) (t : Tree) (area : Area) → ((x : Placed) → Contains (leaves_of t area) x → All P (records_of x.leaf)) → All P (flat_map records_of (leaves t))
all_records P (Tip leaf) area h = All-append P (records_of leaf) [] (h (placed leaf area) (zero, omega arith, refl)) (All-nil P)
all_records P (Cut axis value left right) area h =
    let below = leaves_of left (side_below area axis value) in
    let from = leaves_of right (side_from area axis value) in
    All-same P (flat_map records_of (leaves left ++ leaves right)) (flat_map records_of (leaves left) ++ flat_map records_of (leaves right)) (flat_map-append records_of (leaves left) (leaves right))
    (All-append P (flat_map records_of (leaves left)) (flat_map records_of (leaves right))
    (all_records P left (side_below area axis value) (λ x has. h x (Contains-append_left below from x has)))
    (all_records P right (side_from area axis value) (λ x has. h x (Contains-append_right below from x has))))

-- a leaf with a record isn't a sibling leaf
has_none : (leaf : Leaf) (k name : ℕ) → k < length (records_of leaf) → leaf ≡ Sibling name → ⊥
has_none (Records records) k name lt e = let no : ⊥ = cc in no
has_none (Child page) k name lt e = let no : ⊥ = cc in no
has_none (Sibling page) k name lt e = absurd (omega arith)

module _ (laws : TreeLaws) (s : FileState) (made : AreWellMade s) (match : SiblingsMatch s) (covered : IsCovered s) (area : IsArea (whole_area s.meta.k)) (p : List ℕ) (id : ℕ) (once : (other : ℕ) → HasOn s 0 p other → other ≡ id) where
  lacks : (other : ℕ) (page : LivePage) (x : Placed) → other ≢ id → live_page s other ≡ Some page → page.level ≡ 0 → Contains (leaves_of page.frag page.area) x → All (λ (r : Record). r.key ≢ p) (records_of x.leaf)
  lacks other page x ne live on has k d lt e =
      let well = made other page live in
      let inside = (All-contains IsInOrder (leaves_of page.frag page.area) x well.in_order has).inside k d lt in
      let held : Holds x.area p = subst (λ (q : List ℕ). Holds x.area q) e inside in
      let there : leaf_at page p ≡ Some x = (laws.only page.frag page.area p x (page_area laws s made match covered area other page live) well.well_cut).1 (has, held) in
      let in_page = holds_where_leaf laws s made match covered area other page p x.leaf x.area live there in
      let direct = holds_directly laws s made match covered area p other page x.leaf x.area live in_page there (λ name f. has_none x.leaf k name lt f) in
      ne (once other (record { page = page; live = live; on = on; direct = direct }))

  page_lacks : (other : ℕ) (page : Page) → other ≢ id → page_of s other ≡ Some page → All (λ (r : Record). r.key ≢ p) (page_records page)
  page_lacks other (Free next) ne e = All-nil (λ (r : Record). r.key ≢ p)
  page_lacks other (Live page) ne e = elim (cases_eq page.level 0) [
    | inl on ↦
        let all = all_records (λ (r : Record). r.key ≢ p) page.frag page.area (λ x has. lacks other page x ne (ap if_live e) on has) in
        of_level page.level on all
    | inr above ↦ subst (λ (b : Bool). All (λ (r : Record). r.key ≢ p) (cond b (flat_map records_of (leaves page.frag)) [])) (sym (ne_eqb page.level 0 above)) (All-nil (λ (r : Record). r.key ≢ p))
  ]
    where
      of_level : (level : ℕ) → level ≡ 0 → All (λ (r : Record). r.key ≢ p) (flat_map records_of (leaves page.frag)) → All (λ (r : Record). r.key ≢ p) (cond (level == 0) (flat_map records_of (leaves page.frag)) [])
      of_level level on all = subst (λ (n : ℕ). All (λ (r : Record). r.key ≢ p) (cond (n == 0) (flat_map records_of (leaves page.frag)) [])) (sym on) all

  pub others_lack : OthersLack s id p
  others_lack other page ne e = page_lacks other page ne e
