-- No two records of a sound file have one point, so the contents have as many.
use Rattle.std.proofs.Common.{◌≡◌, ◌≢◌, ℕ, zero, suc, ◌+◌, ◌<◌, ◌≤◌, inl, inr, Bool, cond, List, [], ◌∷◌, map, flat_map, length, get_or, slice_get, All, AllPairs, Some, None, refl, sym, ap, subst, ◌∙◌, arith, append-nil}
use Rattle.std.specs.List.{Contains}
use Rattle.std.specs.Option.{is_some}
use Rattle.std.specs.FinMap as finite
use Rattle.std.proofs.lemmas.Bool.{cases_eq, eq-eqb, ne_eqb}
use Rattle.std.proofs.lemmas.Cmp.{nat_list_cmp_total}
use Rattle.std.proofs.lemmas.Grind.{flat_map-append}
use Rattle.std.proofs.lemmas.List.Elements.{All-append, All-contains, All-nil, recursion_from_All}
use Rattle.std.proofs.lemmas.List.{get_or_default}
use Rattle.hb_lemmas.proofs.Lists.{All-parts, each_member}
use Rattle.hb_lemmas.proofs.Pairs.{pairs_append, pairs_first, pairs_none, pairs_rest}
use Rattle.hb_space.specs.Boxes.{Area, Holds, IsArea, Within, side_below, side_from}
use Rattle.hb_space.specs.Points.{IsPoint, point_cmp}
use Rattle.hb_space.specs.declared.records.Record.{Record}
use Rattle.hb_space.proofs.Facts.Boxes.{Holds-within}
use Rattle.hb_frag.proofs.Facts.Sides.{IsArea-side_below, IsArea-side_from}
use Rattle.hb_frag.specs.declared.pages.Page.{Page}
use Rattle.hb_frag.specs.declared.pages.Page.TheVariants.{Live, Free}
use Rattle.hb_frag.specs.Trees.{Tree, Tip, Cut}
use Rattle.hb_frag.specs.Leaves.{IsWellCut, Placed, leaves, leaves_of, records_of}
use Rattle.hb_frag.specs.Rules.{Differ, IsInOrder}
use Rattle.hb_frag.proofs.Facts.OrderedLeaves.{rising_differ, sides_apart}
use Rattle.hb_ops.specs.Files.{FileState, file_records, page_records}
use Rattle.hb_ops.specs.Sound.{IsSound}
use Rattle.hb_ops.proofs.Facts.Finds.{body-lacking, entry_of}
use Rattle.hb_ops.proofs.Facts.PageNumberLaws.{page_at-suc}
use Rattle.hb_sound.specs.Laws.{RecordsStandOnce, SpaceLaws, TreeLaws}
use Rattle.hb_sound.specs.PointWalks.{IsResponsible}
use Rattle.hb_sound.proofs.Facts.PagePlaces.{live_there}
use Rattle.hb_sound.proofs.Partition.{is_responsible, pages_have_boxes, records_are_at_home}
use Rattle.hb_sound.proofs.RecordsStand.{in_leaf, of_page, of_page_id, stands_at}

-- where no two records have one point the contents have as many
as_many : (records : List Record) → AllPairs Differ records → finite.len (finite.from_entries {R = point_cmp} (map entry_of records)) ≡ length records
as_many [] apart = finite.len-empty point_cmp (List ℕ)
as_many (r ∷ rest) apart =
    let rest_map = finite.from_entries {R = point_cmp} (map entry_of rest) in
    let none : finite.get rest_map r.key ≡ None = finite.get-from_entries nat_list_cmp_total (map entry_of rest) r.key ∙ body-lacking r.key rest (recursion_from_All (Differ r) rest (pairs_first Differ r rest apart)) in
    let new = finite.len-insert nat_list_cmp_total rest_map r.key r.body ∙ ap (λ o. cond (is_some o) (finite.len rest_map) (finite.len rest_map + 1)) none in
    let later = as_many rest (pairs_rest Differ r rest apart) in
    omega (arith, new, later)

-- of a tree: those of one side of a cut have other points than those of the other side
module _ (trees : TreeLaws) where
  held_by_tree : (t : Tree) (area : Area) → IsArea area → IsWellCut t area → All IsInOrder (leaves_of t area) → (r : Record) → Contains (flat_map records_of (leaves t)) r → Holds area r.key
  held_by_tree t area box cut order r has =
      let w = in_leaf t area r has in
      let inside : Holds w.0.area r.key = All-contains (λ (r : Record). Holds w.0.area r.key) (records_of w.0.leaf) r (All-contains IsInOrder (leaves_of t area) w.0 order w.1).inside w.2 in
      let within : Within w.0.area area = All-contains (λ (l : Placed). Within l.area area) (leaves_of t area) w.0 (trees.within t area box cut) w.1 in
      let same : length w.0.area.lo ≡ length area.lo = All-contains (λ (l : Placed). length l.area.lo ≡ length area.lo) (leaves_of t area) w.0 (trees.attributes t area) w.1 in
      Holds-within w.0.area area r.key same within inside

  tree_apart : (t : Tree) (area : Area) → IsArea area → IsWellCut t area → All IsInOrder (leaves_of t area) → AllPairs Differ (flat_map records_of (leaves t))
  tree_apart (Tip leaf) area box cut order =
      subst (AllPairs Differ) (sym (append-nil (records_of leaf))) (rising_differ (records_of leaf) (order zero (record { leaf = leaf; area = area }) (omega arith)).rising)
  tree_apart (Cut axis value left right) area box cut order =
      let below = side_below area axis value in
      let from = side_from area axis value in
      let low = IsArea-side_below area axis value box cut.0 in
      let high = IsArea-side_from area axis value box cut.0 in
      let parts = (All-parts IsInOrder (leaves_of left below) (leaves_of right from)).0 order in
      let apart = pairs_append Differ (flat_map records_of (leaves left)) (flat_map records_of (leaves right))
      (tree_apart left below low cut.1 parts.0) (tree_apart right from high cut.2 parts.1)
      (each_member (λ r. All (Differ r) (flat_map records_of (leaves right))) (flat_map records_of (leaves left)) (λ r has k d lt same.
      let other = get_or (flat_map records_of (leaves right)) k d in
      let mine = held_by_tree left below low cut.1 parts.0 r has in
      let there = held_by_tree right from high cut.2 parts.1 other (k, lt, get_or_default (flat_map records_of (leaves right)) k other d lt) in
      sides_apart area axis value r.key cut.0 mine (subst (λ (q : List ℕ). Holds from q) same there))) in
      subst (AllPairs Differ) (sym (flat_map-append records_of (leaves left) (leaves right))) apart

first_place : (first : ℕ) → first + 0 ≡ first
first_place first = omega arith

next_place : (first m : ℕ) → first + suc m ≡ suc first + m
next_place first m = omega arith

-- of a page, and of all pages
module _ (trees : TreeLaws) (space : SpaceLaws) (points : (a : Area) (p : List ℕ) → IsArea a → Holds a p → IsPoint p) (s : FileState) (sound : IsSound s) (some : 1 ≤ s.meta.k) (few : s.meta.k ≤ 4) where
  page_apart : (n : ℕ) (q : Page) → slice_get s.pages n ≡ Some q → AllPairs Differ (page_records q)
  page_apart n (Free next) there = pairs_none Differ
  page_apart n (Live page) there =
      let live = live_there s n page there in
      let made = sound.well_made (suc n) page live in
      let box = pages_have_boxes trees space s (suc n) page sound some few live in
      elim (cases_eq page.level 0) [
        | inl on ↦ subst (λ (b : Bool). AllPairs Differ (cond b (flat_map records_of (leaves page.frag)) [])) (sym (eq-eqb page.level 0 on)) (tree_apart trees page.frag page.area box made.well_cut made.in_order)
        | inr above ↦ subst (λ (b : Bool). AllPairs Differ (cond b (flat_map records_of (leaves page.frag)) [])) (sym (ne_eqb page.level 0 above)) (pairs_none Differ)
      ]

  -- another page lacks the point of a record
  other_lacks : (n m : ℕ) (q other : Page) (r : Record) → slice_get s.pages n ≡ Some q → slice_get s.pages m ≡ Some other → m ≢ n → Contains (page_records q) r → All (Differ r) (page_records other)
  other_lacks n m q other r here there apart has =
      let h = of_page s n q r here has in
      let at = stands_at trees points s r h (sound.well_made h.id h.page h.live) (pages_have_boxes trees space s h.id h.page sound some few h.live) in
      let mine : IsResponsible s r.key h.id = is_responsible trees space s r.key h.id h.page at.stands.records at.stands.area sound at.point h.live at.stands.leaf in
      records_are_at_home trees space s r.key h.id sound at.point mine (suc m) other (λ same. apart (numbers m n h.id same (of_page_id s n q r here has))) (page_at-suc s.pages m ∙ there)
    where
      numbers : (m n id : ℕ) → suc m ≡ id → id ≡ suc n → m ≡ n
      numbers m n id same is = omega (arith, same, is)

  rest_lacks : (pages : List Page) (first n : ℕ) (q : Page) (r : Record) → n < first → slice_get s.pages n ≡ Some q → Contains (page_records q) r → ((m : ℕ) (x : Page) → slice_get pages m ≡ Some x → slice_get s.pages (first + m) ≡ Some x) → All (Differ r) (flat_map page_records pages)
  rest_lacks [] first n q r less here has at = All-nil (Differ r)
  rest_lacks (x ∷ rest) first n q r less here has at =
      All-append (Differ r) (page_records x) (flat_map page_records rest)
      (other_lacks n first q x r here (subst (λ (i : ℕ). slice_get s.pages i ≡ Some x) (first_place first) (at zero x refl)) (λ same. omega (arith, same, less)) has)
      (rest_lacks rest (suc first) n q r (omega (arith, less)) here has (λ m y e. subst (λ (i : ℕ). slice_get s.pages i ≡ Some y) (next_place first m) (at (suc m) y e)))

  all_apart : (pages : List Page) (first : ℕ) → ((m : ℕ) (x : Page) → slice_get pages m ≡ Some x → slice_get s.pages (first + m) ≡ Some x) → AllPairs Differ (flat_map page_records pages)
  all_apart [] first at = pairs_none Differ
  all_apart (q ∷ rest) first at =
      let here : slice_get s.pages first ≡ Some q = subst (λ (i : ℕ). slice_get s.pages i ≡ Some q) (first_place first) (at zero q refl) in
      let later : (m : ℕ) (x : Page) → slice_get rest m ≡ Some x → slice_get s.pages (suc first + m) ≡ Some x = λ m x e. subst (λ (i : ℕ). slice_get s.pages i ≡ Some x) (next_place first m) (at (suc m) x e) in
      pairs_append Differ (page_records q) (flat_map page_records rest) (page_apart first q here) (all_apart rest (suc first) later)
      (each_member (λ r. All (Differ r) (flat_map page_records rest)) (page_records q) (λ r has. rest_lacks rest (suc first) first q r (omega arith) here has later))

pub records_stand_once : TreeLaws → SpaceLaws → ((a : Area) (p : List ℕ) → IsArea a → Holds a p → IsPoint p) → RecordsStandOnce
records_stand_once trees space points s sound some few = as_many (file_records s) (all_apart trees space points s sound some few s.pages 0 (λ m x e. subst (λ (i : ℕ). slice_get s.pages i ≡ Some x) (zero_place m) e))
  where
    zero_place : (m : ℕ) → m ≡ 0 + m
    zero_place m = omega arith
