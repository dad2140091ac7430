-- The box of a leaf of a page: how many attributes it has, and that it is there.
use Rattle.hb_core.proofs.Running.Names.{◌≡◌, ℕ, zero, suc, ◌==◌, true, false, cond, List, [], ◌∷◌, length, Option, Some, None, IsSome, IfSome, IsTrue, refl, ap, ◌∙◌, arith, option_and_then, option_map, All-contains, All-weaker, Area, Leaf, Records, Child, Sibling, LivePage, Placed, first_named, siblings_of, at_itself, place_member, names_child, AskedBox, around_box, box_by_leaf, box_of_child, box_of_place, box_of_sibling, this_box, if_value}
use Rattle.std.specs.List.{All, Contains, slice_get}
use Rattle.hb_frag.proofs.Facts.Tiles.{tiles_attributes}
use Rattle.hb_frag.specs.Leaves.{leaves, leaves_of}
use Rattle.hb_ops.proofs.Facts.PlacedLaws.{placed, sibling_is_leaf}
use Rattle.hb_steps.proofs.Files.AskedPages.{first_box_among, named_with_box, leaf_of_place, first_child_among}
use Rattle.hb_steps.specs.declared.asked_boxes.BoxTest.{BoxTest}
use Rattle.hb_steps.specs.declared.asked_boxes.BoxTest.TheVariants.{Around}
use Rattle.hb_steps.specs.Asking.{first_child_box}
use Rattle.hb_core.specs.Aiming.{HasMany}

-- ---- how many attributes it has

module _ (k : ℕ) where
  abbrev IsMany : Placed → Type 0
  IsMany l = length l.area.lo ≡ k

  all_many : (page : LivePage) → length page.area.lo ≡ k → All IsMany (leaves_of page.frag page.area)
  all_many page many = All-weaker (λ (l : Placed). length l.area.lo ≡ length page.area.lo) IsMany (λ l long. long ∙ many) (leaves_of page.frag page.area) (tiles_attributes page.frag page.area)

  first_many : (name : ℕ) (xs : List Placed) → All IsMany xs → IfSome (first_child_box name xs) (λ area. length area.lo ≡ k)
  first_many name xs all = if_value (first_child_box name xs) (λ area. length area.lo ≡ k) (λ area is. All-contains IsMany xs (placed (Child name) area) all (first_child_among name xs area is))

  with_test : (test : BoxTest) (o : Option Area) → IfSome o (λ area. length area.lo ≡ k) → HasMany k (option_map (λ (area : Area). record { area = area; test = test }) o)
  with_test test None many = tt
  with_test test (Some area) many = many

  pub child_many : (page : LivePage) (name : ℕ) → length page.area.lo ≡ k → HasMany k (box_of_child (Some page) name)
  child_many page name many = with_test Around (first_child_box name (leaves_of page.frag page.area)) (first_many name (leaves_of page.frag page.area) (all_many page many))

  leaf_many : (leaf : Leaf) (area : Area) → length area.lo ≡ k → HasMany k (box_by_leaf (placed leaf area))
  leaf_many (Records records) area many = tt
  leaf_many (Child page) area many = many
  leaf_many (Sibling page) area many = many

  pub place_many : (page : LivePage) (place : ℕ) → length page.area.lo ≡ k → HasMany k (box_of_place (Some page) place)
  place_many page place many = by (slice_get (leaves_of page.frag page.area) place) refl
    where
      by : (o : Option Placed) → slice_get (leaves_of page.frag page.area) place ≡ o → HasMany k (option_and_then box_by_leaf o)
      by None is = tt
      by (Some l) is = leaf_many l.leaf l.area (All-contains IsMany (leaves_of page.frag page.area) l (all_many page many) (place_member (leaves_of page.frag page.area) place l is))

  pub sibling_many : (page : LivePage) (name : ℕ) → length page.area.lo ≡ k → HasMany k (box_of_sibling (Some page) name)
  sibling_many page name many = by (first_named name (siblings_of page)) refl
    where
      by : (o : Option Area) → first_named name (siblings_of page) ≡ o → HasMany k (option_map this_box o)
      by None is = tt
      by (Some area) is = All-contains IsMany (leaves_of page.frag page.area) (placed (Sibling name) area) (all_many page many) (sibling_is_leaf (leaves_of page.frag page.area) name area (first_box_among name (siblings_of page) area is))

-- ---- that it is there

-- a box is asked for
abbrev pub Asks : Option AskedBox → Type 0
Asks o = (asked : AskedBox) × (o ≡ Some asked)

some_child : (name : ℕ) (xs : List Placed) (b : Area) → Contains xs (placed (Child name) b) → (area : Area) × (first_child_box name xs ≡ Some area)
some_child name [] b (k, lt, e) = absurd (omega (arith, lt))
some_child name (x ∷ xs) b (zero, lt, e) = (b, ap (λ (p : Placed). first_child_box name (p ∷ xs)) e ∙ at_itself name (Some b) (first_child_box name xs))
some_child name (x ∷ xs) b (suc k, lt, e) = by x.leaf x.area (some_child name xs b (k, omega (arith, lt), e))
  where
    by : (leaf : Leaf) (area : Area) → (found : Area) × (first_child_box name xs ≡ Some found) → (found : Area) × (first_child_box name (placed leaf area ∷ xs) ≡ Some found)
    by (Records records) area later = later
    by (Sibling page) area later = later
    by (Child page) area later = elim (page == name) as (λ b. (found : Area) × (cond b (Some area) (first_child_box name xs) ≡ Some found)) [ true ↦ (area, refl) | false ↦ later ]

pub child_asks_there : (page : LivePage) (name : ℕ) → IsTrue (names_child page name) → Asks (box_of_child (Some page) name)
child_asks_there page name named =
    let leaf = named_with_box page name named in
    let box = some_child name (leaves_of page.frag page.area) leaf.0 leaf.1 in
    (around_box box.0, ap (option_map around_box) box.1)

pub place_asks_there : (page : LivePage) (place name : ℕ) → slice_get (leaves page.frag) place ≡ Some (Sibling name) → Asks (box_of_place (Some page) place)
place_asks_there page place name is =
    let l = leaf_of_place page.frag page.area place (Sibling name) is in
    (this_box l.0.area, ap (option_and_then box_by_leaf) l.1 ∙ ap (λ (x : Leaf). box_by_leaf (placed x l.0.area)) l.2)

pub sibling_asks_there : (page : LivePage) (name : ℕ) → IsSome (first_named name (siblings_of page)) → Asks (box_of_sibling (Some page) name)
sibling_asks_there page name some = by (first_named name (siblings_of page)) some
  where
    by : (o : Option Area) → IsSome o → Asks (option_map this_box o)
    by None none = cc
    by (Some area) found = (this_box area, refl)
