-- How often a file counts the name of a sibling leaf, and that no leaf of a sound file names a page that isn't in use.
use Rattle.std.proofs.Common.{◌≡◌, ℕ, zero, suc, ◌+◌, ◌≤◌, inl, inr, Bool, cond, List, [], ◌∷◌, slice_get, Some, refl, ap, arith, eqb, eq-eqb}
use Rattle.std.specs.List.{Contains}
use Rattle.hb_lemmas.proofs.Lists.{member_cases}
use Rattle.hb_space.specs.Boxes.{Area}
use Rattle.hb_frag.specs.declared.leaves.Leaf.TheVariants.{Child, Sibling}
use Rattle.hb_frag.specs.declared.pages.LivePage.{LivePage}
use Rattle.hb_frag.specs.declared.pages.Page.{Page}
use Rattle.hb_frag.specs.declared.pages.Page.TheVariants.{Live, Free}
use Rattle.hb_frag.specs.Leaves.{leaves_of, siblings_of}
use Rattle.hb_ops.specs.Files.{FileState, live_page}
use Rattle.hb_ops.specs.Sound.{count_name, times_named}
use Rattle.hb_ops.proofs.Facts.PlacedLaws.{leaf_is_sibling, placed_leaf}
use Rattle.hb_sound.specs.LawsOfMerges.{FreePagesAreNotNamed}
use Rattle.hb_sound.proofs.Facts.PagePlaces.{place_of}

-- a list of boxes has each name as often as once where it has it
counted_some : (id : ℕ) (ss : List (ℕ × Area)) (a : Area) → Contains ss (id, a) → 1 ≤ count_name id ss
counted_some id [] a h = absurd (omega (arith, h.1))
counted_some id (x ∷ xs) a h = elim (member_cases x xs (id, a) h) [
  | inl is ↦
      let one : count_name id (x ∷ xs) ≡ 1 + count_name id xs = ap (λ (b : Bool). cond b 1 0 + count_name id xs) (eq-eqb x.0 id (ap (λ (y : ℕ × Area). y.0) is)) in
      omega (arith, one)
  | inr rest ↦ let some = counted_some id xs a rest in let all : count_name id (x ∷ xs) ≡ cond (eqb x.0 id) 1 0 + count_name id xs = refl in omega (arith, some, all)
]

page_counted : (pages : List Page) (n : ℕ) (page : LivePage) (name : ℕ) → slice_get pages n ≡ Some (Live page) → count_name name (siblings_of page) ≤ times_named name pages
page_counted [] n page name e = absurd (let no : ⊥ = cc in no)
page_counted (Live x ∷ rest) zero page name e = let same : x ≡ page = cc in let w = ap (λ (q : LivePage). count_name name (siblings_of q)) same in omega (arith, w)
page_counted (Free next ∷ rest) zero page name e = absurd (let no : ⊥ = cc in no)
page_counted (Live x ∷ rest) (suc n) page name e = let w = page_counted rest n page name e in omega (arith, w)
page_counted (Free next ∷ rest) (suc n) page name e = page_counted rest n page name e

-- so a file counts the name of each sibling leaf
pub named_some : (s : FileState) (id name : ℕ) (page : LivePage) (a : Area) → live_page s id ≡ Some page → Contains (siblings_of page) (name, a) → 1 ≤ times_named name s.pages
named_some s id name page a live has =
    let here = place_of s id page live in
    let few = page_counted s.pages here.0 page name here.2 in
    let some = counted_some name (siblings_of page) a has in
    omega (arith, few, some)

pub free_pages_are_not_named : FreePagesAreNotNamed
free_pages_are_not_named s free id page sound vacant live = (
  λ has. let w = placed_leaf page.frag page.area (Child free) has in let m = sound.children id page free w.0 live w.1 in vacant m.0 m.1,
  λ has.
      let w = placed_leaf page.frag page.area (Sibling free) has in
      let m = sound.siblings id page free w.0 live (leaf_is_sibling (leaves_of page.frag page.area) free w.0 w.1) in
      vacant m.0 m.1,
)
