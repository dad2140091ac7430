-- No two pages of one level directly hold one point: the walk of sibling leaves from the page of the whole space passes each page
-- whose box holds the point, and it stops at a page that directly holds it.
use Rattle.std.proofs.Common.{◌≡◌, ℕ, zero, suc, ◌<◌, inl, inr, List, Option, Some, None, refl, sym, ap, ◌∙◌, arith}
use Rattle.std.proofs.lemmas.Bool.{cases_eq, cases_lt}
use Rattle.std.proofs.lemmas.List.Elements.{All-contains}
use Rattle.hb_space.specs.Boxes.{Area, IsArea, Holds, whole_area}
use Rattle.hb_frag.specs.declared.leaves.Leaf.{Leaf}
use Rattle.hb_frag.specs.declared.leaves.Leaf.TheVariants.{Records, Child, Sibling}
use Rattle.hb_frag.specs.declared.pages.LivePage.{LivePage}
use Rattle.hb_frag.specs.Leaves.{DirectlyHolds, Placed, leaf_at, leaves_of, siblings_of}
use Rattle.hb_ops.specs.Files.{FileState, live_page}
use Rattle.hb_ops.specs.Sound.{AreWellMade, IsCovered, SiblingsMatch}
use Rattle.hb_sound.specs.Laws.{TreeLaws}
use Rattle.hb_sound.specs.PointWalks.{HasOn}
use Rattle.hb_sound.proofs.Facts.OneLevel.{holds_where_leaf, page_area, sibling_there, spread}
use Rattle.hb_ops.proofs.Facts.PlacedLaws.{leaf_is_sibling, placed}
use Rattle.hb_lemmas.proofs.Options.{one_value}

-- the page that a sibling leaf names
abbrev sibling_name : Leaf → Option ℕ
sibling_name (Records records) = None
sibling_name (Child page) = None
sibling_name (Sibling page) = Some page

abbrev sibling_at : Option Placed → Option ℕ
sibling_at None = None
sibling_at (Some l) = sibling_name l.leaf

abbrev next_in : List ℕ → Option LivePage → Option ℕ
next_in p None = None
next_in p (Some page) = sibling_at (leaf_at page p)

abbrev next_of : FileState → List ℕ → Option ℕ → Option ℕ
next_of s p None = None
next_of s p (Some id) = next_in p (live_page s id)

-- the page after so many sibling leaves
abbrev after : FileState → List ℕ → ℕ → ℕ → Option ℕ
after s p id zero = Some id
after s p id (suc n) = next_of s p (after s p id n)

-- a walk that has stopped goes no further
none_later : (s : FileState) (p : List ℕ) (id n m : ℕ) → n < m → next_of s p (after s p id n) ≡ None → after s p id m ≡ None
none_later s p id n zero lt e = absurd (omega arith)
none_later s p id n (suc m) lt e = elim (cases_eq m n) [
  | inl is ↦ ap (λ (k : ℕ). next_of s p (after s p id k)) is ∙ e
  | inr ne ↦ ap (λ (o : Option ℕ). next_of s p o) (none_later s p id n m (omega (arith, ne)) e)
]

module _ (laws : TreeLaws) (s : FileState) (made : AreWellMade s) (match : SiblingsMatch s) (covered : IsCovered s) (area : IsArea (whole_area s.meta.k)) (p : List ℕ) where
  -- at a page that directly holds the point it stops
  stops_at : (id : ℕ) (page : LivePage) (leaf : Leaf) (b : Area) → live_page s id ≡ Some page → DirectlyHolds page p → leaf_at page p ≡ Some (placed leaf b) → sibling_name leaf ≡ None
  stops_at id page (Records records) b live direct e = refl
  stops_at id page (Child name) b live direct e = refl
  stops_at id page (Sibling name) b live direct e =
      let there = (laws.only page.frag page.area p (placed (Sibling name) b) (page_area laws s made match covered area id page live) (made id page live).well_cut).0 e in
      absurd (All-contains (λ (x : ℕ × Area). ¬ (Holds x.1 p)) (siblings_of page) (name, b) direct.not_given (leaf_is_sibling (leaves_of page.frag page.area) name b there.0) there.1)

  stops_with : (id : ℕ) (page : LivePage) (o : Option Placed) → live_page s id ≡ Some page → DirectlyHolds page p → leaf_at page p ≡ o → sibling_at o ≡ None
  stops_with id page None live direct e = refl
  stops_with id page (Some l) live direct e = stops_at id page l.leaf l.area live direct e

  stops : (id : ℕ) (page : LivePage) → live_page s id ≡ Some page → DirectlyHolds page p → next_of s p (Some id) ≡ None
  stops id page live direct = ap (next_in p) live ∙ stops_with id page (leaf_at page p) live direct refl

  -- each page of the level whose box holds the point is passed
  module _ (level first : ℕ) (start : LivePage) (live_first : live_page s first ≡ Some start) (on_first : start.level ≡ level) (whole_first : start.area ≡ whole_area s.meta.k) where
    abbrev Passed : ℕ → LivePage → Type 0
    Passed id page = page.level ≡ level → Holds page.area p → (n : ℕ) × (after s p first n ≡ Some id)

    passed : (id : ℕ) (page : LivePage) → live_page s id ≡ Some page → Passed id page
    passed = spread laws s made match covered Passed (record {
      begins = λ id page live is on held. (zero, ap (λ (n : ℕ). Some n) (covered.alone first id start page live_first live (on_first ∙ sym on) whole_first is));
      goes_on = λ id page w live before on held.
          let there = sibling_there laws s made match covered area w.by w.namer id page.area p w.live w.names held in
          let n = before (w.level ∙ on) (holds_where_leaf laws s made match covered area w.by w.namer p (Sibling id) page.area w.live there) in
          (suc n.0, ap (next_of s p) n.1 ∙ ap (next_in p) w.live ∙ ap sibling_at there);
    })

    not_before : (id other n m : ℕ) → HasOn s level p id → after s p first n ≡ Some id → after s p first m ≡ Some other → n < m → ⊥
    not_before id other n m has at later lt =
        let none = none_later s p first n m lt (ap (next_of s p) at ∙ stops id has.page has.live has.direct) in
        let no : ⊥ = cc in no

    pub held_once : (id other : ℕ) → HasOn s level p id → HasOn s level p other → id ≡ other
    held_once id other one two =
        let n = passed id one.page one.live one.on one.direct.inside in
        let m = passed other two.page two.live two.on two.direct.inside in
        elim (cases_lt n.0 m.0) [
          | inl lt ↦ absurd (not_before id other n.0 m.0 one n.1 m.1 lt)
          | inr ge ↦ elim (cases_lt m.0 n.0) [
            | inl lt ↦ absurd (not_before other id m.0 n.0 two m.1 n.1 lt)
            | inr le ↦ let same : n.0 ≡ m.0 = omega (arith, ge, le) in one_value (after s p first m.0) id other (ap (after s p first) (sym same) ∙ n.1) m.1
          ]
        ]
