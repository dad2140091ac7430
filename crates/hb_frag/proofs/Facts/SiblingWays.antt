-- The way to the first sibling leaf that names a page.
use Rattle.std.proofs.Common.{◌≡◌, ℕ, inl, inr, List, [], ◌∷◌, Option, Some, None, refl, ap, subst, ◌∙◌, eqb}
use Rattle.std.proofs.lemmas.Bool.{cases_Bool, eqb-true}
use Rattle.hb_space.specs.Boxes.{Area, side_below, side_from}
use Rattle.hb_frag.specs.declared.leaves.Leaf.TheVariants.{Records, Child, Sibling}
use Rattle.hb_frag.specs.declared.paths.Side.{Side}
use Rattle.hb_frag.specs.declared.paths.Side.TheVariants.{Left, Right}
use Rattle.hb_frag.specs.Trees.{Tree, Tip, Cut}
use Rattle.hb_frag.specs.Leaves.{first_named, leaves_of, siblings}
use Rattle.hb_frag.specs.Paths.{sibling_way}
use Rattle.hb_frag.specs.Laws.{IsWayToSibling}
use Rattle.hb_frag.proofs.Facts.NamesListed.{named_behind, named_in_front, siblings-append}

module _ (id : ℕ) where
  abbrev pub boxes : Tree → Area → List (ℕ × Area)
  boxes t a = siblings (leaves_of t a)

  pub no_way : (t : Tree) (a : Area) → sibling_way id t ≡ None → first_named id (boxes t a) ≡ None
  no_way (Tip (Records records)) a none = refl
  no_way (Tip (Child page)) a none = refl
  no_way (Tip (Sibling page)) a none = elim (cases_Bool (eqb page id)) [
    | inl here ↦ absurd (let no = rw here at none in cc)
    | inr off ↦ rw off refl
  ]
  no_way (Cut axis value left right) a none = elim (sibling_way id left) as (λ (o : Option (List Side)). sibling_way id left ≡ o → first_named id (boxes (Cut axis value left right) a) ≡ None) [
    | Some way ↦ λ is. absurd (let no = rw is at none in cc)
    | None ↦ λ is. elim (sibling_way id right) as (λ (o : Option (List Side)). sibling_way id right ≡ o → first_named id (boxes (Cut axis value left right) a) ≡ None) [
      | Some way ↦ λ there. absurd (let no = rw (is, there) at none in cc)
      | None ↦ λ there.
          let below = side_below a axis value in
          let from = side_from a axis value in
          ap (first_named id) (siblings-append (leaves_of left below) (leaves_of right from))
          ∙ named_behind id (boxes left below) (boxes right from) (no_way left below is) ∙ no_way right from there
    ] refl
  ] refl

  pub way_leads : (t : Tree) (a : Area) (way : List Side) → sibling_way id t ≡ Some way → IsWayToSibling id t a way
  way_leads (Tip (Records records)) a way is = absurd cc
  way_leads (Tip (Child page)) a way is = absurd cc
  way_leads (Tip (Sibling page)) a way is = elim (cases_Bool (eqb page id)) [
    | inl here ↦
        let none : [] ≡ way = let e = rw here at is in cc in
        let same : page ≡ id = eqb-true page id here in
        subst (λ (w : List Side). IsWayToSibling id (Tip (Sibling page)) a w) none (record { box = a; part = ap (λ (n : ℕ). Some (Tip (Sibling n), a)) same; first = rw here refl })
    | inr off ↦ absurd (let no = rw off at is in cc)
  ]
  way_leads (Cut axis value left right) a way is = elim (sibling_way id left) as (λ (o : Option (List Side)). sibling_way id left ≡ o → IsWayToSibling id (Cut axis value left right) a way) [
    | Some on ↦ λ there.
        let below = side_below a axis value in
        let from = side_from a axis value in
        let rest = way_leads left below on there in
        let whole : Left ∷ on ≡ way = let e = rw there at is in cc in
        subst (λ (w : List Side). IsWayToSibling id (Cut axis value left right) a w) whole (record {
          box = rest.box;
          part = rest.part;
          first = ap (first_named id) (siblings-append (leaves_of left below) (leaves_of right from)) ∙ named_in_front id (boxes left below) (boxes right from) rest.box rest.first;
        })
    | None ↦ λ none. elim (sibling_way id right) as (λ (o : Option (List Side)). sibling_way id right ≡ o → IsWayToSibling id (Cut axis value left right) a way) [
      | None ↦ λ no. absurd (let never = rw (none, no) at is in cc)
      | Some on ↦ λ there.
          let below = side_below a axis value in
          let from = side_from a axis value in
          let rest = way_leads right from on there in
          let whole : Right ∷ on ≡ way = let e = rw (none, there) at is in cc in
          subst (λ (w : List Side). IsWayToSibling id (Cut axis value left right) a w) whole (record {
            box = rest.box;
            part = rest.part;
            first = ap (first_named id) (siblings-append (leaves_of left below) (leaves_of right from)) ∙ named_behind id (boxes left below) (boxes right from) (no_way left below none) ∙ rest.first;
          })
    ] refl
  ] refl
