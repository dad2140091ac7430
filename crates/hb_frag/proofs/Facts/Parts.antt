-- Parts of a tree, and another part in the place of one.
use Rattle.std.proofs.Common.{◌≡◌, inl, inr, ℕ, ◌+◌, ◌*◌, ◌<◌, min, ◌↔◌, List, [], ◌∷◌, ◌++◌, Some, IsSome, refl, sym, ap, subst, ◌∙◌, arith}
use Rattle.std.proofs.lemmas.Bool.{cases_lt, lt-leb}
use Rattle.std.proofs.lemmas.List.{append_assoc, append-nil}
use Rattle.std.proofs.lemmas.Grind.{common_steps}
use Rattle.hb_space.specs.Boxes.{Area, IsArea, side_below, side_from}
use Rattle.hb_space.proofs.Facts.Boxes.{Holds-side_below, Holds-side_from}
use Rattle.hb_frag.specs.declared.paths.Side.{Side}
use Rattle.hb_frag.specs.declared.paths.Side.TheVariants.{Left, Right}
use Rattle.hb_frag.specs.Trees.{Tree, Tip, Cut}
use Rattle.hb_frag.specs.Leaves.{IsWellCut, leaves_of, weight_of}
use Rattle.hb_frag.specs.Paths.{part_at, with_part, StaysInside}
use Rattle.hb_frag.specs.Rules.{is_thin}
use Rattle.hb_frag.specs.Laws.{IsStretch, IsPart}
use Rattle.hb_frag.proofs.Facts.Sides.{IsArea-side_below, IsArea-side_from}
use Rattle.std.proofs.lemmas.Option.{same_Some}

pub stays_where_some : (path : List Side) (t : Tree) (area : Area) → StaysInside path t ↔ IsSome (part_at path t area)
stays_where_some [] t area = (λ h. refl, λ h. tt)
stays_where_some (Left ∷ path) (Tip leaf) area = (λ h. absurd h, λ h. absurd (cc))
stays_where_some (Right ∷ path) (Tip leaf) area = (λ h. absurd h, λ h. absurd (cc))
stays_where_some (Left ∷ path) (Cut axis value left right) area = stays_where_some path left (side_below area axis value)
stays_where_some (Right ∷ path) (Cut axis value left right) area = stays_where_some path right (side_from area axis value)

-- a part's leaves are a stretch of the tree's
pub part_stretch : (path : List Side) (t : Tree) (area : Area) (w : Tree × Area) → part_at path t area ≡ Some w → IsStretch path t area w
part_stretch [] t area w e =
    let P : Tree × Area → Type 0 = IsStretch [] t area in
    subst P (same_Some (t, area) w e) (record { front = []; behind = []; whole = sym (append-nil _); other = λ other. sym (append-nil _) })
part_stretch (Left ∷ path) (Tip leaf) area w e = absurd (cc)
part_stretch (Right ∷ path) (Tip leaf) area w e = absurd (cc)
part_stretch (Left ∷ path) (Cut axis value left right) area w e =
    let s = part_stretch path left (side_below area axis value) w e in
    let more = leaves_of right (side_from area axis value) in
    record {
      front = s.front;
      behind = s.behind ++ more;
      whole = ap (λ xs. xs ++ more) s.whole ∙ append_assoc (s.front ++ leaves_of w.0 w.1) s.behind more;
      other = λ other. ap (λ xs. xs ++ more) (s.other other) ∙ append_assoc (s.front ++ leaves_of other w.1) s.behind more;
    }
part_stretch (Right ∷ path) (Cut axis value left right) area w e =
    let s = part_stretch path right (side_from area axis value) w e in
    let more = leaves_of left (side_below area axis value) in
    record {
      front = more ++ s.front;
      behind = s.behind;
      whole = ap (λ xs. more ++ xs) s.whole ∙ sym (append_assoc more (s.front ++ leaves_of w.0 w.1) s.behind) ∙ ap (λ xs. xs ++ s.behind) (sym (append_assoc more s.front (leaves_of w.0 w.1)));
      other = λ other. ap (λ xs. more ++ xs) (s.other other) ∙ sym (append_assoc more (s.front ++ leaves_of other w.1) s.behind) ∙ ap (λ xs. xs ++ s.behind) (sym (append_assoc more s.front (leaves_of other w.1)));
    }

-- a part of a well-cut tree is well cut in its box, which lies in the tree's
pub part_fits : (path : List Side) (t : Tree) (area : Area) (w : Tree × Area) → part_at path t area ≡ Some w → IsArea area → IsWellCut t area → IsPart path t area w
part_fits [] t area w e h cut =
    let P : Tree × Area → Type 0 = IsPart [] t area in
    subst P (same_Some (t, area) w e) (record { is_area = h; well_cut = cut; inside = λ p held. held; again = λ other. refl; cuts = λ other. (λ k. k, λ k. k) })
part_fits (Left ∷ path) (Tip leaf) area w e h cut = absurd (cc)
part_fits (Right ∷ path) (Tip leaf) area w e h cut = absurd (cc)
part_fits (Left ∷ path) (Cut axis value left right) area w e h cut =
    let s = part_fits path left (side_below area axis value) w e (IsArea-side_below area axis value h cut.0) cut.1 in
    record {
      is_area = s.is_area;
      well_cut = s.well_cut;
      inside = λ p held. ((Holds-side_below area axis value p h cut.0).0 (s.inside p held)).0;
      again = s.again;
      cuts = λ other. (λ k. (s.cuts other).0 k.1, λ k. (cut.0, (s.cuts other).1 k, cut.2));
    }
part_fits (Right ∷ path) (Cut axis value left right) area w e h cut =
    let s = part_fits path right (side_from area axis value) w e (IsArea-side_from area axis value h cut.0) cut.2 in
    record {
      is_area = s.is_area;
      well_cut = s.well_cut;
      inside = λ p held. ((Holds-side_from area axis value p cut.0).0 (s.inside p held)).0;
      again = s.again;
      cuts = λ other. (λ k. (s.cuts other).0 k.2, λ k. (cut.0, cut.1, (s.cuts other).1 k));
    }

-- what a tree weighs, side by side
pub weight_cut : (axis value : ℕ) (left right : Tree) → weight_of (Cut axis value left right) ≡ weight_of left + weight_of right
weight_cut axis value left right = grind (arith, common_steps)

-- the same of weights that are bounded
pub most_of_cut : (axis value : ℕ) (left right : Tree) (most : ℕ) → min (min (weight_of left) most + min (weight_of right) most) most ≡ min (weight_of (Cut axis value left right)) most
most_of_cut axis value left right most = omega (arith, weight_cut axis value left right)

-- a page that weighs more than the numbers of the type isn't thin either way
pub thin_by_most : (weight most capacity : ℕ) → capacity < most → is_thin (min weight most) capacity ≡ is_thin weight capacity
thin_by_most weight most capacity fits = elim (cases_lt most weight) [
  | inl above ↦ lt-leb (4 * min weight most) capacity (omega (arith, fits, above)) ∙ sym (lt-leb (4 * weight) capacity (omega (arith, fits, above)))
  | inr le ↦ ap (λ (n : ℕ). is_thin n capacity) (omega (arith, le))
]

pub part_weighs : (path : List Side) (t : Tree) (area : Area) (w : Tree × Area) (other : Tree) → part_at path t area ≡ Some w → weight_of (with_part path t other) + weight_of w.0 ≡ weight_of t + weight_of other
part_weighs [] t area w other e =
    let P : Tree × Area → Type 0 = λ w. weight_of other + weight_of w.0 ≡ weight_of t + weight_of other in
    subst P (same_Some (t, area) w e) (omega arith)
part_weighs (Left ∷ path) (Tip leaf) area w other e = absurd (cc)
part_weighs (Right ∷ path) (Tip leaf) area w other e = absurd (cc)
part_weighs (Left ∷ path) (Cut axis value left right) area w other e =
    let s = part_weighs path left (side_below area axis value) w other e in
    omega (arith, weight_cut axis value left right, weight_cut axis value (with_part path left other) right, s)
part_weighs (Right ∷ path) (Cut axis value left right) area w other e =
    let s = part_weighs path right (side_from area axis value) w other e in
    omega (arith, weight_cut axis value left right, weight_cut axis value left (with_part path right other), s)
