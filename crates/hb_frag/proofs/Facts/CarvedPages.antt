-- A leaf of a page is carved.
use Rattle.std.proofs.Common.{◌≡◌, ◌≢◌, ℕ, ◌+◌, ◌≤◌, ◌↔◌, inl, inr, List, [], ◌∷◌, length, Some, sym, subst, arith}
use Rattle.hb_space.specs.Boxes.{Area, common_area, side_below, side_from}
use Rattle.hb_frag.specs.declared.leaves.Leaf.TheVariants.{Records, Child, Sibling}
use Rattle.hb_frag.specs.declared.paths.Side.{Side}
use Rattle.hb_frag.specs.declared.paths.Side.TheVariants.{Left, Right}
use Rattle.hb_frag.specs.Trees.{Tree, Tip, Cut}
use Rattle.hb_frag.specs.Leaves.{weight_of}
use Rattle.hb_frag.specs.Paths.{part_at, with_part}
use Rattle.hb_frag.specs.Rules.{AreAlike, IsNormal}
use Rattle.hb_frag.specs.Carving.{carved}
use Rattle.hb_frag.specs.Normal.{normal}
use Rattle.hb_frag.proofs.Facts.Parts.{part_weighs}
use Rattle.hb_frag.proofs.Normals.{normal_stays}
use Rattle.hb_frag.proofs.Facts.SayingTheSame.{says_the_same}
use Rattle.hb_frag.proofs.Facts.CarvedKinds.{HasCuts, alone_or_cut, carved_normal}

-- a side with cuts is like no other side
left_differs : (l r : Tree) → HasCuts l → ¬ (AreAlike l r)
left_differs (Tip leaf) r h a = h
left_differs (Cut axis value left right) r h a = a

right_differs : (l r : Tree) → HasCuts r → ¬ (AreAlike l r)
right_differs l (Tip leaf) h a = h
right_differs (Tip (Records records)) (Cut axis value left right) h a = a
right_differs (Tip (Child page)) (Cut axis value left right) h a = a
right_differs (Tip (Sibling page)) (Cut axis value left right) h a = a
right_differs (Cut axis value left right) (Cut axis' value' left' right') h a = a

-- so a part with cuts keeps a page as it is
with_cuts : (path : List Side) (t c : Tree) (area : Area) (w : Tree × Area) → part_at path t area ≡ Some w → IsNormal t → IsNormal c → HasCuts c → IsNormal (with_part path t c) × HasCuts (with_part path t c)
with_cuts [] t c area w e h k cuts = (k, cuts)
with_cuts (Left ∷ path) (Tip leaf) c area w e h k cuts = absurd (cc)
with_cuts (Right ∷ path) (Tip leaf) c area w e h k cuts = absurd (cc)
with_cuts (Left ∷ path) (Cut axis value left right) c area w e h k cuts =
    let s = with_cuts path left c (side_below area axis value) w e h.1 k cuts in
    ((left_differs (with_part path left c) right s.1, s.0, h.2), tt)
with_cuts (Right ∷ path) (Cut axis value left right) c area w e h k cuts =
    let s = with_cuts path right c (side_from area axis value) w e h.2 k cuts in
    ((right_differs left (with_part path right c) s.1, h.1, s.0), tt)

module _ (path : List Side) (t : Tree) (a leaf area : Area) (outer inner : ℕ) (at : part_at path t a ≡ Some (Tip (Child outer), leaf)) where
  abbrev c : Tree
  c = carved leaf area outer inner

  weighs : weight_of (with_part path t c) + 1 ≡ weight_of t + weight_of c
  weighs = part_weighs path t a (Tip (Child outer), leaf) c at

  heavy_has_cuts : 2 ≤ weight_of c → HasCuts c
  heavy_has_cuts heavy = elim (alone_or_cut leaf (common_area leaf area) outer inner (length leaf.lo) 0) [
    | inl e ↦
        let P : Tree → Type 0 = λ x. 2 ≤ weight_of x in
        let no : 2 ≤ weight_of (Tip (Child inner)) = subst P e heavy in
        absurd (omega arith)
    | inr k ↦ k
  ]

  with_heavy : IsNormal t → inner ≢ outer → HasCuts c → normal (with_part path t c) ≡ with_part path t c
  with_heavy h other cuts = normal_stays (with_part path t c) (with_cuts path t c a (Tip (Child outer), leaf) at h (carved_normal leaf (common_area leaf area) outer inner (length leaf.lo) 0 other) cuts).0

  pub carved_stays : IsNormal t → inner ≢ outer → 2 ≤ weight_of c → normal (with_part path t c) ≡ with_part path t c
  carved_stays h other heavy = with_heavy h other (heavy_has_cuts heavy)

  pub carved_whole : weight_of c ≡ 1 → weight_of (normal (with_part path t c)) ≤ weight_of t
  carved_whole light =
      let w = weighs in
      let less = (says_the_same (with_part path t c)).weight in
      omega arith

  pub carved_room : (capacity : ℕ) → IsNormal t → inner ≢ outer → weight_of t ≤ capacity → (weight_of (normal (with_part path t c)) ≤ capacity) ↔ (weight_of t + weight_of c ≤ capacity + 1)
  carved_room capacity h other room = elim (alone_or_cut leaf (common_area leaf area) outer inner (length leaf.lo) 0) [
    | inl e ↦
        let P : Tree → Type 0 = λ x. weight_of x ≡ 1 in
        let one : weight_of c ≡ 1 = subst P (sym e) (omega arith) in
        let less = carved_whole one in
        (λ l. omega arith, λ l. omega arith)
    | inr cuts ↦
        let w = weighs in
        let P : Tree → Type 0 = λ x. (weight_of x ≤ capacity) ↔ (weight_of t + weight_of c ≤ capacity + 1) in
        subst P (sym (with_heavy h other cuts)) (λ l. omega arith, λ l. omega arith)
  ]
