-- What a carved leaf is, whatever the boxes.
use Rattle.std.proofs.Common.{◌≡◌, ◌≢◌, ℕ, zero, suc, ◌+◌, ◌*◌, ◌≤◌, ◌⊎◌, inl, inr, [], ◌∷◌, ◌++◌, get_or, refl, sym, ap, ◌∙◌, arith, nat_lt}
use Rattle.hb_lemmas.proofs.Booleans.{one_at_most, either_way}
use Rattle.hb_space.specs.Boxes.{Area, side_below, side_from}
use Rattle.hb_frag.specs.declared.leaves.Leaf.TheVariants.{Records, Child, Sibling}
use Rattle.hb_frag.specs.Trees.{Tree, Tip, Cut}
use Rattle.hb_frag.specs.Leaves.{leaves_of, siblings, weight_of}
use Rattle.hb_frag.specs.Rules.{AreAlike, IsNormal}
use Rattle.hb_frag.specs.Carving.{carve_above, carve_from}
use Rattle.hb_frag.proofs.Facts.Parts.{weight_cut}
use Rattle.hb_frag.proofs.Facts.NamesListed.{siblings-append}
use Rattle.hb_frag.proofs.Carves.{weight_step}

-- what holds of the new child alone, and of each cut with what it holds within, holds of the whole
pub carve_by_cases : (P : Tree → Type 0) (r c : Area) (outer inner : ℕ) → P (Tip (Child inner)) → ((axis value : ℕ) (t : Tree) → P t → P (Cut axis value (Tip (Child outer)) t)) → ((axis value : ℕ) (t : Tree) → P t → P (Cut axis value t (Tip (Child outer)))) → (n axis : ℕ) → P (carve_from n axis r c outer inner)
carve_by_cases P r c outer inner new below above zero axis = new
carve_by_cases P r c outer inner new below above (suc n) axis =
    let rest = carve_by_cases P r c outer inner new below above n (axis + 1) in
    let first = either_way P (nat_lt (get_or c.hi axis 0) (get_or r.hi axis 0)) (Cut axis (get_or c.hi axis 0 + 1) (carve_from n (axis + 1) r c outer inner) (Tip (Child outer))) (carve_from n (axis + 1) r c outer inner) (above axis _ _ rest) rest in
    either_way P (nat_lt (get_or r.lo axis 0) (get_or c.lo axis 0)) (Cut axis (get_or c.lo axis 0) (Tip (Child outer)) (carve_above axis r c outer (carve_from n (axis + 1) r c outer inner))) (carve_above axis r c outer (carve_from n (axis + 1) r c outer inner)) (below axis _ _ first) first

-- it is the new child alone, or it has a cut
abbrev pub HasCuts : Tree → Type 0
HasCuts (Tip leaf) = ⊥
HasCuts (Cut axis value left right) = Unit {0}

pub alone_or_cut : (r c : Area) (outer inner n axis : ℕ) → (carve_from n axis r c outer inner ≡ Tip (Child inner)) ⊎ HasCuts (carve_from n axis r c outer inner)
alone_or_cut r c outer inner = carve_by_cases (λ t. (t ≡ Tip (Child inner)) ⊎ HasCuts t) r c outer inner (inl refl) (λ axis value t h. inr tt) (λ axis value t h. inr tt)

-- it has no sibling leaves
abbrev HasNoSiblings : Tree → Type 0
HasNoSiblings t = (area : Area) → siblings (leaves_of t area) ≡ []

pub no_siblings : (r c : Area) (outer inner n axis : ℕ) → HasNoSiblings (carve_from n axis r c outer inner)
no_siblings r c outer inner = carve_by_cases HasNoSiblings r c outer inner (λ area. refl)
    (λ axis value t h area. h (side_from area axis value))
    (λ axis value t h area.
    siblings-append (leaves_of t (side_below area axis value)) (record { leaf = Child outer; area = side_from area axis value } ∷ [])
    ∙ ap (λ xs. xs ++ []) (h (side_below area axis value)))

-- none of its cuts parts nothing
record Differs (outer : ℕ) (t : Tree) : Type 0 where
  is_normal : IsNormal t
  on_right : ¬ (AreAlike (Tip (Child outer)) t)
  on_left : ¬ (AreAlike t (Tip (Child outer)))

differs : (r c : Area) (outer inner : ℕ) → inner ≢ outer → (n axis : ℕ) → Differs outer (carve_from n axis r c outer inner)
differs r c outer inner other = carve_by_cases (Differs outer) r c outer inner
    (record { is_normal = tt; on_right = λ e. other (sym e); on_left = other })
    (λ axis value t h. record { is_normal = (h.on_right, tt, h.is_normal); on_right = λ a. a; on_left = λ a. a })
    (λ axis value t h. record { is_normal = (h.on_left, h.is_normal, tt); on_right = λ a. a; on_left = λ a. a })

pub carved_normal : (r c : Area) (outer inner n axis : ℕ) → inner ≢ outer → IsNormal (carve_from n axis r c outer inner)
carved_normal r c outer inner n axis other = (differs r c outer inner other n axis).is_normal

-- at most two cuts for each attribute
pub carved_light : (r c : Area) (outer inner n axis : ℕ) → weight_of (carve_from n axis r c outer inner) ≤ 2 * n + 1
carved_light r c outer inner zero axis = omega arith
carved_light r c outer inner (suc n) axis =
    let rest = carved_light r c outer inner n (axis + 1) in
    let step = weight_step n axis r c outer inner in
    let above = one_at_most (nat_lt (get_or c.hi axis 0) (get_or r.hi axis 0)) in
    let below = one_at_most (nat_lt (get_or r.lo axis 0) (get_or c.lo axis 0)) in
    omega arith

-- each leaf weighs at least 1
pub some_weight : (t : Tree) → 1 ≤ weight_of t
some_weight (Tip (Records records)) = omega arith
some_weight (Tip (Child page)) = omega arith
some_weight (Tip (Sibling page)) = omega arith
some_weight (Cut axis value left right) = let w = weight_cut axis value left right in let h = some_weight left in omega arith

pub cuts_weigh_two : (t : Tree) → HasCuts t → 2 ≤ weight_of t
cuts_weigh_two (Tip leaf) h = absurd h
cuts_weigh_two (Cut axis value left right) h = let w = weight_cut axis value left right in let a = some_weight left in let b = some_weight right in omega arith
