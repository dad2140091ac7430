-- A leaf's box carved, attribute by attribute.
use Rattle.std.proofs.Common.{◌≡◌, ℕ, zero, suc, ◌+◌, ◌-◌, ◌<◌, ◌≤◌, Bool, true, false, cond, length, get_or, ap, ◌∙◌, arith, nat_lt}
use Rattle.hb_space.specs.Boxes.{Area}
use Rattle.hb_frag.specs.declared.leaves.Leaf.TheVariants.{Child}
use Rattle.hb_frag.specs.Trees.{Tree, Tip, Cut}
use Rattle.hb_frag.specs.Leaves.{weight_of}
use Rattle.hb_frag.specs.Carving.{carve_below, carve_above, carve_from}
use Rattle.hb_frag.proofs.Facts.Parts.{weight_cut}

-- either no attribute is left, or this one and those behind it
pub carve_ends : (axis : ℕ) (r c : Area) (outer inner : ℕ) → length r.lo ≤ axis → carve_from (length r.lo - axis) axis r c outer inner ≡ Tip (Child inner)
carve_ends axis r c outer inner h = let e : length r.lo - axis ≡ zero = omega arith in rw e

pub carve_goes_on : (axis : ℕ) (r c : Area) (outer inner : ℕ) → axis < length r.lo → carve_from (length r.lo - axis) axis r c outer inner ≡ carve_below axis r c outer (carve_above axis r c outer (carve_from (length r.lo - (axis + 1)) (axis + 1) r c outer inner))
carve_goes_on axis r c outer inner h = let e : length r.lo - axis ≡ suc (length r.lo - (axis + 1)) = omega arith in rw e

-- each cut weighs 1, for the old child
weighs_below : (b : Bool) (axis value outer : ℕ) (rest : Tree) → weight_of (cond b (Cut axis value (Tip (Child outer)) rest) rest) ≡ weight_of rest + cond b 1 0
weighs_below true axis value outer rest = omega (arith, weight_cut axis value (Tip (Child outer)) rest)
weighs_below false axis value outer rest = omega arith

weighs_above : (b : Bool) (axis value outer : ℕ) (rest : Tree) → weight_of (cond b (Cut axis value rest (Tip (Child outer))) rest) ≡ weight_of rest + cond b 1 0
weighs_above true axis value outer rest = omega (arith, weight_cut axis value rest (Tip (Child outer)))
weighs_above false axis value outer rest = omega arith

abbrev pub cuts_below : ℕ → Area → Area → ℕ
cuts_below axis r c = cond (nat_lt (get_or r.lo axis 0) (get_or c.lo axis 0)) 1 0

abbrev pub cuts_above : ℕ → Area → Area → ℕ
cuts_above axis r c = cond (nat_lt (get_or c.hi axis 0) (get_or r.hi axis 0)) 1 0

pub weight_step : (n axis : ℕ) (r c : Area) (outer inner : ℕ) → weight_of (carve_from (suc n) axis r c outer inner) ≡ weight_of (carve_from n (axis + 1) r c outer inner) + cuts_above axis r c + cuts_below axis r c
weight_step n axis r c outer inner =
    let rest = carve_from n (axis + 1) r c outer inner in
    weighs_below (nat_lt (get_or r.lo axis 0) (get_or c.lo axis 0)) axis (get_or c.lo axis 0) outer (carve_above axis r c outer rest)
    ∙ ap (λ w. w + cuts_below axis r c) (weighs_above (nat_lt (get_or c.hi axis 0) (get_or r.hi axis 0)) axis (get_or c.hi axis 0 + 1) outer rest)

pub weight_ends : (axis : ℕ) (r c : Area) (outer inner : ℕ) → length r.lo ≤ axis → weight_of (carve_from (length r.lo - axis) axis r c outer inner) ≡ 1
weight_ends axis r c outer inner h = rw (carve_ends axis r c outer inner h)

pub weight_goes_on : (axis : ℕ) (r c : Area) (outer inner : ℕ) → axis < length r.lo → weight_of (carve_from (length r.lo - axis) axis r c outer inner) ≡ weight_of (carve_from (length r.lo - (axis + 1)) (axis + 1) r c outer inner) + cuts_above axis r c + cuts_below axis r c
weight_goes_on axis r c outer inner h =
    let e : length r.lo - axis ≡ suc (length r.lo - (axis + 1)) = omega arith in
    rw e (weight_step (length r.lo - (axis + 1)) axis r c outer inner)
