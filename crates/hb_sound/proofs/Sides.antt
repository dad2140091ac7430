-- A box that becomes one of its sides, and itself again.
use Rattle.std.proofs.Common.{◌≡◌, ℕ, ◌-◌, List, slice_index, slice_set, refl, ap, ◌∙◌}
use Rattle.hb_space.specs.Boxes.{Area, side_below, side_from}
use Rattle.hb_lemmas.proofs.Lists.{put_back}

-- the greatest value is put back
pub hi_back : (area below after whole : Area) (axis value greatest : ℕ) → below ≡ side_below area axis value → greatest ≡ slice_index area.hi axis → after ≡ below
    → whole ≡ record { lo = after.lo; hi = slice_set after.hi axis greatest } → whole ≡ area
hi_back area below after whole axis value greatest side same kept put =
    let G : ℕ → Area = λ n. record { lo = area.lo; hi = slice_set (slice_set area.hi axis (value - 1)) axis n } in
    let H : List ℕ → Area = λ l. record { lo = area.lo; hi = l } in
    let A : Area → Area = λ a. record { lo = a.lo; hi = slice_set a.hi axis greatest } in
    put ∙ ap A (kept ∙ side) ∙ ap G same ∙ ap H (put_back area.hi (slice_set area.hi axis (value - 1)) axis (value - 1) 0 refl)

-- the least value is put back
pub lo_back : (area above after whole : Area) (axis value least : ℕ) → above ≡ side_from area axis value → least ≡ slice_index area.lo axis → after ≡ above
    → whole ≡ record { lo = slice_set after.lo axis least; hi = after.hi } → whole ≡ area
lo_back area above after whole axis value least side same kept put =
    let G : ℕ → Area = λ n. record { lo = slice_set (slice_set area.lo axis value) axis n; hi = area.hi } in
    let L : List ℕ → Area = λ l. record { lo = l; hi = area.hi } in
    let A : Area → Area = λ a. record { lo = slice_set a.lo axis least; hi = a.hi } in
    put ∙ ap A (kept ∙ side) ∙ ap G same ∙ ap L (put_back area.lo (slice_set area.lo axis value) axis value 0 refl)

-- the side from the plane on, of a box that was its side below it and is itself again
pub other_side : (area below after whole above : Area) (axis value greatest : ℕ) → below ≡ side_below area axis value → greatest ≡ slice_index area.hi axis → after ≡ below
    → whole ≡ record { lo = after.lo; hi = slice_set after.hi axis greatest } → above ≡ side_from whole axis value → above ≡ side_from area axis value
other_side area below after whole above axis value greatest side same kept put from =
    let F : Area → Area = λ a. side_from a axis value in
    from ∙ ap F (hi_back area below after whole axis value greatest side same kept put)
