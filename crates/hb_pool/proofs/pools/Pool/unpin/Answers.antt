use Rattle.std.proofs.Common.{ℕ, ◌<◌, not, cond, length, List, ap, ◌∙◌, arith}
use Rattle.hb_lemmas.proofs.Options.{at_some_and, some_of_and}
use Rattle.hb_pool.specs.Frames.{Frame, unpinned}
use Rattle.hb_pool.specs.Pools.{frame_of}
use Rattle.hb_pool.specs.Slots.{framed, frames_in}
use Rattle.hb_pool.proofs.Facts.Pooled.{frame_page, frame_pins, one_fits, pinned_stays}
use Rattle.hb_pool.proofs.Facts.Slotted.{entry_there}
use Rattle.hb_pool.proofs.Facts.Lodged.{number_within, lies_there, kept_in_place, frames_in_place}
use Rattle.hb_pool.proofs.pools.Pool.unpin.Goals as goal

pub lies_in-place-requires : goal.lies_in-place-requires
lies_in-place-requires c = entry_there c.self.inside.order c.self.inside.slots.items c.args.id (some_of_and (frame_of (frames_in c.self.inside.order c.self.inside.slots.items) c.args.id) (λ f. 0 < f.pins) (rw (← c.self.view_is) at c.requires))

pub index_mut-slot-requires : goal.index_mut-slot-requires
index_mut-slot-requires c =
    let lt = number_within c.self.inside.order c.self.inside.slots.items c.args.id c.lies_in-place.result c.self.invariant.each c.lies_in-place.ensures in
    omega (arith, lt, c.self.inside.slots.ok.0)

pub unpin-requires : goal.unpin-requires
unpin-requires c =
    let lies = lies_there _ _ c.args.id _ c.index_mut-slot.result.now c.self.invariant.each c.lies_in-place.ensures c.index_mut-slot.ensures.value in
    at_some_and (frame_of (frames_in c.self.inside.order c.self.inside.slots.items) c.args.id) (λ f. 0 < f.pins) (framed c.args.id c.index_mut-slot.result.now) lies.frame (rw (← c.self.view_is) at c.requires)

pub overflow_sub-self : goal.overflow_sub-self
overflow_sub-self c =
    let lies = lies_there _ _ c.args.id _ c.index_mut-slot.result.now c.self.invariant.each c.lies_in-place.ensures c.index_mut-slot.ensures.value in
    let asked = at_some_and (frame_of (frames_in c.self.inside.order c.self.inside.slots.items) c.args.id) (λ f. 0 < f.pins) (framed c.args.id c.index_mut-slot.result.now) lies.frame (rw (← c.self.view_is) at c.requires) in
    one_fits _ _ _ _ _ c.args.id _ _ c.self.invariant.frames lies.frame (pinned_stays (framed c.args.id c.index_mut-slot.result.now) asked) c.one_if.ensures

pub invariant_of-self : goal.invariant_of-self
invariant_of-self c =
    let lies = lies_there _ _ c.args.id _ c.index_mut-slot.result.now c.self.invariant.each c.lies_in-place.ensures c.index_mut-slot.ensures.value in
    let asked = at_some_and (frame_of (frames_in c.self.inside.order c.self.inside.slots.items) c.args.id) (λ f. 0 < f.pins) (framed c.args.id c.index_mut-slot.result.now) lies.frame (rw (← c.self.view_is) at c.requires) in
    let few = frame_pins _ c.args.id _ c.self.invariant.frames.pool lies.frame in
    let made = c.unpin.ensures c.args.id in
    let same = ap (λ (f : Frame (List ℕ)). f.pins) made in
    kept_in_place _ _ _ _ _ _ c.args.id _ c.index_mut-slot.result.now c.unpin.new.self unpinned c.self.invariant lies c.index_mut-slot.ensures.value made
    (c.one_if.ensures ∙ ap (λ b. cond (not b) 1 0) (c.must_stay.ensures c.args.id))
    (omega (arith, few, same))
    (ap (λ (f : Frame (List ℕ)). length f.bytes) made ∙ frame_page _ c.args.id (framed c.args.id c.index_mut-slot.result.now) c.self.invariant.frames.pages lies.frame)
    (pinned_stays (framed c.args.id c.index_mut-slot.result.now) asked)

pub returns : goal.returns
returns c =
    let lies = lies_there _ _ c.args.id _ c.index_mut-slot.result.now c.self.invariant.each c.lies_in-place.ensures c.index_mut-slot.ensures.value in
    rw (← c.self.view_is) (frames_in_place _ _ c.args.id _ c.index_mut-slot.result.now c.unpin.new.self unpinned c.self.invariant.each lies c.index_mut-slot.ensures.value (c.unpin.ensures c.args.id))
