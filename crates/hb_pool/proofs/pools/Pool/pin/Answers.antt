use Rattle.std.proofs.Common.{ℕ, ◌<◌, not, cond, length, List, ap, ◌∙◌, arith}
use Rattle.hb_lemmas.proofs.Options.{at_some_and, some_of_and}
use Rattle.hb_pool.specs.Frames.{Frame, must_stay, pinned}
use Rattle.hb_pool.specs.Pools.{frame_of}
use Rattle.hb_pool.specs.Slots.{framed, frames_in}
use Rattle.hb_pool.proofs.Facts.Pooled.{frame_page, pinned_stays}
use Rattle.hb_pool.proofs.Facts.Slotted.{entry_there}
use Rattle.hb_pool.proofs.Facts.Lodged.{number_within, lies_there, kept_touched, frames_last, is_put_last}
use Rattle.hb_pool.proofs.pools.Pool.pin.Goals as goal

pub touch-place-requires : goal.touch-place-requires
touch-place-requires c = entry_there c.self.inside.order c.self.inside.slots.items c.args.id (some_of_and (frame_of (frames_in c.self.inside.order c.self.inside.slots.items) c.args.id) (λ f. f.pins < 255) (rw (← c.self.view_is) at c.requires))

pub index_mut-slot-requires : goal.index_mut-slot-requires
index_mut-slot-requires c =
    let lt = number_within c.self.inside.order c.self.inside.slots.items c.args.id c.touch-place.result c.self.invariant.each c.touch-place.ensures.slot in
    omega (arith, lt, c.self.inside.slots.ok.0)

pub pin-requires : goal.pin-requires
pin-requires c =
    let lies = lies_there _ _ c.args.id _ c.index_mut-slot.result.now c.self.invariant.each c.touch-place.ensures.slot c.index_mut-slot.ensures.value in
    at_some_and (frame_of (frames_in c.self.inside.order c.self.inside.slots.items) c.args.id) (λ f. f.pins < 255) (framed c.args.id c.index_mut-slot.result.now) lies.frame (rw (← c.self.view_is) at c.requires)

pub invariant_of-self : goal.invariant_of-self
invariant_of-self c =
    let lies = lies_there _ _ c.args.id _ c.index_mut-slot.result.now c.self.invariant.each c.touch-place.ensures.slot c.index_mut-slot.ensures.value in
    let few : c.index_mut-slot.result.now.pins < 255 = at_some_and (frame_of (frames_in c.self.inside.order c.self.inside.slots.items) c.args.id) (λ f. f.pins < 255) (framed c.args.id c.index_mut-slot.result.now) lies.frame (rw (← c.self.view_is) at c.requires) in
    let made = c.pin.ensures c.args.id in
    let more = ap (λ (f : Frame (List ℕ)). f.pins) made in
    kept_touched _ _ _ _ _ _ _ c.args.id _ c.index_mut-slot.result.now c.pin.new.self c.self.invariant lies c.touch-place.ensures.last
    (c.one_if.ensures ∙ ap (λ b. cond (not b) 1 0) (c.must_stay.ensures c.args.id))
    (omega (arith, few, more))
    (ap (λ (f : Frame (List ℕ)). length f.bytes) made ∙ frame_page _ c.args.id (framed c.args.id c.index_mut-slot.result.now) c.self.invariant.frames.pages lies.frame)
    (ap must_stay made ∙ pinned_stays (pinned (framed c.args.id c.index_mut-slot.result.now)) (omega arith))

pub returns : goal.returns
returns c =
    let lies = lies_there _ _ c.args.id _ c.index_mut-slot.result.now c.self.invariant.each c.touch-place.ensures.slot c.index_mut-slot.ensures.value in
    rw (← c.self.view_is) (is_put_last _ _ c.args.id pinned _ (framed c.args.id c.pin.new.self) lies.frame
    (frames_last _ _ _ c.args.id _ c.index_mut-slot.result.now c.pin.new.self c.self.invariant.each lies c.touch-place.ensures.last) (c.pin.ensures c.args.id))
