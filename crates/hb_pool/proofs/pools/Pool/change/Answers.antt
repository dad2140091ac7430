use Rattle.std.proofs.Common.{ℕ, not, cond, length, List, ap, ◌∙◌, arith}
use Rattle.hb_pool.specs.Frames.{Frame, must_stay, filled}
use Rattle.hb_pool.specs.Slots.{framed}
use Rattle.hb_pool.proofs.Facts.Pooled.{frame_pins}
use Rattle.hb_pool.proofs.Facts.Slotted.{entry_there}
use Rattle.hb_pool.proofs.Facts.Lodged.{number_within, lies_there, kept_touched, frames_last, is_put_last}
use Rattle.hb_pool.proofs.pools.Pool.change.Goals as goal

pub touch-place-requires : goal.touch-place-requires
touch-place-requires c = entry_there c.self.inside.order c.self.inside.slots.items c.args.id (rw (← c.self.view_is) at c.requires)

pub index_mut-changed-requires : goal.index_mut-changed-requires
index_mut-changed-requires c =
    let lt = number_within c.self.inside.order c.self.inside.slots.items c.args.id c.touch-place.result c.self.invariant.each c.touch-place.ensures.slot in
    omega (arith, lt, c.self.inside.slots.ok.0)

pub invariant_of-self : goal.invariant_of-self
invariant_of-self c =
    let lies = lies_there _ _ c.args.id _ c.index_mut-changed.result.now c.self.invariant.each c.touch-place.ensures.slot c.index_mut-changed.ensures.value in
    let few = frame_pins _ c.args.id _ c.self.invariant.frames.pool lies.frame in
    let made = c.fill.ensures c.args.id in
    let same = ap (λ (f : Frame (List ℕ)). f.pins) made in
    kept_touched _ _ _ _ _ _ _ c.args.id _ c.index_mut-changed.result.now c.fill.new.self c.self.invariant lies c.touch-place.ensures.last
    (c.one_if.ensures ∙ ap (λ b. cond (not b) 1 0) (c.must_stay.ensures c.args.id))
    (omega (arith, few, same))
    (ap (λ (f : Frame (List ℕ)). length f.bytes) made ∙ c.told-bytes)
    (ap must_stay made)

pub returns : goal.returns
returns c =
    let lies = lies_there _ _ c.args.id _ c.index_mut-changed.result.now c.self.invariant.each c.touch-place.ensures.slot c.index_mut-changed.ensures.value in
    rw (← c.self.view_is) (is_put_last _ _ c.args.id (filled c.args.bytes.now) _ (framed c.args.id c.fill.new.self) lies.frame
    (frames_last _ _ _ c.args.id _ c.index_mut-changed.result.now c.fill.new.self c.self.invariant.each lies c.touch-place.ensures.last) (c.fill.ensures c.args.id))
