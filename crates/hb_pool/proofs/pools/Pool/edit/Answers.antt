use Rattle.std.proofs.Common.{ℕ, not, cond, length, List, ap, ◌∙◌, arith}
use Rattle.hb_lemmas.proofs.Options.{at_some_and, some_of_and}
use Rattle.std.specs.Fn.{FnOnceTakesAtMut}
use Rattle.hb_pool.specs.Frames.{Frame, must_stay, filled}
use Rattle.hb_pool.specs.Pools.{frame_of}
use Rattle.hb_pool.specs.Slots.{framed, frames_in}
use Rattle.hb_pool.proofs.Facts.Pooled.{frame_pins}
use Rattle.hb_pool.proofs.Facts.Slotted.{entry_there}
use Rattle.hb_pool.proofs.Facts.Lodged.{number_within, lies_there, kept_touched, frames_last, is_put_last}
use Rattle.hb_pool.proofs.pools.Pool.edit.Goals as goal

pub touch-place-requires : goal.touch-place-requires
touch-place-requires g c = entry_there c.self.inside.order c.self.inside.slots.items c.args.id (some_of_and (frame_of (frames_in c.self.inside.order c.self.inside.slots.items) c.args.id) (λ f. FnOnceTakesAtMut g.F.FnOnce c.args.edit f.bytes) (rw (← c.self.view_is) at c.requires))

pub index_mut-edited-requires : goal.index_mut-edited-requires
index_mut-edited-requires g c =
    let lt = number_within c.self.inside.order c.self.inside.slots.items c.args.id c.touch-place.result c.self.invariant.each c.touch-place.ensures.slot in
    omega (arith, lt, c.self.inside.slots.ok.0)

pub edit-requires : goal.edit-requires
edit-requires g c =
    let lies = lies_there _ _ c.args.id _ c.index_mut-edited.result.now c.self.invariant.each c.touch-place.ensures.slot c.index_mut-edited.ensures.value in
    at_some_and (frame_of (frames_in c.self.inside.order c.self.inside.slots.items) c.args.id) (λ f. FnOnceTakesAtMut g.F.FnOnce c.args.edit f.bytes) (framed c.args.id c.index_mut-edited.result.now) lies.frame (rw (← c.self.view_is) at c.requires)

pub invariant_of-self : goal.invariant_of-self
invariant_of-self g c =
    let lies = lies_there _ _ c.args.id _ c.index_mut-edited.result.now c.self.invariant.each c.touch-place.ensures.slot c.index_mut-edited.ensures.value in
    let few = frame_pins _ c.args.id _ c.self.invariant.frames.pool lies.frame in
    let fills = c.edit.ensures c.args.id in
    let same = ap (λ (f : Frame (List ℕ)). f.pins) fills.left in
    kept_touched _ _ _ _ _ _ _ c.args.id _ c.index_mut-edited.result.now c.edit.new.self c.self.invariant lies c.touch-place.ensures.last
    (c.one_if.ensures ∙ ap (λ b. cond (not b) 1 0) (c.must_stay.ensures c.args.id))
    (omega (arith, few, same))
    (ap (λ (f : Frame (List ℕ)). length f.bytes) fills.left ∙ fills.whole.long)
    (ap must_stay fills.left)

pub returns : goal.returns
returns g c =
    let lies = lies_there _ _ c.args.id _ c.index_mut-edited.result.now c.self.invariant.each c.touch-place.ensures.slot c.index_mut-edited.ensures.value in
    let fills = c.edit.ensures c.args.id in
    rw (← c.self.view_is) (record {
      frame = framed c.args.id c.index_mut-edited.result.now;
      there = lies.frame;
      bytes = fills.bytes;
      changed = fills.changed;
      whole = fills.whole;
      left = is_put_last _ _ c.args.id (filled fills.bytes) _ (framed c.args.id c.edit.new.self) lies.frame
          (frames_last _ _ _ c.args.id _ c.index_mut-edited.result.now c.edit.new.self c.self.invariant.each lies c.touch-place.ensures.last) fills.left;
    })
