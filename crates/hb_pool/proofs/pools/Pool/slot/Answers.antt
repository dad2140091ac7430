use Rattle.std.proofs.Common.{ℕ, List, sym, ap, ◌∙◌, arith}
use Rattle.hb_pool.specs.Frames.{Frame}
use Rattle.hb_pool.specs.Pools.{frame_of}
use Rattle.hb_pool.proofs.Facts.Slotted.{found_none}
use Rattle.hb_pool.proofs.Facts.Lodged.{number_within, lies_there}
use Rattle.hb_pool.proofs.pools.Pool.slot.Goals as goal

pub returns-in_err-place : goal.returns-in_err-place
returns-in_err-place c =
    rw c.from_residual.ensures (sym (found_none c.self.inside.order c.self.inside.slots.items c.args.id (sym c.slot_of.ensures ∙ c.in_err-place.was)) ∙ ap (λ (fs : List (Frame (List ℕ))). frame_of fs c.args.id) c.self.view_is)

pub index-requires : goal.index-requires
index-requires c =
    let lt = number_within c.self.inside.order c.self.inside.slots.items c.args.id c.in_ok-place.place c.self.invariant.each (sym c.slot_of.ensures ∙ c.in_ok-place.was) in
    omega (arith, lt, c.self.inside.slots.ok.0)

pub returns : goal.returns
returns c =
    let lies = lies_there _ _ c.args.id _ c.index.result.now c.self.invariant.each (sym c.slot_of.ensures ∙ c.in_ok-place.was) c.index.ensures in
    sym lies.frame ∙ ap (λ (fs : List (Frame (List ℕ))). frame_of fs c.args.id) c.self.view_is
