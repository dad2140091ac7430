use Rattle.std.proofs.Common.{◌≡◌, ℕ, List, ◌∷◌, ◌++◌, [], length, sym, ap, subst, ◌∙◌, arith}
use Rattle.hb_pool.specs.Slots.{HaveSlots, frames_in}
use Rattle.hb_pool.proofs.Facts.Slotted.{frames_more, slots_more}
use Rattle.hb_pool.proofs.pools.add_last.Goals as goal

pub returns-clause-frames : goal.returns-clause-frames
returns-clause-frames c =
    let number : c.len.result ≡ length c.args.slots.now.items = omega (arith, c.len.ensures, c.args.slots.now.ok.0) in
    (λ j. frames_in ((c.insert.ensures ∙ ap (λ n. c.args.order.now ++ (c.args.id, n) ∷ []) number) j) (c.push_reserved.ensures.items j))
    ∙ frames_more c.args.order.now c.args.slots.now.items c.args.id c.args.slot c.requires.each

pub returns-clause-each : goal.returns-clause-each
returns-clause-each c =
    let number : c.len.result ≡ length c.args.slots.now.items = omega (arith, c.len.ensures, c.args.slots.now.ok.0) in
    subst (λ (o : List (ℕ × ℕ)). HaveSlots o c.push_reserved.new.self.items) (sym (c.insert.ensures ∙ ap (λ n. c.args.order.now ++ (c.args.id, n) ∷ []) number))
    (rw c.push_reserved.ensures.items (slots_more c.args.order.now c.args.slots.now.items c.args.id c.args.slot c.requires.each))
