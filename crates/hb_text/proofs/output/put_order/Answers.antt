use Rattle.std.proofs.Common.{◌≡◌, ℕ, ◌+◌, ◌≤◌, List, ◌++◌, length, max, sym, ap, subst, ◌∙◌, arith, length-append}
use Rattle.std.specs.Prelude.{codes}
use Rattle.std.proofs.lemmas.Bool.{false≢true}
use Rattle.hb_text.proofs.Facts.OutputLaws.{Waits-put}
use Rattle.hb_text.proofs.OutputText.{order_ends_settled, order_ends_later, order_waits}
use Rattle.hb_text.proofs.output.put_order.Goals as goal

-- a piece to which numbers were added has room for the bar
bar_fits : (piece before bar : List ℕ) → length piece ≤ max 181 (length before) → length before ≤ 181 → length bar ≤ 2 → length piece + length bar ≤ 200
bar_fits piece before bar room few short = omega arith

-- and behind the bar and further numbers for a line feed
feed_fits : (piece before : List ℕ) → length piece ≤ max 181 (length before) → length before ≤ 183 → length piece + 1 ≤ 200
feed_fits piece before room few = omega arith

-- with the bar behind it, it has no more than the next numbers allow
with_bar : (piece before bar joined : List ℕ) → length piece ≤ max 181 (length before) → length before ≤ 181 → length bar ≤ 2 → joined ≡ piece ++ bar → length joined ≤ 183
with_bar piece before bar joined room few short is = omega (arith, ap (λ (l : List ℕ). length l) is, length-append piece bar)

-- the first word is short
word_short : (head : List ℕ) → head ≡ codes "order" → length head ≤ 181
word_short head is = subst (λ (l : List ℕ). length l ≤ 181) (sym is) (omega arith)

pub add-requires-2 : goal.add-requires-2
add-requires-2 g c =
    let few = word_short _ (c.add.ensures ∙ ap (λ x. x ++ codes "order") c.new-piece.ensures) in
    bar_fits _ c.add.new.self.bytes.items _ c.in_ok-put_numbers.ensures.room few c.bar.ensures.short

pub add-requires-3 : goal.add-requires-3
add-requires-3 g c =
    let few = word_short _ (c.add.ensures ∙ ap (λ x. x ++ codes "order") c.new-piece.ensures) in
    feed_fits _ c.add-2.new.self.bytes.items c.in_ok-put_numbers-2.ensures.room
    (with_bar _ c.add.new.self.bytes.items _ _ c.in_ok-put_numbers.ensures.room few c.bar.ensures.short c.add-2.ensures)

pub returns-in_err-put_numbers : goal.returns-in_err-put_numbers
returns-in_err-put_numbers g c =
    let head = c.add.ensures ∙ ap (λ x. x ++ codes "order") c.new-piece.ensures in
    order_ends_settled _ _ _ c.args.order.now c.args.settled _ _ c.from_residual.ensures.0 head c.cut_at.ensures.front c.in_err-put_numbers.ensures.buffers

pub returns-in_err-put_numbers-2 : goal.returns-in_err-put_numbers-2
returns-in_err-put_numbers-2 g c =
    let head = c.add.ensures ∙ ap (λ x. x ++ codes "order") c.new-piece.ensures in
    let settled = c.in_ok-put_numbers.ensures.buffers in
    order_ends_later _ _ _ _ c.args.order.now c.args.settled _ _ _ _ _ c.from_residual-in_err-put_numbers-2.ensures.0 settled.done (settled.counts.no_fault (λ e. false≢true e)) head c.cut_at.ensures.front
    c.bar.ensures.word c.add-2.ensures c.cut_at.ensures.rest c.in_err-put_numbers-2.ensures.buffers

pub returns : goal.returns
returns g c =
    let head = c.add.ensures ∙ ap (λ x. x ++ codes "order") c.new-piece.ensures in
    let settled = c.in_ok-put_numbers.ensures.buffers in
    let later = c.in_ok-put_numbers-2.ensures.buffers in
    let waits = order_waits c.args.order.now c.args.settled _ _ _ _ _ _ settled.done head c.cut_at.ensures.front
    c.bar.ensures.word c.add-2.ensures c.cut_at.ensures.rest later.done (c.as_slice.ensures ∙ c.add-3.ensures) in
    Waits-put c.put.result _ _ _ waits (later.counts.no_fault (λ e. false≢true e) ∙ settled.counts.no_fault (λ e. false≢true e)) c.put.ensures
