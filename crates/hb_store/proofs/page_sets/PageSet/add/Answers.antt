use Rattle.std.proofs.Common.{◌≡◌, ℕ, ◌<◌, ◌/◌, ◌==◌, length, get_or, ap, ◌∙◌, arith}
use Rattle.std.specs.Prelude.{◌||◌}
use Rattle.std.specs.FinSet as set
use Rattle.std.specs.Int.{bit_at}
use Rattle.std.specs.Ordering.{nat_cmp}
use Rattle.std.proofs.lemmas.List.{get_or_read}
use Rattle.hb_store.proofs.PageBits.{number_more}
use Rattle.hb_store.proofs.page_sets.PageSet.add.Goals as goal

pub returns : goal.returns
returns c = λ q.
    let words = c.self.inside.words.items in
    let place : ℕ = c.args.id / 64 in
    let within : place < length words = omega (arith, c.requires, c.self.invariant) in
    let word : c.index.result.now ≡ get_or words place 0 = get_or_read words place c.index.result.now within c.index.ensures 0 in
    number_more words c.args.id c.with_bit.result within c.with_bit.ensures.here (λ i other. c.with_bit.ensures.others i other ∙ ap (λ (w : ℕ). bit_at w i) word) q
    ∙ ap (λ (s : set.FinSet nat_cmp). (q == c.args.id) || set.contains s q) c.self.view_is
