use Rattle.std.proofs.Common.{◌≡◌, ℕ, ◌/◌, ◌%◌, ◌==◌, List, get_or, sym, ap, ◌∙◌, arith}
use Rattle.std.specs.FinSet as set
use Rattle.std.specs.Int.{bit_at}
use Rattle.std.specs.Ordering.{nat_cmp}
use Rattle.hb_store.proofs.PageBits.{bit_tells, no_word}
use Rattle.hb_store.proofs.page_sets.PageSet.has.Goals as goal

pub returns-in-Some : goal.returns-in-Some
returns-in-Some c =
    let words = c.self.inside.words.items in
    let place : ℕ = c.args.id / 64 in
    let at : c.in-Some.word.now ≡ get_or words place 0 = c.in-Some.ensures.lookup.4 (omega arith) 0 ∙ ap (λ (l : List ℕ). get_or l place 0) c.deref.ensures.value in
    c.is_set.ensures ∙ ap (λ (w : ℕ). bit_at w (c.args.id % 64) == 1) at ∙ sym (bit_tells words c.args.id) ∙ ap (λ (s : set.FinSet nat_cmp). set.contains s c.args.id) c.self.view_is

pub returns-in-None : goal.returns-in-None
returns-in-None c =
    let words = c.self.inside.words.items in
    let place : ℕ = c.args.id / 64 in
    no_word words c.args.id (c.in-None.ensures.lookup.4 (omega arith) 0 ∙ ap (λ (l : List ℕ). get_or l place 0) c.deref.ensures.value)
    ∙ ap (λ (s : set.FinSet nat_cmp). set.contains s c.args.id) c.self.view_is
