use Rattle.std.proofs.Common.{◌≡◌, ℕ, List, length, replicate, Some, sym, ap, subst, arith}
use Rattle.std.proofs.lemmas.List.{length-append, length-replicate}
use Rattle.hb_text.specs.StepWords.{steps_of}
use Rattle.hb_text.proofs.StepWords.{said_more, steps_grow}
use Rattle.hb_text.proofs.steps.push_steps.Goals as goal

pub push_repeats-requires : goal.push_repeats-requires
push_repeats-requires c =
    let repeats = c.in-Some-read_repeats.repeats in
    let one : List ℕ = replicate repeats.count repeats.actor in
    let left = subst (λ ws. steps_of ws ≡ Some c.loop-word.invariant.said) c.in-Some.ensures c.loop-word.invariant.left in
    let more = said_more c.in-Some.word.now c.next_word.new.self c.loop-word.invariant.said one left (sym c.in-Some-read_repeats.ensures) in
    omega (arith, c.loop-word.invariant.few, ap (λ (s : List ℕ). length s) more.2, length-append one more.0, length-replicate repeats.count repeats.actor)

pub loop-word-preserved : goal.loop-word-preserved
loop-word-preserved c =
    let repeats = c.in-Some-read_repeats.repeats in
    let one : List ℕ = replicate repeats.count repeats.actor in
    let words_are = c.in-Some.ensures in
    let left = subst (λ ws. steps_of ws ≡ Some c.loop-word.invariant.said) words_are c.loop-word.invariant.left in
    let more = said_more c.in-Some.word.now c.next_word.new.self c.loop-word.invariant.said one left (sym c.in-Some-read_repeats.ensures) in
    record {
      said = more.0;
      left = more.1;
      few = omega (arith, c.loop-word.invariant.few, ap (λ (s : List ℕ). length s) more.2, length-append one more.0, ap (λ (s : List ℕ). length s) c.in_ok-push_repeats.ensures, length-append c.loop-word.steps.items one);
      whole = λ all e. steps_grow c.args.steps.now.items c.loop-word.steps.items c.push_repeats.new.steps.items c.in-Some.word.now c.next_word.new.self c.loop-word.invariant.said all one more.0 (c.loop-word.invariant.whole all e) more.2 c.in_ok-push_repeats.ensures;
    }
