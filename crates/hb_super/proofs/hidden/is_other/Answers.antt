use Rattle.std.proofs.Common.{drop, get_or, sym, ◌∙◌}
use Rattle.std.proofs.lemmas.List.{take_rest}
use Rattle.hb_super.proofs.Clears.{other_from, same_from}
use Rattle.hb_super.proofs.hidden.is_other.Goals as goal

pub returns-in-None-clause-none : goal.returns-in-None-clause-none
returns-in-None-clause-none c = λ _ closed said legal is. absurd (c.in-None.ensures said legal (take_rest c.args.bytes.now 1 ∙ is))

pub returns-then-bytes-clause-other : goal.returns-then-bytes-clause-other
returns-then-bytes-clause-other c = λ found.
    other_from c.args.turn c.in-Some.said c.args.meta.now (get_or c.args.bytes.now 0 0) (drop 1 c.args.bytes.now) c.in-Some.ensures.0 (sym (take_rest c.args.bytes.now 1) ∙ c.in-Some.ensures.1)
    c.if-bytes.true (c.differ.ensures.other found)

pub returns-then-bytes-clause-none : goal.returns-then-bytes-clause-none
returns-then-bytes-clause-none c = λ none.
    same_from c.args.turn c.in-Some.said c.args.meta.now (get_or c.args.bytes.now 0 0) (drop 1 c.args.bytes.now) c.in-Some.ensures.0 (sym (take_rest c.args.bytes.now 1) ∙ c.in-Some.ensures.1)
    (c.differ.ensures.same none)
