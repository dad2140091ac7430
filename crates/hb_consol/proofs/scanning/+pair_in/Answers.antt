use Rattle.std.proofs.Common.{◌≡◌, ℕ, ◌-◌, ap, ◌∙◌, subst}
use Rattle.hb_frag.specs.Leaves.{leaves}
use Rattle.hb_consol.proofs.ScannedPairs.{found_in_both, found_in_front}
use Rattle.hb_consol.proofs.scanning.+pair_in.Goals as goal
use Rattle.hb_consol.specs.Doing.{IsScanned}

pub returns-in-Pair : goal.returns-in-Pair
returns-in-Pair t c =
    rw (← c.part.view_is, c.in-Cut.is)
    (found_in_front c.args.above.now c.args.from (leaves c.in-Cut.left.value) (leaves c.in-Cut.right.value) c.in-Pair.gone c.in-Pair.place (rw c.deref.ensures at c.in-Pair.ensures))

pub returns-in-Passed : goal.returns-in-Passed
returns-in-Passed t c =
    let from : c.saturating_sub.result ≡ c.args.from - c.in-Passed.count = c.saturating_sub.ensures ∙ ap (λ (n : ℕ). c.args.from - n) c.from.ensures in
    rw (← c.part.view_is, c.in-Cut.is, c.behind.ensures)
    (found_in_both c.args.above.now c.args.from (leaves c.in-Cut.left.value) (leaves c.in-Cut.right.value) c.in-Passed.count c.pair_in-rest.result (rw c.deref.ensures at c.in-Passed.ensures)
    (subst (λ (n : ℕ). IsScanned c.args.above.now n (leaves c.in-Cut.right.value) c.pair_in-rest.result) from (rw c.deref-in-Passed.ensures at c.pair_in-rest.ensures)))
