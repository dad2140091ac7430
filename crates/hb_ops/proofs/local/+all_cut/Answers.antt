use Rattle.std.proofs.Common.{ℕ, ◌-◌, ◌<◌, List, length, sym, subst, ◌∙◌}
use Rattle.std.proofs.lemmas.Bool.{false≢true}
use Rattle.hb_ops.proofs.Facts.Corners.{both_cut, in_changed, in_hi, in_lo, left_uncut}
use Rattle.hb_ops.proofs.local.+all_cut.Goals as goal
use Rattle.hb_lemmas.proofs.Lists.{put_back}

pub returns-then-below-clause-cut : goal.returns-then-below-clause-cut
returns-then-below-clause-cut t c =
    let at = c.from-at.result in
    let value = c.in-Cut.value in
    rw (← c.frag.view_is, c.in-Cut.is)
    (both_cut c.args.lo.now c.args.hi.now c.all_cut-below.new.lo _ c.in-Cut.axis at value c.in-Cut.left.value c.in-Cut.right.value c.all_cut-from.result c.from-at.ensures
    c.all_cut-below.ensures.lo (put_back c.args.hi.now c.all_cut-below.new.hi at (value - 1) 0 c.all_cut-below.ensures.hi) (c.cuts.ensures.0 c.if-not-cuts.false)
    ((rw c.deref.ensures at c.all_cut-below.ensures.cut).0 c.if-below.true) (rw c.deref-in-Cut.ensures at c.all_cut-from.ensures.cut))

pub returns-then-below-clause-lo : goal.returns-then-below-clause-lo
returns-then-below-clause-lo t c = put_back c.all_cut-below.new.lo c.all_cut-from.new.lo c.from-at.result c.in-Cut.value 0 c.all_cut-from.ensures.lo ∙ c.all_cut-below.ensures.lo

pub returns-then-below-clause-hi : goal.returns-then-below-clause-hi
returns-then-below-clause-hi t c = c.all_cut-from.ensures.hi ∙ put_back c.args.hi.now c.all_cut-below.new.hi c.from-at.result (c.in-Cut.value - 1) 0 c.all_cut-below.ensures.hi

pub returns-else-below-clause-lo : goal.returns-else-below-clause-lo
returns-else-below-clause-lo t c = put_back c.all_cut-below.new.lo c.all_cut-from.new.lo c.from-at.result c.in-Cut.value 0 c.all_cut-from.ensures.lo ∙ c.all_cut-below.ensures.lo

pub returns-else-below-clause-hi : goal.returns-else-below-clause-hi
returns-else-below-clause-hi t c = c.all_cut-from.ensures.hi ∙ put_back c.args.hi.now c.all_cut-below.new.hi c.from-at.result (c.in-Cut.value - 1) 0 c.all_cut-below.ensures.hi

pub returns-then-not-cuts-clause-cut : goal.returns-then-not-cuts-clause-cut
returns-then-not-cuts-clause-cut t c = rw (← c.frag.view_is, c.in-Cut.is) (λ h. absurd (false≢true h), λ whole. absurd (false≢true (sym c.if-not-cuts.true ∙ c.cuts.ensures.1 whole.0)))

pub returns-else-below-clause-cut : goal.returns-else-below-clause-cut
returns-else-below-clause-cut t c =
    rw (← c.frag.view_is, c.in-Cut.is)
    (left_uncut c.args.lo.now c.args.hi.now c.in-Cut.axis c.from-at.result c.in-Cut.value c.in-Cut.left.value c.in-Cut.right.value c.all_cut-below.result c.from-at.ensures c.if-below.false (rw c.deref.ensures at c.all_cut-below.ensures.cut))

pub bounds-hi-at : goal.bounds-hi-at
bounds-hi-at t c = in_hi _ _ _ _ _ c.from-at.ensures c.requires (c.cuts.ensures.0 c.if-not-cuts.false)

pub bounds-hi-at-in-Cut : goal.bounds-hi-at-in-Cut
bounds-hi-at-in-Cut t c = in_hi _ _ _ _ _ c.from-at.ensures c.requires (c.cuts.ensures.0 c.if-not-cuts.false)

pub bounds-hi-at-in-Cut-2 : goal.bounds-hi-at-in-Cut-2
bounds-hi-at-in-Cut-2 t c = in_changed _ _ _ _ c.all_cut-below.ensures.hi (in_hi _ _ _ _ _ c.from-at.ensures c.requires (c.cuts.ensures.0 c.if-not-cuts.false))

pub bounds-lo-at : goal.bounds-lo-at
bounds-lo-at t c = subst (λ (l : List ℕ). c.from-at.result < length l) (sym c.all_cut-below.ensures.lo) (in_lo _ _ _ _ _ c.from-at.ensures (c.cuts.ensures.0 c.if-not-cuts.false))

pub bounds-lo-at-in-Cut : goal.bounds-lo-at-in-Cut
bounds-lo-at-in-Cut t c = subst (λ (l : List ℕ). c.from-at.result < length l) (sym c.all_cut-below.ensures.lo) (in_lo _ _ _ _ _ c.from-at.ensures (c.cuts.ensures.0 c.if-not-cuts.false))

pub bounds-lo-at-in-Cut-2 : goal.bounds-lo-at-in-Cut-2
bounds-lo-at-in-Cut-2 t c = in_changed _ _ _ _ c.all_cut-from.ensures.lo (subst (λ (l : List ℕ). c.from-at.result < length l) (sym c.all_cut-below.ensures.lo) (in_lo _ _ _ _ _ c.from-at.ensures (c.cuts.ensures.0 c.if-not-cuts.false)))
