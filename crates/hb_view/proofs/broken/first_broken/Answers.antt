use Rattle.std.proofs.Common.{refl, sym, ◌∙◌, inl, inr}
use Rattle.std.proofs.lemmas.Bool.{false≢true}
use Rattle.hb_view.specs.Seen.{area_seen}
use Rattle.hb_view.proofs.broken.first_broken.Goals as goal

-- it keeps the rules before the one that it breaks
pub returns-then-not-is_filled_right-clause-none : goal.returns-then-not-is_filled_right-clause-none
returns-then-not-is_filled_right-clause-none c = (
  λ some. absurd (false≢true (sym some)),
  λ whole. absurd (false≢true (sym c.if-not-is_filled_right.true ∙ (c.is_filled_right.ensures (area_seen c.args.inside.now)).1 whole.filled)),
)

pub returns-then-not-is_filled_right-clause-first : goal.returns-then-not-is_filled_right-clause-first
returns-then-not-is_filled_right-clause-first c =
    let cut = c.is_cut.ensures.0 c.if-not-is_cut.false in
    inr (inr (inl (
      refl,
      record { level = c.if-level-limits.false; attributes = sym c.requires.same ∙ c.if-inside-limits.false },
      cut,
      λ filled. false≢true (sym c.if-not-is_filled_right.true ∙ (c.is_filled_right.ensures (area_seen c.args.inside.now)).1 filled),
    )))

pub returns-then-not-is_in_order-clause-first : goal.returns-then-not-is_in_order-clause-first
returns-then-not-is_in_order-clause-first c =
    let cut = c.is_cut.ensures.0 c.if-not-is_cut.false in
    let filled = (c.is_filled_right.ensures (area_seen c.args.inside.now)).0 c.if-not-is_filled_right.false in
    inr (inr (inr (inl (refl, record { level = c.if-level-limits.false; attributes = sym c.requires.same ∙ c.if-inside-limits.false }, cut, filled, λ order. false≢true (sym c.if-not-is_in_order.true ∙ c.is_in_order.ensures.1 order)))))

pub returns-then-not-is_normal-clause-first : goal.returns-then-not-is_normal-clause-first
returns-then-not-is_normal-clause-first c =
    let cut = c.is_cut.ensures.0 c.if-not-is_cut.false in
    let filled = (c.is_filled_right.ensures (area_seen c.args.inside.now)).0 c.if-not-is_filled_right.false in
    let order = c.is_in_order.ensures.0 c.if-not-is_in_order.false in
    inr (inr (inr (inr (refl, record { level = c.if-level-limits.false; attributes = sym c.requires.same ∙ c.if-inside-limits.false }, cut, filled, order, λ normal. false≢true (sym c.if-not-is_normal.true ∙ c.is_normal.ensures.1 normal)))))

pub returns-clause-none : goal.returns-clause-none
returns-clause-none c = (
  λ _. record {
    fits = record { level = c.if-level-limits.false; attributes = sym c.requires.same ∙ c.if-inside-limits.false };
    well_cut = c.is_cut.ensures.0 c.if-not-is_cut.false;
    filled = (c.is_filled_right.ensures (area_seen c.args.inside.now)).0 c.if-not-is_filled_right.false;
    in_order = c.is_in_order.ensures.0 c.if-not-is_in_order.false;
    normal = c.is_normal.ensures.0 c.if-not-is_normal.false;
  },
  λ _. refl,
)
