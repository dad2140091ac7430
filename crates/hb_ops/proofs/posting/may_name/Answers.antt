use Rattle.std.proofs.Common.{sym, ◌∙◌}
use Rattle.std.proofs.lemmas.Bool.{false≢true}
use Rattle.hb_space.specs.Boxes.{Meets}
use Rattle.hb_ops.proofs.PostTests.{leaf_attributes, with_room, light_above, not_itself, not_apart}
use Rattle.hb_ops.proofs.posting.may_name.Goals as goal

pub meets-requires : goal.meets-requires
meets-requires c = leaf_attributes c.args.meta.now c.args.page.now c.args.posting.at.now c.args.posting.inner c.args.posting.area.now c.args.outer c.args.leaf.now c.requires.leaf c.requires.made ∙ sym c.requires.attributes

pub returns : goal.returns
returns c =
    let page = c.args.page.now in
    let meta = c.args.meta.now in
    let law = c.a_carved_leaf_joins_others_only_whole.ensures.room c.args.posting.at.now page.frag page.area c.args.leaf.now c.args.posting.area.now c.args.outer c.args.posting.inner meta.icap c.requires.made.normal c.requires.leaf (λ e. c.if-outer-inner.false (sym e)) (light_above meta page c.requires.made c.requires.above) in
    let room = c.has_room.ensures c.args.outer c.args.posting.inner in
    let fits = with_room meta page c.args.posting.at.now c.args.posting.inner c.args.posting.area.now c.args.outer c.args.leaf.now c.requires.leaf law c.requires.made c.requires.above c.if-outer-inner.false (c.meets.ensures.overlap.0 c.if-not-meets.false) in
    (λ yes. fits.0 (room.0 yes), λ h. room.1 (fits.1 h))

pub returns-then-outer-inner : goal.returns-then-outer-inner
returns-then-outer-inner c =
    let never = not_itself c.args.meta.now c.args.page.now c.args.posting.at.now c.args.posting.inner c.args.posting.area.now c.args.outer c.args.leaf.now c.requires.leaf c.if-outer-inner.true in
    (λ h. absurd (false≢true h), λ fits. absurd (never fits))

pub returns-then-not-meets : goal.returns-then-not-meets
returns-then-not-meets c =
    let apart : ¬ (Meets c.args.leaf.now c.args.posting.area.now) = λ m. false≢true (sym c.if-not-meets.true ∙ c.meets.ensures.overlap.1 m) in
    (λ h. absurd (false≢true h), λ fits. absurd (not_apart c.args.meta.now c.args.page.now c.args.posting.at.now c.args.posting.inner c.args.posting.area.now c.args.outer c.args.leaf.now c.requires.leaf apart fits))

pub has_room-requires-clause-meets : goal.has_room-requires-clause-meets
has_room-requires-clause-meets c = c.meets.ensures.overlap.0 c.if-not-meets.false

pub has_room-requires-clause-attributes : goal.has_room-requires-clause-attributes
has_room-requires-clause-attributes c =
    c.requires.attributes ∙ sym (leaf_attributes c.args.meta.now c.args.page.now c.args.posting.at.now c.args.posting.inner c.args.posting.area.now c.args.outer c.args.leaf.now c.requires.leaf c.requires.made)

pub has_room-requires-clause-light : goal.has_room-requires-clause-light
has_room-requires-clause-light c = light_above c.args.meta.now c.args.page.now c.requires.made c.requires.above
