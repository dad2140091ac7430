use Rattle.std.proofs.Common.{◌∷◌, ◌++◌, [], ℕ, List, length, ap, ◌∙◌, arith}
use Rattle.std.specs.Set.{remove_key}
use Rattle.hb_pool.specs.Frames.{Frame, may_go}
use Rattle.hb_pool.specs.Slots.{entry_of, frames_in}
use Rattle.hb_pool.proofs.Facts.Leaving.{numbers_there, first_that_goes, leaver, leaver_within, slot_within, absent_then, fewer_then, frames_replaced, slots_replaced}
use Rattle.hb_pool.proofs.pools.replace_first.Goals as goal

pub first_to_go-first-requires : goal.first_to_go-first-requires
first_to_go-first-requires c = numbers_there c.args.order.now c.args.slots.now.items c.deref.result.now c.slots.result.now c.requires.each c.deref.ensures.value c.slots.ensures

pub let_go-place-requires : goal.let_go-place-requires
let_go-place-requires c =
    leaver_within c.args.order.now c.args.slots.now.items c.first_to_go-first.result
    (first_that_goes c.args.order.now c.args.slots.now.items c.deref.result.now c.slots.result.now c.first_to_go-first.result c.deref.ensures.value c.slots.ensures c.first_to_go-first.ensures) c.requires.there

pub index_mut-requires : goal.index_mut-requires
index_mut-requires c =
    let at = first_that_goes c.args.order.now c.args.slots.now.items c.deref.result.now c.slots.result.now c.first_to_go-first.result c.deref.ensures.value c.slots.ensures c.first_to_go-first.ensures in
    let leaves = leaver c.args.order.now c.args.slots.now.items c.first_to_go-first.result c.let_go-place.result at c.requires.there c.let_go-place.ensures.slot in
    let lt = slot_within _ _ _ _ leaves c.requires.each in
    omega (arith, lt, c.args.slots.now.ok.0)

pub insert-requires-clause-absent : goal.insert-requires-clause-absent
insert-requires-clause-absent c =
    let at = first_that_goes c.args.order.now c.args.slots.now.items c.deref.result.now c.slots.result.now c.first_to_go-first.result c.deref.ensures.value c.slots.ensures c.first_to_go-first.ensures in
    let leaves = leaver c.args.order.now c.args.slots.now.items c.first_to_go-first.result c.let_go-place.result at c.requires.there c.let_go-place.ensures.slot in
    ap (λ (o : List (ℕ × ℕ)). entry_of o c.args.id) c.let_go-place.ensures.left ∙ absent_then _ _ _ _ leaves c.args.id c.requires.absent

pub insert-requires-clause-few : goal.insert-requires-clause-few
insert-requires-clause-few c =
    let at = first_that_goes c.args.order.now c.args.slots.now.items c.deref.result.now c.slots.result.now c.first_to_go-first.result c.deref.ensures.value c.slots.ensures c.first_to_go-first.ensures in
    let leaves = leaver c.args.order.now c.args.slots.now.items c.first_to_go-first.result c.let_go-place.result at c.requires.there c.let_go-place.ensures.slot in
    let fewer = fewer_then _ _ _ _ leaves in
    let same = ap length c.let_go-place.ensures.left in
    omega (arith, fewer, same, c.requires.few)

pub returns-clause-frames : goal.returns-clause-frames
returns-clause-frames c =
    let at = first_that_goes c.args.order.now c.args.slots.now.items c.deref.result.now c.slots.result.now c.first_to_go-first.result c.deref.ensures.value c.slots.ensures c.first_to_go-first.ensures in
    let leaves = leaver c.args.order.now c.args.slots.now.items c.first_to_go-first.result c.let_go-place.result at c.requires.there c.let_go-place.ensures.slot in
    frames_replaced _ _ _ _ leaves c.args.id c.take_in.new.self c.insert.new.self c.requires.each (c.insert.ensures ∙ ap (λ (o : List (ℕ × ℕ)). o ++ (c.args.id, c.let_go-place.result) ∷ []) c.let_go-place.ensures.left)
    ∙ ap (λ (f : Frame (List ℕ)). remove_key may_go (frames_in c.args.order.now c.args.slots.now.items) ++ f ∷ []) (c.take_in.ensures c.args.id)

pub returns-clause-each : goal.returns-clause-each
returns-clause-each c =
    let at = first_that_goes c.args.order.now c.args.slots.now.items c.deref.result.now c.slots.result.now c.first_to_go-first.result c.deref.ensures.value c.slots.ensures c.first_to_go-first.ensures in
    let leaves = leaver c.args.order.now c.args.slots.now.items c.first_to_go-first.result c.let_go-place.result at c.requires.there c.let_go-place.ensures.slot in
    slots_replaced _ _ _ _ leaves c.args.id c.take_in.new.self c.insert.new.self c.requires.each (c.insert.ensures ∙ ap (λ (o : List (ℕ × ℕ)). o ++ (c.args.id, c.let_go-place.result) ∷ []) c.let_go-place.ensures.left)
