use Rattle.std.proofs.Common.{◌∙◌, ap}
use Rattle.std.specs.List.{position_or_len}
use Rattle.hb_pool.specs.Slots.{is_page}
use Rattle.hb_pool.proofs.Facts.Front.{stands_behind, stands_in_front, stands_nowhere, counted_as}
use Rattle.hb_pool.proofs.order.Order.search.Goals as goal

pub returns-then-self-place : goal.returns-then-self-place
returns-then-self-place c =
    stands_behind c.args.id c.self.inside.gone c.self.inside.pages.entries c.in-Some.place c.get_index_of.ensures.unique c.in-Some.ensures.index c.if-self-place.true
    ∙ ap (position_or_len (is_page c.args.id)) c.self.view_is

pub returns-else-self-place : goal.returns-else-self-place
returns-else-self-place c =
    counted_as c.args.id _ _ c.ids-count.result.now c.self.view_is c.ids-count.ensures.value
    (stands_in_front c.args.id c.self.inside.gone c.self.inside.pages.entries c.in-Some.place c.get_index_of.ensures.unique c.in-Some.ensures.index c.if-self-place.false)

pub returns-in-None : goal.returns-in-None
returns-in-None c =
    counted_as c.args.id _ _ c.ids-count.result.now c.self.view_is c.ids-count.ensures.value
    (stands_nowhere c.args.id c.self.inside.gone c.self.inside.pages.entries c.in-None.ensures.index)
