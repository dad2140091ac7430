use Rattle.hb_core.specs.CoreSeen.{core_seen}
use Rattle.std.proofs.Common.{◌∙◌}
use Rattle.hb_core.proofs.Running.Deeds.{can_then, performed}
use Rattle.hb_core.proofs.state.Core.perform.Goals as goal

pub returns-clause-does : goal.returns-clause-does
returns-clause-does g c = λ state hand.
    let at_end = c.len-place.ensures ∙ c.args.self.now.order.ok.0 in
    performed c.args.actor c.len-place.result c.args.pins.now c.args.line c.joins-joins.result c.args.next c.at_place.result c.outcome_of.result c.counts_with-done.result (core_seen c.args.self.now) (core_seen c.commit.new.self) (core_seen c.add_all.new.self) (core_seen c.stand_with.new.self) (core_seen c.join.new.self) (core_seen c.count.new.self) state
    hand at_end c.at_place.ensures c.joins-joins.ensures c.outcome_of.ensures c.in-Ok.ensures.done c.in-Ok.ensures.uses c.in-Ok.ensures.stays c.stands_well.ensures.tied
    c.commit.ensures.rest.does c.add_all.ensures.does.adds c.add_all.ensures.does.rest
    (can_then c.len-place.result c.args.pins.now c.args.next c.at_place.result (core_seen c.args.self.now) (core_seen c.commit.new.self) c.requires.hold at_end c.at_place.ensures c.in-Ok.ensures.done c.in-Ok.ensures.uses c.stands_well.ensures.tied)
    c.stand_with.ensures.does c.join.ensures.does c.counts_with-done.ensures c.count.ensures.does
