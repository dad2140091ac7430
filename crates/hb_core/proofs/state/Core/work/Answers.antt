use Rattle.std.proofs.Common.{ℕ, List, inl, inr, refl, sym, ap, subst, ◌∙◌}
use Rattle.hb_core.specs.Pinning.{CanUnpin}
use Rattle.hb_core.proofs.Running.Holds.{may_give_up}
use Rattle.hb_disk.specs.Calls.{ReadsOnly}
use Rattle.hb_core.specs.declared.halts.Halt.{Halt}
use Rattle.hb_core.specs.CoreSeen.{core_seen, core_disk}
use Rattle.hb_core.specs.Touching.{IsReadHalt, Touches}
use Rattle.hb_core.specs.Working.{Halts, IsStop}
use Rattle.hb_core.specs.Showing.{RunningCore}
use Rattle.hb_steps.proofs.Machines.PlacesLeft.{always_flushes}
use Rattle.hb_steps.proofs.Facts.GivenUpLaws.{gives_up_nothing}
use Rattle.hb_core.proofs.Running.Counted.{deed_stays, deed_store, no_op_still, part_then, stays_part}
use Rattle.hb_core.proofs.Running.WorkDone.{asks, blocked, given_up, holds_line, holds_pages, looks_now, may_work, stopped, unready, wants, way_free, works_now, works_too}
use Rattle.hb_core.proofs.Running.WorkTouches.{done_touches, given_up_touches, row_well, stopped_touches}
use Rattle.hb_core.proofs.Running.OwnPins.{walk_there}
use Rattle.hb_core.proofs.state.Core.work.Goals as goal

pub aim-aim-requires : goal.aim-aim-requires
aim-aim-requires g c = record {
  actor = c.requires.actor;
  working = works_now (g.D.Device.model (core_disk c.args.self.now)) (core_seen c.args.self.now) c.requires.may.0 c.args.actor c.requires.actor c.requires.may.1 c.requires.may.3;
  look = looks_now (g.D.Device.model (core_disk c.args.self.now)) (core_seen c.args.self.now) c.requires.may.0 c.args.actor c.requires.actor c.requires.may.1;
}

pub returns-in-Some-clause-works : goal.returns-in-Some-clause-works
returns-in-Some-clause-works g c m step runs works =
    blocked (g.D.Device.model (core_disk c.args.self.now)) (core_seen c.args.self.now) m c.args.actor c.requires.actor step c.aim-aim.result.wanted c.in-Some.by (wants (g.D.Device.model (core_disk c.args.self.now)) (core_seen c.args.self.now) m c.args.actor c.requires.actor step c.aim-aim.result c.aim-aim.ensures) c.in-Some.ensures.least

pub flush-requires-clause-may : goal.flush-requires-clause-may
flush-requires-clause-may g c = (c.requires.may.0, c.requires.may.1, c.requires.may.2)

pub returns-then-is_unready-clause-works : goal.returns-then-is_unready-clause-works
returns-then-is_unready-clause-works g c m step runs works =
    let done = c.flush.ensures.steps m step runs in
    let is_unready = unready (g.D.Device.model (core_disk c.args.self.now)) (core_seen c.args.self.now) m c.args.actor c.requires.actor step c.aim-aim.result c.aim-aim.ensures c.is_unready.result c.is_unready.ensures c.if-is_unready.true in (
      done.0,
      inr (inl (
        way_free (g.D.Device.model (core_disk c.args.self.now)) (core_seen c.args.self.now) m c.args.actor c.requires.actor step c.aim-aim.result.wanted (wants (g.D.Device.model (core_disk c.args.self.now)) (core_seen c.args.self.now) m c.args.actor c.requires.actor step c.aim-aim.result c.aim-aim.ensures) (c.in_the_way.ensures.free c.in_default.is),
        is_unready,
        always_flushes m c.args.actor c.flush.result done.0 step.goes_on.kept is_unready done.1,
      )),
      done.2,
    )

pub do_row-requires-clause-row : goal.do_row-requires-clause-row
do_row-requires-clause-row g c =
    let m = c.requires.may.0 in
    let step = c.requires.may.1 in
    let runs = c.requires.may.2 in
    let works = c.requires.may.3 in
    record {
      actor = c.requires.actor;
      may = (m, step, may_work (g.D.Device.model (core_disk c.args.self.now)) (core_seen c.args.self.now) m c.args.actor c.requires.actor step c.aim-aim.result c.aim-aim.ensures c.is_unready.result c.is_unready.ensures runs works (c.in_the_way.ensures.free c.in_default.is) c.if-is_unready.false);
      wanted = λ n its. wants (g.D.Device.model (core_disk c.args.self.now)) (core_seen c.args.self.now) n c.args.actor c.requires.actor its c.aim-aim.result c.aim-aim.ensures;
      asked = λ n its. asks (g.D.Device.model (core_disk c.args.self.now)) (core_seen c.args.self.now) n c.args.actor c.requires.actor its c.aim-aim.result c.aim-aim.ensures;
    }

pub held_pages-pins-requires-clause-walks : goal.held_pages-pins-requires-clause-walks
held_pages-pins-requires-clause-walks g c = walk_there (g.D.Device.model (core_disk c.args.self.now)) (core_seen c.args.self.now) c.requires.may.0 c.args.actor c.requires.actor c.requires.may.1

pub do_row-requires-clause-pins : goal.do_row-requires-clause-pins
do_row-requires-clause-pins g c m step = c.as_slice.ensures.value ∙ holds_pages (g.D.Device.model (core_disk c.args.self.now)) (core_seen c.args.self.now) m c.args.actor c.requires.actor step c.held_pages-pins.result.items c.held_pages-pins.ensures

pub give_up-requires-clause-pins : goal.give_up-requires-clause-pins
give_up-requires-clause-pins g c =
    let m = c.requires.may.0 in
    let step = c.requires.may.1 in
    let runs = c.requires.may.2 in
    let works = c.requires.may.3 in
    let work = may_work (g.D.Device.model (core_disk c.args.self.now)) (core_seen c.args.self.now) m c.args.actor c.requires.actor step c.aim-aim.result c.aim-aim.ensures c.is_unready.result c.is_unready.ensures runs works (c.in_the_way.ensures.free c.in_default.is) c.if-is_unready.false in
    let halts = c.in-Err-GivesUp.ensures.halts m step work in
    subst (λ (l : List ℕ). CanUnpin l (core_seen c.do_row.new.self).uses) (sym (c.as_slice-in-Err-GivesUp.ensures.value ∙ holds_pages (g.D.Device.model (core_disk c.args.self.now)) (core_seen c.args.self.now) m c.args.actor c.requires.actor step c.held_pages-pins.result.items c.held_pages-pins.ensures))
    (may_give_up m c.args.actor (core_seen c.do_row.new.self).store (core_seen c.do_row.new.self).uses c.requires.actor work.goes_on.kept halts.tied halts.used_is)

pub give_up-requires-clause-tied : goal.give_up-requires-clause-tied
give_up-requires-clause-tied g c =
    let m = c.requires.may.0 in
    let step = c.requires.may.1 in
    let runs = c.requires.may.2 in
    let works = c.requires.may.3 in
    (c.in-Err-GivesUp.ensures.halts m step (may_work (g.D.Device.model (core_disk c.args.self.now)) (core_seen c.args.self.now) m c.args.actor c.requires.actor step c.aim-aim.result c.aim-aim.ensures c.is_unready.result c.is_unready.ensures runs works (c.in_the_way.ensures.free c.in_default.is) c.if-is_unready.false)).tied

pub do_row-requires-clause-line : goal.do_row-requires-clause-line
do_row-requires-clause-line g c m step =
    holds_line (g.D.Device.model (core_disk c.args.self.now)) (core_seen c.args.self.now) m c.args.actor c.requires.actor step c.line_in_hand-line.result (works_too (g.D.Device.model (core_disk c.args.self.now)) (core_seen c.args.self.now) m c.requires.may.0 c.args.actor c.requires.actor step c.requires.may.1 c.requires.may.3) c.line_in_hand-line.ensures

pub returns-in-Ok-clause-works : goal.returns-in-Ok-clause-works
returns-in-Ok-clause-works g c m step runs works =
    let work = may_work (g.D.Device.model (core_disk c.args.self.now)) (core_seen c.args.self.now) m c.args.actor c.requires.actor step c.aim-aim.result c.aim-aim.ensures c.is_unready.result c.is_unready.ensures runs works (c.in_the_way.ensures.free c.in_default.is) c.if-is_unready.false in
    let done = c.in-Ok.ensures.done m step work in
    (done.0, inr (inr (work.free, work.ready, inl done.1)), done.2)

pub returns-in-Ok-clause-touches : goal.returns-in-Ok-clause-touches
returns-in-Ok-clause-touches g c =
    let m = c.requires.may.0 in
    let step = c.requires.may.1 in
    let runs = c.requires.may.2 in
    let works = c.requires.may.3 in
    let done = c.in-Ok.ensures.done m step (may_work (g.D.Device.model (core_disk c.args.self.now)) (core_seen c.args.self.now) m c.args.actor c.requires.actor step c.aim-aim.result c.aim-aim.ensures c.is_unready.result c.is_unready.ensures runs works (c.in_the_way.ensures.free c.in_default.is) c.if-is_unready.false) in
    done_touches (g.D.Device.model (core_disk c.args.self.now)) (g.D.Device.model (core_disk c.do_row.new.self)) (core_seen c.args.self.now) (core_seen c.do_row.new.self) c.in-Ok.outcome (λ never. never) (row_well m c.args.actor c.in-Ok.outcome done.0 done.1) c.in-Ok.ensures.reads

pub returns-in-Err-GivesUp-clause-works : goal.returns-in-Err-GivesUp-clause-works
returns-in-Err-GivesUp-clause-works g c m step runs works =
    let work = may_work (g.D.Device.model (core_disk c.args.self.now)) (core_seen c.args.self.now) m c.args.actor c.requires.actor step c.aim-aim.result c.aim-aim.ensures c.is_unready.result c.is_unready.ensures runs works (c.in_the_way.ensures.free c.in_default.is) c.if-is_unready.false in
    given_up g.D.Device.model (core_disk c.do_row.new.self) (core_disk c.give_up.new.self) (core_seen c.do_row.new.self) (core_seen c.give_up.new.self) m c.args.actor c.requires.actor work c.give_up.ensures.disk
    c.in-Err-GivesUp.why c.line_in_hand-line.result c.as_slice-in-Err-GivesUp.result.now c.give_up.result
    (subst (λ (h : Halt). Halts m c.args.actor h (g.D.Device.model (core_disk c.do_row.new.self)) (core_seen c.do_row.new.self)) c.in-Err-GivesUp.field-0-is (c.in-Err-GivesUp.ensures.halts m step work))
    (holds_line (g.D.Device.model (core_disk c.args.self.now)) (core_seen c.args.self.now) m c.args.actor c.requires.actor step c.line_in_hand-line.result works c.line_in_hand-line.ensures)
    (c.as_slice-in-Err-GivesUp.ensures.value ∙ holds_pages (g.D.Device.model (core_disk c.args.self.now)) (core_seen c.args.self.now) m c.args.actor c.requires.actor step c.held_pages-pins.result.items c.held_pages-pins.ensures) c.give_up.ensures.does

pub returns-in-Err-GivesUp-clause-touches : goal.returns-in-Err-GivesUp-clause-touches
returns-in-Err-GivesUp-clause-touches g c =
    let m = c.requires.may.0 in
    let step = c.requires.may.1 in
    let runs = c.requires.may.2 in
    let works = c.requires.may.3 in
    subst (λ (k : _). Touches (g.D.Device.model (core_disk c.args.self.now)) (core_seen c.args.self.now) c.give_up.result (g.D.Device.model k) (core_seen c.give_up.new.self)) (sym c.give_up.ensures.disk)
    (given_up_touches (g.D.Device.model (core_disk c.args.self.now)) (g.D.Device.model (core_disk c.do_row.new.self)) (core_seen c.args.self.now) (core_seen c.give_up.new.self) c.give_up.result c.in-Err-GivesUp.why (m.activity c.args.actor) works
    (c.give_up.ensures.does (m.activity c.args.actor) works (step.goes_on.kept.classes c.args.actor) (holds_line (g.D.Device.model (core_disk c.args.self.now)) (core_seen c.args.self.now) m c.args.actor c.requires.actor step c.line_in_hand-line.result works c.line_in_hand-line.ensures)).says
    (subst (λ (h : Halt). ReadsOnly (IsReadHalt h) (g.D.Device.model (core_disk c.args.self.now)) (g.D.Device.model (core_disk c.do_row.new.self))) c.in-Err-GivesUp.field-0-is c.in-Err-GivesUp.ensures.reads))

pub returns-in-Err-Stops-clause-works : goal.returns-in-Err-Stops-clause-works
returns-in-Err-Stops-clause-works g c m step runs works =
    let work = may_work (g.D.Device.model (core_disk c.args.self.now)) (core_seen c.args.self.now) m c.args.actor c.requires.actor step c.aim-aim.result c.aim-aim.ensures c.is_unready.result c.is_unready.ensures runs works (c.in_the_way.ensures.free c.in_default.is) c.if-is_unready.false in
    stopped g.D.Device.model (core_disk c.do_row.new.self) (core_disk c.stop_for.new.self) (core_seen c.do_row.new.self) (core_seen c.stop_for.new.self) m c.args.actor c.requires.actor work c.stop_for.ensures.stops.disk
    c.in-Err-Stops.why (core_seen c.args.self.now) c.stop_for.result
    (subst (λ (h : Halt). Halts m c.args.actor h (g.D.Device.model (core_disk c.do_row.new.self)) (core_seen c.do_row.new.self)) c.in-Err-Stops.field-0-is (c.in-Err-Stops.ensures.halts m step work))
    (step.shows.activities c.args.actor c.requires.actor) (c.in-Err-Stops.ensures.intact (subst IsStop (sym c.in-Err-Stops.field-0-is) tt)) c.stop_for.ensures.says c.stop_for.ensures.stops.does

pub returns-in-Err-Stops-clause-touches : goal.returns-in-Err-Stops-clause-touches
returns-in-Err-Stops-clause-touches g c =
    let m = c.requires.may.0 in
    let step = c.requires.may.1 in
    let runs = c.requires.may.2 in
    let works = c.requires.may.3 in
    let work = may_work (g.D.Device.model (core_disk c.args.self.now)) (core_seen c.args.self.now) m c.args.actor c.requires.actor step c.aim-aim.result c.aim-aim.ensures c.is_unready.result c.is_unready.ensures runs works (c.in_the_way.ensures.free c.in_default.is) c.if-is_unready.false in
    let halts = subst (λ (h : Halt). Halts m c.args.actor h (g.D.Device.model (core_disk c.do_row.new.self)) (core_seen c.do_row.new.self)) c.in-Err-Stops.field-0-is (c.in-Err-Stops.ensures.halts m step work) in
    subst (λ (k : _). Touches (g.D.Device.model (core_disk c.args.self.now)) (core_seen c.args.self.now) c.stop_for.result (g.D.Device.model k) (core_seen c.stop_for.new.self)) (sym c.stop_for.ensures.stops.disk)
    (stopped_touches (g.D.Device.model (core_disk c.args.self.now)) (g.D.Device.model (core_disk c.do_row.new.self)) (core_seen c.args.self.now) (core_seen c.stop_for.new.self) c.stop_for.result m c.args.actor (core_seen c.do_row.new.self).store c.in-Err-Stops.why halts.cause c.stop_for.ensures.says
    (subst (λ (h : Halt). ReadsOnly (IsReadHalt h) (g.D.Device.model (core_disk c.args.self.now)) (g.D.Device.model (core_disk c.do_row.new.self))) c.in-Err-Stops.field-0-is c.in-Err-Stops.ensures.reads))

pub returns-in-Some-clause-counts : goal.returns-in-Some-clause-counts
returns-in-Some-clause-counts g c = record { taken = refl; done = inl (no_op_still (core_seen c.args.self.now).store, refl) }

pub returns-then-is_unready-clause-counts : goal.returns-then-is_unready-clause-counts
returns-then-is_unready-clause-counts g c = stays_part c.args.actor (core_seen c.args.self.now) (core_seen c.flush.new.self) c.flush.ensures.counts

pub returns-in-Err-GivesUp-clause-counts : goal.returns-in-Err-GivesUp-clause-counts
returns-in-Err-GivesUp-clause-counts g c =
    let m = c.requires.may.0 in
    let step = c.requires.may.1 in
    let works = c.requires.may.3 in
    let does = c.give_up.ensures.does (m.activity c.args.actor) works (step.goes_on.kept.classes c.args.actor) (holds_line (g.D.Device.model (core_disk c.args.self.now)) (core_seen c.args.self.now) m c.args.actor c.requires.actor step c.line_in_hand-line.result works c.line_in_hand-line.ensures) in
    let stays = deed_stays c.args.actor c.as_slice-in-Err-GivesUp.result.now _ c.give_up.result (core_seen c.do_row.new.self) (core_seen c.give_up.new.self) (gives_up_nothing c.in-Err-GivesUp.why (m.activity c.args.actor)) does in
    part_then c.args.actor (core_seen c.args.self.now) (core_seen c.do_row.new.self) (core_seen c.give_up.new.self) c.in-Err-GivesUp.ensures.counts
    (deed_store c.args.actor c.as_slice-in-Err-GivesUp.result.now _ c.give_up.result (core_seen c.do_row.new.self) (core_seen c.give_up.new.self) (gives_up_nothing c.in-Err-GivesUp.why (m.activity c.args.actor)) does)
    stays.stay.taken stays.stay.done

pub returns-in-Err-Stops-clause-counts : goal.returns-in-Err-Stops-clause-counts
returns-in-Err-Stops-clause-counts g c =
    part_then c.args.actor (core_seen c.args.self.now) (core_seen c.do_row.new.self) (core_seen c.stop_for.new.self) c.in-Err-Stops.ensures.counts
    (ap (λ (s : RunningCore). s.store) c.stop_for.ensures.stops.does) (ap (λ (s : RunningCore). s.taken) c.stop_for.ensures.stops.does) (ap (λ (s : RunningCore). s.done) c.stop_for.ensures.stops.does)

pub returns-in-Ok-clause-counts : goal.returns-in-Ok-clause-counts
returns-in-Ok-clause-counts g c = c.in-Ok.ensures.counts
