use Rattle.std.proofs.Common.{◌≡◌, ◌∙◌, ◌<◌, arith, sym}
use Rattle.std.proofs.lemmas.Bool.{false≢true}
use Rattle.std.proofs.lemmas.Result.{err_from_is_err_and}
use Rattle.hb_store.specs.Forced.{done}
use Rattle.hb_store.specs.Seen.{held_by}
use Rattle.hb_store.proofs.Flushes.{due_home, due_switch, flushes_none, flushes_oldest, flushes_switch}
use Rattle.hb_store.proofs.store.Store.flush_step.Goals as goal

-- groups wait
pub returns-then-not-is_idle-clause-which : goal.returns-then-not-is_idle-clause-which
returns-then-not-is_idle-clause-which g c = λ none. false≢true (sym c.if-not-is_idle.true ∙ c.is_idle.ensures.1 none)

pub returns-then-not-is_idle-clause-forces : goal.returns-then-not-is_idle-clause-forces
returns-then-not-is_idle-clause-forces g c = λ some. (
  c.in_ok-force.ensures.writes,
  c.in_ok-force.ensures.uses,
)

pub returns-then-not-is_idle-clause-cleans : goal.returns-then-not-is_idle-clause-cleans
returns-then-not-is_idle-clause-cleans g c = λ none. absurd (false≢true (sym c.if-not-is_idle.true ∙ c.is_idle.ensures.1 none))

pub returns-in_err-force-clause-which : goal.returns-in_err-force-clause-which
returns-in_err-force-clause-which g c =
    let p = err_from_is_err_and c.from_residual.result c.from_residual.ensures.1 in
    rw (p.1) tt

pub returns-in_err-force-clause-forces : goal.returns-in_err-force-clause-forces
returns-in_err-force-clause-forces g c =
    let p = err_from_is_err_and c.from_residual.result c.from_residual.ensures.1 in
    λ some. (
      rw (p.1, p.2) c.in_err-force.ensures.writes,
      c.in_err-force.ensures.uses,
    )

pub returns-in_err-force-clause-cleans : goal.returns-in_err-force-clause-cleans
returns-in_err-force-clause-cleans g c = λ none. absurd (false≢true (sym c.if-not-is_idle.true ∙ c.is_idle.ensures.1 none))

-- a page is dirty
pub returns-in-Some-clause-which : goal.returns-in-Some-clause-which
returns-in-Some-clause-which g c =
    due_home c.write_home.result (held_by c.args.self.now) c.in-Some.id (c.is_idle.ensures.0 c.if-not-is_idle.false) (sym c.in-Some.ensures.oldest) c.write_home.ensures.says

pub returns-in-Some-clause-forces : goal.returns-in-Some-clause-forces
returns-in-Some-clause-forces g c = λ some. absurd (some (c.is_idle.ensures.0 c.if-not-is_idle.false))

pub returns-in-Some-clause-cleans : goal.returns-in-Some-clause-cleans
returns-in-Some-clause-cleans g c = λ none.
    flushes_oldest (done c.write_home.result) (g.D.Device.model c.args.self.now.disk) (g.D.Device.model c.write_home.new.self.disk) (held_by c.args.self.now) (held_by c.write_home.new.self) c.in-Some.id
    (sym c.in-Some.ensures.oldest) c.write_home.ensures.writes

-- none is, and the log has a frame
pub returns-in-None-clause-which : goal.returns-in-None-clause-which
returns-in-None-clause-which g c =
    let some : 0 < c.args.self.now.memory.state.log.written = omega (arith, c.if-written-gt0.true, c.written.ensures) in
    due_switch c.switch.result (held_by c.args.self.now) (c.is_idle.ensures.0 c.if-not-is_idle.false) (sym c.in-None.ensures.oldest) some c.switch.ensures.says

pub returns-in-None-clause-forces : goal.returns-in-None-clause-forces
returns-in-None-clause-forces g c = λ some. absurd (some (c.is_idle.ensures.0 c.if-not-is_idle.false))

pub returns-in-None-clause-cleans : goal.returns-in-None-clause-cleans
returns-in-None-clause-cleans g c =
    let some : 0 < c.args.self.now.memory.state.log.written = omega (arith, c.if-written-gt0.true, c.written.ensures) in
    λ none.
    flushes_switch (done c.switch.result) (g.D.Device.model c.args.self.now.disk) (g.D.Device.model c.switch.new.self.disk) (held_by c.args.self.now) (held_by c.switch.new.self)
    (sym c.in-None.ensures.oldest) some c.switch.ensures.switches

-- the log has none either
pub returns-in-None-2-clause-which : goal.returns-in-None-2-clause-which
returns-in-None-2-clause-which g c = (
  c.is_idle.ensures.0 c.if-not-is_idle.false,
  sym c.in-None-2.ensures.oldest,
  omega (arith, c.if-written-gt0.false, c.written.ensures),
)

pub returns-in-None-2-clause-forces : goal.returns-in-None-2-clause-forces
returns-in-None-2-clause-forces g c = λ some. absurd (some (c.is_idle.ensures.0 c.if-not-is_idle.false))

pub returns-in-None-2-clause-cleans : goal.returns-in-None-2-clause-cleans
returns-in-None-2-clause-cleans g c =
    let empty : c.args.self.now.memory.state.log.written ≡ 0 = omega (arith, c.if-written-gt0.false, c.written.ensures) in
    λ none. flushes_none (g.D.Device.model c.args.self.now.disk) (held_by c.args.self.now) (sym c.in-None-2.ensures.oldest) empty
