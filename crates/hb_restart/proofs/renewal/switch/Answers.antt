use Rattle.std.proofs.Common.{◌≡◌, ℕ, Option, ap, is_err, subst, arith}
use Rattle.std.proofs.lemmas.Result.{on_ok_weaker}
use Rattle.hb_disk.proofs.Facts.FaultLaws.{not_failed}
use Rattle.hb_disk.proofs.Facts.RunLaws.{Leaves-weaker, Leaves-then}
use Rattle.hb_super.proofs.Facts.ClearLaws.{cleared_place}
use Rattle.hb_super.specs.Superblocks.{next_turn}
use Rattle.hb_frag.specs.declared.pages.Page.{Page}
use Rattle.hb_layout.specs.declared.meta.Meta.{Meta}
use Rattle.hb_layout.specs.Offsets.{page_offset}
use Rattle.hb_ops.specs.Files.{FileState}
use Rattle.hb_store.specs.Opening.{OpensTo}
use Rattle.hb_store.specs.Keeps.{IsFresh}
use Rattle.hb_store.specs.Turning.{StillOpens, IsPlaced, MayTurn, OpensByEither}
use Rattle.hb_store.proofs.Facts.Turned.{either_to, still_to}
use Rattle.hb_restart.proofs.Renewed.{cleared_may, cleared_moments}
use Rattle.hb_restart.proofs.RunsThen.{clear_synced, runs_clear, runs_given_up, runs_switch, runs_then}
use Rattle.hb_restart.proofs.renewal.switch.Goals as goal
use Rattle.hb_layout.proofs.Facts.Parts.{super_within}

pub returns-in_err-clear_hidden-clause-moments : goal.returns-in_err-clear_hidden-clause-moments
returns-in_err-clear_hidden-clause-moments g c = λ said touched s placed.
    let d = g.D.Device.model c.args.disk.now in
    let mid = g.D.Device.model c.clear_hidden.new.disk in
    let turn = c.args.turn in
    let next = c.turn_after-next.result in
    let meta = c.args.meta.now in
    let is_d = g.met.D.Device.is_disk c.args.disk.now in
    Leaves-weaker d mid (StillOpens turn said meta touched s) (λ x. OpensTo x s) (still_to turn said meta touched s)
    (cleared_moments turn next said meta c.requires.legal.turn_fits c.turn_after-next.ensures touched s d mid is_d (g.met.D.Device.is_disk c.clear_hidden.new.disk) placed
    (cleared_place next d mid c.clear_hidden.result is_d c.clear_hidden.ensures.did) (c.clear_hidden.ensures.moments turn said c.turn_after-next.ensures placed.here.places))

pub returns-clause-moments : goal.returns-clause-moments
returns-clause-moments g c = λ said touched s placed.
    let d = g.D.Device.model c.args.disk.now in
    let mid = g.D.Device.model c.clear_hidden.new.disk in
    let new = g.D.Device.model c.begin_turn.new.disk in
    let turn = c.args.turn in
    let next = c.turn_after-next.result in
    let meta = c.args.meta.now in
    let is_d = g.met.D.Device.is_disk c.args.disk.now in
    let is_mid = g.met.D.Device.is_disk c.clear_hidden.new.disk in
    let place = cleared_place next d mid c.clear_hidden.result is_d c.clear_hidden.ensures.did in
    let left = c.clear_hidden.ensures.moments turn said c.turn_after-next.ensures placed.here.places in
    let synced = clear_synced c.clear_hidden.result c.in_ok-clear_hidden.field-0 next 0 8192 d mid c.in_ok-clear_hidden.was c.clear_hidden.ensures.did placed.here.places in
    let may = cleared_may turn next said meta c.requires.legal.turn_fits c.turn_after-next.ensures touched s d mid is_d is_mid placed place left c.in_ok-clear_hidden.ensures.hidden synced in
    Leaves-then d mid new (λ x. OpensTo x s)
    (Leaves-weaker d mid (StillOpens turn said meta touched s) (λ x. OpensTo x s) (still_to turn said meta touched s)
    (cleared_moments turn next said meta c.requires.legal.turn_fits c.turn_after-next.ensures touched s d mid is_d is_mid placed place left))
    (Leaves-weaker mid new (OpensByEither turn said meta touched s) (λ x. OpensTo x s) (either_to turn said meta touched s)
    (c.begin_turn.ensures.moments turn said touched s c.turn_after-next.ensures may))

pub returns-clause-fresh : goal.returns-clause-fresh
returns-clause-fresh g c =
    let d = g.D.Device.model c.args.disk.now in
    let mid = g.D.Device.model c.clear_hidden.new.disk in
    let new = g.D.Device.model c.begin_turn.new.disk in
    let turn = c.args.turn in
    let next = c.turn_after-next.result in
    let meta = c.args.meta.now in
    let is_d = g.met.D.Device.is_disk c.args.disk.now in
    let is_mid = g.met.D.Device.is_disk c.clear_hidden.new.disk in
    let place = cleared_place next d mid c.clear_hidden.result is_d c.clear_hidden.ensures.did in
    on_ok_weaker {P = (before : ℕ) (said : Meta) (touched : ℕ → Option Page) (s : FileState) → next ≡ next_turn before → MayTurn mid before said meta touched s → IsFresh new next meta s} {Q = (said : Meta) (touched : ℕ → Option Page) (s : FileState) → IsPlaced d turn said meta touched s → IsFresh new (next_turn turn) meta s} c.begin_turn.result
    (λ fresh said touched s placed.
    let left = c.clear_hidden.ensures.moments turn said c.turn_after-next.ensures placed.here.places in
    let synced = clear_synced c.clear_hidden.result c.in_ok-clear_hidden.field-0 next 0 8192 d mid c.in_ok-clear_hidden.was c.clear_hidden.ensures.did placed.here.places in
    let may = cleared_may turn next said meta c.requires.legal.turn_fits c.turn_after-next.ensures touched s d mid is_d is_mid placed place left c.in_ok-clear_hidden.ensures.hidden synced in
    let F : ℕ → Type 0 = λ n. IsFresh new n meta s in
    subst F c.turn_after-next.ensures (fresh turn said touched s c.turn_after-next.ensures may))
    c.begin_turn.ensures.fresh

pub returns-in_err-clear_hidden-clause-run : goal.returns-in_err-clear_hidden-clause-run
returns-in_err-clear_hidden-clause-run g c =
    let n = page_offset c.args.meta.now 1 in
    let d = g.D.Device.model c.args.disk.now in
    let mid = g.D.Device.model c.clear_hidden.new.disk in
    runs_given_up c.clear_hidden.result c.from_residual.result 2 11 n n d mid (ap is_err c.in_err-clear_hidden.was) c.from_residual.ensures.0 (omega arith) (omega arith)
    (runs_clear c.clear_hidden.result c.turn_after-next.result n d mid (g.met.D.Device.is_disk c.args.disk.now) (omega (arith, super_within c.turn_after-next.result c.args.meta.now)) c.clear_hidden.ensures.did)

pub returns-clause-run : goal.returns-clause-run
returns-clause-run g c =
    let n = page_offset c.args.meta.now 1 in
    let d = g.D.Device.model c.args.disk.now in
    let mid = g.D.Device.model c.clear_hidden.new.disk in
    let new = g.D.Device.model c.begin_turn.new.disk in
    runs_then 2 9 n d mid new (not_failed c.clear_hidden.result c.in_ok-clear_hidden.field-0 c.in_ok-clear_hidden.was)
    (runs_clear c.clear_hidden.result c.turn_after-next.result n d mid (g.met.D.Device.is_disk c.args.disk.now) (omega (arith, super_within c.turn_after-next.result c.args.meta.now)) c.clear_hidden.ensures.did)
    (runs_switch c.begin_turn.result c.args.turn c.args.meta.now mid new (c.begin_turn.ensures.wrote c.args.turn c.turn_after-next.ensures))
