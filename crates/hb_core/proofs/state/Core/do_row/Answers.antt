use Rattle.hb_core.specs.CoreSeen.{core_seen, core_disk}
use Rattle.hb_core.proofs.Running.Counted.{brings_part, brings_then, part_then}
use Rattle.hb_core.proofs.Running.Holds.{holds_alike}
use Rattle.hb_core.proofs.Running.RowsDone.{let_go, lines_alike, may_let_wanted_go}
use Rattle.hb_core.proofs.Running.Wants.{want_alike}
use Rattle.std.proofs.Common.{refl, ap, subst, sym, ◌∙◌}
use Rattle.hb_core.specs.Showing.{RunningCore}
use Rattle.hb_core.specs.Working.{Halts}
use Rattle.hb_core.proofs.state.Core.do_row.Goals as goal

pub row_there-requires-clause-row : goal.row_there-requires-clause-row
row_there-requires-clause-row g c =
    let m = c.requires.row.may.0 in
    let own = c.in_ok-bring.ensures.comes m c.requires.row.may.1 c.requires.row.may.2 in
    record {
      actor = c.requires.row.actor;
      come = (m, own);
      wanted = λ n come.
          c.requires.row.wanted m c.requires.row.may.1
          ∙ want_alike (g.D.Device.model (core_disk c.bring.new.self)) (core_seen c.bring.new.self) m n c.args.actor c.requires.row.actor own.may.goes_on.kept come.may.goes_on.kept _ _ own.brings come.brings own.shows come.shows;
    }

pub row_there-requires-clause-line : goal.row_there-requires-clause-line
row_there-requires-clause-line g c n come =
    let m = c.requires.row.may.0 in
    let own = c.in_ok-bring.ensures.comes m c.requires.row.may.1 c.requires.row.may.2 in
    c.requires.line m c.requires.row.may.1 ∙ lines_alike (g.D.Device.model (core_disk c.bring.new.self)) (core_seen c.bring.new.self) m n c.args.actor c.requires.row.actor own come

pub row_there-requires-clause-pins : goal.row_there-requires-clause-pins
row_there-requires-clause-pins g c n come =
    let m = c.requires.row.may.0 in
    let own = c.in_ok-bring.ensures.comes m c.requires.row.may.1 c.requires.row.may.2 in
    c.requires.pins m c.requires.row.may.1 ∙ holds_alike (g.D.Device.model (core_disk c.bring.new.self)) (core_seen c.bring.new.self) m n c.args.actor c.requires.row.actor own come

pub let_go-requires : goal.let_go-requires
let_go-requires g c =
    let m = c.requires.row.may.0 in
    let own = c.in_ok-bring.ensures.comes m c.requires.row.may.1 c.requires.row.may.2 in
    may_let_wanted_go m c.args.actor (g.D.Device.model (core_disk c.row_there.new.self)) (core_seen c.row_there.new.self) c.args.aim.now.wanted c.in-Err.halt own.may.goes_on.kept (c.requires.row.wanted m c.requires.row.may.1) (c.in-Err.ensures.halts m own)

pub returns-in-Err-clause-halts : goal.returns-in-Err-clause-halts
returns-in-Err-clause-halts g c m may work =
    let own = c.in_ok-bring.ensures.comes m may work in
    let halts = c.in-Err.ensures.halts m own in
    let can = may_let_wanted_go m c.args.actor (g.D.Device.model (core_disk c.row_there.new.self)) (core_seen c.row_there.new.self) c.args.aim.now.wanted c.in-Err.halt own.may.goes_on.kept (c.requires.row.wanted m may) halts in
    subst (λ (k : _). Halts m c.args.actor c.in-Err.halt (g.D.Device.model k) (core_seen c.let_go.new.self)) (sym c.let_go.ensures.disk)
    (subst (λ (s : RunningCore). Halts m c.args.actor c.in-Err.halt (g.D.Device.model (core_disk c.row_there.new.self)) s) (sym c.let_go.ensures.does)
    (let_go m c.args.actor (g.D.Device.model (core_disk c.row_there.new.self)) (core_seen c.row_there.new.self) _ c.args.aim.now.wanted c.in-Err.halt (c.requires.row.wanted m may) halts can refl))

pub returns-in-Ok-clause-done : goal.returns-in-Ok-clause-done
returns-in-Ok-clause-done g c m may work = c.in-Ok.ensures.done m (c.in_ok-bring.ensures.comes m may work)

pub returns-in_err-bring-clause-counts : goal.returns-in_err-bring-clause-counts
returns-in_err-bring-clause-counts g c = brings_part c.args.actor (core_seen c.args.self.now) (core_seen c.bring.new.self) c.in_err-bring.ensures.brings

pub returns-in-Ok-clause-counts : goal.returns-in-Ok-clause-counts
returns-in-Ok-clause-counts g c = brings_then c.args.actor (core_seen c.args.self.now) (core_seen c.bring.new.self) (core_seen c.row_there.new.self) c.in_ok-bring.ensures.brings c.in-Ok.ensures.counts

pub returns-in-Err-clause-counts : goal.returns-in-Err-clause-counts
returns-in-Err-clause-counts g c =
    part_then c.args.actor (core_seen c.args.self.now) (core_seen c.row_there.new.self) (core_seen c.let_go.new.self)
    (brings_then c.args.actor (core_seen c.args.self.now) (core_seen c.bring.new.self) (core_seen c.row_there.new.self) c.in_ok-bring.ensures.brings c.in-Err.ensures.counts)
    (ap (λ (s : RunningCore). s.store) c.let_go.ensures.does) (ap (λ (s : RunningCore). s.taken) c.let_go.ensures.does) (ap (λ (s : RunningCore). s.done) c.let_go.ensures.does)
