use Rattle.std.proofs.Common.{refl, ◌∙◌}
use Rattle.std.proofs.lemmas.Result.{IfErr-weaker}
use Rattle.hb_core.specs.CoreSeen.{core_seen, core_disk}
use Rattle.hb_activity.specs.Classes.{idle_of}
use Rattle.hb_core.specs.Counting.{CountsPart}
use Rattle.hb_steps.specs.KeptFits.{class_for}
use Rattle.hb_core.proofs.Running.Counted.{brings_part, by_result, counts_so, deed_part, stands_part, stands_then, stays_part}
use Rattle.hb_core.proofs.Running.Holds.{few_held}
use Rattle.hb_core.proofs.Running.RowsPerformed.{ok_both, order_few, performed_halts, performed_row, pins_joined, refused_halts, row_may_commit, row_may_hold, row_may_join, row_may_stand}
use Rattle.hb_core.proofs.Running.Wants.{want_alike}
use Rattle.hb_core.proofs.state.Core.row_there.Goals as goal

pub decide-requires : goal.decide-requires
decide-requires g c =
    let m = c.requires.row.come.0 in
    let own = c.in_ok-free.ensures.numbered m c.requires.row.come.1 in
    record {
      actor = c.requires.row.actor;
      pages = (m, own);
      wanted = λ n pages.
          c.requires.row.wanted m c.requires.row.come.1
          ∙ want_alike (g.D.Device.model (core_disk c.number.new.self)) (core_seen c.number.new.self) m n c.args.actor c.requires.row.actor own.may.goes_on.kept pages.may.goes_on.kept _ _ own.brings pages.brings own.shows pages.shows;
    }

pub with_wanted-pinned-requires : goal.with_wanted-pinned-requires
with_wanted-pinned-requires g c = few_held c.requires.row.come.0 c.args.actor c.args.pins.now (c.requires.pins c.requires.row.come.0 c.requires.row.come.1)

pub perform-requires-clause-commit : goal.perform-requires-clause-commit
perform-requires-clause-commit g c =
    let m = c.requires.row.come.0 in
    let pages = c.in_ok-free.ensures.numbered m c.requires.row.come.1 in
    row_may_commit g.D.Device.model (core_disk c.number.new.self) (core_disk c.decide.new.self) (core_seen c.number.new.self) (core_seen c.decide.new.self) m c.args.actor c.in_ok-free.free c.requires.row.actor
    c.in-Ok.ensures.rest.does c.in-Ok.ensures.rest.disk pages c.in-Ok.next (c.in-Ok.ensures.row m pages)
    c.rows_may_be_done.ensures c.a_store_keeps_one_file.ensures.durable c.a_store_keeps_one_file.ensures.later

pub perform-requires-clause-stand : goal.perform-requires-clause-stand
perform-requires-clause-stand g c =
    let m = c.requires.row.come.0 in
    let pages = c.in_ok-free.ensures.numbered m c.requires.row.come.1 in
    row_may_stand g.D.Device.model (core_disk c.number.new.self) (core_disk c.decide.new.self) (core_seen c.number.new.self) (core_seen c.decide.new.self) m c.args.actor c.in_ok-free.free c.requires.row.actor
    c.in-Ok.ensures.rest.does c.in-Ok.ensures.rest.disk pages c.in-Ok.next (c.in-Ok.ensures.row m pages)

pub perform-requires-clause-hold : goal.perform-requires-clause-hold
perform-requires-clause-hold g c =
    let m = c.requires.row.come.0 in
    let pages = c.in_ok-free.ensures.numbered m c.requires.row.come.1 in
    row_may_hold g.D.Device.model (core_disk c.number.new.self) (core_disk c.decide.new.self) (core_seen c.number.new.self) (core_seen c.decide.new.self) m c.args.actor c.in_ok-free.free c.requires.row.actor
    c.in-Ok.ensures.rest.does c.in-Ok.ensures.rest.disk pages c.in-Ok.next (c.in-Ok.ensures.row m pages) c.as_slice.result.now
    (pins_joined m c.args.actor c.args.wanted c.args.pins.now c.with_wanted-pinned.result.items c.as_slice.result.now c.as_slice.ensures.value c.with_wanted-pinned.ensures (c.requires.row.wanted m c.requires.row.come.1) (c.requires.pins m c.requires.row.come.1))

pub perform-requires-clause-room : goal.perform-requires-clause-room
perform-requires-clause-room g c =
    let m = c.requires.row.come.0 in
    let pages = c.in_ok-free.ensures.numbered m c.requires.row.come.1 in
    row_may_join g.D.Device.model (core_disk c.number.new.self) (core_disk c.decide.new.self) (core_seen c.number.new.self) (core_seen c.decide.new.self) m c.args.actor c.in_ok-free.free c.requires.row.actor
    c.in-Ok.ensures.rest.does c.in-Ok.ensures.rest.disk pages c.in-Ok.next (c.in-Ok.ensures.row m pages) c.args.line (c.requires.line m c.requires.row.come.1)

pub perform-requires-clause-few : goal.perform-requires-clause-few
perform-requires-clause-few g c =
    let m = c.requires.row.come.0 in
    let pages = c.in_ok-free.ensures.numbered m c.requires.row.come.1 in
    order_few g.D.Device.model (core_disk c.number.new.self) (core_disk c.decide.new.self) (core_seen c.number.new.self) (core_seen c.decide.new.self) m c.args.actor c.in_ok-free.free c.requires.row.actor
    c.in-Ok.ensures.rest.does c.in-Ok.ensures.rest.disk pages c.decide.new.self.few

pub returns-in-Ok-clause-done : goal.returns-in-Ok-clause-done
returns-in-Ok-clause-done g c = ok_both c.perform.result _ _ _ (λ outcome does files m come.
    let pages = c.in_ok-free.ensures.numbered m come in
    performed_row g.D.Device.model (core_disk c.number.new.self) (core_disk c.decide.new.self) (core_seen c.number.new.self) (core_seen c.decide.new.self) m c.args.actor c.in_ok-free.free c.requires.row.actor
    c.in-Ok.ensures.rest.does c.in-Ok.ensures.rest.disk pages c.in-Ok.next (c.in-Ok.ensures.row m pages) (core_disk c.perform.new.self) (core_seen c.perform.new.self) c.perform.ensures.disk
    c.as_slice.result.now (pins_joined m c.args.actor c.args.wanted c.args.pins.now c.with_wanted-pinned.result.items c.as_slice.result.now c.as_slice.ensures.value c.with_wanted-pinned.ensures (c.requires.row.wanted m come) (c.requires.pins m come))
    c.args.line outcome (c.requires.line m come) does files) c.perform.ensures.does c.perform.ensures.files

pub returns-in-Ok-clause-halts : goal.returns-in-Ok-clause-halts
returns-in-Ok-clause-halts g c = IfErr-weaker c.perform.result _ _ (λ halt why m come.
    let pages = c.in_ok-free.ensures.numbered m come in
    performed_halts g.D.Device.model (core_disk c.number.new.self) (core_disk c.decide.new.self) (core_seen c.number.new.self) (core_seen c.decide.new.self) m c.args.actor c.in_ok-free.free c.requires.row.actor
    c.in-Ok.ensures.rest.does c.in-Ok.ensures.rest.disk pages c.in-Ok.next (c.in-Ok.ensures.row m pages) (core_disk c.perform.new.self) (core_seen c.perform.new.self) c.perform.ensures.disk
    halt why) c.perform.ensures.why

pub returns-in-Err-clause-halts : goal.returns-in-Err-clause-halts
returns-in-Err-clause-halts g c m come =
    let pages = c.in_ok-free.ensures.numbered m come in
    refused_halts g.D.Device.model (core_disk c.number.new.self) (core_disk c.decide.new.self) (core_seen c.number.new.self) (core_seen c.decide.new.self) m c.args.actor c.in_ok-free.free c.requires.row.actor
    c.in-Err.ensures.rest.does c.in-Err.ensures.rest.disk pages c.from.result c.from.ensures (c.in-Err.ensures.memory m pages)

pub returns-in_err-free-clause-counts : goal.returns-in_err-free-clause-counts
returns-in_err-free-clause-counts g c = brings_part c.args.actor (core_seen c.args.self.now) (core_seen c.number.new.self) c.in_err-free.ensures.brings

pub returns-in-Err-clause-counts : goal.returns-in-Err-clause-counts
returns-in-Err-clause-counts g c = stands_part c.args.actor (core_seen c.args.self.now) (core_seen c.number.new.self) (core_seen c.decide.new.self) (idle_of (class_for c.args.actor)) c.in_ok-free.ensures.brings c.in-Err.ensures.rest.does

pub returns-in-Ok-clause-counts : goal.returns-in-Ok-clause-counts
returns-in-Ok-clause-counts g c =
    let m = c.requires.row.come.0 in
    stands_then c.args.actor (core_seen c.args.self.now) (core_seen c.number.new.self) (core_seen c.decide.new.self) (core_seen c.perform.new.self) (idle_of (class_for c.args.actor)) c.in_ok-free.ensures.brings c.in-Ok.ensures.rest.does
    (by_result c.perform.result _ _ (CountsPart c.args.actor (core_seen c.decide.new.self) (core_seen c.perform.new.self))
    (λ outcome does. deed_part c.args.actor c.as_slice.result.now _ outcome (core_seen c.decide.new.self) (core_seen c.perform.new.self) (does (m.activity c.args.actor) (c.requires.line m c.requires.row.come.1)))
    (λ halt why. stays_part c.args.actor (core_seen c.decide.new.self) (core_seen c.perform.new.self) (counts_so (core_seen c.decide.new.self) (core_seen c.perform.new.self) (core_seen c.decide.new.self) why.2 refl refl refl))
    c.perform.ensures.does c.perform.ensures.why)
