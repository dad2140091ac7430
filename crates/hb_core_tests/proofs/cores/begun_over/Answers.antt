use Rattle.std.proofs.Common.{ap, subst, sym, arith}
use Rattle.hb_core.specs.CoreSeen.{core_seen}
use Rattle.hb_core_tests.proofs.Begun.{begun_over}
use Rattle.hb_core_tests.specs.Begun.{IsBegunCore}
use Rattle.hb_layout.specs.declared.meta.Meta.{Meta}
use Rattle.hb_store.specs.Seen.{held_by}
use Rattle.hb_core_tests.proofs.cores.begun_over.Goals as goal

pub returns-in-Ok : goal.returns-in-Ok
returns-in-Ok g c =
    let M = g.D.Device.model in
    let meta = c.meta-meta.ensures.meta in
    let one = sym (ap (λ (m : Meta). m.k) meta) in
    let some = sym (ap (λ (m : Meta). m.high) meta) in
    let k = c.if-meta-ne1.false in
    let high = c.if-meta-eq0.false in
    record {
      begun = subst (λ (x : g.row.D.Denot). IsBegunCore (M x) (core_seen c.in-Ok.core)) (sym c.in-Ok.ensures.disk)
          (begun_over (M c.args.store.disk) (held_by c.args.store) (core_seen c.in-Ok.core) c.args.script.lines c.args.script.steps c.requires.script c.in-Ok.ensures.seen c.requires.new c.meta-meta.ensures.store.memory.stands c.meta-meta.ensures.tied c.requires.sound (omega (arith, one, k)) (omega (arith, some, high)));
    }
