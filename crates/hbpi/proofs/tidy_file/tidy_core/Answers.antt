use Rattle.std.proofs.Common.{◌≡◌, None, sym, ◌∙◌}
use Rattle.hb_core.specs.CoreSeen.{core_disk, core_seen}
use Rattle.hb_disk.specs.Model.{DiskModel}
use Rattle.hb_tidy.proofs.Facts.Joined.{may_then}
use Rattle.hbpi.proofs.TidiedCore.{forced_badly, forced_well, stopped_so}
use Rattle.hbpi.proofs.tidy_file.tidy_core.Goals as goal

pub help-requires : goal.help-requires
help-requires g c =
    let M : g.row.D.Denot → DiskModel = g.D.Device.model in
    let some = c.requires.fit.may in
    let went = c.in-Ok.ensures.tidies some.0 some.1 in
    (went.0.new, may_then (M (core_disk c.args.core.now)) (M (core_disk c.tidy.new.core)) some.0 (core_seen c.tidy.new.core) went.0, went.2.0)

pub returns-in-Ok-help : goal.returns-in-Ok-help
returns-in-Ok-help g c =
    let M : g.row.D.Denot → DiskModel = g.D.Device.model in
    record {
      tidies = λ m may.
          let went = c.in-Ok.ensures.tidies m may in
          forced_well c.runs_go_on.ensures (M (core_disk c.args.core.now)) m (M (core_disk c.tidy.new.core)) (core_seen c.args.core.now) (core_seen c.tidy.new.core) (M (core_disk c.help.new.self)) (core_seen c.help.new.self) c.in-Ok.counts went.0 went.1 went.2
          (g.met.D.Device.is_disk (core_disk c.tidy.new.core)) (g.met.D.Device.is_disk (core_disk c.help.new.self)) c.in-Ok-help.field-0 c.in-Ok-help.ensures.steps c.in-Ok-help.ensures.touches;
    }

pub returns-in-Err-help : goal.returns-in-Err-help
returns-in-Err-help g c =
    let M : g.row.D.Denot → DiskModel = g.D.Device.model in
    let some = c.requires.fit.may in
    record {
      tidies = λ m may.
          let went = c.in-Ok.ensures.tidies m may in
          let begun : m.stop ≡ None = may.shows.stop ∙ sym some.1.shows.stop ∙ some.2 in
          forced_badly c.runs_go_on.ensures (M (core_disk c.args.core.now)) m (M (core_disk c.tidy.new.core)) (core_seen c.args.core.now) (core_seen c.tidy.new.core) (M (core_disk c.help.new.self)) (core_seen c.help.new.self) c.in-Ok.counts went.0 went.1 went.2
          (g.met.D.Device.is_disk (core_disk c.tidy.new.core)) (g.met.D.Device.is_disk (core_disk c.help.new.self)) c.in-Err-help.field-0 c.in-Err-help.ensures.steps c.in-Err-help.ensures.touches c.in-Err-help.ensures.stop begun;
    }

pub returns-in-Err : goal.returns-in-Err
returns-in-Err g c =
    let M : g.row.D.Denot → DiskModel = g.D.Device.model in
    record {
      tidies = λ m may.
          let went = c.in-Err.ensures.tidies m may in
          (went.0, stopped_so (M (core_disk c.args.core.now)) (M (core_disk c.tidy.new.core)) (core_seen c.args.core.now) (core_seen c.tidy.new.core) m went.0.new c.in-Err.stop c.requires.first went.1 went.2);
    }
