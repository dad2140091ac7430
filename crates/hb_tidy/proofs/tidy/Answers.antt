use Rattle.std.proofs.Common.{◌≡◌, ◌⊎◌, ◌<◌, Ok, inl, inr, sym, ap, ◌∙◌, subst, arith}
use Rattle.hb_disk.specs.Model.{DiskModel}
use Rattle.hb_activity.specs.declared.jobs.JobKind.TheVariants.{Merge, Post}
use Rattle.hb_steps.specs.ProgressLaws.{jobs_of}
use Rattle.hb_core.specs.CoreSeen.{core_seen, core_disk}
use Rattle.hb_core.specs.declared.counts.TidyCounts.{TidyCounts}
use Rattle.hb_tidy.proofs.Ends.{ends_at_once, ends_by_err, ends_well}
use Rattle.hb_tidy.proofs.Exits.{over_value}
use Rattle.hb_tidy.proofs.Facts.Joined.{goes_later, goes_next, goes_rises, goes_then, over_goes}
use Rattle.hb_tidy.proofs.PassParts.{Clean, passed_then}
use Rattle.hb_tidy.proofs.Resting.{idle_rests}
use Rattle.hb_tidy.proofs.RunsBegun.{goes_none}
use Rattle.hb_tidy.proofs.ToDo.{falls_short, no_jobs, work_counts}
use Rattle.hb_tidy.specs.Counted.{AreAtMost, added}
use Rattle.hb_tidy.specs.Finding.{IsTidy}
use Rattle.hb_tidy.specs.Going.{MayTidy}
use Rattle.hb_tidy.specs.Looking.{NothingOf}
use Rattle.hb_tidy.proofs.tidy.Goals as goal
use Rattle.hb_tidy.proofs.tidy.Goals.{else-jobs-eq0-via-else-jobs-eq0, else-jobs-eq0-via-then-jobs-eq0+else-jobs-eq0-2}

pub returns-then-taken-eq18446744073709551615-clause-tidies : goal.returns-then-taken-eq18446744073709551615-clause-tidies
returns-then-taken-eq18446744073709551615-clause-tidies g c = λ m may.
    ends_at_once c.runs_go_on.ensures (g.D.Device.model (core_disk c.args.core.now)) (core_seen c.args.core.now) m (g.met.D.Device.is_disk (core_disk c.args.core.now)) may (search (arith))

pub loop-core-init : goal.loop-core-init
loop-core-init g c =
    let d = g.D.Device.model (core_disk c.args.core.now) in
    let last = c.requires.counts.last in
    let may : MayTidy d (core_seen c.args.core.now) = record {
      laws = record {
        runs = c.runs_go_on.ensures;
        waiting = c.all_is_kept_between_steps.ensures.waiting;
        looking = c.all_is_kept_between_steps.ensures.looking;
        counts = c.operations_are_counted.ensures.within;
      };
      runs = c.requires.may;
      counts = c.requires.counts;
      left = search (arith, last);
    } in
    record {
      goes = goes_none d (core_seen c.args.core.now) (g.met.D.Device.is_disk (core_disk c.args.core.now)) may;
      may = may;
      rests = idle_rests (core_seen c.args.core.now) c.requires.idle;
      before = c.done-before.ensures;
    }

pub returns-in_err-pass-clause-tidies : goal.returns-in_err-pass-clause-tidies
returns-in_err-pass-clause-tidies g c = λ m may.
    let d = g.D.Device.model (core_disk c.args.core.now) in
    let mid = g.D.Device.model (core_disk c.loop-core.core) in
    let e = g.D.Device.model (core_disk c.pass.new.core) in
    let new = core_seen c.pass.new.core in
    ends_by_err c.in_err-pass.field-0.0 c.pass.result c.from_residual.result d e (core_seen c.args.core.now) new m c.in_err-pass.was c.from_residual.ensures.1
    (goes_then (tt {0}) c.pass.result d mid e (core_seen c.args.core.now) (core_seen c.loop-core.core) new c.loop-core.invariant.goes (over_goes c.pass.result (Clean IsTidy new) mid e (core_seen c.loop-core.core) new c.pass.ensures))
    may

pub returns-then-jobs-eq0-2-clause-tidies : goal.returns-then-jobs-eq0-2-clause-tidies
returns-then-jobs-eq0-2-clause-tidies g c = λ m may.
    let d = g.D.Device.model (core_disk c.args.core.now) in
    let mid = g.D.Device.model (core_disk c.loop-core.core) in
    let e = g.D.Device.model (core_disk c.pass.new.core) in
    let old = core_seen c.args.core.now in
    let new = core_seen c.pass.new.core in
    let shows = c.in_ok-pass.ensures.may.runs.1.shows in
    let none = no_jobs e new c.in_ok-pass.ensures.may.runs.0 shows c.jobs.result c.jobs-then-jobs-eq0.result (c.jobs.ensures _ shows) (c.jobs-then-jobs-eq0.ensures _ shows) c.if-jobs-eq0.true c.if-jobs-eq0-2.true in
    let is : new.done ≡ added old.done c.rise_of.result = sym c.done.ensures ∙ c.rise_of.ensures ∙ ap (λ (x : TidyCounts). added x c.rise_of.result) c.loop-core.invariant.before in
    ends_well d mid e old (core_seen c.loop-core.core) new c.rise_of.result c.loop-core.invariant.goes (over_value NothingOf (tt {0}) c.pass.result (Clean IsTidy new) mid e (core_seen c.loop-core.core) new c.in_ok-pass.was c.pass.ensures) c.in_ok-pass.ensures.may none is m may

pub returns-in_err-work_off-clause-tidies : goal.returns-in_err-work_off-clause-tidies
returns-in_err-work_off-clause-tidies g c = λ m may.
    let d = g.D.Device.model (core_disk c.args.core.now) in
    let mid = g.D.Device.model (core_disk c.loop-core.core) in
    let e = g.D.Device.model (core_disk c.pass.new.core) in
    let f = g.D.Device.model (core_disk c.work_off.new.core) in
    let old = core_seen c.args.core.now in
    let passed = passed_then (tt {0}) c.pass.result d mid e old (core_seen c.loop-core.core) (core_seen c.pass.new.core) c.loop-core.invariant.goes c.pass.ensures c.in_ok-pass.was in
    ends_by_err c.in_err-work_off.field-0.0 c.work_off.result c.from_residual-in_err-work_off.result d f old (core_seen c.work_off.new.core) m c.in_err-work_off.was c.from_residual-in_err-work_off.ensures.1
    (goes_then (tt {0}) c.work_off.result d e f old (core_seen c.pass.new.core) (core_seen c.work_off.new.core) passed c.work_off.ensures.goes)
    may

pub returns-in_err-work_off-2-clause-tidies : goal.returns-in_err-work_off-2-clause-tidies
returns-in_err-work_off-2-clause-tidies g c = λ m may.
    let d = g.D.Device.model (core_disk c.args.core.now) in
    let mid = g.D.Device.model (core_disk c.loop-core.core) in
    let e = g.D.Device.model (core_disk c.pass.new.core) in
    let f = g.D.Device.model (core_disk c.work_off.new.core) in
    let h = g.D.Device.model (core_disk c.work_off-in-loop-core.new.core) in
    let old = core_seen c.args.core.now in
    let passed = passed_then (tt {0}) c.pass.result d mid e old (core_seen c.loop-core.core) (core_seen c.pass.new.core) c.loop-core.invariant.goes c.pass.ensures c.in_ok-pass.was in
    let posted = goes_next (tt {0}) c.work_off.result d e f old (core_seen c.pass.new.core) (core_seen c.work_off.new.core) passed c.work_off.ensures.goes c.in_ok-work_off.was in
    ends_by_err c.in_err-work_off-2.field-0.0 c.work_off-in-loop-core.result c.from_residual-in_err-work_off-2.result d h old (core_seen c.work_off-in-loop-core.new.core) m c.in_err-work_off-2.was c.from_residual-in_err-work_off-2.ensures.1
    (goes_then (tt {0}) c.work_off-in-loop-core.result d f h old (core_seen c.work_off.new.core) (core_seen c.work_off-in-loop-core.new.core) posted c.work_off-in-loop-core.ensures.goes)
    may

pub loop-core-preserved : goal.loop-core-preserved
loop-core-preserved g c =
    let d = g.D.Device.model (core_disk c.args.core.now) in
    let mid = g.D.Device.model (core_disk c.loop-core.core) in
    let e = g.D.Device.model (core_disk c.pass.new.core) in
    let f = g.D.Device.model (core_disk c.work_off.new.core) in
    let h = g.D.Device.model (core_disk c.work_off-in-loop-core.new.core) in
    let old = core_seen c.args.core.now in
    let passed = passed_then (tt {0}) c.pass.result d mid e old (core_seen c.loop-core.core) (core_seen c.pass.new.core) c.loop-core.invariant.goes c.pass.ensures c.in_ok-pass.was in
    let posted = goes_next (tt {0}) c.work_off.result d e f old (core_seen c.pass.new.core) (core_seen c.work_off.new.core) passed c.work_off.ensures.goes c.in_ok-work_off.was in
    record {
      goes = goes_next (tt {0}) c.work_off-in-loop-core.result d f h old (core_seen c.work_off.new.core) (core_seen c.work_off-in-loop-core.new.core) posted c.work_off-in-loop-core.ensures.goes c.in_ok-work_off-2.was;
      may = c.in_ok-work_off-2.ensures.goes.may;
      rests = c.in_ok-work_off-2.ensures.rests;
      before = c.loop-core.invariant.before;
    }

pub loop-core-smaller : goal.loop-core-smaller
loop-core-smaller g c =
    let M : g.row.D.Denot → DiskModel = g.D.Device.model in
    let m = c.in_ok-pass.ensures.may.runs.0 in
    let shows = c.in_ok-pass.ensures.may.runs.1.shows in
    let some : (0 < jobs_of Post m) ⊎ (0 < jobs_of Merge m) = elim c.else-jobs-eq0.branch [
      | else-jobs-eq0-via-then-jobs-eq0+else-jobs-eq0-2 w ↦ inr (let is = w.jobs-then-jobs-eq0.ensures m shows in omega (arith, w.if-jobs-eq0-2.false, is))
      | else-jobs-eq0-via-else-jobs-eq0 w ↦ inl (let is = c.jobs.ensures m shows in omega (arith, w.if-jobs-eq0.false, is))
    ] in
    let counts = work_counts (λ (x : _). M (core_disk x)) core_seen c.pass.new.core c.work_off.new.core c.work_off-in-loop-core.new.core m shows c.in_ok-work_off.ensures.done c.in_ok-work_off-2.ensures.done some c.in_ok-work_off.ensures.more c.in_ok-work_off-2.ensures.more in
    let left = c.in_ok-work_off-2.ensures.goes.may.left in
    let before = M (core_disk c.loop-core.core) in
    let after = M (core_disk c.pass.new.core) in
    let passed = goes_later c.pass.result before after (core_seen c.loop-core.core) (core_seen c.pass.new.core) (over_goes c.pass.result (Clean IsTidy (core_seen c.pass.new.core)) before after (core_seen c.loop-core.core) (core_seen c.pass.new.core) c.pass.ensures) c.loop-core.invariant.may.runs in
    falls_short (core_seen c.loop-core.core).taken (core_seen c.pass.new.core).taken (core_seen c.work_off-in-loop-core.new.core).taken passed counts (omega (arith, left))

pub rise_of-requires : goal.rise_of-requires
rise_of-requires g c =
    let d = g.D.Device.model (core_disk c.args.core.now) in
    let mid = g.D.Device.model (core_disk c.loop-core.core) in
    let e = g.D.Device.model (core_disk c.pass.new.core) in
    let old = core_seen c.args.core.now in
    let new = core_seen c.pass.new.core in
    let passed = passed_then (tt {0}) c.pass.result d mid e old (core_seen c.loop-core.core) new c.loop-core.invariant.goes c.pass.ensures c.in_ok-pass.was in
    let rises = goes_rises (Ok (tt {0})) d e old new passed c.requires.may in
    subst (λ (x : TidyCounts). AreAtMost x c.done.result) (sym c.loop-core.invariant.before) (subst (λ (x : TidyCounts). AreAtMost old.done x) (sym c.done.ensures) rises)

pub work_off-requires : goal.work_off-requires
work_off-requires g c = record { may = c.in_ok-pass.ensures.may; rests = c.pass.ensures.rests c.loop-core.invariant.rests }
