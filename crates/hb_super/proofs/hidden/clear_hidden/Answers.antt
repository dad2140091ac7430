use Rattle.std.proofs.Common.{◌+◌, inl, inr, is_err, ap, replicate}
use Rattle.hb_disk.specs.Model.{Torn, overwritten}
use Rattle.hb_disk.proofs.Facts.FaultLaws.{not_failed, ReadsOnly-both, ReadsOnly-neither}
use Rattle.hb_disk.proofs.Facts.RunLaws.{OnlyReads-read}
use Rattle.hb_disk.proofs.Facts.RewriteLaws.{WritesThrough-as, WritesThrough-after_reads}
use Rattle.hb_lemmas.proofs.Options.{if_value, at_value}
use Rattle.hb_layout.specs.declared.meta.Meta.{Meta}
use Rattle.hb_layout.specs.Offsets.{slot_offset}
use Rattle.hb_super.specs.Moments.{HidesNoOther}
use Rattle.hb_super.proofs.Clears.{reads_nothing, reads_closed, reads_newest, reads_hidden, read_moments, cleared_nothing, cleared_closed, cleared_newest, cleared_moments}
use Rattle.hb_super.proofs.hidden.clear_hidden.Goals as goal

pub returns-in_err-hides_other-clause-moments : goal.returns-in_err-hides_other-clause-moments
returns-in_err-hides_other-clause-moments g c = λ old said next synced.
    read_moments (g.D.Device.model c.args.disk.now) (g.D.Device.model c.hides_other.new.disk) (g.met.D.Device.is_disk c.args.disk.now) (OnlyReads-read _ (g.D.Device.model c.args.disk.now) (g.D.Device.model c.hides_other.new.disk) c.hides_other.ensures.only) c.args.turn old said next synced

pub returns-then-not-branch-clause-moments : goal.returns-then-not-branch-clause-moments
returns-then-not-branch-clause-moments g c = λ old said next synced.
    read_moments (g.D.Device.model c.args.disk.now) (g.D.Device.model c.hides_other.new.disk) (g.met.D.Device.is_disk c.args.disk.now) (OnlyReads-read _ (g.D.Device.model c.args.disk.now) (g.D.Device.model c.hides_other.new.disk) c.hides_other.ensures.only) c.args.turn old said next synced

pub returns-in_err-zero_body-clause-nothing : goal.returns-in_err-zero_body-clause-nothing
returns-in_err-zero_body-clause-nothing g c =
    let d = g.D.Device.model c.args.disk.now in
    let one = g.D.Device.model c.hides_other.new.disk in
    let new = g.D.Device.model c.zero_body.new.disk in
    cleared_nothing d one new (g.met.D.Device.is_disk c.args.disk.now) (OnlyReads-read _ (g.D.Device.model c.args.disk.now) (g.D.Device.model c.hides_other.new.disk) c.hides_other.ensures.only) c.args.turn c.args.meta.now (c.in_ok-hides_other.ensures.other c.if-not-branch.false)

pub returns-in_err-zero_body-clause-closed : goal.returns-in_err-zero_body-clause-closed
returns-in_err-zero_body-clause-closed g c =
    let d = g.D.Device.model c.args.disk.now in
    let one = g.D.Device.model c.hides_other.new.disk in
    let new = g.D.Device.model c.zero_body.new.disk in
    cleared_closed d one new (g.met.D.Device.is_disk c.args.disk.now) (OnlyReads-read _ (g.D.Device.model c.args.disk.now) (g.D.Device.model c.hides_other.new.disk) c.hides_other.ensures.only) c.args.turn c.args.meta.now (c.in_ok-hides_other.ensures.other c.if-not-branch.false)

pub returns-in_err-zero_body-clause-moments : goal.returns-in_err-zero_body-clause-moments
returns-in_err-zero_body-clause-moments g c =
    let d = g.D.Device.model c.args.disk.now in
    let one = g.D.Device.model c.hides_other.new.disk in
    let new = g.D.Device.model c.zero_body.new.disk in
    cleared_moments d one new (g.met.D.Device.is_disk c.args.disk.now) (OnlyReads-read _ (g.D.Device.model c.args.disk.now) (g.D.Device.model c.hides_other.new.disk) c.hides_other.ensures.only) c.args.turn c.args.meta.now (c.in_ok-hides_other.ensures.other c.if-not-branch.false) c.zero_body.ensures.moments

pub returns-in_err-zero_body-clause-newest : goal.returns-in_err-zero_body-clause-newest
returns-in_err-zero_body-clause-newest g c =
    let d = g.D.Device.model c.args.disk.now in
    let one = g.D.Device.model c.hides_other.new.disk in
    let new = g.D.Device.model c.zero_body.new.disk in
    cleared_newest d one new (g.met.D.Device.is_disk c.args.disk.now) (OnlyReads-read _ (g.D.Device.model c.args.disk.now) (g.D.Device.model c.hides_other.new.disk) c.hides_other.ensures.only) c.args.turn c.args.meta.now (c.in_ok-hides_other.ensures.other c.if-not-branch.false) c.zero_body.ensures.wrote.run.became

pub returns-clause-nothing : goal.returns-clause-nothing
returns-clause-nothing g c =
    let d = g.D.Device.model c.args.disk.now in
    let one = g.D.Device.model c.hides_other.new.disk in
    let new = g.D.Device.model c.zero_body.new.disk in
    cleared_nothing d one new (g.met.D.Device.is_disk c.args.disk.now) (OnlyReads-read _ (g.D.Device.model c.args.disk.now) (g.D.Device.model c.hides_other.new.disk) c.hides_other.ensures.only) c.args.turn c.args.meta.now (c.in_ok-hides_other.ensures.other c.if-not-branch.false)

pub returns-clause-closed : goal.returns-clause-closed
returns-clause-closed g c =
    let d = g.D.Device.model c.args.disk.now in
    let one = g.D.Device.model c.hides_other.new.disk in
    let new = g.D.Device.model c.zero_body.new.disk in
    cleared_closed d one new (g.met.D.Device.is_disk c.args.disk.now) (OnlyReads-read _ (g.D.Device.model c.args.disk.now) (g.D.Device.model c.hides_other.new.disk) c.hides_other.ensures.only) c.args.turn c.args.meta.now (c.in_ok-hides_other.ensures.other c.if-not-branch.false)

pub returns-clause-moments : goal.returns-clause-moments
returns-clause-moments g c =
    let d = g.D.Device.model c.args.disk.now in
    let one = g.D.Device.model c.hides_other.new.disk in
    let new = g.D.Device.model c.zero_body.new.disk in
    cleared_moments d one new (g.met.D.Device.is_disk c.args.disk.now) (OnlyReads-read _ (g.D.Device.model c.args.disk.now) (g.D.Device.model c.hides_other.new.disk) c.hides_other.ensures.only) c.args.turn c.args.meta.now (c.in_ok-hides_other.ensures.other c.if-not-branch.false) c.zero_body.ensures.moments

pub returns-clause-newest : goal.returns-clause-newest
returns-clause-newest g c =
    let d = g.D.Device.model c.args.disk.now in
    let one = g.D.Device.model c.hides_other.new.disk in
    let new = g.D.Device.model c.zero_body.new.disk in
    cleared_newest d one new (g.met.D.Device.is_disk c.args.disk.now) (OnlyReads-read _ (g.D.Device.model c.args.disk.now) (g.D.Device.model c.hides_other.new.disk) c.hides_other.ensures.only) c.args.turn c.args.meta.now (c.in_ok-hides_other.ensures.other c.if-not-branch.false) c.zero_body.ensures.wrote.run.became

pub returns-clause-hidden : goal.returns-clause-hidden
returns-clause-hidden g c =
    let new = g.D.Device.model c.zero_body.new.disk in
    if_value new.told (λ b. HidesNoOther b c.args.turn c.args.meta.now) (λ b told.
    at_value new.told (λ b. (meta : Meta) → HidesNoOther b c.args.turn meta) b told c.in_ok-zero_body.ensures.hidden c.args.meta.now)

pub returns-in_err-hides_other-clause-nothing : goal.returns-in_err-hides_other-clause-nothing
returns-in_err-hides_other-clause-nothing g c = reads_nothing (g.D.Device.model c.args.disk.now) (g.D.Device.model c.hides_other.new.disk) (g.met.D.Device.is_disk c.args.disk.now) (OnlyReads-read _ (g.D.Device.model c.args.disk.now) (g.D.Device.model c.hides_other.new.disk) c.hides_other.ensures.only) c.args.turn c.args.meta.now

pub returns-in_err-hides_other-clause-closed : goal.returns-in_err-hides_other-clause-closed
returns-in_err-hides_other-clause-closed g c = reads_closed (g.D.Device.model c.args.disk.now) (g.D.Device.model c.hides_other.new.disk) (g.met.D.Device.is_disk c.args.disk.now) (OnlyReads-read _ (g.D.Device.model c.args.disk.now) (g.D.Device.model c.hides_other.new.disk) c.hides_other.ensures.only) c.args.turn

pub returns-in_err-hides_other-clause-newest : goal.returns-in_err-hides_other-clause-newest
returns-in_err-hides_other-clause-newest g c = λ old said next. reads_newest (g.D.Device.model c.args.disk.now) (g.D.Device.model c.hides_other.new.disk) (g.met.D.Device.is_disk c.args.disk.now) (OnlyReads-read _ (g.D.Device.model c.args.disk.now) (g.D.Device.model c.hides_other.new.disk) c.hides_other.ensures.only) c.args.turn old said

pub returns-then-not-branch-clause-nothing : goal.returns-then-not-branch-clause-nothing
returns-then-not-branch-clause-nothing g c = reads_nothing (g.D.Device.model c.args.disk.now) (g.D.Device.model c.hides_other.new.disk) (g.met.D.Device.is_disk c.args.disk.now) (OnlyReads-read _ (g.D.Device.model c.args.disk.now) (g.D.Device.model c.hides_other.new.disk) c.hides_other.ensures.only) c.args.turn c.args.meta.now

pub returns-then-not-branch-clause-closed : goal.returns-then-not-branch-clause-closed
returns-then-not-branch-clause-closed g c = reads_closed (g.D.Device.model c.args.disk.now) (g.D.Device.model c.hides_other.new.disk) (g.met.D.Device.is_disk c.args.disk.now) (OnlyReads-read _ (g.D.Device.model c.args.disk.now) (g.D.Device.model c.hides_other.new.disk) c.hides_other.ensures.only) c.args.turn

pub returns-then-not-branch-clause-newest : goal.returns-then-not-branch-clause-newest
returns-then-not-branch-clause-newest g c = λ old said next. reads_newest (g.D.Device.model c.args.disk.now) (g.D.Device.model c.hides_other.new.disk) (g.met.D.Device.is_disk c.args.disk.now) (OnlyReads-read _ (g.D.Device.model c.args.disk.now) (g.D.Device.model c.hides_other.new.disk) c.hides_other.ensures.only) c.args.turn old said

pub returns-then-not-branch-clause-hidden : goal.returns-then-not-branch-clause-hidden
returns-then-not-branch-clause-hidden g c =
    reads_hidden (g.D.Device.model c.args.disk.now) (g.D.Device.model c.hides_other.new.disk) (g.met.D.Device.is_disk c.args.disk.now) (OnlyReads-read _ (g.D.Device.model c.args.disk.now) (g.D.Device.model c.hides_other.new.disk) c.hides_other.ensures.only) c.args.turn c.args.meta.now (c.in_ok-hides_other.ensures.none c.if-not-branch.true)

pub returns-in_err-hides_other-clause-did : goal.returns-in_err-hides_other-clause-did
returns-in_err-hides_other-clause-did g c =
    inl (ReadsOnly-both (g.D.Device.model c.args.disk.now) (g.D.Device.model c.hides_other.new.disk) (ap is_err c.in_err-hides_other.was) c.from_residual.ensures.0 c.hides_other.ensures.only)

pub returns-then-not-branch-clause-did : goal.returns-then-not-branch-clause-did
returns-then-not-branch-clause-did g c =
    inl (ReadsOnly-neither (g.D.Device.model c.args.disk.now) (g.D.Device.model c.hides_other.new.disk) (not_failed c.hides_other.result c.in_ok-hides_other.field-0 c.in_ok-hides_other.was) (λ failed. cc) c.hides_other.ensures.only)

pub returns-in_err-zero_body-clause-did : goal.returns-in_err-zero_body-clause-did
returns-in_err-zero_body-clause-did g c =
    let d = g.D.Device.model c.args.disk.now in
    let one = g.D.Device.model c.hides_other.new.disk in
    let new = g.D.Device.model c.zero_body.new.disk in
    let place = slot_offset c.args.turn + 1 in
    inr (WritesThrough-as c.zero_body.result c.from_residual-in_err-zero_body.result (λ b. overwritten b place (replicate 40 0)) (Torn place 40) 2 d new (λ _. c.from_residual-in_err-zero_body.ensures.0) (λ _. ap is_err c.in_err-zero_body.was)
    (WritesThrough-after_reads c.zero_body.result (λ b. overwritten b place (replicate 40 0)) (Torn place 40) 2 d one new (not_failed c.hides_other.result c.in_ok-hides_other.field-0 c.in_ok-hides_other.was) c.hides_other.ensures.only c.zero_body.ensures.wrote))

pub returns-clause-did : goal.returns-clause-did
returns-clause-did g c =
    let d = g.D.Device.model c.args.disk.now in
    let one = g.D.Device.model c.hides_other.new.disk in
    let new = g.D.Device.model c.zero_body.new.disk in
    let place = slot_offset c.args.turn + 1 in
    inr (WritesThrough-as c.zero_body.result _ (λ b. overwritten b place (replicate 40 0)) (Torn place 40) 2 d new (λ failed. absurd (not_failed c.zero_body.result c.in_ok-zero_body.field-0 c.in_ok-zero_body.was failed)) (λ failed. cc)
    (WritesThrough-after_reads c.zero_body.result (λ b. overwritten b place (replicate 40 0)) (Torn place 40) 2 d one new (not_failed c.hides_other.result c.in_ok-hides_other.field-0 c.in_ok-hides_other.was) c.hides_other.ensures.only c.zero_body.ensures.wrote))
