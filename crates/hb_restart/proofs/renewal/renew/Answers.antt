use Rattle.std.proofs.Common.{◌≡◌, ℕ, ◌+◌, List, Some, IfSome, IsErr, ap, is_err, ◌∙◌, arith}
use Rattle.std.specs.Ordering.{nat_cmp}
use Rattle.std.specs.BTreeMap.{get}
use Rattle.std.proofs.lemmas.Result.{on_ok_weaker}
use Rattle.hb_lemmas.proofs.Options.{has_value, if_value}
use Rattle.hb_super.specs.Superblocks.{next_turn}
use Rattle.hb_layout.specs.declared.meta.Meta.{Meta}
use Rattle.hb_ops.specs.Files.{FileState}
use Rattle.hb_store.specs.Opening.{OpensTo}
use Rattle.hb_store.specs.Keeps.{IsFresh}
use Rattle.hb_store.specs.Turning.{IsHere}
use Rattle.hb_restart.specs.Found.{IsFoundIn}
use Rattle.hb_restart.specs.Renewing.{WritesAll, WritesEachOnce}
use Rattle.hb_restart.proofs.SyncedRuns.{synced_counted, synced_even, synced_late, synced_renewed}
use Rattle.hb_layout.specs.Offsets.{file_size}
use Rattle.hb_disk.proofs.Facts.FaultLaws.{not_failed}
use Rattle.hb_restart.proofs.RunsThen.{runs_as, runs_given_up, runs_sync, runs_then}
use Rattle.hb_disk.proofs.Facts.RunLaws.{one_tick}
use Rattle.hb_restart.proofs.EachOnce.{none_written}
use Rattle.hb_restart.proofs.renewal.renew.Goals as goal

pub returns-clause-even : goal.returns-clause-even
returns-clause-even g c =
    synced_even c.sync.result c.in_ok-sync.field-0 c.in_ok-sync.was (g.D.Device.model c.args.disk.now) (g.D.Device.model c.sync.new.self) (g.D.Device.model c.rewrite.new.disk) (g.met.D.Device.is_disk c.args.disk.now)
    c.sync.ensures c.sync.ensures.ticks c.args.found.now.turn c.args.found.now.meta (get nat_cmp c.args.found.now.touched) c.args.found.now.count
    c.an_image_opens_to_one_file.ensures.one c.rewrite.ensures.moments

pub returns-clause-late : goal.returns-clause-late
returns-clause-late g c =
    synced_late c.sync.result c.in_ok-sync.field-0 c.in_ok-sync.was (g.D.Device.model c.args.disk.now) (g.D.Device.model c.sync.new.self) (g.D.Device.model c.rewrite.new.disk) (g.met.D.Device.is_disk c.args.disk.now)
    c.sync.ensures c.sync.ensures.ticks c.args.found.now.turn c.args.found.now.meta (get nat_cmp c.args.found.now.touched) c.args.found.now.count
    c.an_image_opens_to_one_file.ensures.one c.rewrite.ensures.moments

pub returns-clause-renewed : goal.returns-clause-renewed
returns-clause-renewed g c =
    let d = g.D.Device.model c.args.disk.now in
    let mid = g.D.Device.model c.sync.new.self in
    let new = g.D.Device.model c.rewrite.new.disk in
    let turn = c.args.found.now.turn in
    let meta = c.args.found.now.meta in
    let touched = get nat_cmp c.args.found.now.touched in
    let count = c.args.found.now.count in
    on_ok_weaker {P = (said : Meta) (s : FileState) → IsHere mid turn said meta touched s → IsFresh new (next_turn turn) meta s} {Q = IfSome d.told (λ b. IsFoundIn b turn meta touched count → (s : FileState) → OpensTo b s → IsFresh new (next_turn turn) meta s × ((x : List ℕ) → new.ImageSince (d.clock + 1) x → OpensTo x s))} c.rewrite.result
    (synced_renewed c.sync.result c.in_ok-sync.field-0 c.in_ok-sync.was d mid new (g.met.D.Device.is_disk c.args.disk.now)
    c.sync.ensures c.sync.ensures.ticks turn meta touched count c.an_image_opens_to_one_file.ensures.one c.rewrite.ensures.moments)
    c.rewrite.ensures.fresh

pub returns-in_err-sync-clause-run : goal.returns-in_err-sync-clause-run
returns-in_err-sync-clause-run g c =
    let n = file_size c.args.found.now.meta in
    let d = g.D.Device.model c.args.disk.now in
    let mid = g.D.Device.model c.sync.new.self in
    runs_given_up c.sync.result c.from_residual.result 1 (c.args.found.now.meta.high + 12) n n d mid (ap is_err c.in_err-sync.was) c.from_residual.ensures.0 (omega arith) (omega arith)
    (runs_sync c.sync.result n d mid (g.met.D.Device.is_disk c.args.disk.now) c.sync.ensures)

pub returns-clause-run : goal.returns-clause-run
returns-clause-run g c =
    let n = file_size c.args.found.now.meta in
    let high = c.args.found.now.meta.high in
    let d = g.D.Device.model c.args.disk.now in
    let mid = g.D.Device.model c.sync.new.self in
    let new = g.D.Device.model c.rewrite.new.disk in
    runs_as {F = IsErr c.rewrite.result} {G = IsErr c.rewrite.result} (1 + (high + 11)) (high + 12) n n d new (omega arith) (omega arith) (λ f. f) (λ f. f)
    (runs_then 1 (high + 11) n d mid new (not_failed c.sync.result c.in_ok-sync.field-0 c.in_ok-sync.was) (runs_sync c.sync.result n d mid (g.met.D.Device.is_disk c.args.disk.now) c.sync.ensures) c.rewrite.ensures.run)

pub returns-in_err-sync-clause-once : goal.returns-in_err-sync-clause-once
returns-in_err-sync-clause-once g c =
    let d = g.D.Device.model c.args.disk.now in
    let found = c.args.found.now in
    let touched = get nat_cmp found.touched in
    if_value d.told (λ b. IsFoundIn b found.turn found.meta touched found.count → WritesEachOnce (d.clock + 1) b found.meta touched (g.D.Device.model c.sync.new.self)) (λ b told here.
    none_written (d.clock + 1) b found.meta touched (g.D.Device.model c.sync.new.self) (c.sync.ensures.same ∙ told)
    (one_tick c.sync.result d (g.D.Device.model c.sync.new.self) (g.met.D.Device.is_disk c.args.disk.now) c.sync.ensures.ticks (has_value d.told b told)))

pub returns-clause-once : goal.returns-clause-once
returns-clause-once g c =
    let new = g.D.Device.model c.rewrite.new.disk in
    let touched = get nat_cmp c.args.found.now.touched in
    synced_counted c.sync.result c.in_ok-sync.field-0 c.in_ok-sync.was (g.D.Device.model c.args.disk.now) (g.D.Device.model c.sync.new.self) new (g.met.D.Device.is_disk c.args.disk.now)
    c.sync.ensures c.sync.ensures.ticks c.args.found.now.turn c.args.found.now.meta touched c.args.found.now.count
    c.an_image_opens_to_one_file.ensures.one c.rewrite.ensures.moments (λ n b. WritesEachOnce n b c.args.found.now.meta touched new) c.rewrite.ensures.once

pub returns-clause-all : goal.returns-clause-all
returns-clause-all g c =
    let d = g.D.Device.model c.args.disk.now in
    let mid = g.D.Device.model c.sync.new.self in
    let new = g.D.Device.model c.rewrite.new.disk in
    let turn = c.args.found.now.turn in
    let meta = c.args.found.now.meta in
    let touched = get nat_cmp c.args.found.now.touched in
    let count = c.args.found.now.count in
    on_ok_weaker {P = (said : Meta) (s : FileState) (b : List ℕ) → IsHere mid turn said meta touched s → mid.told ≡ Some b → WritesAll mid.clock b meta touched new} {Q = IfSome d.told (λ b. IsFoundIn b turn meta touched count → WritesAll (d.clock + 1) b meta touched new)} c.rewrite.result
    (synced_counted c.sync.result c.in_ok-sync.field-0 c.in_ok-sync.was d mid new (g.met.D.Device.is_disk c.args.disk.now)
    c.sync.ensures c.sync.ensures.ticks turn meta touched count c.an_image_opens_to_one_file.ensures.one c.rewrite.ensures.moments (λ n b. WritesAll n b meta touched new))
    c.rewrite.ensures.all
