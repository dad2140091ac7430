use Rattle.std.proofs.Common.{◌≡◌, ◌+◌, ◌≤◌, ℕ, IsErr, ap, is_err, refl, subst, arith}
use Rattle.std.specs.Ordering.{nat_cmp}
use Rattle.std.specs.BTreeMap.{get}
use Rattle.hb_disk.proofs.Facts.RunLaws.{Leaves-start, Leaves-then}
use Rattle.hb_layout.specs.Offsets.{file_size}
use Rattle.hb_super.specs.Superblocks.{next_turn}
use Rattle.hb_store.specs.Turning.{IsPlacedTo, StillOpens}
use Rattle.hb_restart.specs.Renewing.{IsWrittenTo}
use Rattle.hb_disk.proofs.Facts.FaultLaws.{not_failed}
use Rattle.hb_restart.proofs.RunsThen.{runs_as, runs_none, runs_then}
use Rattle.hb_restart.proofs.Renewed.{placed_none}
use Rattle.hb_restart.proofs.EachOnce.{between, written_none}
use Rattle.hb_restart.proofs.renewal.place_pages.Goals as goal

pub returns-in_err-place_page-clause-moments : goal.returns-in_err-place_page-clause-moments
returns-in_err-place_page-clause-moments g c = λ said s here.
    let found = c.args.found.now in
    Leaves-then (g.D.Device.model c.args.disk.now) (g.D.Device.model c.loop-place.disk) (g.D.Device.model c.place_page.new.disk) (StillOpens found.turn said found.meta (get nat_cmp found.touched) s)
    (c.loop-place.invariant.moments said s here) (c.place_page.ensures.moments said s (c.loop-place.invariant.placed said s here).here)

pub returns-in_err-place_page-clause-run : goal.returns-in_err-place_page-clause-run
returns-in_err-place_page-clause-run g c =
    let n = file_size c.args.found.now.meta in
    let d = g.D.Device.model c.args.disk.now in
    let mid = g.D.Device.model c.loop-place.disk in
    let new = g.D.Device.model c.place_page.new.disk in
    runs_as {F = IsErr c.place_page.result} {G = IsErr c.from_residual.result} (c.loop-place.place + 1) c.args.found.now.meta.high n n d new (omega (arith, c.loop-place-test.true)) (omega arith)
    (λ f. c.from_residual.ensures.0) (λ f. ap is_err c.in_err-place_page.was)
    (runs_then c.loop-place.place 1 n d mid new (λ never. never) c.loop-place.invariant.run c.place_page.ensures.run)

pub returns-clause-run : goal.returns-clause-run
returns-clause-run g c =
    let n = file_size c.args.found.now.meta in
    let last : c.loop-place.place ≤ c.args.found.now.meta.high = omega (arith, c.loop-place-test.false, c.loop-place.auto.place-end) in
    runs_as {F = ⊥} c.loop-place.place c.args.found.now.meta.high n n (g.D.Device.model c.args.disk.now) (g.D.Device.model c.loop-place.disk) last (omega arith)
    (λ never. absurd never) (λ f. let never : ⊥ = cc f in never) c.loop-place.invariant.run

pub loop-place-init : goal.loop-place-init
loop-place-init g c =
    let found = c.args.found.now in
    let d = g.D.Device.model c.args.disk.now in
    record {
      run = runs_none {F = ⊥} 0 (file_size found.meta) d (g.met.D.Device.is_disk c.args.disk.now) (λ never. never);
      moments = λ said s here. Leaves-start d (StillOpens found.turn said found.meta (get nat_cmp found.touched) s) (g.met.D.Device.is_disk c.args.disk.now) here.images;
      placed = λ said s here. placed_none found.turn (next_turn found.turn) said found.meta c.requires.renewable.lies.legal.turn_fits refl (get nat_cmp found.touched) s d here;
      written = λ b told. written_none d.clock b found.meta (get nat_cmp found.touched) d told refl;
    }

pub loop-place-preserved : goal.loop-place-preserved
loop-place-preserved g c =
    let found = c.args.found.now in
    let kept = c.loop-place.invariant in
    let n = file_size found.meta in
    let d = g.D.Device.model c.args.disk.now in
    let mid = g.D.Device.model c.loop-place.disk in
    let new = g.D.Device.model c.place_page.new.disk in
    record {
      run = runs_as {F = IsErr c.place_page.result} {G = ⊥} (c.loop-place.place + 1) (c.loop-place.place + 1) n n d new (omega arith) (omega arith)
          (λ f. not_failed c.place_page.result c.in_ok-place_page.field-0 c.in_ok-place_page.was f) (λ never. absurd never)
          (runs_then c.loop-place.place 1 n d mid new (λ never. never) kept.run c.place_page.ensures.run);
      moments = λ said s here. Leaves-then d mid new (StillOpens found.turn said found.meta (get nat_cmp found.touched) s)
          (kept.moments said s here) (c.place_page.ensures.moments said s (kept.placed said s here).here);
      placed = λ said s here. c.in_ok-place_page.ensures.placed said s c.loop-place.place refl (kept.placed said s here);
      written = λ b told. c.in_ok-place_page.ensures.written d.clock c.loop-place.place b refl (kept.written b told);
    }

pub returns-clause-placed : goal.returns-clause-placed
returns-clause-placed g c = λ said s here.
    let found = c.args.found.now in
    let last : c.loop-place.place ≡ found.meta.high = omega (arith, c.loop-place-test.false, c.loop-place.auto.place-end) in
    subst (λ (n : ℕ). IsPlacedTo n (g.D.Device.model c.loop-place.disk) found.turn said found.meta (get nat_cmp found.touched) s) last (c.loop-place.invariant.placed said s here)

pub returns-in_err-place_page-clause-once : goal.returns-in_err-place_page-clause-once
returns-in_err-place_page-clause-once g c = λ b told.
    c.place_page.ensures.once (g.D.Device.model c.args.disk.now).clock c.loop-place.place b refl (c.loop-place.invariant.written b told)

pub returns-clause-once : goal.returns-clause-once
returns-clause-once g c = λ b told.
    between (g.D.Device.model c.args.disk.now).clock b c.args.found.now.meta (get nat_cmp c.args.found.now.touched) c.loop-place.place (g.D.Device.model c.loop-place.disk) (c.loop-place.invariant.written b told)

pub returns-clause-written : goal.returns-clause-written
returns-clause-written g c = λ b told.
    let found = c.args.found.now in
    let last : c.loop-place.place ≡ found.meta.high = omega (arith, c.loop-place-test.false, c.loop-place.auto.place-end) in
    subst (λ (n : ℕ). IsWrittenTo n (g.D.Device.model c.args.disk.now).clock b found.meta (get nat_cmp found.touched) (g.D.Device.model c.loop-place.disk)) last (c.loop-place.invariant.written b told)
