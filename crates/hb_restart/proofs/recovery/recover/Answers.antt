use Rattle.std.proofs.Common.{◌≡◌, ◌∙◌, ◌+◌, ℕ, List, [], IfSome, refl, sym, subst, arith}
use Rattle.std.proofs.lemmas.Bool.{false≢true}
use Rattle.std.proofs.lemmas.Result.{err_from_is_err_and}
use Rattle.std.specs.Ordering.{nat_cmp}
use Rattle.std.specs.BTreeMap.{get}
use Rattle.hb_disk.proofs.Facts.RunLaws.{OnlyReads-read}
use Rattle.hb_lemmas.proofs.Options.{if_value}
use Rattle.hb_layout.specs.declared.meta.Meta.{Meta}
use Rattle.hb_ops.specs.Files.{FileState}
use Rattle.hb_sound.specs.Told.{HasBoundedMeta}
use Rattle.hb_super.specs.Superblocks.{next_turn, IsNewest}
use Rattle.hb_store.specs.Opening.{OpensTo}
use Rattle.hb_store.specs.States.{IsSameLayout}
use Rattle.hb_store.specs.Keeps.{IsFresh, StoreKeeps}
use Rattle.hb_store.specs.Seen.{seen_as, disk_of}
use Rattle.hb_restart.specs.Found.{IsFoundIn, IsRenewable}
use Rattle.hb_restart.specs.Leaving.{LeavesOpening, RunsThrough}
use Rattle.hb_restart.specs.Renewing.{WritesAll}
use Rattle.hb_restart.specs.declared.faults.OpenFault.{OpenFault}
use Rattle.hb_restart.specs.declared.faults.OpenFault.TheVariants.{DiskFault, NoMemory}
use Rattle.hb_restart.proofs.Facts.Beyond.{found_said}
use Rattle.hb_restart.proofs.Made.{no_error}
use Rattle.hb_restart.proofs.Opened.{leaves_looked, leaves_run, new_again, runs_through}
use Rattle.hb_restart.proofs.Recovered.{recovered_fresh, recovered_meta, recovered_opened}
use Rattle.hb_restart.proofs.RunsThen.{faults_as}
use Rattle.hb_restart.proofs.recovery.recover.Goals as goal

pub returns-in_err-found-clause-leaves : goal.returns-in_err-found-clause-leaves
returns-in_err-found-clause-leaves g c =
    let p = err_from_is_err_and c.from_residual.result c.from_residual.ensures.1 in
    rw (p.1, p.2) (leaves_looked (g.D.Device.model c.args.disk) _ (g.met.D.Device.is_disk c.args.disk) c.in_err-found.ensures.only)

pub returns-then-is_err-clause-leaves : goal.returns-then-is_err-clause-leaves
returns-then-is_err-clause-leaves g c =
    let d = g.D.Device.model c.args.disk in
    let mid = g.D.Device.model c.in_ok-found.disk in
    let new = g.D.Device.model c.renew.new.disk in
    let found = c.in_ok-found.found in
    let Failing : Type 0 = ◌≡◌ {A = OpenFault} DiskFault DiskFault in
    leaves_run c.groups_are_read_in_one_way.ensures.list c.one_superblock_is_newest.ensures.turn c.one_superblock_is_newest.ensures.said c.an_area_is_read_in_one_way.ensures
    d mid new c.in_ok-found.ensures.only found.turn found.meta (get nat_cmp found.touched) found.count c.in_ok-found.ensures.found {F = Failing} (g.met.D.Device.is_disk c.args.disk)
    c.renew.ensures.even c.renew.ensures.late c.renew.ensures.once c.renew.ensures.run.beyond
    (faults_as mid new (λ e. refl) (λ e. sym c.is_err.ensures.value ∙ c.if-is_err.true) c.renew.ensures.run.faults)

pub renew-requires : goal.renew-requires
renew-requires g c =
    let Q : ℕ → Type 0 = λ n. IsRenewable n c.in_ok-found.found in
    record { renewable = subst Q (sym c.in_ok-found.ensures.only.stays.size) c.in_ok-found.ensures.renewable }

pub opened-requires-clause-room : goal.opened-requires-clause-room
opened-requires-clause-room g c =
    let room = c.in_ok-found.ensures.renewable.lies.room in
    omega (arith, room, c.in_ok-found.ensures.only.stays.size, c.renew.ensures.run.beyond.size)

pub opened-requires-clause-stands : goal.opened-requires-clause-stands
opened-requires-clause-stands g c =
    let found = c.in_ok-found.ensures.renewable in
    let bounded = found.bounded in
    let layout = found.lies.legal.layout in
    record {
      turn_fits = omega (arith, c.turn_after.ensures);
      layout = layout;
      some = bounded.some;
      high = bounded.high;
      live = omega (arith, bounded.live, bounded.high);
      root_fits = omega (arith, bounded.root, bounded.high, layout.few_pages);
      free_fits = omega (arith, bounded.free, bounded.high, layout.few_pages);
    }

pub opened-requires-clause-fresh : goal.opened-requires-clause-fresh
opened-requires-clause-fresh g c =
    let d = g.D.Device.model c.args.disk in
    let mid = g.D.Device.model c.in_ok-found.disk in
    let new = g.D.Device.model c.renew.new.disk in
    let found = c.in_ok-found.found in
    recovered_fresh d mid new (OnlyReads-read ⊥ d mid c.in_ok-found.ensures.only) found.turn found.meta (get nat_cmp found.touched) found.count c.in_ok-found.ensures.found
    c.turn_after.result c.turn_after.ensures (no_error c.renew.result
    (IfSome mid.told (λ b. IsFoundIn b found.turn found.meta (get nat_cmp found.touched) found.count → (s : FileState) → OpensTo b s
    → IsFresh new (next_turn found.turn) found.meta s × ((x : List ℕ) → new.ImageSince (mid.clock + 1) x → OpensTo x s)))
    (sym c.is_err.ensures.value ∙ c.if-is_err.false) c.renew.ensures.renewed)
    c.renew.ensures.run.beyond.silent

pub returns-in-Ok-clause-opened : goal.returns-in-Ok-clause-opened
returns-in-Ok-clause-opened g c =
    let d = g.D.Device.model c.args.disk in
    let mid = g.D.Device.model c.in_ok-found.disk in
    let new = g.D.Device.model c.renew.new.disk in
    let found = c.in_ok-found.found in
    let reads = OnlyReads-read ⊥ d mid c.in_ok-found.ensures.only in
    let store = c.in-Ok.store in
    let renewed = no_error c.renew.result
    (IfSome mid.told (λ b. IsFoundIn b found.turn found.meta (get nat_cmp found.touched) found.count → (s : FileState) → OpensTo b s
    → IsFresh new (next_turn found.turn) found.meta s × ((x : List ℕ) → new.ImageSince (mid.clock + 1) x → OpensTo x s)))
    (sym c.is_err.ensures.value ∙ c.if-is_err.false) c.renew.ensures.renewed in
    record {
      file = recovered_opened d mid new reads found.turn found.meta (get nat_cmp found.touched) found.count c.in_ok-found.ensures.found
          c.turn_after.result c.turn_after.ensures renewed (λ s. StoreKeeps (g.D.Device.model (disk_of store)) (seen_as store) s []) c.in-Ok.ensures.keeps;
      is_new = new_again c.turn_after.result found.meta (seen_as store) c.in-Ok.ensures.new;
      bounded = let M : Meta → Type 0 = λ m. HasBoundedMeta m in subst M (sym c.in-Ok.ensures.new.meta_is) c.in_ok-found.ensures.renewable.bounded;
      meta = recovered_meta d mid new reads found.turn found.meta (get nat_cmp found.touched) found.count c.in_ok-found.ensures.found
          c.turn_after.result c.turn_after.ensures renewed (seen_as store).meta c.in-Ok.ensures.new.meta_is;
      said = if_value d.told (λ b. (turn : ℕ) (said : Meta) → IsNewest b turn said → IsSameLayout said (seen_as store).meta) (λ b told turn said newest.
          subst (λ (x : Meta). IsSameLayout said x) (sym c.in-Ok.ensures.new.meta_is)
          (found_said c.one_superblock_is_newest.ensures.said d.told found.turn found.meta (get nat_cmp found.touched) found.count c.in_ok-found.ensures.found b turn said told newest));
    }

pub returns-in-Ok-clause-through : goal.returns-in-Ok-clause-through
returns-in-Ok-clause-through g c =
    let d = g.D.Device.model c.args.disk in
    let mid = g.D.Device.model c.in_ok-found.disk in
    let new = g.D.Device.model c.renew.new.disk in
    let found = c.in_ok-found.found in
    let store = c.in-Ok.store in
    let through : RunsThrough found.meta.high d new =
    runs_through c.groups_are_read_in_one_way.ensures.list c.one_superblock_is_newest.ensures.turn c.one_superblock_is_newest.ensures.said c.an_area_is_read_in_one_way.ensures
    d mid new c.in_ok-found.ensures.only found.turn found.meta (get nat_cmp found.touched) found.count c.in_ok-found.ensures.found
    c.turn_after.result c.turn_after.ensures (no_error c.renew.result
    (IfSome mid.told (λ b. IsFoundIn b found.turn found.meta (get nat_cmp found.touched) found.count → (s : FileState) → OpensTo b s
    → IsFresh new (next_turn found.turn) found.meta s × ((x : List ℕ) → new.ImageSince (mid.clock + 1) x → OpensTo x s)))
    (sym c.is_err.ensures.value ∙ c.if-is_err.false) c.renew.ensures.renewed)
    (no_error c.renew.result (IfSome mid.told (λ b. IsFoundIn b found.turn found.meta (get nat_cmp found.touched) found.count → WritesAll (mid.clock + 1) b found.meta (get nat_cmp found.touched) new))
    (sym c.is_err.ensures.value ∙ c.if-is_err.false) c.renew.ensures.all) c.renew.ensures.run in
    subst (λ (x : g.row.D.Denot). RunsThrough (seen_as store).meta.high d (g.D.Device.model x)) (sym c.in-Ok.ensures.disk)
    (subst (λ (m : Meta). RunsThrough m.high d new) (sym c.in-Ok.ensures.new.meta_is) through)

pub returns-in-Ok-clause-leaves : goal.returns-in-Ok-clause-leaves
returns-in-Ok-clause-leaves g c =
    let d = g.D.Device.model c.args.disk in
    let mid = g.D.Device.model c.in_ok-found.disk in
    let new = g.D.Device.model c.renew.new.disk in
    let found = c.in_ok-found.found in
    let Failing : Type 0 = ⊥ in
    subst (λ (x : g.row.D.Denot). LeavesOpening ⊥ d (g.D.Device.model x)) (sym c.in-Ok.ensures.disk)
    (leaves_run c.groups_are_read_in_one_way.ensures.list c.one_superblock_is_newest.ensures.turn c.one_superblock_is_newest.ensures.said c.an_area_is_read_in_one_way.ensures
    d mid new c.in_ok-found.ensures.only found.turn found.meta (get nat_cmp found.touched) found.count c.in_ok-found.ensures.found {F = Failing} (g.met.D.Device.is_disk c.args.disk)
    c.renew.ensures.even c.renew.ensures.late c.renew.ensures.once c.renew.ensures.run.beyond
    (faults_as mid new (λ e. false≢true (sym c.if-is_err.false ∙ c.is_err.ensures.value ∙ e)) (λ never. absurd never) c.renew.ensures.run.faults))

pub returns-clause-leaves : goal.returns-clause-leaves
returns-clause-leaves g c =
    let d = g.D.Device.model c.args.disk in
    let mid = g.D.Device.model c.in_ok-found.disk in
    let new = g.D.Device.model c.renew.new.disk in
    let found = c.in_ok-found.found in
    let Failing : Type 0 = ◌≡◌ {A = OpenFault} NoMemory DiskFault in
    subst (λ (x : g.row.D.Denot). LeavesOpening Failing d (g.D.Device.model x)) (sym c.in-Err.ensures.back)
    (leaves_run c.groups_are_read_in_one_way.ensures.list c.one_superblock_is_newest.ensures.turn c.one_superblock_is_newest.ensures.said c.an_area_is_read_in_one_way.ensures
    d mid new c.in_ok-found.ensures.only found.turn found.meta (get nat_cmp found.touched) found.count c.in_ok-found.ensures.found {F = Failing} (g.met.D.Device.is_disk c.args.disk)
    c.renew.ensures.even c.renew.ensures.late c.renew.ensures.once c.renew.ensures.run.beyond
    (faults_as mid new (λ e. absurd (false≢true (sym c.if-is_err.false ∙ c.is_err.ensures.value ∙ e))) (λ same. absurd (let never : ⊥ = cc same in never)) c.renew.ensures.run.faults))
