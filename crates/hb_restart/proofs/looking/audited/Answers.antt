use Rattle.std.proofs.Common.{◌≡◌, ◌∙◌, ℕ, Result, Ok, Err, ap, sym}
use Rattle.std.specs.Ordering.{nat_cmp}
use Rattle.std.specs.BTreeMap.{get}
use Rattle.hb_sound.specs.declared.pages.AuditStop.{AuditStop}
use Rattle.hb_sound.specs.declared.pages.AuditStop.TheVariants.{Failed}
use Rattle.hb_restart.specs.Found.{audit_fault}
use Rattle.hb_restart.proofs.Audited.{asked_only, disk_bytes, failed_is, found_ok, named_err}
use Rattle.hb_restart.proofs.Told.{covers, weight_page}
use Rattle.hb_restart.proofs.looking.audited.Goals as goal

pub invariant_of-pages : goal.invariant_of-pages
invariant_of-pages g c = record {
  is_source = record {
    room = c.requires.lies.room;
    light = λ id page at.
        let law = c.spelling_law.ensures in
        let bytes = (law.exists page).0 (c.requires.touched.pages id page at).2 in
        weight_page page (law.light bytes.0 page bytes.1);
  };
}

pub audit-audited-requires-clause-covered : goal.audit-audited-requires-clause-covered
audit-audited-requires-clause-covered g c =
    let read = c.args.read in
    covers (g.D.Device.model c.args.disk).told read.said read.touched.meta (get nat_cmp read.touched.pages) c.requires.touched.meta.layout

pub returns-in-Ok-clause-found : goal.returns-in-Ok-clause-found
returns-in-Ok-clause-found g c =
    let told = (g.D.Device.model c.args.disk).told in
    let is_disk = g.met.D.Device.is_disk c.args.disk in
    let meta = c.requires.touched.meta in
    found_ok c.fields_are_read_exactly.ensures.page told (λ b is. disk_bytes b (is_disk.bytes b (is_disk.as_read b is))) c.args.read meta.limits.layout meta.layout
    c.in-Ok.count c.in-Ok.ensures.sound _ c.audit-audited.ensures.asks.asked.touched_is

pub returns-in-Err-clause-refused : goal.returns-in-Err-clause-refused
returns-in-Err-clause-refused g c =
    let told = (g.D.Device.model c.args.disk).told in
    let is_disk = g.met.D.Device.is_disk c.args.disk in
    let meta = c.requires.touched.meta in
    named_err c.fields_are_read_exactly.ensures.page told (λ b is. disk_bytes b (is_disk.bytes b (is_disk.as_read b is))) c.args.read meta.limits.layout meta.layout
    c.in-Err.stop c.in-Err.ensures.names c.from.result c.from.ensures

pub returns-in-Ok-clause-only : goal.returns-in-Ok-clause-only
returns-in-Ok-clause-only g c =
    let asks = c.in-Ok.ensures.asks in
    asked_only {F = ⊥} (◌≡◌ {A = Result ℕ AuditStop} (Ok c.in-Ok.count) (Err Failed)) (g.D.Device.model c.args.disk) _ (λ e. let never : ⊥ = cc e in never) (λ never. absurd never) asks.asked.reads asks.counts

pub returns-in-Err-clause-only : goal.returns-in-Err-clause-only
returns-in-Err-clause-only g c =
    let asks = c.in-Err.ensures.asks in
    let stop = c.in-Err.stop in
    let as_error : AuditStop → Result ℕ AuditStop = λ s. Err s in
    asked_only (◌≡◌ {A = Result ℕ AuditStop} (Err stop) (Err Failed)) (g.D.Device.model c.args.disk) _
    (λ e. let is : stop ≡ Failed = cc e in c.from.ensures ∙ ap audit_fault is)
    (λ same. ap as_error (failed_is stop (sym c.from.ensures ∙ same))) asks.asked.reads asks.counts
