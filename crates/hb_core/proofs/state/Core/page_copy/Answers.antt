use Rattle.std.proofs.Common.{Err, refl, sym, ap, subst}
use Rattle.std.proofs.lemmas.Bool.{false≢true}
use Rattle.std.specs.Result.{IsErrOf}
use Rattle.hb_disk.proofs.Facts.FaultLaws.{ReadsOnly-neither}
use Rattle.hb_disk.specs.Calls.{ReadsOnly}
use Rattle.hb_frag.specs.declared.pages.Page.{Page}
use Rattle.hb_store.specs.Seen.{seen_as, uses_of}
use Rattle.hb_core.specs.declared.copies.CopyStop.TheVariants as copies
use Rattle.hb_core.proofs.Facts.BetweenCalls.{copied_or_not, crowded_said, look_counts, memory_alone, no_crowd, no_fault, not_copied, not_copied_why, ok_never, reads_said, same_err, why_memory}
use Rattle.hb_core.specs.Between.{CopiesPage}
use Rattle.hb_core.specs.CoreSeen.{core_disk, core_seen}
use Rattle.hb_steps.specs.Machines.{Machine}
use Rattle.hb_core.specs.Working.{MayStep}
use Rattle.hb_core.proofs.state.Core.page_copy.Goals as goal
use Rattle.hb_lemmas.proofs.Options.{has_value, none_unless}

pub copy_here-requires : goal.copy_here-requires
copy_here-requires g c = c.in-Ok.ensures.fetched.there

pub returns-in-Ok-clause-copies : goal.returns-in-Ok-clause-copies
returns-in-Ok-clause-copies g c m step =
    copied_or_not (g.D.Device.model (core_disk c.args.self.now)) (g.D.Device.model c.fetch.new.self.disk) (core_seen c.args.self.now) m c.args.id step _ (seen_as c.fetch.new.self) (uses_of c.fetch.new.self) c.in-Ok.ensures.looks
    c.in-Ok.ensures.fetched c.in-Ok.ensures.uses c.in-Ok.ensures.stays c.stands_well.ensures.store.memory c.stands_well.ensures.tied c.copy_here.result c.copy_here.ensures.page c.copy_here.ensures.memory

pub returns-in-Ok-clause-why : goal.returns-in-Ok-clause-why
returns-in-Ok-clause-why g c = why_memory (core_seen c.args.self.now).store.meta (g.D.Device.model (core_disk c.args.self.now)) c.args.id c.copy_here.result c.copy_here.ensures.memory

pub returns-in-Ok-clause-crowded : goal.returns-in-Ok-clause-crowded
returns-in-Ok-clause-crowded g c = (λ is. absurd (memory_alone c.copy_here.result _ no_crowd c.copy_here.ensures.memory is), λ crowd. absurd (ok_never _ _ (c.in-Ok.ensures.crowded.1 crowd)))

pub returns-in-Ok-clause-reads : goal.returns-in-Ok-clause-reads
returns-in-Ok-clause-reads g c = ReadsOnly-neither (g.D.Device.model (core_disk c.args.self.now)) (g.D.Device.model c.fetch.new.self.disk) (λ is. ok_never _ _ is) (λ is. memory_alone c.copy_here.result _ no_fault c.copy_here.ensures.memory is) c.in-Ok.ensures.looks.only

pub returns-in-Ok-clause-counts : goal.returns-in-Ok-clause-counts
returns-in-Ok-clause-counts g c = record { taken = refl; done = refl }

pub returns-in-Err-clause-copies : goal.returns-in-Err-clause-copies
returns-in-Err-clause-copies g c m step =
    subst (λ (k : _). (new : Machine) × CopiesPage c.args.id (Err c.fails_to_look.result) m new × MayStep (g.D.Device.model k) (core_seen c.fails_to_look.new.self) new) (sym c.fails_to_look.ensures.disk)
    (not_copied (g.D.Device.model (core_disk c.args.self.now)) (g.D.Device.model c.fetch.new.self.disk) (core_seen c.args.self.now) m c.args.id step _ (seen_as c.fetch.new.self) (uses_of c.fetch.new.self) c.in-Err.ensures.looks c.in-Err.ensures.kept c.in-Err.stop c.fails_to_look.result (core_seen c.fails_to_look.new.self) c.fails_to_look.ensures.does c.requires.page
    (none_unless _ (λ x is. false≢true (c.in-Err.ensures.there (has_value _ x is)).0)) c.in-Err.ensures.why c.in-Err.ensures.sound (λ is. c.in-Err.ensures.crowded.0 (ap Err is)))

pub returns-in-Err-clause-why : goal.returns-in-Err-clause-why
returns-in-Err-clause-why g c = not_copied_why _ (core_seen c.fails_to_look.new.self) (core_seen c.args.self.now).store.meta (g.D.Device.model (core_disk c.args.self.now)) c.args.id c.in-Err.stop c.fails_to_look.result c.fails_to_look.ensures.does c.in-Err.ensures.why

pub returns-in-Err-clause-crowded : goal.returns-in-Err-clause-crowded
returns-in-Err-clause-crowded g c =
    let says = crowded_said _ (core_seen c.fails_to_look.new.self) c.in-Err.stop c.fails_to_look.result c.fails_to_look.ensures.does in
    (λ is. c.in-Err.ensures.crowded.0 (ap Err (says.0 (same_err _ _ is))), λ crowd. ap Err (says.1 (same_err _ _ (c.in-Err.ensures.crowded.1 crowd))))

pub returns-in-Err-clause-reads : goal.returns-in-Err-clause-reads
returns-in-Err-clause-reads g c =
    subst (λ (k : _). ReadsOnly (IsErrOf {T = Page} (Err c.fails_to_look.result) copies.ReadFault) (g.D.Device.model (core_disk c.args.self.now)) (g.D.Device.model k)) (sym c.fails_to_look.ensures.disk)
    (reads_said _ (core_seen c.fails_to_look.new.self) c.in-Err.stop c.fails_to_look.result c.fails_to_look.ensures.does (g.D.Device.model (core_disk c.args.self.now)) (g.D.Device.model c.fetch.new.self.disk) c.in-Err.ensures.looks.only)

pub returns-in-Err-clause-counts : goal.returns-in-Err-clause-counts
returns-in-Err-clause-counts g c =
    let stay = look_counts _ (core_seen c.fails_to_look.new.self) c.in-Err.stop c.fails_to_look.result c.fails_to_look.ensures.does in
    record { taken = stay.0; done = stay.1 }
