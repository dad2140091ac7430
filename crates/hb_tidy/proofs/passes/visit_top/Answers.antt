use Rattle.std.proofs.Common.{◌≡◌, ◌≢◌, [], Some, sym, ◌∙◌, arith, rules}
use Rattle.hb_frag.specs.Leaves.{siblings_of}
use Rattle.hb_ops.specs.Files.{live_page}
use Rattle.hb_ops.specs.Settled.{HasLoneRoot}
use Rattle.hb_core.specs.CoreSeen.{core_seen, core_disk}
use Rattle.hb_tidy.proofs.Belows.{over_full, over_refused, owes_growth, wants_growth}
use Rattle.hb_tidy.proofs.JobLists.{no_items, some_items}
use Rattle.hb_tidy.proofs.PassParts.{Clean, found_here, growth_waits, root_alone}
use Rattle.hb_tidy.specs.Finding.{OwesGrowth}
use Rattle.hb_tidy.proofs.passes.visit_top.Goals as goal

pub returns-in_err-given : goal.returns-in_err-given
returns-in_err-given g c =
    over_refused (λ s. live_page s s.meta.root ≡ Some c.args.page.now) c.from_residual.result (Clean HasLoneRoot (core_seen c.args.core.now)) (g.D.Device.model (core_disk c.args.core.now)) (core_seen c.args.core.now)
    (g.met.D.Device.is_disk (core_disk c.args.core.now)) c.requires.may c.from_residual.ensures.1

pub returns-then-is_empty : goal.returns-then-is_empty
returns-then-is_empty g c =
    let none : siblings_of c.args.page.now ≡ [] = sym c.in_ok-given.ensures.leaves ∙ no_items c.in_ok-given.given.items _ (omega (arith, c.in_ok-given.given.ok.0)) (sym c.is_empty.ensures ∙ c.if-is_empty.true) in
    root_alone c.args.page.now (g.D.Device.model (core_disk c.args.core.now)) (core_seen c.args.core.now) (g.met.D.Device.is_disk (core_disk c.args.core.now)) c.requires.may none

pub returns-then-meta : goal.returns-then-meta
returns-then-meta g c =
    let some : siblings_of c.args.page.now ≡ [] → ⊥ = λ none. some_items c.in_ok-given.given.items _ (omega (arith, c.in_ok-given.given.ok.0)) (sym c.is_empty.ensures ∙ c.if-is_empty.false) (c.in_ok-given.ensures.leaves ∙ none) in
    let old = core_seen c.args.core.now in
    let none : old.store.meta.live ≡ old.store.meta.pages = search rules in
    over_full (λ s. live_page s s.meta.root ≡ Some c.args.page.now) (Clean HasLoneRoot old) (g.D.Device.model (core_disk c.args.core.now)) old (g.met.D.Device.is_disk (core_disk c.args.core.now)) c.requires.may none
    (λ s file known. wants_growth old s c.args.page.now file known some c.requires.known.1 none)

pub returns : goal.returns
returns g c =
    let some : siblings_of c.args.page.now ≡ [] → ⊥ = λ none. some_items c.in_ok-given.given.items _ (omega (arith, c.in_ok-given.given.ok.0)) (sym c.is_empty.ensures ∙ c.if-is_empty.false) (c.in_ok-given.ensures.leaves ∙ none) in
    let old = core_seen c.args.core.now in
    let free : old.store.meta.live ≡ old.store.meta.pages → ⊥ = λ full. search rules in
    found_here (λ s. live_page s s.meta.root ≡ Some c.args.page.now) (λ s. OwesGrowth s × (s.meta.live ≢ s.meta.pages)) HasLoneRoot (g.D.Device.model (core_disk c.args.core.now)) (g.D.Device.model (core_disk c.wait_for.new.core)) old (core_seen c.wait_for.new.core)
    (λ s file known. owes_growth old s c.args.page.now file known some c.requires.known.1 free)
    (growth_waits c.growth_job-job.result (g.D.Device.model (core_disk c.args.core.now)) (g.D.Device.model (core_disk c.wait_for.new.core)) old (core_seen c.wait_for.new.core) c.growth_job-job.ensures.kind c.growth_job-job.ensures.level c.wait_for.ensures.looks) c.wait_for.ensures.some
