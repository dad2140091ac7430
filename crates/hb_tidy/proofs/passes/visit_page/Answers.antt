use Rattle.std.proofs.Common.{ℕ, List, [], All, Ok, sym, subst, ◌∙◌}
use Rattle.std.proofs.lemmas.List.Elements.{All-nil}
use Rattle.hb_activity.specs.declared.jobs.Job.{Job}
use Rattle.hb_space.specs.Boxes.{Area}
use Rattle.hb_layout.specs.declared.meta.Meta.{Meta}
use Rattle.hb_ops.specs.Files.{FileState}
use Rattle.hb_core.specs.CoreSeen.{core_seen, core_disk}
use Rattle.hb_steps.specs.KeptFits.{JobFits}
use Rattle.hb_tidy.proofs.Belows.{over_refused}
use Rattle.hb_tidy.proofs.ChildrenSeen.{leaves_all}
use Rattle.hb_tidy.proofs.Exits.{over_exit, over_value}
use Rattle.hb_tidy.proofs.KnownFiles.{still_known}
use Rattle.hb_tidy.proofs.PassParts.{waits_then}
use Rattle.hb_tidy.proofs.PlacedLeaves.{leaves_are_placed}
use Rattle.hb_tidy.specs.Finding.{HasPage, IsTidyAt}
use Rattle.hb_tidy.specs.Looking.{LooksOver}
use Rattle.hb_tidy.specs.Owed.{FindsJobs}
use Rattle.hb_tidy.specs.Placing.{HasPlacedChild, placed_children}
use Rattle.hb_tidy.proofs.passes.visit_page.Goals as goal

pub returns-in_err-children : goal.returns-in_err-children
returns-in_err-children g c =
    over_refused (HasPage c.args.parent.now.id c.args.parent.now.page) c.from_residual.result _ (g.D.Device.model (core_disk c.args.core.now)) (core_seen c.args.core.now)
    (g.met.D.Device.is_disk (core_disk c.args.core.now)) c.requires.may c.from_residual.ensures.1

pub look_at_all-requires : goal.look_at_all-requires
look_at_all-requires g c =
    let old = (core_seen c.args.core.now).store.meta in
    let Placed : List (ℕ × Area) → Type 0 = λ ls. All (λ (leaf : ℕ × Area). HasPlacedChild old c.args.parent.now.page leaf.0 leaf.1) ls in
    record {
      may = c.requires.may;
      known = subst Placed (sym c.as_slice.ensures.value) (subst Placed (sym {b = placed_children c.args.parent.now.page} c.in_ok-children.ensures.leaves) (leaves_are_placed old c.args.parent.now.page c.requires.known c.in_ok-children.ensures.area));
    }

pub returns-in_err-look_at_all : goal.returns-in_err-look_at_all
returns-in_err-look_at_all g c =
    over_exit (HasPage c.args.parent.now.id c.args.parent.now.page) c.in_err-look_at_all.field-0.0 c.look_at_all.result c.from_residual-in_err-look_at_all.result _ _
    (g.D.Device.model (core_disk c.args.core.now)) (g.D.Device.model (core_disk c.look_at_all.new.core)) (core_seen c.args.core.now) (core_seen c.look_at_all.new.core) c.in_err-look_at_all.was c.from_residual-in_err-look_at_all.ensures.1 c.look_at_all.ensures.looks

pub wait_for_all-requires : goal.wait_for_all-requires
wait_for_all-requires g c =
    let old = (core_seen c.args.core.now).store.meta in
    let fit = c.in_ok-look_at_all.ensures.fit (subst (λ (jobs : List Job). All (JobFits old.k) jobs) (sym c.new-jobs.ensures.items) (All-nil (JobFits old.k))) in
    let Fit : Meta → Type 0 = λ meta. All (JobFits meta.k) c.as_slice-2.result.now in
    still_known Fit (g.D.Device.model (core_disk c.look_at_all.new.core)) (core_seen c.args.core.now) (core_seen c.look_at_all.new.core) c.in_ok-look_at_all.ensures.looks.may c.look_at_all.ensures.looks.meta
    (subst (λ (jobs : List Job). All (JobFits old.k) jobs) (sym c.as_slice-2.ensures.value) fit)

pub returns : goal.returns
returns g c =
    let d = g.D.Device.model (core_disk c.args.core.now) in
    let e = g.D.Device.model (core_disk c.look_at_all.new.core) in
    let f = g.D.Device.model (core_disk c.wait_for_all.new.core) in
    let old = core_seen c.args.core.now in
    let mid = core_seen c.look_at_all.new.core in
    let Above : FileState → Type 0 = HasPage c.args.parent.now.id c.args.parent.now.page in
    let Was : List Job → Type 0 = λ found. LooksOver {T = Unit {0}} Above (Ok (tt {0})) (λ v s. FindsJobs s (IsTidyAt s c.args.parent.now.id) [] found) d old e mid in
    let Begun : List Job → Type 0 = λ first. LooksOver {T = Unit {0}} Above (Ok (tt {0})) (λ v s. FindsJobs s (IsTidyAt s c.args.parent.now.id) first c.look_at_all.new.jobs.items) d old e mid in
    let all = leaves_all c.args.parent.now.id c.args.parent.now.page c.as_slice.result.now _ c.look_at_all.new.jobs.items d e old mid (◌∙◌ {c = placed_children c.args.parent.now.page} c.as_slice.ensures.value c.in_ok-children.ensures.leaves)
    (over_value Above (tt {0}) c.look_at_all.result _ d e old mid c.in_ok-look_at_all.was c.look_at_all.ensures.looks) in
    waits_then Above c.as_slice-2.result.now (λ s. IsTidyAt s c.args.parent.now.id) d e f old mid (core_seen c.wait_for_all.new.core) c.wait_for_all.ensures.some
    (subst Was (sym c.as_slice-2.ensures.value) (subst Begun c.new-jobs.ensures.items all))
    c.wait_for_all.ensures.looks
