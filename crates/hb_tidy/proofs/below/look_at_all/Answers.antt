use Rattle.std.proofs.Common.{◌≡◌, ℕ, ◌≤◌, List, length, get_or, take, Ok, refl, sym, ◌∙◌, arith, rules, subst}
use Rattle.std.proofs.lemmas.List.{take_all}
use Rattle.std.proofs.lemmas.List.Elements.{All-get_or}
use Rattle.hb_space.specs.Boxes.{Area}
use Rattle.hb_layout.specs.declared.meta.Meta.{Meta}
use Rattle.hb_ops.specs.Files.{FileState}
use Rattle.hb_core.specs.CoreSeen.{core_seen, core_disk}
use Rattle.hb_tidy.proofs.ChildrenSeen.{SeesAll, SeesBelow, leaves_begin, leaves_next}
use Rattle.hb_tidy.proofs.Exits.{not_ok, over_exit, over_value}
use Rattle.hb_tidy.proofs.Facts.Joined.{over_then}
use Rattle.hb_tidy.proofs.KnownFiles.{still_known}
use Rattle.hb_tidy.proofs.OwedJobs.{fit_then}
use Rattle.hb_tidy.specs.Finding.{HasPage}
use Rattle.hb_tidy.specs.Looking.{LooksOver}
use Rattle.hb_tidy.specs.Placing.{HasPlacedChild}
use Rattle.hb_tidy.proofs.below.look_at_all.Goals as goal

pub loop-leaf-init : goal.loop-leaf-init
loop-leaf-init g c = record {
  looks = leaves_begin c.args.parent.now.id c.args.parent.now.page c.args.children.now c.args.jobs.now.items (g.D.Device.model (core_disk c.args.core.now)) (core_seen c.args.core.now) (g.met.D.Device.is_disk (core_disk c.args.core.now)) c.requires.may;
  may = c.requires.may;
  meta = refl;
  fit = λ all. all;
}

pub look_below-requires : goal.look_below-requires
look_below-requires g c =
    let x : ℕ × Area = (c.leaf-item.result.0, c.leaf-item.result.1) in
    let is : x ≡ get_or c.args.children.now c.loop-leaf.leaf-index x = search rules in
    let old = core_seen c.args.core.now in
    let Placed : ℕ × Area → Type 0 = λ leaf. HasPlacedChild old.store.meta c.args.parent.now.page leaf.0 leaf.1 in
    let Here : Meta → Type 0 = λ meta. HasPlacedChild meta c.args.parent.now.page c.leaf-item.result.0 c.leaf-item.result.1 in
    still_known Here (g.D.Device.model (core_disk c.loop-leaf.core)) old (core_seen c.loop-leaf.core) c.loop-leaf.invariant.may c.loop-leaf.invariant.meta
    (subst Placed (sym is) (All-get_or Placed c.args.children.now c.loop-leaf.leaf-index x (omega arith) c.requires.known))

pub returns-in_err-look_below : goal.returns-in_err-look_below
returns-in_err-look_below g c =
    let d = g.D.Device.model (core_disk c.args.core.now) in
    let mid = g.D.Device.model (core_disk c.loop-leaf.core) in
    let e = g.D.Device.model (core_disk c.look_below.new.core) in
    let Above : FileState → Type 0 = HasPage c.args.parent.now.id c.args.parent.now.page in
    let x : ℕ × Area = (c.leaf-item.result.0, c.leaf-item.result.1) in
    let Here = SeesBelow c.args.parent.now.id c.args.parent.now.page x c.loop-leaf.jobs.items c.look_below.new.jobs.items in
    let So = SeesAll c.args.parent.now.id c.args.parent.now.page (take c.loop-leaf.leaf-index c.args.children.now) c.args.jobs.now.items c.loop-leaf.jobs.items in
    let Ends = SeesAll c.args.parent.now.id c.args.parent.now.page c.args.children.now c.args.jobs.now.items c.look_below.new.jobs.items in
    record {
      looks = over_then Above (tt {0}) So Above c.from_residual.result Ends Ends d mid e (core_seen c.args.core.now) (core_seen c.loop-leaf.core) (core_seen c.look_below.new.core) c.loop-leaf.invariant.looks (λ s known said. known)
          (over_exit Above c.in_err-look_below.field-0.0 c.look_below.result c.from_residual.result Here Ends mid e (core_seen c.loop-leaf.core) (core_seen c.look_below.new.core) c.in_err-look_below.was c.from_residual.ensures.1 c.look_below.ensures.looks)
          (λ s w known said more. more);
      fit = λ all. not_ok c.in_err-look_below.field-0.0 c.from_residual.result _ c.from_residual.ensures.1;
    }

pub loop-leaf-preserved : goal.loop-leaf-preserved
loop-leaf-preserved g c =
    let d = g.D.Device.model (core_disk c.args.core.now) in
    let mid = g.D.Device.model (core_disk c.loop-leaf.core) in
    let e = g.D.Device.model (core_disk c.look_below.new.core) in
    let Above : FileState → Type 0 = HasPage c.args.parent.now.id c.args.parent.now.page in
    let x : ℕ × Area = (c.leaf-item.result.0, c.leaf-item.result.1) in
    let is : x ≡ get_or c.args.children.now c.loop-leaf.leaf-index x = search rules in
    let Here = SeesBelow c.args.parent.now.id c.args.parent.now.page x c.loop-leaf.jobs.items c.look_below.new.jobs.items in
    record {
      looks = leaves_next c.args.parent.now.id c.args.parent.now.page c.args.children.now c.loop-leaf.leaf-index x c.args.jobs.now.items c.loop-leaf.jobs.items c.look_below.new.jobs.items d mid e
          (core_seen c.args.core.now) (core_seen c.loop-leaf.core) (core_seen c.look_below.new.core) (omega arith) is c.loop-leaf.invariant.looks
          (over_value Above (tt {0}) c.look_below.result Here mid e (core_seen c.loop-leaf.core) (core_seen c.look_below.new.core) c.in_ok-look_below.was c.look_below.ensures.looks);
      may = c.in_ok-look_below.ensures.looks.may;
      meta = c.look_below.ensures.looks.meta ∙ c.loop-leaf.invariant.meta;
      fit = fit_then (core_seen c.args.core.now).store.meta (core_seen c.loop-leaf.core).store.meta c.args.jobs.now.items c.loop-leaf.jobs.items c.look_below.new.jobs.items c.loop-leaf.invariant.meta c.loop-leaf.invariant.fit c.in_ok-look_below.ensures.fit;
    }

pub returns : goal.returns
returns g c =
    let d = g.D.Device.model (core_disk c.args.core.now) in
    let e = g.D.Device.model (core_disk c.loop-leaf.core) in
    let end : length c.args.children.now ≤ c.loop-leaf.leaf-index = omega arith in
    let P : List (ℕ × Area) → Type 0 = λ ls. LooksOver {T = Unit {0}} (HasPage c.args.parent.now.id c.args.parent.now.page) (Ok (tt {0})) (SeesAll c.args.parent.now.id c.args.parent.now.page ls c.args.jobs.now.items c.loop-leaf.jobs.items) d (core_seen c.args.core.now) e (core_seen c.loop-leaf.core) in
    record {
      looks = subst P (take_all c.loop-leaf.leaf-index c.args.children.now end) c.loop-leaf.invariant.looks;
      fit = c.loop-leaf.invariant.fit;
    }
