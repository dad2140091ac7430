use Rattle.std.proofs.Common.{◌≡◌, ℕ, ◌≤◌, List, length, get_or, take, Ok, refl, ◌∙◌, arith, rules, subst}
use Rattle.std.proofs.lemmas.List.{take_all}
use Rattle.hb_space.specs.Boxes.{Area}
use Rattle.hb_core.specs.CoreSeen.{core_seen, core_disk}
use Rattle.hb_layout.specs.declared.meta.Meta.{Meta}
use Rattle.hb_ops.specs.Files.{FileState}
use Rattle.hb_ops.specs.Settled.{IsMergeable}
use Rattle.hb_tidy.proofs.Exits.{not_ok, over_exit, over_value}
use Rattle.hb_tidy.proofs.Facts.Joined.{over_then}
use Rattle.hb_tidy.proofs.KnownFiles.{still_known}
use Rattle.hb_tidy.proofs.OwedJobs.{fit_then}
use Rattle.hb_tidy.proofs.Pairs.{NoneGoing, NotGoing, pairs_all, pairs_begin, pairs_next}
use Rattle.hb_tidy.specs.Finding.{BothLive}
use Rattle.hb_tidy.specs.Looking.{LooksOver}
use Rattle.hb_tidy.specs.Owed.{FindsJobs}
use Rattle.hb_tidy.specs.Placing.{StandsBelow}
use Rattle.hb_tidy.proofs.below.find_merges.Goals as goal

pub loop-leaf-init : goal.loop-leaf-init
loop-leaf-init g c = record {
  looks = pairs_begin c.args.parent.now.id c.args.keep.now.id c.args.parent.now.page c.args.keep.now.page c.args.given.now c.args.jobs.now.items (g.D.Device.model (core_disk c.args.core.now)) (core_seen c.args.core.now) (g.met.D.Device.is_disk (core_disk c.args.core.now)) c.requires.may;
  may = c.requires.may;
  meta = refl;
  fit = λ all. all;
}

pub try_pair-requires : goal.try_pair-requires
try_pair-requires g c =
    let Below : Meta → Type 0 = λ meta. StandsBelow meta c.args.parent.now.page c.args.keep.now.id c.args.area.now c.args.keep.now.page in
    still_known Below (g.D.Device.model (core_disk c.loop-leaf.core)) (core_seen c.args.core.now) (core_seen c.loop-leaf.core) c.loop-leaf.invariant.may c.loop-leaf.invariant.meta c.requires.known.0

pub returns-in_err-try_pair : goal.returns-in_err-try_pair
returns-in_err-try_pair g c =
    let d = g.D.Device.model (core_disk c.args.core.now) in
    let mid = g.D.Device.model (core_disk c.loop-leaf.core) in
    let e = g.D.Device.model (core_disk c.try_pair.new.core) in
    let Both = BothLive c.args.parent.now.id c.args.parent.now.page c.args.keep.now.id c.args.keep.now.page in
    let Not = NotGoing c.args.parent.now.id c.args.keep.now.id c.args.parent.now.page c.args.keep.now.page c.leaf-item.result.0 c.loop-leaf.jobs.items c.try_pair.new.jobs.items in
    let So = NoneGoing c.args.parent.now.id c.args.keep.now.id c.args.parent.now.page c.args.keep.now.page (take c.loop-leaf.leaf-index c.args.given.now) c.args.jobs.now.items c.loop-leaf.jobs.items in
    let Ends : Unit {0} → FileState → Type 0 = λ v s. FindsJobs s ((gone : ℕ) → ¬ (IsMergeable s c.args.parent.now.id c.args.keep.now.id gone)) c.args.jobs.now.items c.try_pair.new.jobs.items in
    record {
      looks = over_then Both (tt {0}) So Both c.from_residual.result Ends Ends d mid e (core_seen c.args.core.now) (core_seen c.loop-leaf.core) (core_seen c.try_pair.new.core) c.loop-leaf.invariant.looks (λ s known said. known)
          (over_exit Both c.in_err-try_pair.field-0.0 c.try_pair.result c.from_residual.result Not Ends mid e (core_seen c.loop-leaf.core) (core_seen c.try_pair.new.core) c.in_err-try_pair.was c.from_residual.ensures.1 c.try_pair.ensures.looks)
          (λ s w known said more. more);
      fit = λ all. not_ok c.in_err-try_pair.field-0.0 c.from_residual.result _ c.from_residual.ensures.1;
    }

pub loop-leaf-preserved : goal.loop-leaf-preserved
loop-leaf-preserved g c =
    let d = g.D.Device.model (core_disk c.args.core.now) in
    let mid = g.D.Device.model (core_disk c.loop-leaf.core) in
    let e = g.D.Device.model (core_disk c.try_pair.new.core) in
    let x : ℕ × Area = (c.leaf-item.result.0, c.leaf-item.result.1) in
    let is : x ≡ get_or c.args.given.now c.loop-leaf.leaf-index x = search rules in
    let Both = BothLive c.args.parent.now.id c.args.parent.now.page c.args.keep.now.id c.args.keep.now.page in
    let Not = NotGoing c.args.parent.now.id c.args.keep.now.id c.args.parent.now.page c.args.keep.now.page c.leaf-item.result.0 c.loop-leaf.jobs.items c.try_pair.new.jobs.items in
    record {
      looks = pairs_next c.args.parent.now.id c.args.keep.now.id c.args.parent.now.page c.args.keep.now.page c.args.given.now c.loop-leaf.leaf-index x c.args.jobs.now.items c.loop-leaf.jobs.items c.try_pair.new.jobs.items d mid e
          (core_seen c.args.core.now) (core_seen c.loop-leaf.core) (core_seen c.try_pair.new.core) (omega arith) is c.loop-leaf.invariant.looks
          (over_value Both (tt {0}) c.try_pair.result Not mid e (core_seen c.loop-leaf.core) (core_seen c.try_pair.new.core) c.in_ok-try_pair.was c.try_pair.ensures.looks);
      may = c.in_ok-try_pair.ensures.looks.may;
      meta = c.try_pair.ensures.looks.meta ∙ c.loop-leaf.invariant.meta;
      fit = fit_then (core_seen c.args.core.now).store.meta (core_seen c.loop-leaf.core).store.meta c.args.jobs.now.items c.loop-leaf.jobs.items c.try_pair.new.jobs.items c.loop-leaf.invariant.meta c.loop-leaf.invariant.fit c.in_ok-try_pair.ensures.fit;
    }

pub returns : goal.returns
returns g c =
    let d = g.D.Device.model (core_disk c.args.core.now) in
    let e = g.D.Device.model (core_disk c.loop-leaf.core) in
    let end : length c.args.given.now ≤ c.loop-leaf.leaf-index = omega arith in
    let Both = BothLive c.args.parent.now.id c.args.parent.now.page c.args.keep.now.id c.args.keep.now.page in
    let P : List (ℕ × Area) → Type 0 = λ ls. LooksOver {T = Unit {0}} Both (Ok (tt {0})) (NoneGoing c.args.parent.now.id c.args.keep.now.id c.args.parent.now.page c.args.keep.now.page ls c.args.jobs.now.items c.loop-leaf.jobs.items) d (core_seen c.args.core.now) e (core_seen c.loop-leaf.core) in
    record {
      looks = pairs_all c.args.parent.now.id c.args.keep.now.id c.args.parent.now.page c.args.keep.now.page c.args.jobs.now.items c.loop-leaf.jobs.items d e (core_seen c.args.core.now) (core_seen c.loop-leaf.core)
          (subst P (take_all c.loop-leaf.leaf-index c.args.given.now end ∙ c.requires.known.1) c.loop-leaf.invariant.looks);
      fit = c.loop-leaf.invariant.fit;
    }
