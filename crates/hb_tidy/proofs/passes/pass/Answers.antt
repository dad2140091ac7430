use Rattle.std.proofs.Common.{◌≡◌, ℕ, ◌+◌, IfSome, Ok, Option, sym, ap, ◌∙◌, arith, subst}
use Rattle.hb_frag.specs.declared.pages.LivePage.{LivePage}
use Rattle.hb_layout.specs.declared.meta.Meta.{Meta}
use Rattle.hb_ops.specs.Files.{live_page}
use Rattle.hb_ops.specs.Sound.{FitsFile}
use Rattle.hb_core.specs.CoreSeen.{core_seen, core_disk}
use Rattle.hb_tidy.proofs.Exits.{over_exit, over_value}
use Rattle.hb_tidy.proofs.Facts.Joined.{over_then}
use Rattle.hb_tidy.proofs.KnownFiles.{still_known}
use Rattle.hb_tidy.proofs.PassParts.{Clean, CleanUpTo, page_then, pages_all, pages_begin, pages_next}
use Rattle.hb_tidy.specs.Finding.{HasGrown, IsTidy, IsTidyAt}
use Rattle.hb_tidy.specs.Looking.{LooksOver, NothingOf}
use Rattle.hb_tidy.proofs.passes.pass.Goals as goal

pub returns-in_err-visit_root : goal.returns-in_err-visit_root
returns-in_err-visit_root g c =
    over_exit NothingOf c.in_err-visit_root.field-0.0 c.visit_root.result c.from_residual.result (Clean HasGrown (core_seen c.visit_root.new.core)) (Clean IsTidy (core_seen c.visit_root.new.core)) (g.D.Device.model (core_disk c.args.core.now)) (g.D.Device.model (core_disk c.visit_root.new.core))
    (core_seen c.args.core.now) (core_seen c.visit_root.new.core) c.in_err-visit_root.was c.from_residual.ensures.1 c.visit_root.ensures

pub loop-place-init : goal.loop-place-init
loop-place-init g c =
    let d = g.D.Device.model (core_disk c.args.core.now) in
    let e = g.D.Device.model (core_disk c.visit_root.new.core) in
    record {
      looks = pages_begin d e (core_seen c.args.core.now) (core_seen c.visit_root.new.core)
          (over_value NothingOf (tt {0}) c.visit_root.result (Clean HasGrown (core_seen c.visit_root.new.core)) d e (core_seen c.args.core.now) (core_seen c.visit_root.new.core) c.in_ok-visit_root.was c.visit_root.ensures);
      may = c.in_ok-visit_root.ensures.may;
      high = ap (λ (meta : Meta). meta.high) c.meta.ensures;
    }

pub returns-in_err-seen : goal.returns-in_err-seen
returns-in_err-seen g c =
    let d = g.D.Device.model (core_disk c.args.core.now) in
    let mid = g.D.Device.model (core_disk c.loop-place.core) in
    let e = g.D.Device.model (core_disk c.named_page.new.core) in
    let before = core_seen c.loop-place.core in
    let seen = core_seen c.named_page.new.core in
    over_then NothingOf (tt {0}) (CleanUpTo before c.loop-place.place) NothingOf c.from_residual-in_err-seen.result (Clean IsTidy seen) (Clean IsTidy seen) d mid e (core_seen c.args.core.now) before seen c.loop-place.invariant.looks
    (λ s known said. tt)
    (over_exit NothingOf c.in_err-seen.field-0.0 c.named_page.result c.from_residual-in_err-seen.result (λ (page : Option LivePage) s. live_page s (c.loop-place.place + 1) ≡ page) (Clean IsTidy seen) mid e before seen c.in_err-seen.was c.from_residual-in_err-seen.ensures.1 c.named_page.ensures.looks)
    (λ s w known said more. more)

pub visit-requires : goal.visit-requires
visit-requires g c =
    let Made : Meta → Type 0 = λ meta. IfSome c.in_ok-seen.seen (FitsFile meta) in
    still_known Made (g.D.Device.model (core_disk c.named_page.new.core)) (core_seen c.loop-place.core) (core_seen c.named_page.new.core) c.in_ok-seen.ensures.looks.may c.named_page.ensures.looks.meta c.in_ok-seen.ensures.good

pub returns-in_err-visit : goal.returns-in_err-visit
returns-in_err-visit g c =
    let d = g.D.Device.model (core_disk c.args.core.now) in
    let mid = g.D.Device.model (core_disk c.loop-place.core) in
    let e = g.D.Device.model (core_disk c.named_page.new.core) in
    let before = core_seen c.loop-place.core in
    let seen = core_seen c.named_page.new.core in
    let f = g.D.Device.model (core_disk c.visit.new.core) in
    let new = core_seen c.visit.new.core in
    let there = over_value NothingOf c.in_ok-seen.seen c.named_page.result _ mid e before seen c.in_ok-seen.was c.named_page.ensures.looks in
    let visited = page_then (c.loop-place.place + 1) c.in_ok-seen.seen (λ s. IsTidyAt s (c.loop-place.place + 1)) c.visit.result mid e f before seen new there c.visit.ensures in
    over_then NothingOf (tt {0}) (CleanUpTo before c.loop-place.place) NothingOf c.from_residual-in_err-visit.result (Clean IsTidy new) (Clean IsTidy new) d mid f (core_seen c.args.core.now) before new c.loop-place.invariant.looks
    (λ s known said. tt)
    (over_exit NothingOf c.in_err-visit.field-0.0 c.visit.result c.from_residual-in_err-visit.result (Clean (λ s. IsTidyAt s (c.loop-place.place + 1)) new) (Clean IsTidy new) mid f before new c.in_err-visit.was c.from_residual-in_err-visit.ensures.1 visited)
    (λ s w known said more. more)

pub loop-place-preserved : goal.loop-place-preserved
loop-place-preserved g c =
    let d = g.D.Device.model (core_disk c.args.core.now) in
    let mid = g.D.Device.model (core_disk c.loop-place.core) in
    let e = g.D.Device.model (core_disk c.named_page.new.core) in
    let before = core_seen c.loop-place.core in
    let seen = core_seen c.named_page.new.core in
    let f = g.D.Device.model (core_disk c.visit.new.core) in
    let new = core_seen c.visit.new.core in
    let there = over_value NothingOf c.in_ok-seen.seen c.named_page.result _ mid e before seen c.in_ok-seen.was c.named_page.ensures.looks in
    let visited = page_then (c.loop-place.place + 1) c.in_ok-seen.seen (λ s. IsTidyAt s (c.loop-place.place + 1)) c.visit.result mid e f before seen new there c.visit.ensures in
    record {
      looks = pages_next c.loop-place.place d mid f (core_seen c.args.core.now) before new c.loop-place.invariant.looks
          (over_value NothingOf (tt {0}) c.visit.result (Clean (λ s. IsTidyAt s (c.loop-place.place + 1)) new) mid f before new c.in_ok-visit.was visited);
      may = c.in_ok-visit.ensures.may;
      high = c.loop-place.invariant.high ∙ sym (ap (λ (meta : Meta). meta.high) visited.meta);
    }

pub returns : goal.returns
returns g c =
    let d = g.D.Device.model (core_disk c.args.core.now) in
    let e = g.D.Device.model (core_disk c.loop-place.core) in
    let old = core_seen c.args.core.now in
    let new = core_seen c.loop-place.core in
    let whole : c.loop-place.place ≡ c.meta.result.now.high = omega arith in
    let high : c.loop-place.place ≡ old.store.meta.high = whole ∙ c.loop-place.invariant.high ∙ ap (λ (meta : Meta). meta.high) c.loop-place.invariant.looks.meta in
    let P : ℕ → Type 0 = λ n. LooksOver {T = Unit {0}} NothingOf (Ok (tt {0})) (CleanUpTo new n) d old e new in
    pages_all d e old new (subst P high c.loop-place.invariant.looks)
