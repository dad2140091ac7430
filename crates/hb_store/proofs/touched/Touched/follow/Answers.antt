use Rattle.std.proofs.Common.{All, refl, sym, subst, ◌∙◌}
use Rattle.std.proofs.lemmas.Result.{on_ok_weaker}
use Rattle.hb_lemmas.proofs.Options.{on_ok_both}
use Rattle.hb_log_codec.specs.Reading.{logged}
use Rattle.hb_store.specs.Replay.{IsAllowedIn, MayFollow, Replayed, after_op}
use Rattle.hb_store.specs.Replaying.{HasLimits, IsPageOf, ReplaysOn, replayed_of}
use Rattle.hb_store.proofs.Touches.{group_leads}
use Rattle.hb_store.proofs.touched.Touched.follow.Goals as goal

pub apply-requires-clause-limits : goal.apply-requires-clause-limits
apply-requires-clause-limits c = subst (λ (r : Replayed). HasLimits r.meta) (sym c.in_ok-set_all.ensures) c.requires.goes_on.limits

pub returns-clause-allowed : goal.returns-clause-allowed
returns-clause-allowed c =
    let t = replayed_of c.args.self.now in
    let g = logged c.args.group in
    let range : All (λ i. IsPageOf t.meta i.0) g.images = subst (λ l. All (λ i. IsPageOf t.meta i.0) l) c.as_slice.ensures.value (c.if-not-has_all.ensures.0 refl) in
    on_ok_weaker c.apply.result (λ allowed. record { images = range; allowed = subst (λ u. IsAllowedIn u g.op) c.in_ok-set_all.ensures allowed }) c.apply.ensures.allowed

pub returns-clause-effect : goal.returns-clause-effect
returns-clause-effect c =
    let g = logged c.args.group in
    on_ok_weaker c.apply.result (λ same. same ∙ (λ i. after_op (c.in_ok-set_all.ensures i) g.op)) c.apply.ensures.effect

pub returns-clause-leads : goal.returns-clause-leads
returns-clause-leads c =
    let t = replayed_of c.args.self.now in
    let g = logged c.args.group in
    let range : All (λ i. IsPageOf t.meta i.0) g.images = subst (λ l. All (λ i. IsPageOf t.meta i.0) l) c.as_slice.ensures.value (c.if-not-has_all.ensures.0 refl) in
    let may : IsAllowedIn (replayed_of c.set_all.new.self) g.op → MayFollow t g = λ allowed. record { images = range; allowed = subst (λ u. IsAllowedIn u g.op) c.in_ok-set_all.ensures allowed } in
    on_ok_both c.apply.result
    (λ allowed same. subst (ReplaysOn t) (sym (same ∙ (λ i. after_op (c.in_ok-set_all.ensures i) g.op)))
    (group_leads c.what_is_made_can_be_written.ensures.writable t g c.requires.goes_on c.requires.fits (may allowed)))
    c.apply.ensures.allowed c.apply.ensures.effect

pub returns-clause-unfit : goal.returns-clause-unfit
returns-clause-unfit c =
    let g = logged c.args.group in
    λ is may. c.apply.ensures.unfit is (subst (λ u. IsAllowedIn u g.op) (sym c.in_ok-set_all.ensures) may.allowed)
