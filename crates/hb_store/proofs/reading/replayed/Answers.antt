use Rattle.std.proofs.Common.{◌∙◌, ◌+◌, ◌∷◌, [], ℕ, ap, drop, length, map, refl, sym, subst, arith}
use Rattle.std.proofs.lemmas.List.{length-map, map-append, length-append}
use Rattle.std.proofs.lemmas.Iterator.Adapters.{YieldsList-from_vec}
use Rattle.std.proofs.lemmas.Iterator.Consumers.{YieldsList-so_far, YieldsList-turn}
use Rattle.hb_store.specs.Opening.{IsBadPayload}
use Rattle.hb_store.specs.Replay.{untouched}
use Rattle.hb_store.specs.Replaying.{Follows, replayed_of, ReplaysOn, HasReplayed}
use Rattle.hb_store.specs.LogReading.{NamesBad, log_stop}
use Rattle.hb_store.proofs.LogReads.{none_its, parted, touched_is, first_bad}
use Rattle.hb_store.proofs.Facts.MadeMeta.{after_itself, after_more}
use Rattle.hb_store.proofs.Replays.{replayed_none, replayed_more, splits}
use Rattle.hb_store.proofs.reading.replayed.Goals as goal

pub loop-payload-init : goal.loop-payload-init
loop-payload-init c =
    let said = c.args.meta.now in
    let e = sym c.new-touched.ensures in
    record {
      replayed = subst (HasReplayed said _) e (replayed_none said);
      on = subst (ReplaysOn (untouched said)) e (record { meta = after_itself said c.requires.limits; pages = none_its said });
      counted = refl;
    }

pub loop-payload-preserved : goal.loop-payload-preserved
loop-payload-preserved c =
    let said = c.args.meta.now in
    let came = c.loop-payload.yielded in
    let next = c.in-Some.payload in
    let more = sym (map-append (λ v. v.items) came (next ∷ [])) in
    let here = subst (λ p. Follows said.k (replayed_of c.loop-payload.touched) p (replayed_of c.follow_all.new.self)) c.deref.ensures.value
    (subst (λ (k : ℕ). Follows k (replayed_of c.loop-payload.touched) c.deref.result.now (replayed_of c.follow_all.new.self)) c.loop-payload.invariant.on.meta.layout.k c.in-Ok.ensures.followed) in
    record {
      replayed = subst (λ l. HasReplayed said l (replayed_of c.follow_all.new.self)) more
          (replayed_more said (map (λ v. v.items) came) (replayed_of c.loop-payload.touched) (replayed_of c.follow_all.new.self) next.items c.loop-payload.invariant.replayed here);
      on = record {
        meta = after_more said c.loop-payload.touched.meta c.follow_all.new.self.meta c.loop-payload.invariant.on.meta c.in-Ok.ensures.followed.goes_on.meta;
        pages = c.in-Ok.ensures.followed.goes_on.pages;
      };
      counted = omega (arith, c.loop-payload.invariant.counted, length-append came (next ∷ []));
    }

pub follow_all-requires : goal.follow_all-requires
follow_all-requires c = record { limits = c.loop-payload.invariant.on.meta.limits; pages = c.loop-payload.invariant.on.pages }

pub returns-clause-touched : goal.returns-clause-touched
returns-clause-touched c = touched_is c.args.meta.now c.loop-payload.touched c.loop-payload.invariant.on

pub returns-in-Err-clause-stopped : goal.returns-in-Err-clause-stopped
returns-in-Err-clause-stopped c =
    let said = c.args.meta.now in
    let all = c.into_vec-payload-items.result.items in
    let came = c.loop-payload.yielded in
    let next = c.in-Some.payload in
    let here = replayed_of c.loop-payload.touched in
    let behind = map (λ v. v.items) (drop (length came + 1) all) in
    let gives = c.into_iter-payload-iterator.ensures.into_iter_gives in
    let run = YieldsList-from_vec {s = c.into_iter-payload-iterator.result} all gives.0 (gives.1 ∙ c.into_vec-payload-items.result.ok.0) in
    let turn = YieldsList-turn run came c.loop-payload.payload-iterator c.loop-payload.yielded_by c.next.result c.next.new.self next c.in-Some.is c.next.ensures.steps in
    let split = splits all came next (YieldsList-so_far run came c.loop-payload.payload-iterator c.loop-payload.yielded_by) turn in
    let parts = sym c.into_vec-payload-items.ensures ∙ parted all came next _ split in
    let count = c.loop-payload.invariant.counted ∙ sym (length-map came (λ v. v.items)) in
    λ few. subst (NamesBad said c.args.payloads) (sym (c.at.ensures.stop (omega (arith, count, ap length parts, length-append (map (λ v. v.items) came) (next.items ∷ behind), few))))
    (subst (λ i. NamesBad said c.args.payloads (log_stop i c.in-Err.stop)) (sym count)
    (first_bad said c.args.payloads (map (λ v. v.items) came) behind next.items here c.in-Err.stop parts c.loop-payload.invariant.replayed
    (λ is. subst (λ p. IsBadPayload said.k here p) c.deref.ensures.value (subst (λ (k : ℕ). IsBadPayload k here c.deref.result.now) c.loop-payload.invariant.on.meta.layout.k (c.in-Err.ensures.unfit cc)))))
