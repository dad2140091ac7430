use Rattle.std.proofs.Common.{refl, subst, sym, ◌∙◌}
use Rattle.std.proofs.lemmas.Iterator.Adapters.{YieldsList-from_vec}
use Rattle.std.proofs.lemmas.Iterator.Consumers.{YieldsList-so_far, YieldsList-turn}
use Rattle.std.proofs.lemmas.Result.{err_from_is_err_and}
use Rattle.hb_log_codec.specs.Groups.{FitsGroup}
use Rattle.hb_log_codec.specs.Reading.{logged}
use Rattle.hb_store.specs.Replay.{MayFollow}
use Rattle.hb_store.specs.Replaying.{replayed_of}
use Rattle.hb_store.proofs.Facts.MadeMeta.{after_itself, after_more}
use Rattle.hb_store.proofs.Replays.{splits, next_fits, may_more, replay_more, bad_here}
use Rattle.hb_store.proofs.touched.Touched.follow_all.Goals as goal

pub loop-group-init : goal.loop-group-init
loop-group-init c = record { may = tt; leads = refl; on = record { meta = after_itself c.args.self.now.meta c.requires.limits; pages = c.requires.pages } }

pub follow-requires-clause-goes_on : goal.follow-requires-clause-goes_on
follow-requires-clause-goes_on c = record { limits = c.loop-group.invariant.on.meta.limits; pages = c.loop-group.invariant.on.pages }

pub follow-requires-clause-fits : goal.follow-requires-clause-fits
follow-requires-clause-fits c =
    let all = c.in_ok-groups.groups.items in
    let gives = c.into_iter-group-iterator.ensures.into_iter_gives in
    let run = YieldsList-from_vec {s = c.into_iter-group-iterator.result} all gives.0 (gives.1 ∙ c.in_ok-groups.groups.ok.0) in
    let turn = YieldsList-turn run c.loop-group.yielded c.loop-group.group-iterator c.loop-group.yielded_by c.next.result c.next.new.self c.in-Some.group c.in-Some.is c.next.ensures.steps in
    let split = splits all c.loop-group.yielded c.in-Some.group (YieldsList-so_far run c.loop-group.yielded c.loop-group.group-iterator c.loop-group.yielded_by) turn in
    subst (λ k. FitsGroup k (logged c.in-Some.group)) (sym c.loop-group.invariant.on.meta.layout.k) (next_fits c.args.self.now.meta.k all c.loop-group.yielded c.in-Some.group _ split c.in_ok-groups.ensures.read.fits)

pub loop-group-preserved : goal.loop-group-preserved
loop-group-preserved c =
    let t = replayed_of c.args.self.now in
    let u = replayed_of c.loop-group.self in
    let follow = c.in_ok-follow.ensures in
    record {
      may = may_more t c.loop-group.yielded c.in-Some.group c.loop-group.invariant.may (subst (λ r. MayFollow r (logged c.in-Some.group)) c.loop-group.invariant.leads follow.allowed);
      leads = replay_more t u (replayed_of c.follow.new.self) c.loop-group.yielded c.in-Some.group c.loop-group.invariant.leads follow.effect;
      on = record {
        meta = after_more c.args.self.now.meta c.loop-group.self.meta c.follow.new.self.meta c.loop-group.invariant.on.meta follow.leads.meta;
        pages = follow.leads.pages;
      };
    }

pub returns-in_err-follow-clause-unfit : goal.returns-in_err-follow-clause-unfit
returns-in_err-follow-clause-unfit c =
    let all = c.in_ok-groups.groups.items in
    let gives = c.into_iter-group-iterator.ensures.into_iter_gives in
    let run = YieldsList-from_vec {s = c.into_iter-group-iterator.result} all gives.0 (gives.1 ∙ c.in_ok-groups.groups.ok.0) in
    let turn = YieldsList-turn run c.loop-group.yielded c.loop-group.group-iterator c.loop-group.yielded_by c.next.result c.next.new.self c.in-Some.group c.in-Some.is c.next.ensures.steps in
    let split = splits all c.loop-group.yielded c.in-Some.group (YieldsList-so_far run c.loop-group.yielded c.loop-group.group-iterator c.loop-group.yielded_by) turn in
    let p = err_from_is_err_and c.from_residual-in_err-follow.result c.from_residual-in_err-follow.ensures.1 in
    λ is. bad_here c.groups_are_read_in_one_way.ensures.list c.args.self.now.meta.k (replayed_of c.args.self.now) (replayed_of c.loop-group.self) c.args.payload.now all c.loop-group.yielded c.in-Some.group _ c.in_ok-groups.ensures.read split c.loop-group.invariant.leads (c.in_err-follow.ensures.unfit cc)
