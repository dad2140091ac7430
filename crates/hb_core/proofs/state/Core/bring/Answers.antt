use Rattle.std.proofs.Common.{Err, refl, ap, subst, sym, ◌∙◌}
use Rattle.std.proofs.lemmas.Bool.{false≢true}
use Rattle.hb_disk.specs.Model.{DiskModel}
use Rattle.hb_pool.specs.Frames.{pinned}
use Rattle.hb_pool.specs.Pools.{put_last}
use Rattle.hb_store.specs.Calls.{Fetched, KeepsAllButPages}
use Rattle.hb_store.specs.Seen.{seen_as, uses_of}
use Rattle.hb_store.specs.States.{StoreState, in_memory}
use Rattle.hb_core.specs.Moving.{with_order_of_use, with_store}
use Rattle.hb_core.specs.CoreSeen.{core_seen}
use Rattle.hb_core.specs.Working.{Halts}
use Rattle.hb_core.specs.declared.halts.Halt.{Halt}
use Rattle.hb_core.proofs.Running.Coming.{asks_then, failed_test, looks_kept, many_then, may_be_pinned, may_let_go, none_comes, not_crowded, passed, refused}
use Rattle.hb_core.proofs.state.Core.bring.Goals as goal
use Rattle.hb_lemmas.proofs.Options.{has_value, none_unless}

pub returns-in_default-clause-comes : goal.returns-in_default-clause-comes
returns-in_default-clause-comes g c m may work =
    none_comes m (g.D.Device.model c.args.self.now.store.disk) (core_seen c.args.self.now) c.args.actor c.requires.actor may work (sym c.in_default.is ∙ c.requires.wanted m may)

pub pin-requires : goal.pin-requires
pin-requires g c =
    may_be_pinned c.requires.may.0 (g.D.Device.model c.args.self.now.store.disk) (core_seen c.args.self.now) c.args.actor c.requires.actor c.requires.may.1 c.requires.may.2 c.in-Some.wanted (sym (c.requires.wanted c.requires.may.0 c.requires.may.1) ∙ c.in-Some.is)
    (uses_of c.fetch.new.self) c.in-Ok.ensures.uses

pub tested-requires : goal.tested-requires
tested-requires g c =
    let m = c.requires.may.0 in
    let may = c.requires.may.1 in
    record {
      there = (subst (λ (st : StoreState). Fetched c.in-Some.wanted.page (seen_as c.args.self.now.store) st) (sym c.pin.ensures.seen) c.in-Ok.ensures.fetched).there;
      many = many_then m (g.D.Device.model c.args.self.now.store.disk) (core_seen c.args.self.now) c.args.actor c.requires.actor may c.requires.may.2 c.in-Some.wanted (sym (c.requires.wanted m may) ∙ c.in-Some.is)
          (g.D.Device.model c.pin.new.self.disk) _ (seen_as c.pin.new.self) (looks_kept (ap g.D.Device.model c.pin.ensures.disk) c.pin.ensures.seen c.in-Ok.ensures.looks) c.stands_well.ensures.store.memory (subst (λ (st : StoreState). Fetched c.in-Some.wanted.page (seen_as c.args.self.now.store) st) (sym c.pin.ensures.seen) c.in-Ok.ensures.fetched)
          (λ id stays. ap (λ (st : StoreState). in_memory st id) c.pin.ensures.seen ∙ c.in-Ok.ensures.stays id stays) c.args.aim.now.asked (c.requires.asked m may);
    }

pub returns-in-Ok-tested-clause-comes : goal.returns-in-Ok-tested-clause-comes
returns-in-Ok-tested-clause-comes g c m may work =
    passed m (g.D.Device.model c.args.self.now.store.disk) (core_seen c.args.self.now) c.args.actor c.requires.actor may work c.in-Some.wanted (sym (c.requires.wanted m may) ∙ c.in-Some.is)
    (g.D.Device.model c.pin.new.self.disk) _ (seen_as c.pin.new.self) (looks_kept (ap g.D.Device.model c.pin.ensures.disk) c.pin.ensures.seen c.in-Ok.ensures.looks) c.stands_well.ensures.store.memory (subst (λ (st : StoreState). Fetched c.in-Some.wanted.page (seen_as c.args.self.now.store) st) (sym c.pin.ensures.seen) c.in-Ok.ensures.fetched)
    (λ id stays. ap (λ (st : StoreState). in_memory st id) c.pin.ensures.seen ∙ c.in-Ok.ensures.stays id stays)
    (uses_of c.pin.new.self) (c.pin.ensures.uses ∙ ap (put_last c.in-Some.wanted.page pinned) c.in-Ok.ensures.uses) c.stands_well.ensures.tied
    (c.in-Ok-tested.ensures.passes (m.activity c.args.actor) (asks_then m (g.D.Device.model c.args.self.now.store.disk) (core_seen c.args.self.now) c.args.actor c.requires.actor may work c.in-Some.wanted (sym (c.requires.wanted m may) ∙ c.in-Some.is)
    (g.D.Device.model c.pin.new.self.disk) _ (seen_as c.pin.new.self) (looks_kept (ap g.D.Device.model c.pin.ensures.disk) c.pin.ensures.seen c.in-Ok.ensures.looks) c.stands_well.ensures.store.memory (subst (λ (st : StoreState). Fetched c.in-Some.wanted.page (seen_as c.args.self.now.store) st) (sym c.pin.ensures.seen) c.in-Ok.ensures.fetched)
    (λ id stays. ap (λ (st : StoreState). in_memory st id) c.pin.ensures.seen ∙ c.in-Ok.ensures.stays id stays) c.args.aim.now.asked (c.requires.asked m may)))

pub unpin-requires : goal.unpin-requires
unpin-requires g c =
    let m = c.requires.may.0 in
    let may = c.requires.may.1 in
    may_let_go m (g.D.Device.model c.args.self.now.store.disk) (core_seen c.args.self.now) c.args.actor c.requires.actor may c.requires.may.2 c.in-Some.wanted (sym (c.requires.wanted m may) ∙ c.in-Some.is)
    (g.D.Device.model c.pin.new.self.disk) _ (seen_as c.pin.new.self) (looks_kept (ap g.D.Device.model c.pin.ensures.disk) c.pin.ensures.seen c.in-Ok.ensures.looks) c.stands_well.ensures.store.memory (subst (λ (st : StoreState). Fetched c.in-Some.wanted.page (seen_as c.args.self.now.store) st) (sym c.pin.ensures.seen) c.in-Ok.ensures.fetched)
    (λ id stays. ap (λ (st : StoreState). in_memory st id) c.pin.ensures.seen ∙ c.in-Ok.ensures.stays id stays)
    (uses_of c.pin.new.self) (c.pin.ensures.uses ∙ ap (put_last c.in-Some.wanted.page pinned) c.in-Ok.ensures.uses) c.stands_well.ensures.tied

pub returns-in-Err-tested-clause-halts : goal.returns-in-Err-tested-clause-halts
returns-in-Err-tested-clause-halts g c m may work =
    let fails = c.in-Err-tested.ensures.fails in
    subst (λ (e : DiskModel). Halts m c.args.actor c.in-Err-tested.halt e (with_order_of_use (uses_of c.unpin.new.self) (with_store (seen_as c.unpin.new.self) (core_seen c.args.self.now)))) (ap g.D.Device.model (sym c.unpin.ensures.disk))
    (subst (λ (st : StoreState). Halts m c.args.actor c.in-Err-tested.halt (g.D.Device.model c.pin.new.self.disk) (with_order_of_use (uses_of c.unpin.new.self) (with_store st (core_seen c.args.self.now)))) (sym c.unpin.ensures.seen)
    (subst (λ (h : Halt). Halts m c.args.actor h (g.D.Device.model c.pin.new.self.disk) (with_order_of_use (uses_of c.unpin.new.self) (with_store (seen_as c.pin.new.self) (core_seen c.args.self.now)))) (sym fails.1)
    (failed_test m (g.D.Device.model c.args.self.now.store.disk) (core_seen c.args.self.now) c.args.actor c.requires.actor may work c.in-Some.wanted (sym (c.requires.wanted m may) ∙ c.in-Some.is)
    (g.D.Device.model c.pin.new.self.disk) _ (seen_as c.pin.new.self) (looks_kept (ap g.D.Device.model c.pin.ensures.disk) c.pin.ensures.seen c.in-Ok.ensures.looks) c.stands_well.ensures.store.memory (subst (λ (st : StoreState). Fetched c.in-Some.wanted.page (seen_as c.args.self.now.store) st) (sym c.pin.ensures.seen) c.in-Ok.ensures.fetched)
    (λ id stays. ap (λ (st : StoreState). in_memory st id) c.pin.ensures.seen ∙ c.in-Ok.ensures.stays id stays)
    (uses_of c.pin.new.self) (uses_of c.unpin.new.self) (c.pin.ensures.uses ∙ ap (put_last c.in-Some.wanted.page pinned) c.in-Ok.ensures.uses) c.stands_well.ensures.tied c.unpin.ensures.uses
    fails.0 (fails.2 (m.activity c.args.actor) (asks_then m (g.D.Device.model c.args.self.now.store.disk) (core_seen c.args.self.now) c.args.actor c.requires.actor may work c.in-Some.wanted (sym (c.requires.wanted m may) ∙ c.in-Some.is)
    (g.D.Device.model c.pin.new.self.disk) _ (seen_as c.pin.new.self) (looks_kept (ap g.D.Device.model c.pin.ensures.disk) c.pin.ensures.seen c.in-Ok.ensures.looks) c.stands_well.ensures.store.memory (subst (λ (st : StoreState). Fetched c.in-Some.wanted.page (seen_as c.args.self.now.store) st) (sym c.pin.ensures.seen) c.in-Ok.ensures.fetched)
    (λ id stays. ap (λ (st : StoreState). in_memory st id) c.pin.ensures.seen ∙ c.in-Ok.ensures.stays id stays) c.args.aim.now.asked (c.requires.asked m may))))))

pub halt_of-requires : goal.halt_of-requires
halt_of-requires g c is =
    not_crowded c.requires.may.0 (g.D.Device.model c.args.self.now.store.disk) (core_seen c.args.self.now) c.args.actor c.requires.actor c.requires.may.1 c.requires.may.2 c.in-Some.wanted (sym (c.requires.wanted c.requires.may.0 c.requires.may.1) ∙ c.in-Some.is)
    (c.in-Err.ensures.crowded.0 (ap Err is))

pub returns-in-Err-clause-halts : goal.returns-in-Err-clause-halts
returns-in-Err-clause-halts g c m may work =
    refused m (g.D.Device.model c.args.self.now.store.disk) (core_seen c.args.self.now) c.args.actor c.requires.actor may work c.in-Some.wanted (sym (c.requires.wanted m may) ∙ c.in-Some.is)
    (g.D.Device.model c.fetch.new.self.disk) _ (seen_as c.fetch.new.self) (uses_of c.fetch.new.self) c.in-Err.stop c.halt_of.result c.halt_of.ensures c.in-Err.ensures.looks c.in-Err.ensures.kept
    (none_unless _ (λ x is. false≢true (c.in-Err.ensures.there (has_value _ x is)).0)) c.in-Err.ensures.why c.in-Err.ensures.sound

pub returns-in-Ok-tested-clause-brings : goal.returns-in-Ok-tested-clause-brings
returns-in-Ok-tested-clause-brings g c = record {
  pages = subst (λ (st : StoreState). KeepsAllButPages (seen_as c.args.self.now.store) st) (sym c.pin.ensures.seen) c.in-Ok.ensures.fetched.rest;
  rest = refl;
}

pub returns-in-Err-tested-clause-brings : goal.returns-in-Err-tested-clause-brings
returns-in-Err-tested-clause-brings g c = record {
  pages = subst (λ (st : StoreState). KeepsAllButPages (seen_as c.args.self.now.store) st) (sym (c.unpin.ensures.seen ∙ c.pin.ensures.seen)) c.in-Ok.ensures.fetched.rest;
  rest = refl;
}

pub returns-in-Err-clause-brings : goal.returns-in-Err-clause-brings
returns-in-Err-clause-brings g c = record { pages = subst (KeepsAllButPages (seen_as c.args.self.now.store)) (sym c.in-Err.ensures.kept.0) refl; rest = refl }
