use Rattle.std.proofs.Common.{◌≡◌, ◌≢◌, ℕ, Err, ap, sym, subst, ◌∙◌, arith}
use Rattle.std.proofs.lemmas.Result.{err_from_is_err_and}
use Rattle.hb_frag.specs.declared.pages.Page.TheVariants.{Free}
use Rattle.hb_layout.specs.declared.meta.Meta.{Meta}
use Rattle.hb_ops.specs.Allocating.{Allocates}
use Rattle.hb_ops.specs.Files.{page_of, last_of}
use Rattle.hb_store.specs.Fetching.{IsCrowdedOut, MayBring, MayFetch}
use Rattle.hb_store.specs.States.{in_memory}
use Rattle.hb_store.specs.Seen.{seen_as, uses_of}
use Rattle.hb_store.proofs.Facts.LookLaws.{LooksUp-none, LooksUp-as, LooksUp-stop}
use Rattle.hb_store.proofs.Heads.{head_allocates, head_free, room_behind}
use Rattle.hb_store.proofs.store.Store.next_page.Goals as goal

pub returns-in_err-next-clause-sound : goal.returns-in_err-next-clause-sound
returns-in_err-next-clause-sound g c =
    let self = c.args.self.now in
    let head_is : c.meta-meta.result.now.free ≡ self.memory.state.meta.free = ap (λ (m : Meta). m.free) c.meta-meta.ensures.meta in
    let some : self.memory.state.meta.free ≢ 0 = omega (arith, c.if-meta-ne0.true, head_is) in
    let p = err_from_is_err_and c.from_residual.result c.from_residual.ensures.1 in
    λ durable later keeps sound. rw (p.1, p.2) (λ fault memory.
    let free = head_free (g.D.Device.model self.disk) (seen_as self) durable later keeps sound some in
    c.in_err-next.ensures.sound durable later keeps sound free.0 (ap (page_of (last_of durable later)) head_is ∙ free.1) fault memory)

pub returns-then-meta-ne0-clause-allocates : goal.returns-then-meta-ne0-clause-allocates
returns-then-meta-ne0-clause-allocates g c =
    let self = c.args.self.now in
    let new = c.free_head.new.self in
    let same = c.meta-meta.ensures.meta in
    let head_is : c.meta-meta.result.now.free ≡ self.memory.state.meta.free = ap (λ (m : Meta). m.free) same in
    let some : self.memory.state.meta.free ≢ 0 = omega (arith, c.if-meta-ne0.true, head_is) in
    let few : self.memory.state.meta.live ≢ self.memory.state.meta.pages = omega (arith, c.if-meta.false, ap (λ (m : Meta). m.live) same, ap (λ (m : Meta). m.pages) same) in
    let fetches : MayFetch self.memory.state.meta.free (seen_as self) (seen_as new) = subst (λ (id : ℕ). MayFetch id (seen_as self) (seen_as new)) head_is c.free_head.ensures.brings.fetched in
    subst (λ (id : ℕ). Allocates new.memory.state.meta id c.in_ok-next.next) (sym head_is)
    (head_allocates (seen_as self) (seen_as new) c.in_ok-next.next c.in_ok-next.ensures.memory fetches few some (ap (in_memory (seen_as new)) (sym head_is) ∙ c.in_ok-next.ensures.named))

pub returns-then-meta-ne0-clause-names : goal.returns-then-meta-ne0-clause-names
returns-then-meta-ne0-clause-names g c =
    λ durable later keeps some. (c.free_head.ensures.looks.keeps durable later keeps).memory.cached c.meta-meta.result.now.free (Free c.in_ok-next.next) c.in_ok-next.ensures.named

pub returns-then-meta-2-clause-sound : goal.returns-then-meta-2-clause-sound
returns-then-meta-2-clause-sound g c =
    let self = c.args.self.now in
    let same = c.meta-meta.ensures.meta in
    λ durable later keeps sound fault memory.
    let none : self.memory.state.meta.free ≡ 0 = omega (arith, c.if-meta-ne0.false, ap (λ (m : Meta). m.free) same) in
    let high : self.memory.state.meta.high ≡ self.memory.state.meta.pages = omega (arith, c.if-meta-2.true, ap (λ (m : Meta). m.high) same, ap (λ (m : Meta). m.pages) same) in
    let full = room_behind (g.D.Device.model self.disk) (seen_as self) durable later keeps sound none high in
    absurd (omega (arith, c.if-meta.false, full, ap (λ (m : Meta). m.live) same, ap (λ (m : Meta). m.pages) same))

pub returns-in_err-next-clause-looks : goal.returns-in_err-next-clause-looks
returns-in_err-next-clause-looks g c =
    let p = err_from_is_err_and c.from_residual.result c.from_residual.ensures.1 in
    LooksUp-stop _ c.from_residual.result p.0 (ap Err (sym p.2)) p.1 (g.D.Device.model c.args.self.now.disk) (g.D.Device.model c.free_head.new.self.disk) (seen_as c.args.self.now) (seen_as c.free_head.new.self) c.in_err-next.ensures.looks

pub returns-then-meta-ne0-clause-looks : goal.returns-then-meta-ne0-clause-looks
returns-then-meta-ne0-clause-looks g c =
    LooksUp-as (g.D.Device.model c.args.self.now.disk) (g.D.Device.model c.free_head.new.self.disk) (seen_as c.args.self.now) (seen_as c.free_head.new.self) (λ is. cc is) (λ is. cc is) c.in_ok-next.ensures.looks

pub returns-then-meta-2-clause-looks : goal.returns-then-meta-2-clause-looks
returns-then-meta-2-clause-looks g c = LooksUp-none (g.D.Device.model c.args.self.now.disk) (seen_as c.args.self.now) (λ is. cc (is, c.damaged.ensures))

pub returns-in_err-next-clause-brings : goal.returns-in_err-next-clause-brings
returns-in_err-next-clause-brings g c =
    subst (λ (id : ℕ). MayBring id (seen_as c.args.self.now) (seen_as c.free_head.new.self) (uses_of c.args.self.now) (uses_of c.free_head.new.self)) (ap (λ (m : Meta). m.free) c.meta-meta.ensures.meta) c.free_head.ensures.brings

pub returns-in_err-next-clause-crowded : goal.returns-in_err-next-clause-crowded
returns-in_err-next-clause-crowded g c =
    let self = c.args.self.now in
    let head_is : c.meta-meta.result.now.free ≡ self.memory.state.meta.free = ap (λ (m : Meta). m.free) c.meta-meta.ensures.meta in
    let some : self.memory.state.meta.free ≢ 0 = omega (arith, c.if-meta-ne0.true, head_is) in
    let p = err_from_is_err_and c.from_residual.result c.from_residual.ensures.1 in
    λ is. (some, subst (λ (id : ℕ). IsCrowdedOut id (seen_as self) (uses_of self)) head_is (c.in_err-next.ensures.crowded (cc (is, p.1, p.2))))

pub returns-then-meta-ne0-clause-brings : goal.returns-then-meta-ne0-clause-brings
returns-then-meta-ne0-clause-brings g c =
    subst (λ (id : ℕ). MayBring id (seen_as c.args.self.now) (seen_as c.free_head.new.self) (uses_of c.args.self.now) (uses_of c.free_head.new.self)) (ap (λ (m : Meta). m.free) c.meta-meta.ensures.meta) c.free_head.ensures.brings
