use Rattle.std.proofs.Common.{ap, ◌∙◌}
use Rattle.hb_store.specs.Held.{StoreHeld, cleaned_held}
use Rattle.hb_store.specs.States.{is_dirty}
use Rattle.hb_store.proofs.Called.{clean_keeps, clean_same, dirty_frame}
use Rattle.hb_store.proofs.memory.Memory.cleaned.Goals as goal

pub cleaned-requires : goal.cleaned-requires
cleaned-requires c =
    let m = c.self.inside in
    let is = c.self.invariant in
    dirty_frame m.turn m.meta m.log m.in_log m.stopped m.pool is.memory is.pool is.spelled c.args.id (ap (λ (h : StoreHeld). is_dirty h.state c.args.id) c.self.view_is ∙ c.requires)

pub invariant_of-self : goal.invariant_of-self
invariant_of-self c =
    let m = c.self.inside in
    let is = c.self.invariant in
    let k = clean_keeps m.turn m.meta m.log m.in_log m.stopped m.pool is.memory is.pool is.spelled c.args.id c.cleaned.new.self c.cleaned.ensures (ap (λ (h : StoreHeld). is_dirty h.state c.args.id) c.self.view_is ∙ c.requires) in
    record { memory = k.memory; pool = k.framed; spelled = k.spelled }

pub returns : goal.returns
returns c =
    let m = c.self.inside in
    let is = c.self.invariant in
    clean_same m.turn m.meta m.log m.in_log m.stopped m.pool is.memory is.pool is.spelled c.args.id c.cleaned.new.self c.cleaned.ensures (ap (λ (h : StoreHeld). is_dirty h.state c.args.id) c.self.view_is ∙ c.requires)
    ∙ ap (cleaned_held c.args.id) c.self.view_is
