use Rattle.std.proofs.Common.{◌≡◌, inl, inr, refl, ap, sym, subst, ◌∙◌, arith, rules}
use Rattle.std.specs.List.{Contains}
use Rattle.hb_outside.specs.Memory.{SinkState, next_count}
use Rattle.std.proofs.lemmas.Bool.{false≢true}
use Rattle.hb_outside.proofs.Facts.CountLaws.{Counts-same}
use Rattle.hb_outside.proofs.Counts.{Puts-nothing}
use Rattle.hb_outside.proofs.memory_sink.MemSinkSink.put.Goals as goal

pub returns-then-fails-clause-blame : goal.returns-then-fails-clause-blame
returns-then-fails-clause-blame c = inl (rw (← c.self.view_is, ← c.deref.ensures.value) (c.is_listed-fails.ensures.0 c.if-fails.true))

pub returns-then-fails-clause-put : goal.returns-then-fails-clause-put
returns-then-fails-clause-put c =
    Puts-nothing _ _ (ap (λ (s : SinkState). s.written) c.self.view_is) (omega (arith, ap (λ (s : SinkState). s.faults) c.self.view_is))
    (c.saturating_add-self-inside-then-fails.ensures ∙ ap (λ (s : SinkState). next_count s.faults) c.self.view_is)

pub returns-then-is_err-clause-put : goal.returns-then-is_err-clause-put
returns-then-is_err-clause-put c =
    let kept : c.extend_from_slice.new.self.items ≡ c.args.self.now.written = search rules in
    Puts-nothing _ _ kept (omega (arith, ap (λ (s : SinkState). s.faults) c.self.view_is))
    (c.saturating_add-self-inside-then-is_err-2.ensures ∙ ap (λ (s : SinkState). next_count s.faults) c.self.view_is)

pub returns-then-is_err-clause-blame : goal.returns-then-is_err-clause-blame
returns-then-is_err-clause-blame c =
    inr (c.saturating_add-self-inside-then-is_err.ensures ∙ ap (λ (s : SinkState). next_count s.starved) c.self.view_is)

pub returns-then-is_err-clause-listed : goal.returns-then-is_err-clause-listed
returns-then-is_err-clause-listed c = λ _. refl

pub returns-clause-listed : goal.returns-clause-listed
returns-clause-listed c = λ listed.
    let here : Contains c.self.inside.calls.items c.self.inside.call = subst (λ (s : SinkState). Contains s.calls s.call) (sym c.self.view_is) listed in
    sym c.if-fails.false ∙ c.is_listed-fails.ensures.1 (rw c.deref.ensures.value here)

pub returns-clause-put : goal.returns-clause-put
returns-clause-put c = record {
  done = search rules;
  tried = tt;
  counts = Counts-same (λ e. false≢true e) (ap (λ (s : SinkState). s.faults) c.self.view_is);
}
