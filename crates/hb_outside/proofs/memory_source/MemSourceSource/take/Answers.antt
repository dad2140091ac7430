use Rattle.std.proofs.Common.{ℕ, List, min, length, drop, Some, refl, ap, sym, subst, ◌∙◌, arith}
use Rattle.std.specs.List.{Contains}
use Rattle.std.proofs.lemmas.Bool.{false≢true}
use Rattle.std.proofs.lemmas.List.{take_rest}
use Rattle.hb_outside.specs.Memory.{SourceState, next_count}
use Rattle.hb_outside.proofs.Facts.CountLaws.{Counts-same}
use Rattle.hb_outside.proofs.Counts.{Counts-failed, Takes-from_place}
use Rattle.hb_outside.proofs.memory_source.MemSourceSource.take.Goals as goal

pub returns-then-fails-clause-took : goal.returns-then-fails-clause-took
returns-then-fails-clause-took c = record {
  bound = tt;
  moved = tt;
  failed = ap (λ (s : SourceState). Some s.left) c.self.view_is;
  counts = Counts-failed _ _ refl (omega (arith, ap (λ (s : SourceState). s.faults) c.self.view_is)) (c.saturating_add-self-inside-then-fails.ensures ∙ ap (λ (s : SourceState). next_count s.faults) c.self.view_is);
}

pub returns-then-fails-clause-exact : goal.returns-then-fails-clause-exact
returns-then-fails-clause-exact c =
    (λ _. rw (← c.self.view_is, ← c.deref.ensures.value) (c.is_listed-fails.ensures.0 c.if-fails.true), λ _. refl)

pub returns-clause-took : goal.returns-clause-took
returns-clause-took c = record {
  bound = omega (arith, c.move_front-count.ensures.count, c.move_front-count.auto.into);
  moved = Takes-from_place c.self.inside.bytes.items _ _ _ c.self.inside.at _ c.deref-2.ensures.value (ap (λ (s : SourceState). s.left) c.self.view_is) c.move_front-count.ensures.moved;
  failed = tt;
  counts = Counts-same (λ e. false≢true e) (ap (λ (s : SourceState). s.faults) c.self.view_is);
}

pub returns-clause-exact : goal.returns-clause-exact
returns-clause-exact c =
    let here : Contains c.args.self.now.calls c.args.self.now.call → Contains c.self.inside.calls.items c.self.inside.call = λ listed. subst (λ (s : SourceState). Contains s.calls s.call) (sym c.self.view_is) listed in
    (λ e. absurd (false≢true e), λ listed. sym c.if-fails.false ∙ c.is_listed-fails.ensures.1 (rw c.deref.ensures.value (here listed)))

pub returns-clause-count : goal.returns-clause-count
returns-clause-count c =
    c.move_front-count.ensures.count
    ∙ ap (λ (l : List ℕ). min (length c.args.into.now) (length l)) (take_rest c.deref-2.result.now c.self.inside.at ∙ ap (drop c.self.inside.at) c.deref-2.ensures.value ∙ ap (λ (s : SourceState). s.left) c.self.view_is)
