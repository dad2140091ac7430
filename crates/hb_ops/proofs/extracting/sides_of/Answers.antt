use Rattle.std.proofs.Common.{◌≡◌, Bool, true, false, not, cond, List, [], ◌∷◌, ◌++◌, filter, sym, ap, ◌∙◌}
use Rattle.std.proofs.lemmas.List.{append-nil}
use Rattle.std.proofs.lemmas.List.Elements.{filter-append}
use Rattle.hb_space.specs.declared.records.Record.{Record}
use Rattle.hb_ops.proofs.extracting.sides_of.Goals as goal

-- a record that passes joins those that pass
joins : (passes : Record → Bool) (on on' yielded : List Record) (each : Record) → on' ≡ on ++ each ∷ [] → on ≡ filter passes yielded → passes each ≡ true → on' ≡ filter passes (yielded ++ each ∷ [])
joins passes on on' yielded each push so_far is =
    push ∙ ap (λ (l : List Record). l ++ each ∷ []) so_far
    ∙ sym (filter-append passes yielded (each ∷ []) ∙ ap (λ (b : Bool). filter passes yielded ++ cond b (each ∷ []) []) is)

-- one that doesn't is left out
left_out : (passes : Record → Bool) (on yielded : List Record) (each : Record) → on ≡ filter passes yielded → passes each ≡ false → on ≡ filter passes (yielded ++ each ∷ [])
left_out passes on yielded each so_far is =
    so_far ∙ sym (filter-append passes yielded (each ∷ []) ∙ ap (λ (b : Bool). filter passes yielded ++ cond b (each ∷ []) []) is ∙ append-nil (filter passes yielded))

pub loop-each-preserved-in-Continue-1 : goal.loop-each-preserved-in-Continue-1
loop-each-preserved-in-Continue-1 c = (
  joins _ c.loop-each.on.items _ c.loop-each.yielded c.in-Some.each c.in_ok-push.ensures.items c.loop-each.invariant.0 (sym c.is_on.ensures.on ∙ c.if-is_on.true),
  left_out _ _ c.loop-each.yielded c.in-Some.each c.loop-each.invariant.1 (sym c.is_on.ensures.off ∙ ap (λ (b : Bool). not b) c.if-is_on.true),
)

pub loop-each-preserved : goal.loop-each-preserved
loop-each-preserved c = (
  left_out _ _ c.loop-each.yielded c.in-Some.each c.loop-each.invariant.0 (sym c.is_on.ensures.on ∙ c.if-is_on.false),
  joins _ c.loop-each.off.items _ c.loop-each.yielded c.in-Some.each c.in_ok-push-2.ensures.items c.loop-each.invariant.1 (sym c.is_on.ensures.off ∙ ap (λ (b : Bool). not b) c.if-is_on.false),
)
