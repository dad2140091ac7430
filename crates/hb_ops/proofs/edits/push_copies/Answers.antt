use Rattle.std.proofs.Common.{◌≡◌, ℕ, ◌+◌, ◌<◌, List, [], ◌∷◌, ◌++◌, length, get_or, take, sym, ap, ◌∙◌, append_assoc}
use Rattle.std.proofs.lemmas.List.{take_all, take_more}
use Rattle.hb_space.specs.declared.records.Record.{Record}
use Rattle.hb_ops.proofs.edits.push_copies.Goals as goal

-- a copy of the next record joins those before it
one_more : (made made' old xs : List Record) (i : ℕ) (copy next : Record) → made' ≡ made ++ copy ∷ [] → copy ≡ next → next ≡ get_or xs i next → i < length xs
    → made ≡ old ++ take i xs → made' ≡ old ++ take (i + 1) xs
one_more made made' old xs i copy next push same is lt so_far =
    push ∙ ap (λ (l : List Record). l ++ copy ∷ []) so_far ∙ append_assoc old (take i xs) (copy ∷ [])
    ∙ ap (λ (l : List Record). old ++ l) (ap (λ (r : Record). take i xs ++ r ∷ []) (same ∙ is) ∙ sym (take_more xs i next lt))

pub loop-record-preserved : goal.loop-record-preserved
loop-record-preserved c =
    one_more c.loop-record.made.items _ c.args.made.now.items c.args.records.now c.loop-record.record-index c.copy.result c.record-item.result
    c.in_ok-push.ensures.items c.copy.ensures c.record-item.is c.loop-record-test.true c.loop-record.invariant

pub returns : goal.returns
returns c = c.loop-record.invariant ∙ ap (λ (l : List Record). c.args.made.now.items ++ l) (take_all _ _ c.loop-record-test.false)
