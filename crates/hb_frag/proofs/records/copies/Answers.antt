use Rattle.std.proofs.Common.{◌≡◌, ℕ, ◌+◌, ◌<◌, List, [], ◌∷◌, ◌++◌, length, take, get_or, sym, ap, ◌∙◌}
use Rattle.std.proofs.lemmas.List.{take_more, take_all}
use Rattle.hb_space.specs.declared.records.Record.{Record}
use Rattle.hb_frag.proofs.records.copies.Goals as goal

-- one copy more
one_more : (xs made new : List Record) (i : ℕ) (item copy : Record) → i < length xs → made ≡ take i xs → item ≡ get_or xs i item → copy ≡ item → new ≡ made ++ copy ∷ [] → new ≡ take (i + 1) xs
one_more xs made new i item copy below so_far is same more =
    more ∙ ap (λ (r : Record). made ++ r ∷ []) (same ∙ is) ∙ ap (λ (v : List Record). v ++ get_or xs i item ∷ []) so_far ∙ sym (take_more xs i item below)

pub loop-record-preserved : goal.loop-record-preserved
loop-record-preserved c =
    one_more c.as_slice-source.result.now c.loop-record.records.items c.push.new.self.items c.loop-record.record-index c.record-item.result c.copy.result
    c.loop-record-test.true c.loop-record.invariant c.record-item.is c.copy.ensures c.in_ok-push.ensures.items

pub returns : goal.returns
returns c = c.new.ensures ∙ c.loop-record.invariant ∙ take_all c.loop-record.record-index c.as_slice-source.result.now c.loop-record-test.false ∙ c.as_slice-source.ensures
