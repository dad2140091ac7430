use Rattle.std.proofs.Common.{◌≡◌, ◌-◌, length, take, drop}
use Rattle.hb_text.specs.Operands.{values_read}
use Rattle.hb_text.proofs.ValueWords.{after_values}
use Rattle.hb_text.proofs.operands.read_values.Given as goal

-- the values so far and those of the words that are wanted still are those of all words that are wanted
abbrev pub invariant-loop : goal.invariant-loop
invariant-loop l = record {
  told : after_values l.values.items (values_read (take (l.count - l.counter) l.words)) ≡ values_read (take l.count l.fn.words);
  number : length l.values.items ≡ l.counter;
  rest : l.words ≡ drop l.counter l.fn.words;
}
