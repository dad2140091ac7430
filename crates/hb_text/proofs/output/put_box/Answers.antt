use Rattle.std.proofs.Common.{◌≡◌, ℕ, List, ◌++◌, length, sym, ◌∙◌, append_assoc}
use Rattle.std.specs.Prelude.{codes}
use Rattle.std.specs.Fmt.{decimal}
use Rattle.std.specs.List.{flat_map}
use Rattle.hb_space.specs.declared.records.Record.{Record}
use Rattle.hb_set.specs.declared.commands.Reply.TheVariants.{Within}
use Rattle.hb_outside.proofs.Facts.PutLaws.{Puts-longer, Puts-then}
use Rattle.hb_text.specs.Output.{record_text, reply_text}
use Rattle.hb_text.proofs.output.put_box.Goals as goal

-- the reply is the line with the count, and a line for each record
box_text : (line : ℕ) (rs : List Record) (word : List ℕ) → word ≡ (codes " box " ++ decimal (length rs)) ++ codes "\n" → reply_text line (Within rs) ≡ (decimal line ++ word) ++ flat_map record_text rs
box_text line rs word e = rw e (sym (append_assoc (decimal line) _ (flat_map record_text rs)))

pub returns-in_err-put_said : goal.returns-in_err-put_said
returns-in_err-put_said g c =
    let whole = box_text c.args.line c.args.records.now _ (c.as_slice.ensures ∙ c.count_word-count.ensures.word) in
    Puts-longer _ _ _ _ _ _ c.from_residual.ensures.0 (sym whole) c.in_err-put_said.ensures

pub returns : goal.returns
returns g c =
    let whole = box_text c.args.line c.args.records.now _ (c.as_slice.ensures ∙ c.count_word-count.ensures.word) in
    rw whole (Puts-then c.put_records.result _ _ _ _ _ c.in_ok-put_said.ensures c.put_records.ensures)
