-- Texts that are put piece by piece: of the answers, and of the lines that have none.
use Rattle.std.proofs.Common.{◌≡◌, ℕ, ◌+◌, ◌<◌, Bool, List, [], ◌∷◌, ◌++◌, length, take, get_or, Result, sym, ap, subst, ◌∙◌, append-nil}
use Rattle.std.specs.List.{flat_map}
use Rattle.std.proofs.lemmas.List.{take_more}
use Rattle.std.proofs.lemmas.Grind.{flat_map-append}
use Rattle.hb_outside.specs.Calls.{PutsOn, SinkModel}
use Rattle.hb_set.specs.declared.commands.Reply.{Reply}
use Rattle.hb_text.specs.Output.{answer_text, left_text, reply_text}
pub use Rattle.hb_outside.proofs.Facts.PutLaws.{puts_none, puts_on, puts_off, puts_then}
pub use Rattle.hb_drive.proofs.Facts.AnswerTexts.{has_put_none, puts_given}

-- the text of one answer
pub puts_answer : {T E : Type 0} (so_far result : Result T E) (a b : SinkModel) (line at : ℕ) (reply : Reply) → PutsOn so_far (reply_text line reply) result a b
    → PutsOn so_far (flat_map answer_text (record { line = line; reply = reply; at = at } ∷ [])) result a b
puts_answer so_far result a b line at reply put = subst (λ (t : List ℕ). PutsOn so_far t result a b) (sym (append-nil (reply_text line reply))) put

-- the text of one line more that has no answer
left_more : (stopped : Bool) (lines : List ℕ) (i line : ℕ) → i < length lines → line ≡ get_or lines i line
    → flat_map (left_text stopped) (take (i + 1) lines) ≡ flat_map (left_text stopped) (take i lines) ++ left_text stopped line
left_more stopped lines i line lt is =
    ap (flat_map (left_text stopped)) (take_more lines i line lt ∙ ap (λ (n : ℕ). take i lines ++ n ∷ []) (sym is))
    ∙ flat_map-append (left_text stopped) (take i lines) (line ∷ [])
    ∙ ap (λ (t : List ℕ). flat_map (left_text stopped) (take i lines) ++ t) (append-nil (left_text stopped line))

pub puts_left : {T E : Type 0} (a b c : SinkModel) (so_far mid next : Result T E) (stopped : Bool) (lines : List ℕ) (i line : ℕ) → i < length lines → line ≡ get_or lines i line
    → PutsOn so_far (flat_map (left_text stopped) (take i lines)) mid a b → PutsOn mid (left_text stopped line) next b c
    → PutsOn so_far (flat_map (left_text stopped) (take (i + 1) lines)) next a c
puts_left a b c so_far mid next stopped lines i line lt is first second =
    let P : List ℕ → Type 0 = λ t. PutsOn so_far t next a c in
    subst P (sym (left_more stopped lines i line lt is))
    (puts_then a b c so_far mid next (flat_map (left_text stopped) (take i lines)) (left_text stopped line) first second)
