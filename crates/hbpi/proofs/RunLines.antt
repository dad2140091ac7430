-- Lines that are answered one after the other.
use Rattle.std.proofs.Common.{◌≡◌, ℕ, ◌+◌, ◌<◌, ◌≤◌, List, [], ◌∷◌, ◌++◌, length, take, get_or, All, refl, sym, ap, subst, ◌∙◌, arith}
use Rattle.std.specs.FinMap as finite
use Rattle.std.proofs.lemmas.List.{take_more, take_all, length-take-le, map-append}
use Rattle.hb_set.specs.declared.scripts.Line.{Line}
use Rattle.hb_set.specs.declared.scripts.Answered.{Answered}
use Rattle.hb_set.specs.declared.commands.Reply.{Reply}
use Rattle.hb_set.specs.declared.commands.Reply.TheVariants.{NoMemory}
use Rattle.hb_set.specs.Machine.{RecordSet, Answers, MayWantMemory}
use Rattle.hb_set.specs.Order.{Ran, entries_of, with_entry, order_of}
use Rattle.hb_set.proofs.Facts.TextOrderLaws.{ran_grown, entries_of-push, ran_legal}
use Rattle.hb_set.specs.Scripts.{IsScriptFor}
use Rattle.hbpi.specs.Outcome.{IsDryRun}

-- the lines up to one more
pub one_line_more : (lines : List Line) (i : ℕ) (l : Line) → i < length lines → l ≡ get_or lines i l → take (i + 1) lines ≡ take i lines ++ l ∷ []
one_line_more lines i l lt at = take_more lines i l lt ∙ ap (λ x. take i lines ++ x ∷ []) (sym at)

pub each_line : (P : Line → Type 0) (lines : List Line) (i : ℕ) → length lines ≤ i → All P (take i lines) → All P lines
each_line P lines i past each = subst (All P) (take_all i lines past) each

pub ran_more : (lines : List Line) (i : ℕ) (l : Line) (answered new : List Answered) (set next : RecordSet) (r : Reply) → i < length lines → l ≡ get_or lines i l → Ran finite.empty (take i lines) answered set → Answers set l.command r next → (r ≡ NoMemory → MayWantMemory l.command set) → new ≡ answered ++ record { line = l.number; reply = r; at = 0 } ∷ [] → Ran finite.empty (take (i + 1) lines) new next
ran_more lines i l answered new set next r lt at ran answers wanted is =
    rw (one_line_more lines i l lt at, is) (ran_grown finite.empty (take i lines) answered set l (record { line = l.number; reply = r; at = 0 }) next ran (record { number = refl; untimed = refl; answers = answers; wanted = wanted }))

pub order_more : (lines : List Line) (i : ℕ) (l : Line) (answered new : List Answered) (order grown : List ℕ) (r : Reply) → i < length lines → l ≡ get_or lines i l → length answered ≡ i → order ≡ order_of (entries_of (take i lines) answered) → grown ≡ order ++ order_of (with_entry l r []) → new ≡ answered ++ record { line = l.number; reply = r; at = 0 } ∷ [] → grown ≡ order_of (entries_of (take (i + 1) lines) new)
order_more lines i l answered new order grown r lt at count order_is grown_is is =
    let a : Answered = record { line = l.number; reply = r; at = 0 } in
    let same : length (take i lines) ≡ length answered = length-take-le i lines (omega arith) ∙ sym count in
    rw (one_line_more lines i l lt at, is, entries_of-push (take i lines) answered l a same)
    (grown_is ∙ ap (λ o. o ++ order_of (with_entry l r [])) order_is ∙ sym (map-append _ (entries_of (take i lines) answered) (with_entry l r [])))

-- when all lines were answered, the run is whole
pub run_is_dry : (k : ℕ) (lines : List Line) (i : ℕ) (answered : List Answered) (order : List ℕ) (set : RecordSet) → length lines ≤ i → IsScriptFor k lines → Ran finite.empty (take i lines) answered set → order ≡ order_of (entries_of (take i lines) answered) → IsDryRun lines answered order
run_is_dry k lines i answered order set past script ran is =
    let all = take_all i lines past in
    let whole = subst (λ (ls : List Line). Ran finite.empty ls answered set) all ran in
    record {
      set = set;
      ran = whole;
      legal = ran_legal finite.empty lines answered set whole script.rising;
      order_is = is ∙ ap (λ (ls : List Line). order_of (entries_of ls answered)) all;
    }
