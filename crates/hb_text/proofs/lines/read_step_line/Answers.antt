use Rattle.std.proofs.Common.{◌≤◌, ◌∙◌, ap, rules}
use Rattle.std.proofs.lemmas.Bool.{cond-true, false≢true, not-false}
use Rattle.hb_text.specs.Grammar.{says_steps}
use Rattle.hb_text.proofs.StepWords.{read_some, read_none}
use Rattle.hb_text.proofs.lines.read_step_line.Goals as goal

pub returns-in-Some : goal.returns-in-Some
returns-in-Some c =
    let few : c.args.place.taken ≤ 10000000 = search rules in
    let found = read_some c.args.place.taken c.args.words.now c.in-Some.field-0 c.left_behind.result few (λ none. false≢true (c.if-is_done.ensures.1 none)) c.left_behind.ensures c.in-Some.is in
    (found.0, cond-true c.args.place.step_lines _ _ (not-false _ c.if-not-place.false) ∙ ap says_steps found.1, found.2, found.3)

pub returns-in-None : goal.returns-in-None
returns-in-None c =
    let few : c.args.place.taken ≤ 10000000 = search rules in
    cond-true c.args.place.step_lines _ _ (not-false _ c.if-not-place.false) ∙ ap says_steps (read_none c.args.place.taken c.args.words.now c.left_behind.result few c.left_behind.ensures c.in-None.is)
