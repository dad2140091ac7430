use Rattle.std.proofs.Common.{◌≡◌, ℕ, List, Ok, ◌∙◌, sym, arith, length}
use Rattle.std.proofs.lemmas.Result.{err_from_is_err_and}
use Rattle.std.proofs.lemmas.Bool.Decides.{nat_tests}
use Rattle.hb_set.specs.declared.scripts.Line.{Line}
use Rattle.hb_text.proofs.Facts.ScriptLaws.{text_is_script}
use Rattle.hb_text.proofs.Facts.StepLaws.{text_has_no_steps, text_actors, text_few_steps}
use Rattle.hb_text.proofs.Facts.TextLength.{line_bytes, text_is_short}
use Rattle.hb_text.proofs.TextLines.{both_same, lines_begin, text_err, line_ok, text_done}
use Rattle.hb_text.proofs.TextMemory.{behind_start, behind_next, text_starved}
use Rattle.hb_text.proofs.reading.read_commands.Goals as goal

pub returns-in_err-add_line : goal.returns-in_err-add_line
returns-in_err-add_line c =
    let p = err_from_is_err_and c.from_residual.result c.from_residual.ensures.1 in
    let adds = c.in_err-add_line.ensures.adds in
    record {
      exact = rw (p.1, p.2) (text_err c.args.step_lines c.loop-rest.lines.items c.add_line.new.lines.items c.loop-rest.steps.items c.add_line.new.steps.items c.args.attributes.number c.loop-rest.number c.args.text.now c.loop-rest.rest.now c.first_line.result.1.now _ _ c.first_line.ensures.cut adds c.loop-rest.invariant.told);
      memory = rw (p.1, p.2) (text_starved c.args.step_lines c.loop-rest.lines.items c.add_line.new.lines.items c.loop-rest.steps.items c.add_line.new.steps.items c.args.attributes.number c.loop-rest.number c.args.text.now c.loop-rest.rest.now c.first_line.result.1.now _ _ c.loop-rest.invariant.before c.first_line.ensures.cut adds c.loop-rest.invariant.told);
      no_steps = rw p.1 tt;
      actors = rw p.1 tt;
      few_steps = rw p.1 tt;
      short = rw p.1 tt;
      script = rw p.1 tt;
    }

pub loop-rest-preserved : goal.loop-rest-preserved
loop-rest-preserved c =
    let adds = c.in_ok-add_line.ensures.adds in
    record {
      told = sym (line_ok c.args.step_lines c.loop-rest.lines.items c.add_line.new.lines.items c.loop-rest.steps.items c.add_line.new.steps.items c.args.attributes.number c.loop-rest.number c.loop-rest.rest.now c.first_line.result.1.now _ adds.0 c.first_line.ensures.cut adds.1 adds.2 adds.3) ∙ c.loop-rest.invariant.told;
      number = omega (arith, (line_bytes c.args.step_lines c.args.attributes.number (length c.loop-rest.steps.items) c.loop-rest.number c.first_line.result.0.now adds.0 adds.1).0);
      taken = c.in_ok-add_line.ensures.taken;
      before = behind_next c.args.text.now c.loop-rest.rest.now c.first_line.result.1.now c.first_line.result.0.now c.loop-rest.number c.first_line.ensures.cut c.loop-rest.invariant.before;
    }

pub returns : goal.returns
returns c =
    let empty : length c.loop-rest.rest.now ≡ 0 = grind (arith, nat_tests, c.is_empty.ensures, c.loop-rest-test.false) in
    let exact = sym c.loop-rest.invariant.told ∙ text_done c.args.step_lines c.loop-rest.lines.items c.loop-rest.steps.items c.args.attributes.number c.loop-rest.number c.loop-rest.rest.now empty
    ∙ both_same (λ (lines : List Line) (steps : List ℕ). Ok (record { lines = lines; steps = steps })) _ _ _ _ (sym c.new.ensures) (sym c.new-2.ensures) in
    record {
      exact = exact;
      memory = tt;
      no_steps = text_has_no_steps c.args.step_lines c.args.attributes.number c.args.text.now _ exact;
      actors = text_actors c.args.step_lines c.args.attributes.number c.args.text.now _ exact;
      few_steps = text_few_steps c.args.step_lines c.args.attributes.number c.args.text.now _ exact;
      short = text_is_short c.args.step_lines c.args.attributes.number c.args.text.now _ exact;
      script = text_is_script c.args.step_lines c.args.attributes.number c.args.text.now _ exact;
    }

pub loop-rest-init : goal.loop-rest-init
loop-rest-init c = record { told = rw (c.new-lines.ensures.items, c.new-steps.ensures.items) (lines_begin _); number = omega arith; taken = rw c.new-steps.ensures.items (omega arith); before = behind_start c.args.text.now }
