use Rattle.std.proofs.Common.{sym, ◌∙◌, map, string_bytes, Global}
use Rattle.hbpi.specs.declared.forms.Form.TheVariants.{Dry, Gen, Work}
use Rattle.hbpi.proofs.FormWords.{form_fits}
use Rattle.hbpi.proofs.forms.Form.of_words.Goals as goal

pub returns-clause-attributes : goal.returns-clause-attributes
returns-clause-attributes c k is = form_fits (map (string_bytes {Z = Global}) c.args.words.now) (Dry k) (sym c.read_words.ensures ∙ is)

pub returns-clause-generated : goal.returns-clause-generated
returns-clause-generated c x n k is = form_fits (map (string_bytes {Z = Global}) c.args.words.now) (Gen x n k) (sym c.read_words.ensures ∙ is)

pub returns-clause-worked : goal.returns-clause-worked
returns-clause-worked c x n is = form_fits (map (string_bytes {Z = Global}) c.args.words.now) (Work x n) (sym c.read_words.ensures ∙ is)
