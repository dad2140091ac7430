use Rattle.std.proofs.Common.{sym, arith, map, string_bytes, Global}
use Rattle.std.proofs.lemmas.List.{length-map}
use Rattle.hbpi.proofs.FormWords.{create_short, create_long}
use Rattle.hbpi.proofs.forms.read_create.Goals as goal

pub returns-in_default : goal.returns-in_default
returns-in_default c = sym (create_short (map (string_bytes {Z = Global}) c.args.words.now) (simp length-map (omega arith)))

pub returns-in_default-2 : goal.returns-in_default-2
returns-in_default-2 c = sym (create_long (map (string_bytes {Z = Global}) c.args.words.now) (simp length-map (omega arith)))
