-- Texts of answers, for whoever puts them one by one.
use Rattle.std.proofs.Common.{◌≡◌, ◌++◌, ℕ, List, [], Result, Ok, sym, ap, ◌∙◌, subst}
use Rattle.std.specs.List.{flat_map}
use Rattle.std.proofs.lemmas.Grind.{flat_map-append}
use Rattle.hb_outside.specs.Calls.{Puts, PutsOn, SinkModel}
use Rattle.hb_outside.proofs.Facts.PutLaws.{Puts-none, has_put_more}
use Rattle.hb_set.specs.declared.scripts.Answered.{Answered}
use Rattle.hb_text.specs.Output.{answer_text}

-- nothing was put yet
pub has_put_none : {E : Type 0} (a : SinkModel) (answered : List Answered) → answered ≡ [] → Puts {T = Unit {0}} {E = E} (flat_map answer_text answered) (Ok (tt {0})) a a
has_put_none a answered none = rw none (Puts-none a)

-- and the answers that a step gave were put behind those before
pub puts_given : {T E : Type 0} (a b c : SinkModel) (so_far next : Result T E) (before answered given : List Answered) → answered ≡ before ++ given → Puts (flat_map answer_text before) so_far a b
    → PutsOn so_far (flat_map answer_text given) next b c → Puts (flat_map answer_text answered) next a c
puts_given a b c so_far next before answered given is put more =
    let P : List ℕ → Type 0 = λ t. Puts t next a c in
    subst P (sym (ap (flat_map answer_text) is ∙ flat_map-append answer_text before given))
    (has_put_more a b c so_far next (flat_map answer_text before) (flat_map answer_text given) put more)
