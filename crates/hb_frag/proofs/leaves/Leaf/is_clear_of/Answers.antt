use Rattle.std.proofs.Common.{◌↔◌, IsTrue, not, [], ◌∷◌, sym, subst}
use Rattle.hb_frag.specs.declared.leaves.Leaf.{Leaf}
use Rattle.hb_frag.specs.Leaves.{siblings}
use Rattle.hb_frag.proofs.Clear.{AllClear, clear_alone}
use Rattle.hb_frag.proofs.leaves.Leaf.is_clear_of.Goals as goal

pub returns-in-Sibling : goal.returns-in-Sibling
returns-in-Sibling c =
    let P : Leaf → Type 0 = λ l. IsTrue (not c.meets.result) ↔ AllClear c.args.a.now (siblings (record { leaf = l; area = c.args.area } ∷ [])) in
    subst P (sym c.in-Sibling.is) (clear_alone c.args.a.now c.args.area _ _ c.meets.ensures.overlap)
