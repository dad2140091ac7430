-- How the logic tells trees apart: each has a code of its own.
use Rattle.std.specs.Prelude.{◌≡◌, ℕ, ◌⊎◌, List, refl}
use Rattle.std.specs.Coded.{Coded, code_by, coded×, coded⊎, coded_ℕ, coded_list}
use base.Stored.{Gv, gnil, gnum, gcons}
use mathlib.Core.Path.{ap, subst, sym}
use mathlib.Core.Logic.{inl, inr}
use Rattle.hb_space.specs.declared.records.Record.{Record}
use Rattle.hb_frag.specs.declared.leaves.Leaf.{Leaf}
use Rattle.hb_frag.specs.declared.leaves.Leaf.TheVariants as leaves
use Rattle.hb_frag.specs.Trees.{Tree, Tip, Cut}

abbrev Parts : Type 0
Parts = List Record ⊎ (ℕ ⊎ ℕ)

abbrev parts_of : Leaf → Parts
parts_of (leaves.Records records) = inl records
parts_of (leaves.Child page) = inr (inl page)
parts_of (leaves.Sibling page) = inr (inr page)

abbrev leaf_of : Parts → Leaf
leaf_of (inl records) = leaves.Records records
leaf_of (inr (inl page)) = leaves.Child page
leaf_of (inr (inr page)) = leaves.Sibling page

pub leaf_again : (l : Leaf) → leaf_of (parts_of l) ≡ l
leaf_again (leaves.Records records) = refl
leaf_again (leaves.Child page) = refl
leaf_again (leaves.Sibling page) = refl

abbrev Pair : Type 0
Pair = List ℕ × List ℕ

abbrev leaf_code : Coded Leaf
leaf_code =
    let record_code : Coded Record = code_by Pair (coded× (coded_list coded_ℕ) (coded_list coded_ℕ)) (λ r. (r.key, r.body)) (λ p. record { key = p.0; body = p.1 }) (λ r. refl) in
    code_by Parts (coded⊎ (coded_list record_code) (coded⊎ coded_ℕ coded_ℕ)) parts_of leaf_of leaf_again

abbrev num : Gv → ℕ
num gnil = 0
num (gnum n) = n
num (gcons a b) = 0

abbrev head : Gv → Gv
head gnil = gnil
head (gnum n) = gnil
head (gcons a b) = a

abbrev tail : Gv → Gv
tail gnil = gnil
tail (gnum n) = gnil
tail (gcons a b) = b

abbrev IsNil : Gv → Type 0
IsNil gnil = Unit {0}
IsNil (gnum n) = ⊥
IsNil (gcons a b) = ⊥

abbrev code_of : Tree → Gv
code_of (Tip leaf) = gcons gnil (leaf_code.code leaf)
code_of (Cut axis value left right) = gcons (gnum axis) (gcons (gnum value) (gcons (code_of left) (code_of right)))

pub one_to_one : (s t : Tree) → code_of s ≡ code_of t → s ≡ t
one_to_one (Tip a) (Tip b) p = ap Tip (leaf_code.inj a b (ap tail p))
one_to_one (Tip a) (Cut axis value left right) p = absurd (subst IsNil (ap head p) tt)
one_to_one (Cut axis value left right) (Tip b) p = absurd (subst IsNil (ap head (sym p)) tt)
one_to_one (Cut axis value left right) (Cut axis' value' left' right') p = λ i.
    Cut (num (head (p i))) (num (head (tail (p i)))) (one_to_one left left' (ap (λ g. head (tail (tail g))) p) i) (one_to_one right right' (ap (λ g. tail (tail (tail g))) p) i)

abbrev pub tree_code : Coded Tree
tree_code = record { code = code_of; inj = one_to_one }
