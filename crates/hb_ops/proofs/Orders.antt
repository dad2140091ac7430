-- Records in the order of their points.
use Rattle.std.proofs.Common.{◌≡◌, ℕ, zero, suc, ◌+◌, ◌<◌, ◌↔◌, Bool, true, false, IsTrue, List, [], length, get_or, AllPairs, refl, sym, ap, ◌∙◌, arith, inl, inr, subst}
use Rattle.std.specs.List.{IsAllAdjacentAnswer, AllAdjacentBelow}
use Rattle.std.specs.Ordering.{is_lt}
use Rattle.std.proofs.lemmas.Bool.{false≢true, cases_eq}
use Rattle.std.proofs.lemmas.Cmp.{nat_list_cmp_total}
use Rattle.hb_space.specs.declared.records.Record.{Record}
use Rattle.hb_frag.specs.Rules.{Precedes}
use Rattle.hb_lemmas.proofs.Orderings.{less_so}
use Rattle.hb_frag.proofs.Facts.PointOrder.{comes_before}

-- records of which each precedes the next precede all later ones
pub far : (records : List Record) → AllAdjacentBelow (λ x y. true ≡ comes_before x y) records (length records) → (i j : ℕ) (d : Record) → i < j → j < length records → Precedes (get_or records i d) (get_or records j d)
far records near i zero d lt in_range = absurd (omega arith)
far records near i (suc j) d lt in_range =
    let here : Precedes (get_or records j d) (get_or records (j + 1) d) = less_so _ (sym (near j d (omega arith))) in
    let here' : Precedes (get_or records j d) (get_or records (suc j) d) = subst (λ (n : ℕ). Precedes (get_or records j d) (get_or records n d)) (omega arith) here in
    elim (cases_eq i j) [
      | inl e ↦ subst (λ (n : ℕ). Precedes (get_or records n d) (get_or records (suc j) d)) (sym e) here'
      | inr n ↦ nat_list_cmp_total.trans (get_or records i d).key (get_or records j d).key (get_or records (suc j) d).key (far records near i j d (omega arith) (omega arith)) here'
    ]

pub rising_tells : (records : List Record) (r : Bool) → IsAllAdjacentAnswer (λ x y b. b ≡ comes_before x y) records r → IsTrue r ↔ AllPairs Precedes records
rising_tells records true near = (λ _. far records near, λ _. refl)
rising_tells records false broken = (
  λ t. absurd (false≢true t),
  λ all. let any : Record = record { key = []; body = [] } in absurd (false≢true (broken.2 any ∙ ap is_lt (all broken.0 (broken.0 + 1) any (omega arith) broken.1))),
)
