-- Where no item of a list passes a test, no place is found.
use Rattle.std.proofs.Common.{◌≡◌, ◌≤◌, Bool, cond, List, length, position, Some, None, ap, inl, inr}
use Rattle.std.specs.List.{position_or_len}
use Rattle.std.proofs.lemmas.Bool.{cases_lt}
use Rattle.std.proofs.lemmas.Bool.Decides.{Decides-ltb}

pub none_before : {A : Type 0} (p : A → Bool) (items : List A) → position p items ≡ None → length items ≤ position_or_len p items
none_before p items none = elim (cases_lt (position_or_len p items) (length items)) [
  | inl lt ↦
      let some : position p items ≡ Some (position_or_len p items) = ap (λ b. cond b (Some (position_or_len p items)) None) ((Decides-ltb (position_or_len p items) (length items)).1 lt) in
      cc
  | inr ge ↦ ge
]
