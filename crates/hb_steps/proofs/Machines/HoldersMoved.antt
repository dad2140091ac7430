-- How many actors have latched a page, where one actor's latches changed.
use Rattle.hb_steps.proofs.Machines.Names.{◌≡◌, ◌≢◌, ℕ, suc, zero, ◌+◌, ◌≤◌, ◌==◌, Bool, false, List, [], ◌∷◌, Option, None, refl, ap, arith, count_by, sum_by-cons, if_same, Mode, HeldModes, actors, holders, IsActor}
use Rattle.std.proofs.Common.{◌<◌}
use Rattle.std.specs.Option.{is_some}
use Rattle.hb_steps.proofs.Machines.PinCounts.{one_if}
use Rattle.hb_steps.proofs.Machines.PinsFollow.{times}

-- ---- each actor is one of the 19

-- as many numbers, from this one on
unfoldable from : ℕ → ℕ → List ℕ
from first zero = []
from first (suc count) = first ∷ from (first + 1) count

none_below : (q first count : ℕ) → q < first → times q (from first count) ≡ 0
unfolding from
none_below q first zero below = refl
none_below q first (suc count) below =
    let off : one_if (first == q) ≡ 0 = if_same first q (λ b. one_if b ≡ 0) (λ is. absurd (omega (arith, is))) (λ _. refl) in
    let rest = none_below q (first + 1) count (omega arith) in
    omega (arith, off, rest)

one_within : (q first count : ℕ) → first ≤ q → q < first + count → times q (from first count) ≡ 1
unfolding from
one_within q first zero low high = absurd (omega (arith, low, high))
one_within q first (suc count) low high = if_same first q (λ b. one_if b + times q (from (first + 1) count) ≡ 1)
    (λ is. let rest = none_below q (first + 1) count (omega (arith, is)) in omega (arith, rest))
    (λ off. let rest = one_within q (first + 1) count (omega arith) (omega arith) in omega (arith, rest))

once : (actor : ℕ) → IsActor actor → times actor actors ≡ 1
unfolding from
once actor may = let low = may.from_1 in let high = may.to_19 in one_within actor 1 19 low (omega (arith, high))

-- ---- a count in which one changes

module _ (actor : ℕ) (p r : ℕ → Bool) (others : (other : ℕ) → other ≢ actor → r other ≡ p other) where
  same_without : (all : List ℕ) → times actor all ≡ 0 → count_by r all ≡ count_by p all
  same_without [] none = refl
  same_without (a ∷ all) none =
      let before : count_by p (a ∷ all) ≡ one_if (p a) + count_by p all = sum_by-cons (λ (b : ℕ). one_if (p b)) a all in
      let after : count_by r (a ∷ all) ≡ one_if (r a) + count_by r all = sum_by-cons (λ (b : ℕ). one_if (r b)) a all in
      if_same a actor (λ b. one_if b + times actor all ≡ 0 → count_by r (a ∷ all) ≡ count_by p (a ∷ all))
      (λ here nothing. absurd (omega (arith, nothing)))
      (λ off nothing. let same : one_if (r a) ≡ one_if (p a) = ap one_if (others a off) in let rest = same_without all (omega (arith, nothing)) in omega (arith, before, after, same, rest))
      none

  one_changes : (all : List ℕ) → times actor all ≡ 1 → (count_by r all + one_if (p actor) ≡ count_by p all + one_if (r actor)) × (one_if (p actor) ≤ count_by p all)
  one_changes [] one = absurd (omega (arith, one))
  one_changes (a ∷ all) one =
      let before : count_by p (a ∷ all) ≡ one_if (p a) + count_by p all = sum_by-cons (λ (b : ℕ). one_if (p b)) a all in
      let after : count_by r (a ∷ all) ≡ one_if (r a) + count_by r all = sum_by-cons (λ (b : ℕ). one_if (r b)) a all in
      if_same a actor (λ b. one_if b + times actor all ≡ 1 → (count_by r (a ∷ all) + one_if (p actor) ≡ count_by p (a ∷ all) + one_if (r actor)) × (one_if (p actor) ≤ count_by p (a ∷ all)))
      (λ here counted.
      let rest = same_without all (omega (arith, counted)) in
      let old : one_if (p a) ≡ one_if (p actor) = ap (λ (n : ℕ). one_if (p n)) here in
      let new : one_if (r a) ≡ one_if (r actor) = ap (λ (n : ℕ). one_if (r n)) here in
      (omega (arith, before, after, rest, old, new), omega (arith, before, old)))
      (λ off counted.
      let same : one_if (r a) ≡ one_if (p a) = ap one_if (others a off) in
      let rest = one_changes all (omega (arith, counted)) in
      let first = rest.0 in
      let least = rest.1 in
      (omega (arith, before, after, same, first), omega (arith, before, least)))
      one

-- Of the actors that have latched a page all but this one are the same.
abbrev pub IsLatched : HeldModes → ℕ → ℕ → Bool
IsLatched modes actor q = is_some (modes actor q)

pub holders_moved : (actor : ℕ) (old new : HeldModes) → IsActor actor → ((other page : ℕ) → other ≢ actor → new other page ≡ old other page)
    → (q : ℕ) → (holders new q + one_if (IsLatched old actor q) ≡ holders old q + one_if (IsLatched new actor q)) × (one_if (IsLatched old actor q) ≤ holders old q)
holders_moved actor old new may others q =
    one_changes actor (λ a. is_some (old a q)) (λ a. is_some (new a q)) (λ other apart. ap (λ (o : Option Mode). is_some o) (others other q apart)) actors (once actor may)

-- nobody has latched it
pub none_holds : (modes : HeldModes) (q : ℕ) → ((actor : ℕ) → modes actor q ≡ None) → holders modes q ≡ 0
none_holds modes q none = none_of (λ a. is_some (modes a q)) (λ a. ap (λ (o : Option Mode). is_some o) (none a)) actors
  where
    none_of : (p : ℕ → Bool) → ((a : ℕ) → p a ≡ false) → (all : List ℕ) → count_by p all ≡ 0
    none_of p off [] = refl
    none_of p off (a ∷ all) =
        let both : count_by p (a ∷ all) ≡ one_if (p a) + count_by p all = sum_by-cons (λ (b : ℕ). one_if (p b)) a all in
        let first : one_if (p a) ≡ 0 = ap one_if (off a) in
        let rest = none_of p off all in
        omega (arith, both, first, rest)
