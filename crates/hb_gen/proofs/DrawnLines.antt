-- The lines of the generator can be said by words.
use Rattle.std.proofs.Common.{◌≡◌, ℕ, zero, suc, ◌+◌, ◌-◌, ◌*◌, ◌%◌, ◌<◌, ◌≤◌, ◌^◌, ◌==◌, true, ◌∷◌, length, refl, ap, arith}
use Rattle.std.specs.Prelude.{nat_le}
use Rattle.std.specs.Fmt.{decimal}
use Rattle.std.proofs.lemmas.Bool.Decides.{nat_tests}
use Rattle.std.proofs.lemmas.Fmt.{length-decimal-le}
use Rattle.hb_lemmas.proofs.Booleans.{either_way}
use Rattle.hb_set.specs.declared.commands.Command.{Command}
use Rattle.hb_set.specs.declared.commands.Command.TheVariants.{Insert, Delete, Lookup, Search}
use Rattle.hb_text.specs.Operands.{lows, highs, pairs_are_ordered}
use Rattle.hb_gen.specs.Draws.{draw, next_state, state_behind}
use Rattle.hb_gen.specs.Lines.{drawn_values, drawn_point, drawn_lows, drawn_highs, drawn_command, drawn_session}
use Rattle.hb_gen.specs.Spelling.{side_by_side}
use Rattle.hb_gen.proofs.PlainWords.{decimal_plain}
use Rattle.hb_gen.proofs.LineWords.{AreValues, IsSaidBody, IsSaidBox, IsSaid}

values_said : (n x : ℕ) → AreValues n (drawn_values n x)
values_said zero x = record { number = refl; below = tt }
values_said (suc n) x =
    let more = values_said n (next_state x) in
    let value : draw x % 1000 < 2 ^ 64 = omega arith in
    record { number = ap suc more.number; below = (value, more.below) }

point_said : (k session x : ℕ) → 0 < k → session ≤ 8 → AreValues k (drawn_point k session x)
point_said k session x some low =
    let more = values_said (k - 1) (next_state x) in
    let value : draw x % 125 * 8 + (session - 1) < 2 ^ 64 = omega arith in
    record { number = omega (arith, more.number); below = (value, more.below) }

-- the pairs of a box, one after the other
module _ (x : ℕ) where
  pair_below : (draw x % 1000 < 2 ^ 64) × (draw x % 1000 + draw (next_state x) % 50 < 2 ^ 64)
  pair_below = (omega arith, omega arith)

  pair_ordered : nat_le (draw x % 1000) (draw x % 1000 + draw (next_state x) % 50) ≡ true
  pair_ordered = grind (arith, nat_tests)

box_values : (k x : ℕ) → AreValues (2 * k) (side_by_side (drawn_lows k x) (drawn_highs k x))
box_values zero x = record { number = refl; below = tt }
box_values (suc k) x =
    let more = box_values k (state_behind 2 x) in
    let pair = pair_below x in
    record { number = omega (arith, more.number); below = (pair.0, (pair.1, more.below)) }

box_lows : (k x : ℕ) → lows (side_by_side (drawn_lows k x) (drawn_highs k x)) ≡ drawn_lows k x
box_lows zero x = refl
box_lows (suc k) x = ap (λ rest. (draw x % 1000) ∷ rest) (box_lows k (state_behind 2 x))

box_highs : (k x : ℕ) → highs (side_by_side (drawn_lows k x) (drawn_highs k x)) ≡ drawn_highs k x
box_highs zero x = refl
box_highs (suc k) x = ap (λ rest. (draw x % 1000 + draw (next_state x) % 50) ∷ rest) (box_highs k (state_behind 2 x))

box_ordered : (k x : ℕ) → pairs_are_ordered (side_by_side (drawn_lows k x) (drawn_highs k x)) ≡ true
box_ordered zero x = refl
box_ordered (suc k) x = rw (pair_ordered x, box_ordered k (state_behind 2 x)) refl

box_said : (k x : ℕ) → IsSaidBox k (record { lo = drawn_lows k x; hi = drawn_highs k x })
box_said k x = record { values = box_values k x; lower = box_lows k x; upper = box_highs k x; ordered = box_ordered k x }

body_said : (number : ℕ) → number < 2 ^ 64 → IsSaidBody (decimal number)
body_said number small =
    let short : length (decimal number) ≤ 20 = length-decimal-le 20 number (omega arith) (omega arith) small in
    record { few = omega arith; visible = (decimal_plain number small).visible }

pub command_said : (k number session x : ℕ) → 0 < k → number < 2 ^ 64 → session ≤ 8 → IsSaid k (drawn_command k number session x)
unfolding drawn_command
command_said k number session x some small low =
    let point = point_said k session (next_state x) some low in
    let insert : Command = Insert (record { key = drawn_point k session (next_state x); body = decimal number }) in
    let delete : Command = Delete (drawn_point k session (next_state x)) in
    let lookup : Command = Lookup (drawn_point k session (next_state x)) in
    let within : Command = Search (record { lo = drawn_lows k (next_state x); hi = drawn_highs k (next_state x) }) in
    either_way (IsSaid k) (nat_le (draw x % 10) 5) insert _ (point, body_said number small)
    (either_way (IsSaid k) (draw x % 10 == 6) delete _ point
    (either_way (IsSaid k) (nat_le (draw x % 10) 8) lookup within point (box_said k (next_state x))))

pub session_fits : (x : ℕ) → (1 ≤ drawn_session x) × (drawn_session x ≤ 8)
session_fits x = (omega arith, omega arith)
