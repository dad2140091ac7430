-- The command lines that the generator gives.
use Rattle.std.specs.Prelude.{ℕ, zero, suc, ◌+◌, ◌-◌, ◌*◌, ◌%◌, ◌==◌, nat_le, if◌then◌else◌, List, [], ◌∷◌}
use Rattle.std.specs.Fmt.{decimal}
use Rattle.hb_set.specs.declared.commands.Command.{Command}
use Rattle.hb_set.specs.declared.commands.Command.TheVariants.{Insert, Delete, Lookup, Search}
use Rattle.hb_set.specs.declared.scripts.Line.{Line}
use Rattle.hb_gen.specs.Draws.{draw, next_state, state_behind}

-- so many values below 1,000, a draw for each
abbrev pub drawn_values : ℕ → ℕ → List ℕ
drawn_values zero x = []
drawn_values (suc n) x = (draw x % 1000) ∷ drawn_values n (next_state x)

-- a point: its first value tells the session, so that no two sessions have a point in common
abbrev pub drawn_point : ℕ → ℕ → ℕ → List ℕ
drawn_point k session x = (draw x % 125 * 8 + (session - 1)) ∷ drawn_values (k - 1) (next_state x)

-- a box: for each attribute a lower value below 1,000, and then an upper value that is less than 50 above it
abbrev pub drawn_lows : ℕ → ℕ → List ℕ
drawn_lows zero x = []
drawn_lows (suc n) x = (draw x % 1000) ∷ drawn_lows n (state_behind 2 x)

abbrev pub drawn_highs : ℕ → ℕ → List ℕ
drawn_highs zero x = []
drawn_highs (suc n) x = (draw x % 1000 + draw (next_state x) % 50) ∷ drawn_highs n (state_behind 2 x)

-- by a kind from 0 to 9: 0 to 5 are inserts, 6 is a delete, 7 and 8 are lookups, and 9 is a search
abbrev pub by_kind : {T : Type 0} → ℕ → T → T → T → T → T
by_kind kind insert delete lookup search =
    if nat_le kind 5 then insert else (if kind == 6 then delete else (if nat_le kind 8 then lookup else search))

-- the command of the line of this number, over k attributes: a draw for its kind, and then its values; an insert's body
-- is that number
unfoldable pub drawn_command : ℕ → ℕ → ℕ → ℕ → Command
drawn_command k number session x =
    by_kind (draw x % 10)
    (Insert (record { key = drawn_point k session (next_state x); body = decimal number }))
    (Delete (drawn_point k session (next_state x)))
    (Lookup (drawn_point k session (next_state x)))
    (Search (record { lo = drawn_lows k (next_state x); hi = drawn_highs k (next_state x) }))

-- the state behind it: a point took a draw for each value, and a box two
abbrev pub behind_command : ℕ → ℕ → ℕ
behind_command k x = state_behind (by_kind (draw x % 10) k k k (2 * k)) (next_state x)

-- a line over k attributes: a draw for its session, and then its command
abbrev pub drawn_session : ℕ → ℕ
drawn_session x = draw x % 8 + 1

abbrev pub drawn_line : ℕ → ℕ → ℕ → Line
drawn_line k number x = record { number = number; session = drawn_session x; command = drawn_command k number (drawn_session x) (next_state x) }

abbrev pub behind_line : ℕ → ℕ → ℕ
behind_line k x = behind_command k (next_state x)

-- so many lines over k attributes, from this number on
unfoldable pub lines_from : ℕ → ℕ → ℕ → ℕ → List Line
lines_from k number zero x = []
lines_from k number (suc n) x = drawn_line k number x ∷ lines_from k (number + 1) n (behind_line k x)

-- n lines over k attributes from the state x
abbrev pub generated : ℕ → ℕ → ℕ → List Line
generated x n k = lines_from k 1 n x
