-- The states of the generator, and what is drawn from each.
use Rattle.std.specs.Prelude.{ℕ, zero, suc, ◌+◌, ◌*◌, ◌/◌, ◌%◌, ◌^◌}

-- the state behind a state, in a linear congruential sequence with Knuth's multiplier
unfoldable pub next_state : ℕ → ℕ
next_state x = (x * 6364136223846793005 + 1442695040888963407) % 2 ^ 64

-- the draw at a state: the upper 32 bits of the state behind it
abbrev pub draw : ℕ → ℕ
draw x = next_state x / 2 ^ 32

-- the state behind so many draws
abbrev pub state_behind : ℕ → ℕ → ℕ
state_behind zero x = x
state_behind (suc n) x = state_behind n (next_state x)
