-- Sets of numbers of pages, as a bit for each number.
use Rattle.std.specs.Prelude.{ℕ, zero, suc, ◌*◌, ◌/◌, ◌%◌, ◌==◌, Bool, List, length, get_or, if◌then◌else◌}
use Rattle.std.specs.Int.{bit_at}
use Rattle.std.specs.Ordering.{nat_cmp}
use Rattle.std.specs.FinSet as set

-- whether the bit of a number is set, in words of 64 bits
abbrev pub has_bit : List ℕ → ℕ → Bool
has_bit words id = bit_at (get_or words (id / 64) 0) (id % 64) == 1

-- the numbers below this one whose bits are set, and all of them
unfoldable pub numbers_below : List ℕ → ℕ → set.FinSet nat_cmp
numbers_below words zero = set.empty
numbers_below words (suc n) = if has_bit words n then set.insert (numbers_below words n) n else numbers_below words n

abbrev pub numbers_in : List ℕ → set.FinSet nat_cmp
numbers_in words = numbers_below words (64 * length words)
