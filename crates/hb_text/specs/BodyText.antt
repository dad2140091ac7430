-- How a body is printed: so that no byte of a file can be taken for output.
use Rattle.std.specs.Prelude.{ℕ, ◌+◌, ◌/◌, ◌%◌, ◌≤◌, Bool, ◌&&◌, nat_lt, nat_le, if◌then◌else◌, List, [], ◌∷◌}
use Rattle.std.specs.List.{list_all, flat_map}

-- a byte that a body of a command may have
abbrev pub is_visible : ℕ → Bool
is_visible c = nat_le 33 c && nat_le c 126

abbrev pub IsVisible : ℕ → Type 0
IsVisible c = (33 ≤ c) × (c ≤ 126)

-- `0` to `9` and `a` to `f`
abbrev pub hex_digit : ℕ → ℕ
hex_digit n = if nat_lt n 10 then 48 + n else 87 + n

abbrev pub byte_digits : ℕ → List ℕ
byte_digits c = hex_digit (c / 16) ∷ hex_digit (c % 16) ∷ []

-- behind an equals sign as it is; or behind a percent sign two digits for each byte
unfoldable pub body_text : List ℕ → List ℕ
body_text body = if list_all is_visible body then 61 ∷ body else 37 ∷ flat_map byte_digits body
