-- Number words.
use Rattle.std.specs.Prelude.{ℕ, ◌^◌, Bool, false, ◌&&◌, nat_lt, if◌then◌else◌, List, [], ◌∷◌, Result, Ok, Err}
use Rattle.std.specs.List.{list_all}
use Rattle.std.specs.Char.{is_ascii_digit}
use Rattle.std.specs.Str.Parse.{digits_value}
use Rattle.hb_text.specs.declared.numbers.NumberFault.{NumberFault}
use Rattle.hb_text.specs.declared.numbers.NumberFault.TheVariants.{NotANumber, AboveLimit}

-- decimal digits, one or more, of which the first is no 0 unless it stands alone
abbrev pub is_number : List ℕ → Bool
is_number [] = false
is_number (c ∷ []) = is_ascii_digit c
is_number (c ∷ d ∷ rest) = nat_lt 48 c && list_all is_ascii_digit (c ∷ d ∷ rest)

-- the number that a word says, which is below 2 ^ 64
abbrev pub number_read : List ℕ → Result ℕ NumberFault
number_read word =
    if is_number word
    then (if nat_lt (digits_value 10 word) (2 ^ 64) then Ok (digits_value 10 word) else Err AboveLimit)
    else Err NotANumber
