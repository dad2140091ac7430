-- Numbers as bytes.
use Rattle.std.specs.Prelude.{ℕ, List}
use Rattle.byteorder.specs.Endian.{big_bytes}

-- the bytes of a number, as many as the width says, the highest first
unfoldable pub big_endian : ℕ → ℕ → List ℕ
big_endian width n = big_bytes width n
