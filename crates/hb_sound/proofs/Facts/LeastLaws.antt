-- The least number of which something holds.
use Rattle.std.proofs.Common.{◌≡◌, ℕ, arith}
use Rattle.hb_sound.specs.Walks.{IsLeast}

-- there is one
pub least_one : (p : ℕ → Type 0) (m n : ℕ) → IsLeast p m → IsLeast p n → m ≡ n
least_one p m n a b = let x = a.least n b.here in let y = b.least m a.here in omega (arith, x, y)
