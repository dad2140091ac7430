-- Values that may be absent.
use Rattle.std.specs.Prelude.{Option, Some, None}

-- One step of reading after another: what the next gives, where the first gave something.
infixl 10 ◌>>=◌
abbrev pub ◌>>=◌ : {A B : Type 0} → Option A → (A → Option B) → Option B
(Some x) >>= f = f x
None >>= f = None
