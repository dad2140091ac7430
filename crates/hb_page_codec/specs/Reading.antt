-- Reading from left to right. Each definition gives what stands at the front of the bytes and the bytes behind it,
-- and None where nothing of its kind stands there.
use Rattle.std.specs.Prelude.{◌≡◌, ℕ, zero, suc, List, [], ◌∷◌, length, drop, Option, Some, None, Result, Ok, Err, nat_lt, if◌then◌else◌}
use Rattle.byteorder.specs.Endian.{big_number}
use Rattle.hb_page_codec.specs.declared.errors.PageError.{PageError}
use Rattle.hb_page_codec.specs.declared.errors.PageError.TheVariants as errors
use Rattle.hb_lemmas.specs.Options.{◌>>=◌}

-- What a function returned, seen by view, is what reading gives.
abbrev pub ReadsAs : {X Y : Type 0} → (X → Y) → Option X → Option Y → Type 0
ReadsAs view (Some x) read = read ≡ Some (view x)
ReadsAs view None read = read ≡ None

-- The same where memory may be wanted.
abbrev pub Fails : {Y : Type 0} → PageError → Option Y → Type 0
Fails errors.BadPage read = read ≡ None
Fails errors.NoMemory read = Unit {0}

abbrev pub Gives : {X Y : Type 0} → (X → Y) → Result X PageError → Option Y → Type 0
Gives view (Ok x) read = read ≡ Some (view x)
Gives view (Err e) read = Fails e read

abbrev pub byte_at : List ℕ → Option (ℕ × List ℕ)
byte_at [] = None
byte_at (b ∷ rest) = Some (b, rest)

-- a number of so many bytes
abbrev pub number_at : ℕ → List ℕ → Option (ℕ × List ℕ)
number_at width bytes = if nat_lt (length bytes) width then None else Some (big_number width bytes, drop width bytes)

-- so many things, one behind the other
unfoldable pub many_at : {A : Type 0} → (List ℕ → Option (A × List ℕ)) → ℕ → List ℕ → Option (List A × List ℕ)
many_at read zero bytes = Some ([], bytes)
many_at read (suc n) bytes = do
  first ← read bytes
  others ← many_at read n first.1
  Some (first.0 ∷ others.0, others.1)
