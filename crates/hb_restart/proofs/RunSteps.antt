-- What follows of a run of calls once it succeeded.
use Rattle.std.proofs.Common.{◌≡◌, Result, Ok, Err, OnOk, refl}

-- what a success gives, where that it is one is known too
pub on_ok_given_so : {T E : Type 0} (r : Result T E) (P Q : Type 0) → ((v : T) → r ≡ Ok v → P → Q) → OnOk r P → OnOk r Q
on_ok_given_so (Ok v) P Q f p = f v refl p
on_ok_given_so (Err e) P Q f p = tt
