-- What a call comes to that ends by an error of a call before.
use Rattle.std.proofs.Common.{◌≡◌, Result, Ok, Err, OnOk, sym, ap, ◌∙◌, subst}
use Rattle.std.specs.Result.{IsErrAnd}
use Rattle.hb_disk.specs.Model.{DiskModel}
use Rattle.hb_ops.specs.Files.{FileState}
use Rattle.hb_core.specs.Showing.{RunningCore}
use Rattle.hb_tidy.proofs.Facts.Joined.{goes_err, over_err}
use Rattle.hb_tidy.specs.declared.stops.TidyStop.{TidyStop}
use Rattle.hb_tidy.specs.Going.{Goes}
use Rattle.hb_tidy.specs.Looking.{LooksOver}

-- the error that a `?` hands on is the one that came
abbrev pub HandsOn : {U : Type 0} → TidyStop → Result U TidyStop → Type 0
HandsOn stop r = IsErrAnd r (λ y. y ≡ stop)

-- it says nothing of what is so where all went well
pub not_ok : {U : Type 0} (stop : TidyStop) (r : Result U TidyStop) (P : Type 0) → HandsOn stop r → OnOk r P
not_ok stop (Ok v) P hands = absurd hands
not_ok stop (Err other) P hands = tt

pub goes_exit : {T U : Type 0} (stop : TidyStop) (first : Result T TidyStop) (r : Result U TidyStop) (d e : DiskModel) (old new : RunningCore) → first ≡ Err stop → HandsOn stop r → Goes first d old e new → Goes r d old e new
goes_exit stop first (Ok v) d e old new is hands one = absurd hands
goes_exit {T = T} {U = U} stop first (Err other) d e old new is hands one =
    subst (λ (x : TidyStop). Goes {T = U} (Err x) d old e new) (sym hands) (goes_err {T = T} {U = U} stop d e old new (subst (λ (x : Result T TidyStop). Goes x d old e new) is one))

pub over_exit : {T U : Type 0} (knows : FileState → Type 0) (stop : TidyStop) (first : Result T TidyStop) (r : Result U TidyStop) (says : T → FileState → Type 0) (other : U → FileState → Type 0) (d e : DiskModel) (old new : RunningCore) → first ≡ Err stop → HandsOn stop r → LooksOver knows first says d old e new → LooksOver knows r other d old e new
over_exit knows stop first (Ok v) says other d e old new is hands one = absurd hands
over_exit {T = T} {U = U} knows stop first (Err came) says other d e old new is hands one =
    subst (λ (x : TidyStop). LooksOver {T = U} knows (Err x) other d old e new) (sym hands)
    (over_err {T = T} {U = U} knows stop says other d e old new (subst (λ (x : Result T TidyStop). LooksOver knows x says d old e new) is one))

-- and what was answered is the value that it was
pub over_value : {T : Type 0} (knows : FileState → Type 0) (v : T) (r : Result T TidyStop) (says : T → FileState → Type 0) (d e : DiskModel) (old new : RunningCore) → r ≡ Ok v → LooksOver knows r says d old e new → LooksOver knows (Ok v) says d old e new
over_value knows v r says d e old new is one = subst (λ (x : Result _ TidyStop). LooksOver knows x says d old e new) is one

pub goes_value : {T : Type 0} (v : T) (r : Result T TidyStop) (d e : DiskModel) (old new : RunningCore) → r ≡ Ok v → Goes r d old e new → Goes (Ok v) d old e new
goes_value v r d e old new is one = subst (λ (x : Result _ TidyStop). Goes x d old e new) is one

pub ok_is : {T E : Type 0} (r : Result T E) (v w : T) → r ≡ Ok v → v ≡ w → r ≡ Ok w
ok_is r v w is same = is ∙ ap (λ (x : _). Ok x) same
