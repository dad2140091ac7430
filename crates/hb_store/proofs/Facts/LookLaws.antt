-- What calls that read pages do to what a store keeps of its disk.
use Rattle.std.proofs.Common.{◌≡◌, Result, Err}
use Rattle.std.specs.Prelude.{IsErrOf}
use Rattle.hb_disk.specs.Model.{DiskModel}
use Rattle.hb_disk.specs.Calls.{ReadsOnly}
use Rattle.hb_disk.proofs.Facts.FaultLaws.{ReadsOnly-none, ReadsOnly-as}
use Rattle.hb_store.specs.States.{StoreState}
use Rattle.hb_store.specs.Fetching.{LooksUp}
use Rattle.hb_store.specs.declared.stops.FetchStop.{FetchStop}
use Rattle.hb_store.specs.declared.stops.FetchStop.TheVariants.{ReadFault}
use Rattle.hb_store.proofs.Facts.Fetched.{keeps_read}

-- a call that read nothing
pub LooksUp-none : {F : Type 0} (d : DiskModel) (st : StoreState) → (F → ⊥) → LooksUp F d d st st
LooksUp-none d st good = record { only = ReadsOnly-none d good; keeps = λ durable later keeps. keeps }

-- one that read, and brought nothing
pub LooksUp-read : {F : Type 0} (d e : DiskModel) (st : StoreState) → ReadsOnly F d e → LooksUp F d e st st
LooksUp-read d e st only = record { only = only; keeps = λ durable later keeps. keeps_read d e st durable later only.stays keeps }

-- the same of what failed in other words, and of one stop in two answers
pub LooksUp-as : {F G : Type 0} (d e : DiskModel) (old new : StoreState) → (F → G) → (G → F) → LooksUp F d e old new → LooksUp G d e old new
LooksUp-as d e old new to from looks = record { only = ReadsOnly-as d e to from looks.only; keeps = looks.keeps }

pub LooksUp-stop : {X Y : Type 0} (r : Result X FetchStop) (s : Result Y FetchStop) (stop : FetchStop) → r ≡ Err stop → s ≡ Err stop → (d e : DiskModel) (old new : StoreState)
    → LooksUp (IsErrOf r ReadFault) d e old new → LooksUp (IsErrOf s ReadFault) d e old new
LooksUp-stop r s stop r_is s_is d e old new looks = LooksUp-as d e old new (λ is. cc (is, r_is, s_is)) (λ is. cc (is, r_is, s_is)) looks
