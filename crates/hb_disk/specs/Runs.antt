-- What a run of calls that write left of a disk.
use Rattle.std.specs.Prelude.{◌≡◌, ℕ, ◌+◌, ◌≤◌, List, Some, IfSome, IsSome, Result, IsErr, OnOk}
use Rattle.hb_disk.specs.Model.{DiskModel}
use Rattle.hb_disk.specs.Calls.{WriteFaults, Becomes}

-- A crash now leaves what a read gives, and nothing else.
abbrev pub Lasts : DiskModel → Type 0
Lasts d = IfSome d.told (λ b. (c : List ℕ) → d.Image c → c ≡ b)

-- A run that may fail on its way: what a read gives, and each image, became by R what it is now, in so many calls at most.
pub record Rewrites {T E : Type 0} (R : List ℕ → List ℕ → Type 0) (most : ℕ) (result : Result T E) (old new : DiskModel) : Type 0 where
  pub became : Becomes R old new
  pub later : old.clock ≤ new.clock
  pub few : IsSome old.told → new.clock ≤ old.clock + most
  pub faults : WriteFaults (IsErr result) old new

-- The same of a run whose last call is a sync: once it is done the bytes are `done` of those before, and they last.
pub record WritesThrough {T E : Type 0} (done : List ℕ → List ℕ) (R : List ℕ → List ℕ → Type 0) (most : ℕ) (result : Result T E) (old new : DiskModel) : Type 0 where
  pub run : Rewrites R most result old new
  pub written : OnOk result (IfSome old.told (λ b. new.told ≡ Some (done b)))
  pub lasts : OnOk result (Lasts new)
