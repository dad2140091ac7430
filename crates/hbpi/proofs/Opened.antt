-- What an opening leaves of its disk, and that the bytes open to one file before and behind it.
use Rattle.std.proofs.Common.{◌≡◌, ℕ, ◌+◌, ◌≤◌, List, [], Option, Some, None, IsSome, IfSome, false, inl, inr, refl, subst, arith}
use Rattle.hb_disk.specs.Calls.{Leaves}
use Rattle.hb_disk.specs.Model.{DiskModel, IsDisk}
use Rattle.hb_lemmas.proofs.Options.{at_value, has_value, if_value, some_value}
use Rattle.hb_ops.specs.Files.{FileState}
use Rattle.hb_ops.specs.Sound.{IsSound}
use Rattle.hb_restart.specs.Leaving.{LeavesOpening, OpensStore, RunsThrough}
use Rattle.hb_store.specs.Keeps.{StoreKeeps}
use Rattle.hb_store.specs.Opening.{IsEven, OpensTo, OpensToOne}
use Rattle.hb_store.specs.States.{StoreState}
use Rattle.hbpi.specs.Drives.{LeavesLate}

-- a store that runs is over an even disk
pub even_store : (d : DiskModel) (st : StoreState) (durable : FileState) (later : List FileState) → StoreKeeps d st durable later → st.stopped ≡ false → IsEven d durable
even_store d st durable later keeps running = record {
  told = keeps.disk.told;
  images = λ c image. elim (keeps.disk.images c image) [
    | inl by ↦ record { turn = st.turn; said = keeps.parts.said; payloads = keeps.parts.payloads; groups = keeps.parts.written; by = by }
    | inr (inl stopped) ↦ cc (stopped.0, running)
    | inr (inr stopped) ↦ cc (stopped.0, running)
  ];
}

-- what each image since the beginning has
pub since_start : (d e : DiskModel) (P : List ℕ → Type 0) → Leaves d e P → LeavesLate d e P
since_start d e P run = record { since = d.clock; soon = omega arith; each = run.each }

-- What an opening makes of a disk.
pub record IsOpening (d m : DiskModel) : Type 0 where
  pub disk : IsDisk m
  pub told : IfSome d.told (λ b. (s : FileState) × OpensTo b s × IsSound s × IsEven m s)
  pub silent : IsSome m.told → IsSome d.told
  pub time : IsSome d.told → d.clock + 1 ≤ m.clock
  pub even : (s : FileState) → IsEven d s → Leaves d m (λ c. OpensTo c s)
  pub late : (b : List ℕ) → d.told ≡ Some b → (s : FileState) → OpensTo b s → (c : List ℕ) → m.ImageSince (d.clock + 1) c → OpensTo c s
  pub reads : m.read_faults ≡ d.read_faults
  pub writes : m.write_faults ≡ d.write_faults

pub is_opening : (d m : DiskModel) (store : StoreState) (count : ℕ) → IsDisk m → OpensStore d m store count → RunsThrough store.meta.high d m → LeavesOpening ⊥ d m → IsOpening d m
is_opening d m store count disk opens through leaves = record {
  disk = disk;
  told = if_value d.told _ (λ b is.
      let found = at_value d.told _ b is opens.file in
      (found.0, found.1, found.2, even_store m store found.0 [] found.4 opens.is_new.running));
  silent = through.silent;
  time = through.least;
  even = leaves.even;
  late = λ b is. at_value d.told _ b is through.late;
  reads = (leaves.faults.no_fault (λ x. x)).0;
  writes = (leaves.faults.no_fault (λ x. x)).1;
}

-- where one of them tells, the other one does
pub tells_behind : (d m : DiskModel) → IsOpening d m → IsSome d.told → IsSome m.told
tells_behind d m opening tells =
    let b = some_value d.told tells in
    (at_value d.told _ b.0 b.1 opening.told).3.told

pub silent_behind : (d m : DiskModel) → IsOpening d m → d.told ≡ None → m.told ≡ None
silent_behind d m opening none = by_told m.told refl
  where
    by_told : (told : Option (List ℕ)) → m.told ≡ told → told ≡ None
    by_told None is = refl
    by_told (Some b) is = let some = some_value d.told (opening.silent (has_value m.told b is)) in cc (some.1, none)

-- what is said of the file that the bytes open to behind the opening is said of the one before it: they are the same
pub from_before : (d m : DiskModel) (R : FileState → Type 0) (F G : List ℕ → Type 0) → OpensToOne → IsOpening d m → ((b : List ℕ) → F b → (s : FileState) × OpensTo b s × R s)
    → ((b : List ℕ) (s : FileState) → d.told ≡ Some b → OpensTo b s → IsSound s → IsEven m s → R s → G b) → IfSome m.told F → IfSome d.told G
from_before d m R F G one opening takes makes here = if_value d.told G (λ b is.
    let was = at_value d.told _ b is opening.told in
    let now = some_value m.told was.3.told in
    let found = takes now.0 (at_value m.told F now.0 now.1 here) in
    let same : found.0 ≡ was.0 = one now.0 found.0 was.0 found.1 (was.3.images now.0 (opening.disk.as_read now.0 now.1)) in
    makes b was.0 is was.1 was.2 was.3 (subst R same found.2))

-- since the first sync succeeded each image has what those of the opening and those behind it have
pub late_before : (d m e : DiskModel) (P Q : List ℕ → Type 0) → IsOpening d m → IsSome d.told → ((c : List ℕ) → m.ImageSince (d.clock + 1) c → P c) → ((c : List ℕ) → P c → Q c) → Leaves m e Q → LeavesLate d e Q
late_before d m e P Q opening tells late weaker run = record {
  since = d.clock + 1;
  soon = omega arith;
  each = λ c left. elim (run.before (d.clock + 1) c (opening.time tells) left) [ inl was ↦ weaker c (late c was) | inr here ↦ here ];
}
