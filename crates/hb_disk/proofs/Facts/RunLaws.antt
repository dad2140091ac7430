-- How a run of calls of a disk goes on: what crashes leave of it, how the clock goes, and what reads alone do.
use Rattle.std.proofs.Common.{inl, inr, ⊎_elim, ℕ, ◌+◌, ◌≤◌, List, IsSome, Result, refl, ◌∙◌, arith}
use Rattle.std.proofs.Math.Nat.{eq-or-lt_of_le}
use Rattle.hb_disk.specs.Model.{DiskModel, IsDisk, Stays}
use Rattle.hb_disk.specs.Calls.{Ticks, Leaves, ReadsOnly, OnlyReads}
use Rattle.hb_disk.proofs.Facts.FaultLaws.{Stays-same, Stays-then}

-- before the first call
pub Leaves-start : (d : DiskModel) (P : List ℕ → Type 0) → IsDisk d → ((c : List ℕ) → d.Image c → P c) → Leaves d d P
Leaves-start d P disk here = record {
  later = omega arith;
  each = λ c left. here c (disk.only_now c left);
  before = λ t c le left. inl left;
}

-- one write, zero or sync more, after which a crash leaves what has P
pub Leaves-call : {T E : Type 0} (r : Result T E) (old mid new : DiskModel) (P : List ℕ → Type 0) → Leaves old mid P → Ticks r mid new
    → ((c : List ℕ) → new.Image c → P c) → Leaves old new P
Leaves-call r old mid new P run ticks here = record {
  later = omega (arith, run.later, ticks.later);
  each = λ c left. ⊎_elim (run.each c) (here c) (ticks.time.nothing_else old.clock c run.later left);
  before = λ t c le left. ⊎_elim (run.before t c le) (λ now. inr (here c now)) (ticks.time.nothing_else t c (omega (arith, le, run.later)) left);
}

-- one read more
pub Leaves-read : (old mid new : DiskModel) (P : List ℕ → Type 0) → Leaves old mid P → Stays mid new → Leaves old new P
Leaves-read old mid new P run stays = record {
  later = omega (arith, run.later, stays.clock);
  each = λ c left. run.each c (stays.since old.clock c left);
  before = λ t c le left. run.before t c le (stays.since t c left);
}

-- a run after a run
pub Leaves-then : (old mid new : DiskModel) (P : List ℕ → Type 0) → Leaves old mid P → Leaves mid new P → Leaves old new P
Leaves-then old mid new P first second = record {
  later = omega (arith, first.later, second.later);
  each = λ c left. ⊎_elim (first.each c) (λ here. here) (second.before old.clock c first.later left);
  before = λ t c le left. ⊎_elim (first.before t c le) (λ here. inr here) (second.before t c (omega (arith, le, first.later)) left);
}

-- less is said of each image
pub Leaves-weaker : (old new : DiskModel) (P Q : List ℕ → Type 0) → ((c : List ℕ) → P c → Q c) → Leaves old new P → Leaves old new Q
Leaves-weaker old new P Q weaker run = record {
  later = run.later;
  each = λ c left. weaker c (run.each c left);
  before = λ t c le left. ⊎_elim (λ was. inl was) (λ here. inr (weaker c here)) (run.before t c le left);
}

-- A call is at most one tick, where the disk tells.
pub one_tick : {T E : Type 0} (r : Result T E) (old new : DiskModel) → IsDisk old → Ticks r old new → IsSome old.told → new.clock ≤ old.clock + 1
one_tick r old new is_old ticks tells = elim (eq-or-lt_of_le is_old.clock_fits) [
  | inl at_end ↦ let stays = (ticks.ended tells at_end).1 in omega (arith, stays.clock)
  | inr before ↦ omega (arith, ticks.tick tells before)
]

-- no read
pub OnlyReads-none : (d : DiskModel) → OnlyReads d d
OnlyReads-none d = record { stays = Stays-same d; later = omega arith; writes = refl }

-- reads, whichever failed
pub OnlyReads-read : (failed : Type 0) (old new : DiskModel) → ReadsOnly failed old new → OnlyReads old new
OnlyReads-read failed old new only = record { stays = only.stays; later = only.reads.later; writes = only.writes }

-- reads after reads
pub OnlyReads-then : (old mid new : DiskModel) → OnlyReads old mid → OnlyReads mid new → OnlyReads old new
OnlyReads-then old mid new first second = record {
  stays = Stays-then old mid new first.stays second.stays;
  later = omega (arith, first.later, second.later);
  writes = second.writes ∙ first.writes;
}
