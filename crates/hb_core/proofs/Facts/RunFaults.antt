-- The counts of faults over a run, one step more.
use Rattle.hb_core.proofs.Facts.Names.{◌≡◌, ◌⊎◌, ◌↔◌, inl, inr, ℕ, zero, suc, ◌≤◌, List, [], ◌∷◌, ◌++◌, Some, Result, sym, ap, ◌∙◌, subst, arith, same_Some, Machine, given_by, CountsFaults, without_clock, RunningCore, Touches, Outcome, DiskModel, Answered}
use Rattle.std.proofs.Common.{map, IsErr}
use Rattle.std.proofs.Math.Nat.{eq-or-lt_of_le}
use Rattle.hb_steps.proofs.Facts.LogAndStop.{SaysStop}
use Rattle.hb_core.specs.Runs.{HasReadFault}
use Rattle.hb_core.specs.Touching.{EndsByRead, ReadsAtMost}
use Rattle.hb_steps.specs.declared.outcomes.Outcome.TheVariants as outcomes
use Rattle.hb_disk.specs.Calls.{WriteFaults}
use Rattle.hb_outside.proofs.Facts.CountLaws.{Rose-later}
use Rattle.hb_outside.specs.Streams.{Rose}
use Rattle.hb_set.specs.declared.commands.Reply.{Reply}
use Rattle.hb_set.specs.declared.commands.Reply.TheVariants as replies
use Rattle.hb_store.specs.declared.stops.StopWhy.{StopWhy}
use Rattle.hb_store.specs.declared.stops.StopWhy.TheVariants as stops

-- a count that rose, and didn't fall after that
pub rose_longer : (a b c : ℕ) → a ≤ b → b ≤ c → Rose a b → Rose a c
rose_longer a b c low high (inl less) = inl (omega (arith, less, high))
rose_longer a b c low high (inr last) = elim (eq-or-lt_of_le high) [ inl same ↦ inr (sym same ∙ last) | inr less ↦ inl (omega (arith, low, less)) ]

-- ---- a reply `read fault` among the answers

pub fault_in : (answers given : List Answered) → HasReadFault (answers ++ given) → HasReadFault answers ⊎ HasReadFault given
fault_in [] given has = inr has
fault_in (x ∷ answers) given (zero, a, lt, at, is) = inl (zero, a, omega arith, at, is)
fault_in (x ∷ answers) given (suc k, a, lt, at, is) = by (fault_in answers given (k, a, omega (arith, lt), at, is))
  where
    by : HasReadFault answers ⊎ HasReadFault given → HasReadFault (x ∷ answers) ⊎ HasReadFault given
    by (inl (j, b, less, there, fault)) = inl (suc j, b, omega (arith, less), there, fault)
    by (inr later) = inr later

pub no_fault_in : HasReadFault [] → ⊥
no_fault_in (k, a, lt, at, is) = omega (arith, lt)

in_none : (given : List Answered) → map without_clock given ≡ [] → HasReadFault given → ⊥
in_none [] alike has = no_fault_in has
in_none (x ∷ given) alike has = cc alike

in_one : (number : ℕ) (reply : Reply) (given : List Answered) → map without_clock given ≡ record { line = number; reply = reply; at = 0 } ∷ [] → HasReadFault given → reply ≡ replies.ReadFault
in_one number reply [] alike has = cc alike
in_one number reply (x ∷ []) alike (zero, a, lt, at, is) =
    let replies_same : x.reply ∷ [] ≡ reply ∷ [] = ap (λ (l : List Answered). map (λ (b : Answered). b.reply) l) alike in
    let same : x.reply ≡ reply = cc replies_same in
    sym same ∙ ap (λ (b : Answered). b.reply) at ∙ is
in_one number reply (x ∷ []) alike (suc k, a, lt, at, is) = absurd (omega (arith, lt))
in_one number reply (x ∷ y ∷ given) alike has = cc alike

-- is that of the step
pub ends_by_read : (outcome : Outcome) (clock : ℕ) (given : List Answered) → map without_clock given ≡ map without_clock (given_by outcome clock) → HasReadFault given → EndsByRead outcome
ends_by_read (outcomes.Answered number reply) clock given alike has = in_one number reply given alike has
ends_by_read (outcomes.Stopped why) clock given alike has = absurd (in_none given alike has)
ends_by_read outcomes.Idle clock given alike has = absurd (in_none given alike has)
ends_by_read (outcomes.Blocked by) clock given alike has = absurd (in_none given alike has)
ends_by_read outcomes.Helped clock given alike has = absurd (in_none given alike has)
ends_by_read (outcomes.Dropped why) clock given alike has = absurd (in_none given alike has)
ends_by_read outcomes.Moved clock given alike has = absurd (in_none given alike has)

-- ---- one step more

module _ (d e f : DiskModel) (old new : RunningCore) (m mid next : Machine) (outcome : Outcome) (answers given : List Answered) (clock : ℕ) (run : CountsFaults d e answers m.stop mid.stop) (says : SaysStop mid outcome next)
    (shown : mid.stop ≡ old.stop) (alike : map without_clock given ≡ map without_clock (given_by outcome clock)) where
  -- a failed write has stopped the machine before, or in this step
  stopped_when : next.stop ≡ Some stops.WriteFault → (mid.stop ≡ Some stops.WriteFault) ⊎ (outcome ≡ outcomes.Stopped stops.WriteFault)
  stopped_when stop = by says
    where
      by : SaysStop mid outcome next → (mid.stop ≡ Some stops.WriteFault) ⊎ (outcome ≡ outcomes.Stopped stops.WriteFault)
      by (inl same) = inl (sym same ∙ stop)
      by (inr (why, is, said)) = inr (said ∙ ap (λ (w : StopWhy). outcomes.Stopped w) (same_Some why stops.WriteFault (sym is ∙ stop)))

  after_reads : ReadsAtMost e old outcome f → CountsFaults d f (answers ++ given) m.stop next.stop
  after_reads reads =
      let first = run.reads in
      let later = reads.only.reads.later in
      let low = run.writes in
      let same = reads.only.writes in
      record { reads = omega (arith, first, later); writes = omega (arith, low, same); read = λ has. read (fault_in answers given has); write = λ stop begun. write begun (stopped_when stop) }
    where
      read : HasReadFault answers ⊎ HasReadFault given → Rose d.read_faults f.read_faults
      read (inl before) = rose_longer d.read_faults e.read_faults f.read_faults run.reads reads.only.reads.later (run.read before)
      read (inr now) = Rose-later d.read_faults e.read_faults f.read_faults run.reads (reads.only.reads.cause (ends_by_read outcome clock given alike now))

      rose : mid.stop ≡ Some stops.WriteFault → (m.stop ≡ Some stops.WriteFault → ⊥) → Rose d.write_faults f.write_faults
      rose stop begun = subst (λ (n : ℕ). Rose d.write_faults n) (sym reads.only.writes) (run.write stop begun)

      write : (m.stop ≡ Some stops.WriteFault → ⊥) → (mid.stop ≡ Some stops.WriteFault) ⊎ (outcome ≡ outcomes.Stopped stops.WriteFault) → Rose d.write_faults f.write_faults
      write begun (inl stop) = rose stop begun
      write begun (inr said) = rose (shown ∙ reads.no_write said) begun

  -- it wrote, to the log or to a page's place
  after_write : {T E : Type 0} (result : Result T E) → WriteFaults (IsErr result) e f → (IsErr result ↔ (outcome ≡ outcomes.Stopped stops.WriteFault)) → ¬ (EndsByRead outcome) → CountsFaults d f (answers ++ given) m.stop next.stop
  after_write result faults says no_read =
      let first = run.reads in
      let same = faults.reads in
      let low = run.writes in
      let later = faults.writes.later in
      record { reads = omega (arith, first, same); writes = omega (arith, low, later); read = λ has. read (fault_in answers given has); write = λ stop begun. write begun (stopped_when stop) }
    where
      read : HasReadFault answers ⊎ HasReadFault given → Rose d.read_faults f.read_faults
      read (inl before) = subst (λ (n : ℕ). Rose d.read_faults n) (sym faults.reads) (run.read before)
      read (inr now) = absurd (no_read (ends_by_read outcome clock given alike now))

      write : (m.stop ≡ Some stops.WriteFault → ⊥) → (mid.stop ≡ Some stops.WriteFault) ⊎ (outcome ≡ outcomes.Stopped stops.WriteFault) → Rose d.write_faults f.write_faults
      write begun (inl stop) = rose_longer d.write_faults e.write_faults f.write_faults run.writes faults.writes.later (run.write stop begun)
      write begun (inr said) = Rose-later d.write_faults e.write_faults f.write_faults run.writes (faults.writes.cause (says.1 said))

  pub faults_more : Touches e old outcome f new → CountsFaults d f (answers ++ given) m.stop next.stop
  faults_more (inl reads) = after_reads reads
  faults_more (inr (inl force)) = after_write force.result force.writes.wrote.faults force.says force.no_read
  faults_more (inr (inr (inl home))) = after_write home.result home.writes.wrote.faults home.says home.no_read
  faults_more (inr (inr (inr turn))) = after_write turn.result turn.switches.wrote.faults turn.says turn.no_read
