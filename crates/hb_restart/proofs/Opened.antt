-- What an opening leaves of its disk: reads alone, or reads that found the file and a run behind them.
use Rattle.std.proofs.Common.{◌≡◌, ℕ, ◌+◌, ◌≤◌, List, Option, IfSome, IsSome, sym, subst, arith}
use Rattle.hb_disk.specs.Model.{DiskModel, IsDisk}
use Rattle.hb_disk.specs.Calls.{Leaves, OnlyReads, ReadsOnly}
use Rattle.hb_disk.proofs.Facts.RunLaws.{Leaves-read, Leaves-start, OnlyReads-read}
use Rattle.hb_lemmas.proofs.Options.{if_value, was_some}
use Rattle.hb_frag.specs.declared.pages.Page.{Page}
use Rattle.hb_layout.specs.Offsets.{file_size}
use Rattle.hb_layout.specs.declared.meta.Meta.{Meta}
use Rattle.hb_ops.specs.Files.{FileState}
use Rattle.hb_super.specs.Superblocks.{IsNewest, next_turn}
use Rattle.hb_wal.specs.Frames.{ReadsOneWay}
use Rattle.hb_store.proofs.Facts.Spellings.{OneList}
use Rattle.hb_store.specs.Keeps.{IsFresh}
use Rattle.hb_store.specs.Opening.{IsEven, OpensTo}
use Rattle.hb_store.specs.States.{IsNew, StoreState}
use Rattle.hb_restart.specs.Leaving.{LeavesOpening, RunsThrough}
use Rattle.hb_restart.specs.Renewing.{DiskFaults, Runs, WritesAll, WritesEachOnce}
use Rattle.hb_restart.specs.Beyond.{KeepsBeyond}
use Rattle.hb_restart.specs.Found.{IsFoundIn}
use Rattle.hb_restart.proofs.EachOnce.{also_all, also_each}
use Rattle.hb_restart.proofs.Facts.Beyond.{beyond_found, beyond_looked}
use Rattle.hb_restart.proofs.Recovered.{recovered_even, recovered_late, recovered_late_on, recovered_time}
use Rattle.hb_restart.proofs.RunsThen.{faults_read, faults_then}
use Rattle.hb_restart.proofs.SamePages.{each_way, reads_write_none}

-- a new store, by what it has itself
pub new_again : (turn : ℕ) (meta : Meta) (store : StoreState) → IsNew turn meta store → IsNew store.turn store.meta store
new_again turn meta store new =
    let T : ℕ → Type 0 = λ n. IsNew n meta store in
    let M : Meta → Type 0 = λ m. IsNew store.turn m store in
    subst M (sym new.meta_is) (subst T (sym new.turn_is) new)

-- reads alone
pub leaves_looked : {F : Type 0} (old new : DiskModel) → IsDisk old → ReadsOnly F old new → LeavesOpening F old new
leaves_looked {F} old new is_old only = record {
  even = λ s is_even. Leaves-read old old new (λ c. OpensTo c s) (Leaves-start old (λ c. OpensTo c s) is_old is_even.images) only.stays;
  late = if_value old.told (λ b. (s : FileState) → OpensTo b s → old.clock + 2 ≤ new.clock → (c : List ℕ) → new.ImageSince (old.clock + 1) c → OpensTo c s)
      (λ b told s opens later. absurd (let same = only.stays.clock in omega (arith, same, later)));
  once = reads_write_none old new (OnlyReads-read F old new only);
  beyond = beyond_looked old new is_old (OnlyReads-read F old new only);
  faults = faults_read old new only;
}

module _ (once : OneList) (turns : (bytes : List ℕ) (t s : ℕ) (m n : Meta) → IsNewest bytes t m → IsNewest bytes s n → t ≡ s) (saids : (bytes : List ℕ) (t s : ℕ) (m n : Meta) → IsNewest bytes t m → IsNewest bytes s n → m ≡ n)
    (one_way : ReadsOneWay) (old mid new : DiskModel) (only : ReadsOnly ⊥ old mid) (turn : ℕ) (meta : Meta) (touched : ℕ → Option Page) (count : ℕ)
    (found : IfSome old.told (λ b. IsFoundIn b turn meta touched count)) where
  abbrev reads : OnlyReads old mid
  reads = OnlyReads-read ⊥ old mid only

  -- the run, whether it fails or not
  pub leaves_run : {F : Type 0} → IsDisk old → IfSome mid.told (λ b. IsFoundIn b turn meta touched count → (s : FileState) → IsEven mid s → Leaves mid new (λ c. OpensTo c s))
      → IfSome mid.told (λ b. IsFoundIn b turn meta touched count → (s : FileState) → OpensTo b s → mid.clock + 2 ≤ new.clock → (c : List ℕ) → new.ImageSince (mid.clock + 1) c → OpensTo c s)
      → IfSome mid.told (λ b. IsFoundIn b turn meta touched count → WritesEachOnce (mid.clock + 1) b meta touched new)
      → KeepsBeyond (file_size meta) mid new → DiskFaults F mid new → LeavesOpening F old new
  leaves_run is_old even late each beyond faults = record {
    even = recovered_even old mid new reads turn meta touched count found is_old even;
    late = recovered_late_on old mid new reads turn meta touched count found late;
    once = each_way once turns saids one_way (λ n b meta touched. WritesEachOnce n b meta touched new) (λ n b meta touched pages same. also_each n b meta touched pages same new) old mid reads turn meta touched count found each;
    beyond = beyond_found saids old mid new turn meta touched count is_old reads found beyond;
    faults = faults_then old mid new (λ never. never) (faults_read old mid only) faults;
  }

  -- once the next turn has begun
  pub runs_through : {F : Type 0} (next : ℕ) → next ≡ next_turn turn → IfSome mid.told (λ b. IsFoundIn b turn meta touched count → (s : FileState) → OpensTo b s → IsFresh new (next_turn turn) meta s
      × ((c : List ℕ) → new.ImageSince (mid.clock + 1) c → OpensTo c s))
      → IfSome mid.told (λ b. IsFoundIn b turn meta touched count → WritesAll (mid.clock + 1) b meta touched new) → Runs (meta.high + 12) (file_size meta) F mid new → RunsThrough meta.high old new
  runs_through next is renewed all run = record {
    silent = λ tells. let Q : Option (List ℕ) → Type 0 = λ o. IsSome o in subst Q only.stays.told (was_some mid.told new.told run.beyond.silent tells);
    late = recovered_late old mid new reads turn meta touched count found next is renewed;
    once = each_way once turns saids one_way (λ n b meta touched. WritesAll n b meta touched new) (λ n b meta touched pages same. also_all n b meta touched pages same new) old mid reads turn meta touched count found all;
    least = recovered_time old mid new reads turn meta touched count found all;
    most = λ tells. let Q : Option (List ℕ) → Type 0 = λ o. IsSome o in let few = run.few (subst Q (sym only.stays.told) tells) in omega (arith, few, only.stays.clock);
  }
