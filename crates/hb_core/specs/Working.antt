-- The stages of a step that wants a page or changes the file: what the core shows, and what of the machine is known.
use Rattle.std.specs.Prelude.{◌≡◌, ◌⊎◌, ℕ, List, Option, Some, IsSome, is_some, IfSome, MatchOption}
use Rattle.hb_disk.specs.Model.{DiskModel}
use Rattle.hb_frag.specs.declared.pages.LivePage.{LivePage}
use Rattle.hb_store.specs.declared.stops.StopWhy.TheVariants.{Damaged, WriteFault}
use Rattle.hb_steps.specs.Using.{CameFor, use_number, use_wanted}
use Rattle.hb_pool.specs.Frames.{Use}
use Rattle.hb_store.specs.Fetching.{use_numbered}
use Rattle.hb_store.specs.Held.{IsTied}
use Rattle.hb_store.specs.States.{StoreState}
use Rattle.hb_core.specs.declared.halts.Halt.{Halt}
use Rattle.hb_core.specs.declared.halts.Halt.TheVariants.{GivesUp, Stops}
use Rattle.hb_steps.specs.Acting.{GivesUpFor, IsBadWanted, MayNeed, NeedsNumber}
use Rattle.hb_steps.specs.Asking.{asked_box, wanted_by}
use Rattle.hb_steps.specs.Fetching.{Brings, IsBadHead, IsFreeHead, IsWantedPage}
use Rattle.hb_core.specs.Going.{MayGoOn, MayWork}
use Rattle.hb_steps.specs.Machines.{Machine, next_of, with_disk, with_uses}
use Rattle.hb_core.specs.Moving.{with_standing}
use Rattle.hb_steps.specs.Rows.{IsAtHand}
use Rattle.hb_core.specs.Showing.{RunningCore, ShowsMachine}

-- A core over a disk shows such a machine.
pub record MayStep (d : DiskModel) (c : RunningCore) (m : Machine) : Type 0 where
  pub shows : ShowsMachine d c m
  pub goes_on : MayGoOn m

-- the machine with the pages that a core has in memory now
abbrev pub with_memory : RunningCore → Machine → Machine
with_memory c m = with_uses c.uses (with_disk c.store m.files m.clock m)

-- The wanted page is at hand, where one is wanted.
pub record HasCome (m : Machine) (actor : ℕ) (d : DiskModel) (c : RunningCore) : Type 0 where
  pub may : MayWork m actor
  pub brings : Brings m (IsWantedPage (wanted_by m actor)) c.store
  pub shows : ShowsMachine d c (with_memory c m)
  pub at_hand : IfSome (wanted_by m actor) (λ wanted. (page : LivePage) × IsAtHand (with_memory c m) (m.activity actor) wanted page)
  -- it is pinned for the step
  pub uses : c.uses ≡ use_wanted (wanted_by m actor) m.uses
  pub tied : IsTied c.store c.uses

-- And so is the number of a page, with the free head afterwards: given exactly where the row makes one.
pub record HasPages (m : Machine) (actor : ℕ) (free : Option (ℕ × ℕ)) (d : DiskModel) (c : RunningCore) : Type 0 where
  pub may : MayWork m actor
  pub brings : Brings m (λ id. IsWantedPage (wanted_by m actor) id ⊎ (IsSome free × IsFreeHead m.store id)) c.store
  pub shows : ShowsMachine d c (with_memory c m)
  pub at_hand : IfSome (wanted_by m actor) (λ wanted. (page : LivePage) × IsAtHand (with_memory c m) (m.activity actor) wanted page)
  pub number : MatchOption free (¬ (NeedsNumber (m.activity actor) (wanted_by m actor) (with_memory c m)))
      (λ next. NeedsNumber (m.activity actor) (wanted_by m actor) (with_memory c m) × (next_of c.store ≡ Some next))
  pub uses : c.uses ≡ use_number (is_some free) m.store.meta (use_wanted (wanted_by m actor) m.uses)
  pub tied : IsTied c.store c.uses

-- A core shows a machine but for where this actor stands.
abbrev pub ShowsBut : DiskModel → RunningCore → ℕ → Machine → Type 0
ShowsBut d c actor m = ShowsMachine d (with_standing actor (m.activity actor) c) m

-- Why a step that may be done comes to no row: what the actor has in hand is given up, or the machine stops.
abbrev pub IsHalt : Machine → ℕ → StoreState → Halt → Type 0
IsHalt m actor st (GivesUp why) = GivesUpFor why m actor st
IsHalt m actor st (Stops WriteFault) = ⊥
IsHalt m actor st (Stops (Damaged page why)) = IsBadWanted m.files st (wanted_by m actor) (asked_box (m.activity actor) st) page why
    ⊎ (NeedsNumber (m.activity actor) (wanted_by m actor) (with_disk st m.files m.clock m) × IsBadHead m.files st page why)

-- `used` is what is known of the order of use then.
pub record HaltsWith (used : List Use → Type 0) (m : Machine) (actor : ℕ) (halt : Halt) (d : DiskModel) (c : RunningCore) : Type 0 where
  pub brings : Brings m (MayNeed m actor c.store) c.store
  pub shows : ShowsBut d c actor (with_memory c m)
  pub cause : IsHalt m actor c.store halt
  pub used_is : used c.uses
  pub tied : IsTied c.store c.uses

-- The wanted page isn't pinned for the step any more; or it is so still.
abbrev pub Halts : Machine → ℕ → Halt → DiskModel → RunningCore → Type 0
Halts m actor halt d c = HaltsWith (CameFor (wanted_by m actor) m.store.meta m.uses) m actor halt d c

abbrev pub HaltsPinned : Machine → ℕ → Halt → DiskModel → RunningCore → Type 0
HaltsPinned m actor halt d c = HaltsWith (λ uses. (uses ≡ use_wanted (wanted_by m actor) m.uses) ⊎ (uses ≡ use_numbered m.store.meta (use_wanted (wanted_by m actor) m.uses))) m actor halt d c

abbrev pub IsStop : Halt → Type 0
IsStop (GivesUp why) = ⊥
IsStop (Stops why) = Unit {0}
