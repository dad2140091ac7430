-- That no step meets a damaged page over a disk that tells, and what follows for two steps of one actor, as laws.
use Rattle.std.specs.Prelude.{◌≡◌, ◌≢◌, ◌⊎◌, ℕ, Some, None}
use Rattle.hb_store.specs.declared.stops.StopWhy.TheVariants.{Damaged, WriteFault}
use Rattle.hb_store.specs.declared.stops.Why.{Why}
use Rattle.hb_store.specs.declared.stops.Why.TheVariants.{Rule, Level, Extent}
use Rattle.hb_store.specs.Fetching.{IsNoPage, IsRuleOfPage}
use Rattle.hb_steps.specs.Asking.{wanted_by}
use Rattle.hb_steps.specs.Fetching.{IsWantedPage}
use Rattle.hb_steps.specs.declared.outcomes.Outcome.{Outcome}
use Rattle.hb_steps.specs.Acting.{Abandons, MeetsBadPage}
use Rattle.hb_steps.specs.Forcing.{FailsToWrite}
use Rattle.hb_steps.specs.Keeps.{HasSoundFile, LatchesFit, WalksInSpace}
use Rattle.hb_steps.specs.KeptMachine.{CoreKeeps}
use Rattle.hb_steps.specs.Machines.{Files, Machine}
use Rattle.hb_steps.specs.OutcomeLaws.{RefusesSearch, AreOne}
use Rattle.hb_steps.specs.Steps.{StepsTo}
use Rattle.hb_space.specs.Actors.{IsActor}
use Rattle.hb_set.specs.Machine.{RecordSet}

-- Each page that a step asks for is one of the file, in use, of the level and the box that were asked for; and the first page
-- of the free chain is free. So no step meets a damaged page.
abbrev pub NoPageIsDamaged : Type 0
NoPageIsDamaged = (m : Machine) (files : Files) (actor : ℕ) (outcome : Outcome) (new : Machine) → IsActor actor → m.files ≡ Some files → LatchesFit m → HasSoundFile m files → WalksInSpace m →
    MeetsBadPage m actor outcome new → ⊥

-- Over any disk a step that stops a machine for a damaged page names one that it needs: the page that it wants, or the head of the
-- free chain, which is page 0 where the chain has none. And it names a rule: 1 of a number that no page of the file has; 2 of a page
-- that is free, or of a head of the free chain that isn't; else one that a page breaks by itself, which only a disk lets be read that
-- doesn't tell. Or the level is another one, or the box.
abbrev pub IsRuleNamed : Machine → ℕ → Why → Type 0
IsRuleNamed m page (Rule rule) = ((rule ≡ 1) × IsNoPage m.store.meta page) ⊎ (rule ≡ 2) ⊎ ((m.files ≡ None) × IsRuleOfPage rule)
IsRuleNamed m page (Level asked found) = asked ≢ found
IsRuleNamed m page (Extent asked found) = asked ≢ found

pub record NamesDamage (m : Machine) (actor page : ℕ) (why : Why) : Type 0 where
  pub needed : IsWantedPage (wanted_by m actor) page ⊎ (page ≡ m.store.meta.free)
  pub rule : IsRuleNamed m page why

abbrev pub DamageIsNamed : Type 0
DamageIsNamed = (m : Machine) (actor : ℕ) (outcome : Outcome) (new : Machine) (page : ℕ) (why : Why) → StepsTo m actor outcome new → m.stop ≡ None → new.stop ≡ Some (Damaged page why) → NamesDamage m actor page why

-- a machine that runs, or that a write fault has stopped
abbrev pub IsUndamaged : Machine → Type 0
IsUndamaged m = (m.stop ≡ None) ⊎ (m.stop ≡ Some WriteFault)

abbrev pub StaysUndamaged : Type 0
StaysUndamaged = (m : Machine) (files : Files) (actor : ℕ) (outcome : Outcome) (new : Machine) → IsActor actor → m.files ≡ Some files → LatchesFit m → HasSoundFile m files → WalksInSpace m →
    StepsTo m actor outcome new → IsUndamaged m → IsUndamaged new

-- A step that want of memory or a fault of the device has turned aside.
abbrev pub IsRefusedOrFails : Machine → ℕ → Outcome → Machine → Type 0
IsRefusedOrFails m actor outcome new = RefusesSearch m actor outcome new ⊎ FailsToWrite m 9 outcome new ⊎ Abandons m actor outcome new

-- Of a machine that keeps all that it should, two steps of one actor say the same and lead to machines that are one, unless one
-- of them was turned aside so.
abbrev pub KeptStepIsOne : Type 0
KeptStepIsOne = (n : RecordSet) (m : Machine) (files : Files) (actor : ℕ) (outcome other : Outcome) (new next : Machine) → IsActor actor → CoreKeeps n m files → StepsTo m actor outcome new → StepsTo m actor other next →
    IsRefusedOrFails m actor outcome new ⊎ IsRefusedOrFails m actor other next ⊎ ((outcome ≡ other) × AreOne new next)
