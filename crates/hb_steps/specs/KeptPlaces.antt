-- What every machine keeps, over any disk, of its order and of the marks of the groups that wait.
use Rattle.std.specs.Prelude.{◌≡◌, ◌≢◌, ℕ, ◌≤◌, length, All, AllPairs}
use Rattle.hb_wal.specs.Log.{IsMarkedTo, IsNoLater}
use Rattle.hb_set.specs.Order.{Entry}
use Rattle.hb_set.specs.declared.commands.Reply.{Reply}
use Rattle.hb_set.specs.declared.scripts.Answered.{Answered}
use Rattle.hb_activity.specs.declared.activities.Activity.TheVariants as at
use Rattle.hb_steps.specs.KeptOrder.{StandsInOrder, StandsOutside, StandsSomewhere}
use Rattle.hb_steps.specs.Machines.{Machine}

-- No line stands twice in the order, which is no longer than the script.
pub record OrderIsShort (m : Machine) : Type 0 where
  pub once : AllPairs (λ (e : Entry) (f : Entry). e.line.number ≢ f.line.number) m.order
  pub few : length m.order ≤ length m.lines

-- A line that awaits its place stands there with the reply that is kept for it; and each line that was answered stands somewhere
-- with its reply, or was answered outside of the order.
pub record RepliesStand (m : Machine) : Type 0 where
  pub awaits : (actor number place : ℕ) (reply : Reply) → m.activity actor ≡ at.SessionAwait number reply place → StandsInOrder m.order number reply place
  pub answers : All (StandsSomewhere m.order) m.answered

-- The reply that is kept is one of the order.
abbrev pub AwaitsNoneOutside : Machine → Type 0
AwaitsNoneOutside m = (actor number place : ℕ) (reply : Reply) → m.activity actor ≡ at.SessionAwait number reply place → ¬ (StandsOutside reply)

-- No line was answered twice; one that was answered outside of the order doesn't stand in it.
pub record AnswersAreSingle (m : Machine) : Type 0 where
  pub once : AllPairs (λ (a : Answered) (b : Answered). a.line ≢ b.line) m.answered
  pub outside : All (λ (a : Answered). StandsOutside a.reply → All (λ (e : Entry). e.line.number ≢ a.line) m.order) m.answered

-- The marks of the groups that wait don't fall, and none is behind the order's end.
pub record MarksRise (m : Machine) : Type 0 where
  pub rising : AllPairs IsNoLater m.store.log.groups
  pub inside : All (IsMarkedTo (length m.order)) m.store.log.groups
