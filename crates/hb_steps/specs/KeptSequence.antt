-- What every machine keeps of the order in which a session answers its lines.
use Rattle.std.specs.Prelude.{◌≡◌, ◌⊎◌, ℕ, ◌<◌, IsTrue, All, Contains, Option, Some, None, IfSome, IsSomeAnd}
use Rattle.hb_set.specs.declared.scripts.Line.{Line}
use Rattle.hb_activity.specs.declared.activities.Activity.{Activity}
use Rattle.hb_activity.specs.declared.activities.Activity.TheVariants as at
use Rattle.hb_activity.specs.Classes.{line_in_hand}
use Rattle.hb_steps.specs.Machines.{Machine}
use Rattle.hb_point.specs.SessionRows.{is_answered, next_line}
use Rattle.hb_set.specs.Order.{AreRising, Entry}

-- the number of the line for whose place a session waits
abbrev pub awaited_number : Activity → Option ℕ
awaited_number (at.SessionAwait number reply place) = Some number
awaited_number other = None

abbrev pub HasAnswer : Machine → Line → Type 0
HasAnswer m line = IsTrue (is_answered line.number m.answered)

-- an entry of the order is of a line of the script, which was answered, or for whose place its session waits
pub record IsInSequence (m : Machine) (entry : Entry) : Type 0 where
  pub among : Contains m.lines entry.line
  pub state : HasAnswer m entry.line ⊎ (awaited_number (m.activity entry.line.session) ≡ Some entry.line.number)

-- The line that a session has in hand, or for whose place it waits, is its first one without an answer. A session answers
-- none of its lines before an earlier one.
pub record LinesInSequence (m : Machine) : Type 0 where
  pub rising : AreRising m.lines
  pub in_hand : (actor : ℕ) → IfSome (line_in_hand (m.activity actor)) (λ line. next_line actor m.answered m.lines ≡ Some line)
  pub awaited : (actor : ℕ) → IfSome (awaited_number (m.activity actor)) (λ number. IsSomeAnd (next_line actor m.answered m.lines) (λ line. line.number ≡ number))
  pub placed : All (IsInSequence m) m.order
  pub earlier_first : (first second : Line) → Contains m.lines first → Contains m.lines second → first.session ≡ second.session → first.number < second.number → HasAnswer m second → HasAnswer m first
