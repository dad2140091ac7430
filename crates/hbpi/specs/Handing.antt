-- What a run gives back, whether it was refused or has come to its end.
use Rattle.std.specs.Prelude.{◌≡◌, ℕ, List, []}
use Rattle.hb_core.specs.Showing.{RunningCore}
use Rattle.hb_core.specs.declared.endings.End.{End}
use Rattle.hb_core.specs.declared.endings.End.TheVariants as ends
use Rattle.hb_outside.specs.Calls.{SinkModel}
use Rattle.hb_set.specs.declared.scripts.Answered.{Answered}
use Rattle.hbpi.specs.Codes.{status_after}
use Rattle.hbpi.specs.Outcome.{GetsLine, fault_line}
use Rattle.hbpi.specs.Saying.{SaysCounts}
use Rattle.hbpi.specs.declared.statuses.Status.{Status}

-- A run was refused with the status that was asked for: its fault line was put, no command is done, and the disk is given back as it was.
pub record HandsBack {X : Type 0} (asked status : Status) (before after : SinkModel) (answered : List Answered) (order : List ℕ) (old new : X) : Type 0 where
  pub status_is : status ≡ asked
  pub disk_is : new ≡ old
  pub line : GetsLine before after (fault_line asked)
  pub none_answered : answered ≡ []
  pub none_ordered : order ≡ []

-- A run gives back the disk that it was left, the answers that were given, and the order that came of them.
pub record HandsOver {X : Type 0} (over last : X) (given answered : List Answered) (left order : List ℕ) : Type 0 where
  pub disk_is : last ≡ over
  pub answered_is : answered ≡ given
  pub order_is : order ≡ left

-- A run of a core that has stopped: how it ended, what its core shows, its disk, its sink, and the answers that were given.
pub record RunLeft (X Y : Type 0) : Type 0 where
  pub end : End
  pub core : RunningCore
  pub disk : X
  pub sink : Y
  pub answered : List Answered

-- What is given back of it.
pub record GivenBack (X Y : Type 0) : Type 0 where
  pub status : Status
  pub disk : X
  pub sink : Y
  pub answered : List Answered
  pub order : List ℕ

-- A run that has put its replies is ended: the status is that of its end, and the fault line stands behind its output.
pub record EndsText {X Y : Type 0} (S : Y → SinkModel) (left : RunLeft X Y) (back : GivenBack X Y) : Type 0 where
  pub hands : HandsOver left.disk back.disk left.answered back.answered left.core.order back.order
  pub status_is : back.status ≡ status_after left.end
  pub silent : left.end ≡ ends.SinkFault → back.sink ≡ left.sink
  pub silent_done : left.end ≡ ends.Finished → back.sink ≡ left.sink
  pub line : GetsLine (S left.sink) (S back.sink) (fault_line back.status)

-- So is one that has put none: it says its counts by this line, on this sink.
pub record EndsCounting {X Y Z : Type 0} (S : Z → SinkModel) (text : List ℕ) (sink : Z) (left : RunLeft X Y) (back : GivenBack X Z) : Type 0 where
  pub hands : HandsOver left.disk back.disk left.answered back.answered left.core.order back.order
  pub says : SaysCounts left.end text (S sink) (S back.sink) back.status
