-- What the steps of a run over a file come to.
use Rattle.std.specs.Prelude.{◌≡◌, ℕ, ◌+◌, ◌≤◌, List, map, take, All, None, IfSome}
use Rattle.hb_steps.specs.Machines.{Machine, settled_count}
use Rattle.hb_steps.specs.MomentLaws.{IsPrefixImage}
use Rattle.hb_core.specs.Runs.{AreAnswers, CountsFaults, HoldsSince}
use Rattle.hb_core.specs.Showing.{ShowsFiles}
use Rattle.hb_steps.specs.Steps.{StepsInSequence}
use Rattle.hb_steps.specs.SteppingLaws.{IsBegun, IsBegunOver}
use Rattle.hb_disk.specs.Calls.{Leaves}
use Rattle.hb_disk.specs.Model.{DiskModel}
use Rattle.hb_space.specs.Actors.{IsActor}
use Rattle.hb_ops.specs.Files.{FileState, contents_of}
use Rattle.hb_ops.specs.Sound.{IsSound}
use Rattle.hb_set.specs.Order.{result_of}
use Rattle.hb_set.specs.declared.scripts.Answered.{Answered}
use Rattle.hb_set.specs.declared.scripts.Line.{Line}
use Rattle.hb_store.specs.Opening.{IsEven, OpensTo}

-- Whatever a crash might have left when the run began: since a value of the clock that is at most one more than the first
-- one, so since the first call that writes, every image has P.
pub record LeavesLate (d e : DiskModel) (P : List ℕ → Type 0) : Type 0 where
  pub since : ℕ
  pub soon : since ≤ d.clock + 1
  pub each : (c : List ℕ) → e.ImageSince since c → P c

-- What crashes leave of a run that came to this machine, from a file on: at each moment a sound file with the set after a prefix of
-- the order, in which each point has one page; since an answer, a prefix that holds it; and at the end the machine's files are those of the
-- disk, and where nothing has stopped it every image opens to the durable one, which has what is settled.
pub record LeavesPrefixes (s : FileState) (d e : DiskModel) (answered : List Answered) (after : Machine) : Type 0 where
  pub since : All (HoldsSince e (contents_of s) after.order) answered
  pub even : IsEven d s → Leaves d e (IsPrefixImage (contents_of s) after.order 0)
  pub late : LeavesLate d e (IsPrefixImage (contents_of s) after.order 0)
  pub shows : ShowsFiles e after
  pub settled : after.stop ≡ None → IsEven e shows.files.durable × IsSound shows.files.durable × (contents_of shows.files.durable ≡ result_of (contents_of s) (take (settled_count after) after.order))

-- These steps of actors were taken, each as the table says, from a machine that has taken none over the file of the disk, to this machine; and
-- these are its answers, with the disk's clock after each one's step, and the numbers of its order.
pub record TakesSteps (d e : DiskModel) (k : ℕ) (lines : List Line) (steps : List ℕ) (answered : List Answered) (order : List ℕ) (after : Machine) : Type 0 where
  pub before : Machine
  pub begun : IsBegun before
  pub lines_are : before.lines ≡ lines
  pub attributes : before.store.meta.k ≡ k
  pub actors : All IsActor steps
  pub reached : StepsInSequence steps before after
  pub came : AreAnswers d.told answered after.answered
  pub order_is : order ≡ map (λ e. e.line.number) after.order
  pub faults : CountsFaults d e answered None after.stop
  pub told : IfSome d.told (λ b. (s : FileState) × OpensTo b s × IsSound s × IsBegunOver before s × LeavesPrefixes s d e answered after)
  pub silent : d.told ≡ None → (before.files ≡ None) × (e.told ≡ None)
