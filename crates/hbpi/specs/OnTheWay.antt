-- What holds on the way of a run's steps.
use Rattle.std.specs.Prelude.{◌≡◌, ℕ, List, ◌∷◌, ◌++◌, All, Some}
use Rattle.std.specs.List.{Contains}
use Rattle.hb_steps.specs.CauseLaws.{SplitFindsNoPage}
use Rattle.hb_steps.specs.Laws.{HasOnePage}
use Rattle.hb_steps.specs.Machines.{Files, Machine}
use Rattle.hb_steps.specs.Steps.{StepsInSequence}
use Rattle.hb_ops.specs.Files.{FileState}
use Rattle.hb_set.specs.declared.commands.Reply.TheVariants as replies
use Rattle.hb_set.specs.declared.scripts.Answered.{Answered}
use Rattle.hb_sound.specs.PointWalks.{IsPointOf}
use Rattle.hb_space.specs.Actors.{IsActor}

-- These steps have a front that leads to a machine at which the next one finds no page.
pub record FullOnWay (m : Machine) (actors : List ℕ) (number : ℕ) : Type 0 where
  pub front : List ℕ
  pub actor : ℕ
  pub rest : List ℕ
  pub parts : actors ≡ front ++ actor ∷ rest
  pub here : Machine
  pub reached : StepsInSequence front m here
  pub cause : SplitFindsNoPage here actor number

-- A line is `full` only by its cause: at a machine on the way its page lacks the point and room, and no page is free.
abbrev pub IsFullByCause : Machine → List ℕ → Answered → Type 0
IsFullByCause m actors a = a.reply ≡ replies.Full → FullOnWay m actors a.line

-- In the file of a machine over a disk that tells, and in those that a crash may leave of it, each point has exactly one page, at which the
-- walk from the root ends.
pub record FilesHaveOnePage (m : Machine) : Type 0 where
  pub files : Files
  pub told : m.files ≡ Some files
  pub each : (s : FileState) (p : List ℕ) → Contains (files.durable ∷ files.later) s → IsPointOf s p → HasOnePage s p

-- So it is after each step on any way from a machine on.
abbrev pub WaysHaveOnePage : Machine → Type 0
WaysHaveOnePage m = (front : List ℕ) (here : Machine) → All IsActor front → StepsInSequence front m here → FilesHaveOnePage here
