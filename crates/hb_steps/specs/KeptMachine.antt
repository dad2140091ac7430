-- What every machine keeps: over any disk, whether it tells its bytes or not, and besides over one that tells.
use Rattle.std.specs.Prelude.{◌≡◌, Some}
use Rattle.hb_set.specs.Machine.{RecordSet}
use Rattle.hb_steps.specs.KeptOrder.{HasLegalOrder, HasPendingPrefix}
use Rattle.hb_steps.specs.Keeps.{HasNobodyElse, HasSoundFile, HoldsPagesOfFile, KnowsRoom, LatchesFit, WalksInSpace}
use Rattle.hb_steps.specs.KeptFits.{AttributesFit, HaveClasses, RunsWithStore, WorkersStand}
use Rattle.hb_steps.specs.KeptLines.{LinesFit, LogInPlace, MetaWithinLimits}
use Rattle.hb_steps.specs.KeptPlaces.{AnswersAreSingle, AwaitsNoneOutside, MarksRise, OrderIsShort, RepliesStand}
use Rattle.hb_steps.specs.KeptSearches.{SearchesAreExact, SearchesGather}
use Rattle.hb_steps.specs.KeptSequence.{LinesInSequence}
use Rattle.hb_steps.specs.Locking.{BoxLocksFit}
use Rattle.hb_steps.specs.Machines.{Files, Machine, modes}
use Rattle.hb_steps.specs.Using.{FramesFit}

pub record MachineKeeps (m : Machine) : Type 0 where
  -- what the file says of itself is within its limits
  pub meta_within_limits : MetaWithinLimits m
  -- the log is the area of its turn
  pub log_in_place : LogInPlace m
  -- what the lines would store can be stored, and all points and boxes have the file's number of attributes
  pub lines_fit : LinesFit m
  pub attributes_fit : AttributesFit m
  -- each session answers its lines in their order, once
  pub lines_in_sequence : LinesInSequence m
  pub order_short : OrderIsShort m
  pub replies_stand : RepliesStand m
  pub awaits_inside : AwaitsNoneOutside m
  pub answers_single : AnswersAreSingle m
  -- pages in memory are of the file; their frames, and the pins
  pub pages_of_file : HoldsPagesOfFile m
  pub frames_fit : FramesFit m.store m.uses (modes m)
  -- who stands where, and holds what
  pub classes : HaveClasses m
  pub nobody_else : HasNobodyElse m
  pub latches_fit : LatchesFit m
  pub box_locks_fit : BoxLocksFit m
  pub searches_gather : SearchesGather m
  pub walk_in_space : WalksInSpace m
  pub workers_stand : WorkersStand m
  pub room_known : KnowsRoom m
  -- the groups that wait
  pub marks_rise : MarksRise m
  pub runs : RunsWithStore m

-- Over a disk that tells, from the set that was opened: the files are sound, each search has found what it should so far, the order
-- is legal, and each file has the set after a prefix of it.
pub record CoreKeeps (n : RecordSet) (m : Machine) (files : Files) : Type 0 where
  pub told : m.files ≡ Some files
  pub kept : MachineKeeps m
  pub sound_file : HasSoundFile m files
  pub search_exact : SearchesAreExact m files
  pub order_legal : HasLegalOrder n m files
  pub pending_prefix : HasPendingPrefix n m files
