-- Every step keeps what a machine keeps, over any disk, and so does a list of steps.
use Rattle.hb_steps.proofs.Machines.Names.{[], ◌∷◌, sym, subst, All-head, All-tail, MachineKeeps, MachineStaysKept, IsActor}
use Rattle.hb_steps.proofs.Machines.AttributesKept.{attributes_fit_still}
use Rattle.hb_steps.proofs.Machines.ClassesKept.{classes_stay}
use Rattle.hb_steps.proofs.Machines.FramesKept.{frames_kept}
use Rattle.hb_steps.proofs.Machines.LogKept.{log_stays_in_place}
use Rattle.hb_steps.proofs.Machines.LocksKept.{box_locks_stay_fit}
use Rattle.hb_steps.proofs.Orders.LinesFit.{lines_stay_fit}
use Rattle.hb_steps.proofs.Orders.MarksKept.{marks_rise_still}
use Rattle.hb_steps.proofs.Orders.OrderPlaces.{replies_kept}
use Rattle.hb_steps.proofs.Orders.RepliesKept.{awaits_none_outside}
use Rattle.hb_steps.proofs.Machines.RunsKept.{runs_stay}
use Rattle.hb_steps.proofs.Orders.ShortOrder.{order_stays_short}
use Rattle.hb_steps.proofs.Orders.SingleAnswers.{answers_stay_single}
use Rattle.hb_steps.proofs.Searches.GatheringKept.{searches_gather_still}
use Rattle.hb_steps.proofs.Facts.StillThere.{nobody_else_comes}
use Rattle.hb_steps.proofs.Orders.Sequences.{sequence_stays}
use Rattle.hb_steps.proofs.Walks.WalksKept.{walks_stay_in_space}
use Rattle.hb_steps.proofs.Walks.WorkersKept.{workers_stand_still}
use Rattle.hb_steps.specs.FileLaws.{MetaStaysWithinLimits, PagesStayOfFile}
use Rattle.hb_steps.specs.KeepingLaws.{RoomStaysKnown}
use Rattle.hb_steps.specs.Laws.{LatchesStayFit}
use Rattle.hb_steps.specs.MachineLaws.{MachinesStayKept}

-- the laws of the parts that are contracts
pub record PartLaws : Type 0 where
  pub pages : PagesStayOfFile
  pub within : MetaStaysWithinLimits
  pub latches : LatchesStayFit
  pub room : RoomStaysKnown

pub machine_stays_kept : PartLaws → MachineStaysKept
machine_stays_kept laws m actor outcome new may keeps step = record {
  meta_within_limits = laws.within m actor outcome new may keeps.latches_fit keeps.lines_fit keeps.meta_within_limits keeps.pages_of_file step;
  log_in_place = log_stays_in_place m actor outcome new keeps step;
  lines_fit = lines_stay_fit m actor outcome new keeps.lines_fit step;
  attributes_fit = attributes_fit_still m actor outcome new may keeps step;
  lines_in_sequence = sequence_stays m actor outcome new keeps.lines_in_sequence step;
  order_short = order_stays_short m actor outcome new may keeps step;
  replies_stand = replies_kept m actor outcome new keeps.replies_stand step;
  awaits_inside = awaits_none_outside m actor outcome new may keeps step;
  answers_single = answers_stay_single m actor outcome new may keeps step;
  pages_of_file = laws.pages m actor outcome new may keeps.latches_fit keeps.lines_fit keeps.meta_within_limits keeps.pages_of_file step;
  frames_fit = frames_kept m actor outcome new may keeps step;
  classes = classes_stay m actor outcome new may keeps step;
  nobody_else = nobody_else_comes m actor outcome new may keeps.nobody_else step;
  latches_fit = laws.latches m actor outcome new may keeps.latches_fit keeps.pages_of_file step;
  box_locks_fit = box_locks_stay_fit m actor outcome new keeps step;
  searches_gather = searches_gather_still m actor outcome new keeps step;
  walk_in_space = walks_stay_in_space m actor outcome new may keeps.latches_fit keeps.pages_of_file keeps.nobody_else keeps.walk_in_space step;
  workers_stand = workers_stand_still m actor outcome new may keeps step;
  room_known = laws.room m actor outcome new may keeps.latches_fit keeps.pages_of_file keeps.meta_within_limits keeps.nobody_else keeps.room_known step;
  marks_rise = marks_rise_still m actor outcome new may keeps step;
  runs = runs_stay m actor outcome new may keeps step;
}

pub machines_stay_kept : MachineStaysKept → MachinesStayKept
machines_stay_kept law [] m new may keeps is = subst MachineKeeps (sym is) keeps
machines_stay_kept law (actor ∷ rest) m new may keeps (outcome, next, step, steps) =
    machines_stay_kept law rest next new (All-tail IsActor actor rest may) (law m actor outcome next (All-head IsActor actor rest may) keeps step) steps
