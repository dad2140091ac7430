-- A list of steps keeps all that a machine keeps.
use Rattle.hb_steps.proofs.Machines.Names.{◌≡◌, ℕ, List, [], ◌∷◌, All, sym, ap, subst, arith, All-head, All-tail, Outcome, MachineStaysKept, Machine, BeginningKeepsAll, StepsTo, IsActor, contents_of}
use Rattle.hb_steps.proofs.Facts.NoDamage.{stays_undamaged}
use Rattle.hb_steps.proofs.Orders.PendingKept.{prefix_stays_pending, settled_stays_settled}
use Rattle.hb_steps.proofs.Orders.Prefixes.{files_have_prefixes}
use Rattle.hb_steps.specs.DamageLaws.{IsUndamaged}
use Rattle.hb_steps.specs.FileLaws.{FilesStaySound}
use Rattle.hb_steps.specs.KeepingLaws.{BegunKeepsAll, HasKeptAll, StepsKeepAll}
use Rattle.hb_steps.specs.KeptMachine.{CoreKeeps}
use Rattle.hb_steps.specs.Machines.{Files, settled_count}
use Rattle.hb_steps.specs.OrderLaws.{OrderStaysLegal, SearchesStayExact}
use Rattle.hb_steps.specs.Steps.{StepsInSequence}
use Rattle.hb_set.specs.Machine.{RecordSet}

-- the laws of one step that are contracts
pub record StepLaws : Type 0 where
  pub kept : MachineStaysKept
  pub files : FilesStaySound
  pub searches : SearchesStayExact
  pub order : OrderStaysLegal

module _ (laws : StepLaws) (n : RecordSet) where
  kept_by_step : (m : Machine) (files : Files) (actor : ℕ) (outcome : Outcome) (new : Machine) → IsActor actor → CoreKeeps n m files → StepsTo m actor outcome new → (files' : Files) × CoreKeeps n new files'
  kept_by_step m files actor outcome new may keeps step =
      let after = laws.files m files actor outcome new keeps.told keeps.kept.lines_fit keeps.kept.pages_of_file keeps.sound_file step in
      let legal = laws.order n m files after.0 actor outcome new keeps.told keeps.kept keeps.sound_file keeps.search_exact keeps.order_legal step after.1 in (
        after.0,
        record {
          told = after.1;
          kept = laws.kept m actor outcome new may keeps.kept step;
          sound_file = after.2;
          search_exact = laws.searches m files after.0 actor outcome new may keeps.told keeps.kept keeps.sound_file keeps.search_exact step after.1;
          order_legal = legal;
          pending_prefix = prefix_stays_pending n m files actor outcome new after.0 keeps.told after.1 keeps.sound_file keeps.order_legal keeps.kept.replies_stand keeps.pending_prefix step legal.legal;
        },
      )

  nothing_done : (m : Machine) (files : Files) (new : Machine) → CoreKeeps n m files → new ≡ m → HasKeptAll n m new files
  nothing_done m files new keeps is =
      let now : CoreKeeps n new files = subst (λ (x : Machine). CoreKeeps n x files) (sym is) keeps in
      let same = ap settled_count is in
      record { keeps = now; prefixes = files_have_prefixes n new files now.sound_file now.order_legal now.kept.replies_stand now.kept.marks_rise now.pending_prefix; settled = omega (arith, same); undamaged = λ well. subst IsUndamaged (sym is) well }

  one_more : (m : Machine) (files : Files) (actor : ℕ) (outcome : Outcome) (next new : Machine) (files' : Files) → IsActor actor → CoreKeeps n m files → StepsTo m actor outcome next → HasKeptAll n next new files' → HasKeptAll n m new files'
  one_more m files actor outcome next new files' may keeps step kept =
      let rises = settled_stays_settled n m files actor outcome next keeps.told keeps.sound_file keeps.order_legal keeps.pending_prefix step in
      let further = kept.settled in
      record {
        keeps = kept.keeps;
        prefixes = kept.prefixes;
        settled = omega (arith, rises, further);
        undamaged = λ well. kept.undamaged (stays_undamaged m files actor outcome next may keeps.told keeps.kept.latches_fit keeps.sound_file keeps.kept.walk_in_space step well);
      }

  kept_in_sequence : (actors : List ℕ) (m : Machine) (files : Files) (new : Machine) → All IsActor actors → CoreKeeps n m files → StepsInSequence actors m new → (files' : Files) × HasKeptAll n m new files'
  kept_in_sequence [] m files new may keeps is = (files, nothing_done m files new keeps is)
  kept_in_sequence (actor ∷ rest) m files new may keeps (outcome, next, step, steps) =
      let after = kept_by_step m files actor outcome next (All-head IsActor actor rest may) keeps step in
      let kept = kept_in_sequence rest next after.0 new (All-tail IsActor actor rest may) after.1 steps in
      (kept.0, one_more m files actor outcome next new kept.0 (All-head IsActor actor rest may) keeps step kept.1)

pub steps_keep_all : StepLaws → StepsKeepAll
steps_keep_all laws n actors m files new may keeps steps = kept_in_sequence laws n actors m files new may keeps steps

pub begun_keeps_all : StepLaws → BeginningKeepsAll → BegunKeepsAll
begun_keeps_all laws begins s actors m new begun may steps = kept_in_sequence laws (contents_of s) actors m _ new may (begins m s begun) steps
