-- What is said of the steps of a store that was just opened, seen from before the opening.
use Rattle.std.proofs.Common.{ℕ, ◌+◌, ◌≤◌, List, Option, None, IsSome, refl, subst, arith}
use Rattle.hb_steps.specs.Laws.{HasOnePage}
use Rattle.hb_steps.specs.Machines.{Machine}
use Rattle.hb_steps.specs.MomentLaws.{IsPrefixImage}
use Rattle.hb_core.specs.Runs.{CountsFaults}
use Rattle.hb_steps.specs.SteppingLaws.{IsBegunOver}
use Rattle.hb_disk.proofs.Facts.RunLaws.{Leaves-then, Leaves-weaker}
use Rattle.hb_disk.specs.Model.{DiskModel}
use Rattle.hb_lemmas.proofs.Options.{has_value}
use Rattle.hb_ops.specs.Files.{FileState, contents_of}
use Rattle.hb_ops.specs.Sound.{IsSound}
use Rattle.hb_outside.specs.Streams.{Rose}
use Rattle.hb_set.specs.Order.{Entry}
use Rattle.hb_set.specs.declared.scripts.Answered.{Answered}
use Rattle.hb_set.specs.declared.scripts.Line.{Line}
use Rattle.hb_sound.specs.Laws.{NoPointIsHeldTwice, RootHasWalks}
use Rattle.hb_sound.specs.PointWalks.{IsPointOf}
use Rattle.hb_store.specs.Opening.{IsEven, OpensTo, OpensToOne}
use Rattle.hb_store.specs.declared.stops.StopWhy.{StopWhy}
use Rattle.hbpi.proofs.Opened.{IsOpening, from_before, late_before, silent_behind, tells_behind}
use Rattle.hbpi.proofs.StepsTaken.{TakesFrom}
use Rattle.hbpi.specs.Drives.{LeavesPrefixes, TakesSteps}

-- in a sound file each point has one page
pub pages_of : RootHasWalks → NoPointIsHeldTwice → (s : FileState) → IsSound s → (p : List ℕ) → IsPointOf s p → HasOnePage s p
pages_of walks alone s sound p point = record { walk = walks s p sound point; alone = λ id other a b. alone s 0 p id other sound point a b }

-- an image of the file has the set after no line
pub no_line_yet : (s : FileState) (order : List Entry) (c : List ℕ) → IsSound s → ((p : List ℕ) → IsPointOf s p → HasOnePage s p) → OpensTo c s → IsPrefixImage (contents_of s) order 0 c
no_line_yet s order c sound pages opens = record { s = s; opens = opens; sound = sound; pages = pages; count = 0; enough = omega arith; inside = omega arith; contents = refl }

prefixes_before : (s : FileState) (d m e : DiskModel) (answered : List Answered) (after : Machine) → IsOpening d m → IsSome d.told → ((c : List ℕ) → m.ImageSince (d.clock + 1) c → OpensTo c s) → IsSound s → ((p : List ℕ) → IsPointOf s p → HasOnePage s p) → IsEven m s
    → LeavesPrefixes s m e answered after → LeavesPrefixes s d e answered after
prefixes_before s d m e answered after opening tells late sound pages even run =
    let Q : List ℕ → Type 0 = IsPrefixImage (contents_of s) after.order 0 in
    record {
      since = run.since;
      even = λ was. Leaves-then d m e Q (Leaves-weaker d m (λ c. OpensTo c s) Q (λ c opens. no_line_yet s after.order c sound pages opens) (opening.even s was)) (run.even even);
      late = late_before d m e (λ c. OpensTo c s) Q opening tells late (λ c opens. no_line_yet s after.order c sound pages opens) (run.even even);
      shows = run.shows;
      settled = run.settled;
    }

-- the opening has raised no count of faults
pub counts_before : (d m e : DiskModel) (answered : List Answered) (before after : Option StopWhy) → IsOpening d m → CountsFaults m e answered before after → CountsFaults d e answered before after
counts_before d m e answered before after opening counts = record {
  reads = subst (λ (n : ℕ). n ≤ e.read_faults) opening.reads counts.reads;
  writes = subst (λ (n : ℕ). n ≤ e.write_faults) opening.writes counts.writes;
  read = λ has. subst (λ (n : ℕ). Rose n e.read_faults) opening.reads (counts.read has);
  write = λ is before. subst (λ (n : ℕ). Rose n e.write_faults) opening.writes (counts.write is before);
}

pub takes_before : (d m e : DiskModel) (k : ℕ) (lines : List Line) (steps : List ℕ) (answered : List Answered) (order : List ℕ) (after : Machine) → RootHasWalks → NoPointIsHeldTwice → OpensToOne → IsOpening d m
    → (takes : TakesSteps m e k lines steps answered order after) → TakesFrom takes.before d e k lines steps answered order after
takes_before d m e k lines steps answered order after walks alone one opening takes =
    let before : TakesSteps d e k lines steps answered order after = record {
      before = takes.before;
      begun = takes.begun;
      lines_are = takes.lines_are;
      attributes = takes.attributes;
      actors = takes.actors;
      reached = takes.reached;
      came = record { alike = takes.came.alike; same = λ tells. takes.came.same (tells_behind d m opening tells) };
      order_is = takes.order_is;
      faults = counts_before d m e answered None after.stop opening takes.faults;
      told = from_before d m (λ s. IsBegunOver takes.before s × LeavesPrefixes s m e answered after) _ _ one opening
          (λ b f. (f.0, f.1, (f.3, f.4)))
          (λ b s is opens sound even here. (
            s,
            opens,
            sound,
            here.0,
            prefixes_before s d m e answered after opening (has_value d.told b is) (opening.late b is s opens) sound (pages_of walks alone s sound) even here.1,
          )) takes.told;
      silent = λ none. takes.silent (silent_behind d m opening none);
    } in
    (before, refl)
