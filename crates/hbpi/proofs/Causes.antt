-- A line is `full` by its cause: at a machine on the way its page lacks the point and room, and no page is free.
use Rattle.std.proofs.Common.{◌≡◌, ℕ, List, [], ◌∷◌, ◌++◌, All, refl, sym, ap, subst, ◌∙◌, append-nil, append_assoc}
use Rattle.std.proofs.lemmas.List.Elements.{All-head, All-nil, All-tail, All-weaker}
use Rattle.hb_steps.specs.KeptMachine.{MachineKeeps}
use Rattle.hb_steps.specs.Machines.{Machine}
use Rattle.hb_steps.specs.Performing.{given_by}
use Rattle.hb_steps.specs.Steps.{StepsInSequence, StepsTo}
use Rattle.hb_steps.specs.declared.outcomes.Outcome.{Outcome}
use Rattle.hb_steps.specs.declared.outcomes.Outcome.TheVariants as outcomes
use Rattle.hb_disk.specs.Model.{DiskModel}
use Rattle.hb_space.specs.Actors.{IsActor}
use Rattle.hb_lemmas.proofs.Lists.{All-alone, All-parts}
use Rattle.hb_set.specs.declared.commands.Reply.{Reply}
use Rattle.hb_set.specs.declared.commands.Reply.TheVariants as replies
use Rattle.hb_set.specs.declared.scripts.Answered.{Answered}
use Rattle.hb_set.specs.declared.scripts.Line.{Line}
use Rattle.hbpi.specs.Drives.{TakesSteps}
use Rattle.hbpi.specs.OnTheWay.{FullOnWay, IsFullByCause}
use Rattle.hbpi.specs.Starts.{StartLaws}

-- the answers that came of steps
pub record CameByCause (m : Machine) (actors : List ℕ) (new : Machine) : Type 0 where
  pub came : List Answered
  pub answered : new.answered ≡ m.answered ++ came
  pub causes : All (IsFullByCause m actors) came

given_by_cause : (laws : StartLaws) (m : Machine) (actor : ℕ) (rest : List ℕ) (outcome : Outcome) (next : Machine) (at : ℕ) → MachineKeeps m → StepsTo m actor outcome next → All (IsFullByCause m (actor ∷ rest)) (given_by outcome at)
given_by_cause laws m actor rest (outcomes.Answered number reply) next at keeps step =
    All-alone (IsFullByCause m (actor ∷ rest)) (record { line = number; reply = reply; at = at }) (λ full. record {
      front = [];
      actor = actor;
      rest = rest;
      parts = refl;
      here = m;
      reached = refl;
      cause = laws.full m actor number next keeps (subst (λ (r : Reply). StepsTo m actor (outcomes.Answered number r) next) full step);
    })
given_by_cause laws m actor rest (outcomes.Stopped why) next at keeps step = All-nil _
given_by_cause laws m actor rest outcomes.Idle next at keeps step = All-nil _
given_by_cause laws m actor rest (outcomes.Blocked by) next at keeps step = All-nil _
given_by_cause laws m actor rest outcomes.Helped next at keeps step = All-nil _
given_by_cause laws m actor rest (outcomes.Dropped why) next at keeps step = All-nil _
given_by_cause laws m actor rest outcomes.Moved next at keeps step = All-nil _

one_step_earlier : (m : Machine) (actor : ℕ) (outcome : Outcome) (next : Machine) (rest : List ℕ) (number : ℕ) → StepsTo m actor outcome next → FullOnWay next rest number → FullOnWay m (actor ∷ rest) number
one_step_earlier m actor outcome next rest number step full = record {
  front = actor ∷ full.front;
  actor = full.actor;
  rest = full.rest;
  parts = ap (λ (l : List ℕ). actor ∷ l) full.parts;
  here = full.here;
  reached = (outcome, next, step, full.reached);
  cause = full.cause;
}

pub came_by_cause : (laws : StartLaws) (actors : List ℕ) (m new : Machine) → MachineKeeps m → All IsActor actors → StepsInSequence actors m new → CameByCause m actors new
came_by_cause laws [] m new keeps may steps = record { came = []; answered = ap (λ (x : Machine). x.answered) steps ∙ sym (append-nil m.answered); causes = All-nil _ }
came_by_cause laws (actor ∷ rest) m new keeps may (outcome, next, step, more) =
    let then = came_by_cause laws rest next new (laws.kept m actor outcome next (All-head IsActor actor rest may) keeps step) (All-tail IsActor actor rest may) more in
    let given = given_by outcome next.clock in
    record {
      came = given ++ then.came;
      answered = then.answered ∙ ap (λ (a : List Answered). a ++ then.came) (laws.timed m actor outcome next step) ∙ append_assoc m.answered given then.came;
      causes = (All-parts (IsFullByCause m (actor ∷ rest)) given then.came).1 (
        given_by_cause laws m actor rest outcome next next.clock keeps step,
        All-weaker (IsFullByCause next rest) (IsFullByCause m (actor ∷ rest)) (λ a causes full. one_step_earlier m actor outcome next rest a.line step (causes full)) then.came then.causes,
      );
    }

-- so of the steps of a run, whatever its disk tells
pub took_by_cause : (laws : StartLaws) {d e : DiskModel} {k : ℕ} {lines : List Line} {actors : List ℕ} {answered : List Answered} {order : List ℕ} {after : Machine} (takes : TakesSteps d e k lines actors answered order after) → All (IsFullByCause takes.before actors) after.answered
took_by_cause laws {actors = actors} {after = after} takes =
    let came = came_by_cause laws actors takes.before after (laws.first takes.before takes.begun) takes.actors takes.reached in
    let same : after.answered ≡ came.came = came.answered ∙ ap (λ (a : List Answered). a ++ came.came) takes.begun.unanswered in
    subst (λ (a : List Answered). All (IsFullByCause takes.before actors) a) (sym same) came.causes
