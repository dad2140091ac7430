-- The promise of `drive`, `run` and `work`, from how a run ends.
use Rattle.std.proofs.Common.{◌≡◌, inl, inr, ℕ, ◌+◌, ◌≤◌, List, [], All, Some, None, refl, sym, ap, subst, ◌∙◌, arith}
use Rattle.std.proofs.lemmas.List.Elements.{All-nil, All-weaker}
use Rattle.std.specs.List.{Contains}
use Rattle.hb_steps.specs.KeptOrder.{StandsSomewhere}
use Rattle.hb_steps.specs.KeptSequence.{IsInSequence}
use Rattle.hb_steps.specs.Laws.{HasOnePage}
use Rattle.hb_steps.specs.Machines.{Machine, settled_count}
use Rattle.hb_steps.specs.MomentLaws.{IsPrefixImage}
use Rattle.hb_core.specs.Runs.{HoldsSince}
use Rattle.hb_steps.specs.SteppingLaws.{IsBegunOver}
use Rattle.hb_disk.proofs.Facts.RunLaws.{Leaves-weaker}
use Rattle.hb_disk.specs.Calls.{Leaves}
use Rattle.hb_disk.specs.Model.{DiskModel}
use Rattle.hb_layout.specs.declared.meta.Meta.{Meta}
use Rattle.hb_lemmas.proofs.Options.{at_value, has_value}
use Rattle.hb_ops.specs.Files.{FileState, contents_of}
use Rattle.hb_ops.specs.Sound.{IsSound}
use Rattle.hb_restart.specs.declared.faults.OpenFault.{OpenFault}
use Rattle.hb_set.specs.declared.scripts.Answered.{Answered}
use Rattle.hb_set.specs.declared.scripts.Line.{Line}
use Rattle.hb_sound.specs.PointWalks.{IsPointOf}
use Rattle.hb_store.specs.Opening.{IsEven, OpensTo}
use Rattle.hbpi.proofs.EndLaws.{no_done, of_closed}
use Rattle.hbpi.proofs.Reopened.{no_line_yet, pages_of}
use Rattle.hbpi.specs.Codes.{status_of}
use Rattle.hbpi.specs.Driven.{IsOpened, Manner}
use Rattle.hbpi.specs.StepEnds.{Drove, RanEnds, StepsEnd}
use Rattle.hbpi.specs.Drives.{LeavesLate, LeavesPrefixes}
use Rattle.hbpi.specs.Promises.{AreOfScript, KeepsPromise}
use Rattle.hbpi.specs.Schedules.{CameFrom, CameNot}
use Rattle.hbpi.specs.SeenRuns.{Run}
use Rattle.hbpi.specs.Starts.{StartLaws}
use Rattle.hbpi.specs.declared.origins.Origin.{Origin}
use Rattle.hbpi.specs.declared.statuses.Status.{Status}
use Rattle.hbpi.specs.declared.statuses.Status.TheVariants.{Done}

pub not_done : (fault : OpenFault) → status_of fault ≡ Done → ⊥
not_done fault = of_closed fault (λ x. x ≡ Done → ⊥) (λ needed found is. cc (is)) (λ damage is. cc (is)) (λ is. cc (is)) (λ is. cc (is))

-- where no command was done
nothing_done : (origin : Origin) (s : FileState) (run : Run) (status : Status) → IsSound s → ((p : List ℕ) → IsPointOf s p → HasOnePage s p) → run.seen.answered ≡ [] → run.seen.order ≡ []
    → (IsEven run.before s → Leaves run.before run.after (λ c. OpensTo c s)) → (run.before.clock + 2 ≤ run.after.clock → LeavesLate run.before run.after (λ c. OpensTo c s)) → (status ≡ Done → ⊥) → KeepsPromise origin s run status
nothing_done origin s run status sound pages none_answered none_ordered leaves late undone =
    let P : List ℕ → Type 0 = IsPrefixImage (contents_of s) [] 0 in
    let weaker : (c : List ℕ) → OpensTo c s → P c = λ c opens. no_line_yet s [] c sound pages opens in
    record {
      order = [];
      numbers = none_ordered;
      said = inl refl;
      legal = record { replies = tt; sessions = tt };
      replied = let Q : List Answered → Type 0 = λ a. All (StandsSomewhere []) a in subst Q (sym none_answered) (All-nil (StandsSomewhere []));
      held = let Q : List Answered → Type 0 = λ a. All (HoldsSince run.after (contents_of s) []) a in subst Q (sym none_answered) (All-nil (HoldsSince run.after (contents_of s) []));
      crashes = λ even. Leaves-weaker run.before run.after (λ c. OpensTo c s) P weaker (leaves even);
      late = λ later. let here = late later in record { since = here.since; soon = here.soon; each = λ c left. weaker c (here.each c left) };
      even = λ is. absurd (undone is);
    }

-- where the steps were taken, from this file on
module _ (laws : StartLaws) (b : List ℕ) (by : Manner) (run : Run) (status : Status) (after : Machine) (told : run.before.told ≡ Some b) (drove : Drove by run after) (going : status ≡ Done → after.stop ≡ None) where
  of_script : (s : FileState) → IsBegunOver drove.takes.before s → All (IsInSequence after) after.order → AreOfScript by.origin s.meta.k run.seen after.order
  of_script s over placed =
      let takes = drove.takes in
      let k : drove.k ≡ s.meta.k = sym (ap (λ (m : Meta). m.k) over.meta ∙ takes.attributes) in
      let lines : after.lines ≡ drove.lines = (laws.further drove.actors takes.before after takes.reached).lines ∙ takes.lines_are in
      record {
        lines = drove.lines;
        steps = drove.steps;
        came = subst (λ (n : ℕ). CameFrom by.origin n run.seen.source_before run.seen.source_after drove.lines drove.steps) k drove.came;
        among = All-weaker (IsInSequence after) (λ e. Contains drove.lines e.line) (λ e placed. subst (λ (ls : List Line). Contains ls e.line) lines placed.among) after.order placed;
      }

  ran_promise : (s : FileState) → IsBegunOver drove.takes.before s → LeavesPrefixes s run.before run.after run.seen.answered after → KeepsPromise by.origin s run status
  ran_promise s over prefixes =
      let takes = drove.takes in
      let n = contents_of s in
      let keeps = (laws.begun s drove.actors takes.before after over takes.actors takes.reached).1.keeps in
      let came : run.seen.answered ≡ after.answered = takes.came.same (has_value run.before.told b told) in
      record {
        order = after.order;
        numbers = takes.order_is;
        said = inr (of_script s over keeps.kept.lines_in_sequence.placed);
        legal = keeps.order_legal.legal;
        replied = subst (λ (given : List Answered). All (StandsSomewhere after.order) given) (sym came) keeps.kept.replies_stand.answers;
        held = prefixes.since;
        crashes = prefixes.even;
        late = λ later. prefixes.late;
        even = λ is. let even = prefixes.settled (going is) in (prefixes.shows.files.durable, settled_count after, even.0, even.1, even.2);
      }

  drove_promise : (s : FileState) → OpensTo b s → KeepsPromise by.origin s run status
  drove_promise s opens =
      let here = at_value run.before.told _ b told drove.takes.told in
      let same : here.0 ≡ s = laws.one b here.0 s here.1 opens in
      subst (λ (f : FileState). KeepsPromise by.origin f run status) same (ran_promise here.0 here.3 here.4)

-- over a file that was opened each image since the first sync opens to it
pub opened_late : (k : ℕ) (d e : DiskModel) (b : List ℕ) (s : FileState) → IsOpened k d e → d.told ≡ Some b → OpensTo b s → LeavesLate d e (λ c. OpensTo c s)
opened_late k d e b s opened told opens = record { since = d.clock + 1; soon = omega arith; each = at_value d.told _ b told opened.through.late s opens }

pub shut_late : (d e : DiskModel) (b : List ℕ) (s : FileState) → d.told ≡ Some b → OpensTo b s
    → ((b : List ℕ) → d.told ≡ Some b → (s : FileState) → OpensTo b s → d.clock + 2 ≤ e.clock → (c : List ℕ) → e.ImageSince (d.clock + 1) c → OpensTo c s) → d.clock + 2 ≤ e.clock → LeavesLate d e (λ c. OpensTo c s)
shut_late d e b s told opens late later = record { since = d.clock + 1; soon = omega arith; each = late b told s opens later }

pub keeps_promise : (laws : StartLaws) (by : Manner) (run : Run) (status : Status) (b : List ℕ) (s : FileState) → run.before.told ≡ Some b → OpensTo b s → IsSound s → StepsEnd by run status → KeepsPromise by.origin s run status
keeps_promise laws by run status b s told opens sound ends = elim ends [
  | inl shut ↦
      let out = shut.2 in
      nothing_done by.origin s run status sound (pages_of laws.walks laws.alone s sound) out.refused.none_answered out.refused.none_ordered (out.leaves.even s)
      (shut_late run.before run.after b s told opens (λ c is. at_value run.before.told _ c is out.leaves.late)) (λ is. not_done shut.0 (sym shut.1 ∙ is))
  | inr opened ↦ elim opened [
    | inl away ↦ nothing_done by.origin s run status sound (pages_of laws.walks laws.alone s sound) away.refused.none_answered away.refused.none_ordered (away.opened.leaves.even s)
        (λ later. opened_late away.k run.before run.after b s away.opened told opens) (λ is. no_done by.origin away.k run.seen.source_before run.seen.source_after (subst (λ (x : Status). CameNot by.origin away.k run.seen.source_before run.seen.source_after x) is away.why))
    | inr ran ↦ drove_promise laws b by run status ran.0 told ran.1
        (λ is. (subst (λ (x : Status). RanEnds by x run ran.0) is ran.2).4) s opens
  ]
]
