-- What `drive`, `run` and `work` answer where nothing failed.
use Rattle.std.proofs.Common.{◌≡◌, ◌⊎◌, inl, inr, ℕ, Bool, List, [], Option, Some, Result, Ok, Err, refl, sym, ap, subst, ◌∙◌}
use Rattle.hb_steps.specs.DamageLaws.{IsUndamaged}
use Rattle.hb_steps.specs.Machines.{Machine}
use Rattle.hb_gen.specs.Lines.{generated}
use Rattle.hb_lemmas.proofs.Options.{at_value, has_value}
use Rattle.hb_layout.specs.declared.meta.Meta.{Meta}
use Rattle.hb_ops.specs.Files.{FileState}
use Rattle.hb_outside.specs.Streams.{Rose}
use Rattle.hb_restart.specs.Refusals.{GoodIsNotRefused}
use Rattle.hb_restart.specs.declared.faults.OpenFault.{OpenFault}
use Rattle.hb_set.specs.declared.scripts.Line.{Line}
use Rattle.hb_store.specs.Opening.{OpensToOne}
use Rattle.hb_store.specs.declared.stops.StopWhy.TheVariants as stops
use Rattle.hb_store.specs.declared.stops.Why.{Why}
use Rattle.hb_text.specs.Grammar.{Reading, text_read}
use Rattle.hb_text.specs.declared.rules.BadLine.{BadLine}
use Rattle.hbpi.proofs.DriveNames.{opened_k, reads_left}
use Rattle.hbpi.specs.Codes.{status_of}
use Rattle.hbpi.specs.Driven.{IsShutOut, Manner}
use Rattle.hbpi.specs.StepEnds.{Drove, RanEnds, StepsEnd}
use Rattle.hbpi.specs.Outcome.{IsWholeText}
use Rattle.hbpi.specs.Promises.{GivesFor, IsCalm, IsDriven, TellsLeft}
use Rattle.hbpi.specs.Schedules.{CameFrom, CameNot, IsScheduled, NotScheduled, read_from}
use Rattle.hbpi.specs.SeenRuns.{Run, Seen}
use Rattle.hbpi.specs.declared.origins.Origin.{Origin}
use Rattle.hbpi.specs.declared.origins.Origin.TheVariants.{Text, Drawn}
use Rattle.hbpi.specs.declared.statuses.Status.{Status}
use Rattle.hbpi.specs.declared.statuses.Status.TheVariants.{Done, Usage, BadText, SourceFault, SinkFault, DiskFault, Damaged, NoMemory, BadLayout, Small, Full, Spent}

-- want of memory is answered to any text
no_memory : (seen : Seen) (status : Status) (read : Result Reading BadLine) → status ≡ NoMemory → GivesFor seen status read
no_memory seen status (Ok reading) is = λ sink. inr is
no_memory seen status (Err bad) is = inr is

-- a script that is read of the whole text is what the text says
scheduled_reads : (step_lines : Bool) (k n : ℕ) (left : List ℕ) (seen : Seen) (lines : List Line) (steps : List ℕ) → n ≡ k → seen.source_before.left ≡ Some left → IsScheduled step_lines n seen.source_before.left seen.source_after.left lines steps → text_read step_lines k left ≡ Ok (record { lines = lines; steps = steps })
scheduled_reads step_lines k n left seen lines steps same text scheduled =
    let whole = subst (λ (o : Option (List ℕ)). IsWholeText o seen.source_after.left scheduled.text) text scheduled.whole in
    ap (λ (m : ℕ). text_read step_lines m left) (sym same) ∙ ap (text_read step_lines n) (sym whole.0) ∙ scheduled.says

no_damage : (after : Machine) (page : ℕ) (why : Why) → IsUndamaged after → after.stop ≡ Some (stops.Damaged page why) → ⊥
no_damage after page why fine is = elim fine [
  | inl none ↦ cc (none, is)
  | inr fault ↦ cc (fault, is)
]

-- what is answered to a text of which no script was read, where the source didn't fail
text_gives : (step_lines : Bool) (k n : ℕ) (left : List ℕ) (seen : Seen) (status : Status) → n ≡ k → seen.source_before.left ≡ Some left → ¬ (Rose seen.source_before.faults seen.source_after.faults) → NotScheduled step_lines n seen.source_before seen.source_after status → GivesFor seen status (text_read step_lines k left)
text_gives step_lines k n left seen (BadText bad) same told source why =
    let says = reads_left step_lines k n left why.0 seen.source_before.left seen.source_after.left same told why.1 ∙ why.2 in
    subst (λ (r : Result Reading BadLine). GivesFor seen (BadText bad) r) (sym says) (inl refl)
text_gives step_lines k n left seen SourceFault same told source why = absurd (source why.0)
text_gives step_lines k n left seen NoMemory same told source why = no_memory seen NoMemory (text_read step_lines k left) refl
text_gives step_lines k n left seen Done same told source why = absurd why
text_gives step_lines k n left seen SinkFault same told source why = absurd why
text_gives step_lines k n left seen DiskFault same told source why = absurd why
text_gives step_lines k n left seen Usage same told source why = absurd why
text_gives step_lines k n left seen (Damaged damage) same told source why = absurd why
text_gives step_lines k n left seen (Small needed found) same told source why = absurd why
text_gives step_lines k n left seen (BadLayout field value) same told source why = absurd why
text_gives step_lines k n left seen Full same told source why = absurd why
text_gives step_lines k n left seen Spent same told source why = absurd why

came_gives : (origin : Origin) (k n : ℕ) (left : List ℕ) (seen : Seen) (status : Status) → n ≡ k → TellsLeft origin seen.source_before.left left → ¬ (Rose seen.source_before.faults seen.source_after.faults) → CameNot origin n seen.source_before seen.source_after status → GivesFor seen status (read_from origin k left)
came_gives (Text step_lines) k n left seen status same told source why = text_gives step_lines k n left seen status same told source why
came_gives (Drawn state count) k n left seen status same told source why = λ sink. inr why.0

-- a script that came is what comes from there
abbrev reading_of : List Line → List ℕ → Result Reading BadLine
reading_of lines steps = Ok (record { lines = lines; steps = steps })

came_reads : (origin : Origin) (k n : ℕ) (left : List ℕ) (seen : Seen) (lines : List Line) (steps : List ℕ) → n ≡ k → TellsLeft origin seen.source_before.left left → CameFrom origin n seen.source_before seen.source_after lines steps → read_from origin k left ≡ reading_of lines steps
came_reads (Text step_lines) k n left seen lines steps same told came = scheduled_reads step_lines k n left seen lines steps same told came
came_reads (Drawn state count) k n left seen lines steps same told came =
    ap (λ (m : ℕ). reading_of (generated state count m) []) (sym same) ∙ ap (λ (ls : List Line). reading_of ls []) (sym came.0) ∙ ap (reading_of lines) (sym came.1)

module _ (by : Manner) (s : FileState) (left : List ℕ) (run : Run) (calm : IsCalm by.origin s left run) where
  shut_gives : (status : Status) (fault : OpenFault) → GoodIsNotRefused → status ≡ status_of fault → IsShutOut run fault → GivesFor run.seen status (read_from by.origin s.meta.k left)
  shut_gives status fault good is out =
      elim (good fault calm.bytes s calm.opens calm.sound (at_value run.before.told _ calm.bytes calm.told out.why.why)) [
        | inl failed ↦ absurd (calm.disk (out.leaves.faults.cause failed))
        | inr none ↦ no_memory run.seen status (read_from by.origin s.meta.k left) (is ∙ ap status_of none)
      ]

  drove_k : (after : Machine) (drove : Drove by run after) → OpensToOne → drove.k ≡ s.meta.k
  drove_k after drove one =
      let here = at_value run.before.told _ calm.bytes calm.told drove.takes.told in
      let same : here.0 ≡ s = one calm.bytes here.0 s here.1 calm.opens in
      sym (ap (λ (f : FileState). f.meta.k) (sym same) ∙ ap (λ (m : Meta). m.k) here.3.meta ∙ drove.takes.attributes)

  -- the steps were taken: the run is done, unless the sink failed
  ran_done : (status : Status) (after : Machine) → Drove by run after → IsUndamaged after → RanEnds by status run after → ¬ (Rose run.seen.sink_before.faults run.seen.sink_after.faults) → (status ≡ Done) ⊎ (status ≡ NoMemory)
  ran_done Done after drove fine ends sink = inl refl
  ran_done SinkFault after drove fine ends sink = absurd (sink ends.3)
  ran_done DiskFault after drove fine ends sink = elim ends.1 [
    | inl write ↦ absurd (calm.disk (inr (drove.takes.faults.write write (λ is. cc (is)))))
    | inr read ↦ absurd (calm.disk (inl (drove.takes.faults.read read.1)))
  ]
  ran_done (Damaged damage) after drove fine ends sink = absurd (no_damage after ends.1 ends.2 fine ends.3)
  ran_done Usage after drove fine ends sink = absurd ends
  ran_done (BadText bad) after drove fine ends sink = absurd ends
  ran_done SourceFault after drove fine ends sink = absurd ends
  ran_done NoMemory after drove fine ends sink = absurd ends
  ran_done (BadLayout field value) after drove fine ends sink = absurd ends
  ran_done (Small needed found) after drove fine ends sink = absurd ends
  ran_done Full after drove fine ends sink = absurd ends
  ran_done Spent after drove fine ends sink = absurd ends

  ran_gives : (status : Status) (after : Machine) → OpensToOne → Drove by run after → RanEnds by status run after → GivesFor run.seen status (read_from by.origin s.meta.k left)
  ran_gives status after one drove ends =
      subst (λ (r : Result Reading BadLine). GivesFor run.seen status r) (sym (came_reads by.origin s.meta.k drove.k left run.seen drove.lines drove.steps (drove_k after drove one) calm.text drove.came))
      (λ sink. ran_done status after drove (drove.undamaged (has_value run.before.told calm.bytes calm.told)) ends sink)

-- Where nothing fails, a good text is worked off over a good file, and a bad text is refused.
pub is_driven : (by : Manner) (run : Run) (status : Status) → OpensToOne → GoodIsNotRefused → StepsEnd by run status → IsDriven by.origin run status
is_driven by run status one good ends s left calm = elim ends [
  | inl shut ↦ shut_gives by s left run calm status shut.0 good shut.1 shut.2
  | inr opened ↦ elim opened [
    | inl away ↦ came_gives by.origin s.meta.k away.k left run.seen status (opened_k away.k run.before run.after calm.bytes s away.opened calm.told calm.opens) calm.text calm.source away.why
    | inr ran ↦ ran_gives by s left run calm status ran.0 one ran.1 ran.2
  ]
]
