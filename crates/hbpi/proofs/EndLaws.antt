-- What follows from how a run ends.
use Rattle.std.proofs.Common.{◌≡◌, ◌↔◌, ℕ, ◌⊎◌, inl, inr, Bool, false, List, length, take, Option, Some, None, Result, Ok, Err, refl, sym, ap, subst, ◌∙◌, arith, drop, ◌<◌, ◌≤◌, length-take, take-append-drop}
use Rattle.std.proofs.lemmas.List.{take_all}
use Rattle.std.proofs.lemmas.Bool.{cases_lt}
use Rattle.hb_text.proofs.Facts.TextFront.{front_is_all}
use Rattle.hb_text.specs.declared.rules.BadLine.{BadLine}
use Rattle.hb_text.specs.Grammar.{Reading, text_read}
use Rattle.hb_text.proofs.Facts.TextLength.{text_is_short}
use Rattle.hbpi.specs.declared.forms.Form.{Form}
use Rattle.hbpi.specs.declared.forms.Form.TheVariants.{Check, Create, Drive, Dry, Gen, Map, Tidy, Work}
use Rattle.hbpi.specs.declared.forms.Form.TheVariants as forms
use Rattle.hbpi.specs.declared.statuses.Status.{Status}
use Rattle.hbpi.specs.declared.statuses.Status.TheVariants.{Done, Usage, BadText, SourceFault, SinkFault, DiskFault, Damaged, NoMemory, BadLayout, Small, Full, Spent}
use Rattle.hb_outside.specs.Streams.{Rose}
use Rattle.hbpi.specs.Outcome.{greatest_text, IsTextOf, IsWholeText}
use Rattle.hb_gen.specs.Spelling.{generated_text}
use Rattle.hb_restart.specs.Layouts.{first_fault, size_of}
use Rattle.hb_restart.specs.declared.faults.BadField.{BadField}
use Rattle.hb_restart.specs.declared.faults.OpenFault.{OpenFault}
use Rattle.hb_restart.specs.declared.faults.OpenFault.TheVariants as faults
use Rattle.hb_core.specs.declared.counts.TidyCounts.{TidyCounts}
use Rattle.hb_tidy.specs.declared.stops.TidyStop.{TidyStop}
use Rattle.hb_tidy.specs.declared.stops.TidyStop.TheVariants as tidies
use Rattle.hbpi.specs.Codes.{status_of, tidy_status}
use Rattle.hbpi.specs.Tidied.{tidied_text}
use Rattle.hbpi.specs.TidyRuns.{SaysTidied, TidyEnds}
use Rattle.hbpi.specs.declared.statuses.Damage.{Damage}
use Rattle.hbpi.specs.declared.statuses.Damage.TheVariants as damages
use Rattle.hbpi.specs.Runs.{RunEnds}
use Rattle.hbpi.specs.Ends.{DryEnds, GenEnds, IsAnswered, IsComplete, RefusesBadText, NamesBadLine, UsageEnds}
use Rattle.hbpi.specs.SeenRuns.{Run, Seen}
use Rattle.hbpi.specs.Checked.{CheckEnds, sound_text}
use Rattle.hbpi.specs.Mapped.{MapEnds, MapsWith}
use Rattle.hbpi.specs.Driven.{Manner, by_counting, by_schedule, by_threads}
use Rattle.hbpi.specs.StepEnds.{RanEnds, StepsEnd}
use Rattle.hbpi.specs.Saying.{IsSaid}
use Rattle.hbpi.specs.Schedules.{CameNot, NotScheduled}
use Rattle.hbpi.specs.declared.origins.Origin.{Origin}
use Rattle.hbpi.specs.declared.origins.Origin.TheVariants.{Text, Drawn}
use Rattle.hb_outside.specs.Calls.{SinkModel, SourceModel}
use Rattle.hbpi.specs.MadeEnds.{CreateEnds, IsMadeWhole}

-- a good text is read whole
pub good_is_whole : (allowed : Bool) (k : ℕ) (left : List ℕ) (reading : Reading) → text_read allowed k left ≡ Ok reading → take greatest_text left ≡ left
unfolding greatest_text
good_is_whole allowed k left reading good = take_all 257000001 left (omega (arith, text_is_short allowed k left reading good))

-- the text that is read is read as all that was left
pub front_reads : (allowed : Bool) (k : ℕ) (left : List ℕ) → text_read allowed k (take greatest_text left) ≡ text_read allowed k left
unfolding greatest_text
front_reads allowed k left = elim (cases_lt 257000000 (length left)) [
  | inl long ↦
      let front : 257000000 < length (take 257000001 left) = omega (arith, length-take 257000001 left) in
      sym (front_is_all allowed k (take 257000001 left) (drop 257000001 left) front) ∙ ap (text_read allowed k) (take-append-drop 257000001 left)
  | inr short ↦ ap (text_read allowed k) (take_all 257000001 left (omega arith))
]

not_both : (k : ℕ) (text : List ℕ) (reading : Reading) (bad : BadLine) → text_read false k text ≡ Ok reading → text_read false k text ≡ Err bad → ⊥
not_both k text reading bad good e = cc

same_attributes : (m n : ℕ) → ◌≡◌ {A = Option Form} (Some (Dry m)) (Some (Dry n)) → m ≡ n
same_attributes m n e = cc

dry_complete : (k : ℕ) (seen : Seen) (status : Status) → DryEnds k seen status → (left : List ℕ) (reading : Reading) → seen.source_before.left ≡ Some left → text_read false k left ≡ Ok reading → ¬ (Rose seen.source_before.faults seen.source_after.faults) → ¬ (Rose seen.sink_before.faults seen.sink_after.faults) → (status ≡ Done) ⊎ (status ≡ NoMemory)
dry_complete k seen Done ends left reading told good source sink = inl refl
dry_complete k seen Usage ends left reading told good source sink = absurd ends
dry_complete k seen (BadText bad) ends left reading told good source sink =
    let read = subst (λ (o : Option (List ℕ)). IsTextOf o seen.source_after.left ends.0) told ends.1 in
    absurd (not_both k left reading bad good (ap (text_read false k) (sym (read.0 ∙ good_is_whole false k left reading good)) ∙ ends.2))
dry_complete k seen SourceFault ends left reading told good source sink = absurd (source ends.0)
dry_complete k seen SinkFault ends left reading told good source sink = absurd (sink ends.3)
dry_complete k seen NoMemory ends left reading told good source sink = inr refl
dry_complete k seen DiskFault ends left reading told good source sink = absurd ends
dry_complete k seen (Damaged damage) ends left reading told good source sink = absurd ends
dry_complete k seen (BadLayout field value) ends left reading told good source sink = absurd ends
dry_complete k seen (Small needed found) ends left reading told good source sink = absurd ends
dry_complete k seen Full ends left reading told good source sink = absurd ends
dry_complete k seen Spent ends left reading told good source sink = absurd ends

answered_not_bad : (k : ℕ) (seen : Seen) (lines : _) (left : List ℕ) (bad : BadLine) → IsAnswered k seen lines → seen.source_before.left ≡ Some left → text_read false k (take greatest_text left) ≡ Err bad → ⊥
answered_not_bad k seen lines left bad answered told wrong =
    let whole = subst (λ (o : Option (List ℕ)). IsWholeText o seen.source_after.left answered.text) told answered.whole in
    let good = ap (text_read false k) (sym whole.0) ∙ answered.says in
    not_both k left _ bad good (ap (text_read false k) (sym (good_is_whole false k left _ good)) ∙ wrong)

same_bad : (a b : BadLine) (read : Result Reading BadLine) → read ≡ Err a → read ≡ Err b → a ≡ b
same_bad a b read e f = cc

dry_refuses : (k : ℕ) (seen : Seen) (status : Status) → DryEnds k seen status → (left : List ℕ) (bad : BadLine) → seen.source_before.left ≡ Some left → text_read false k (take greatest_text left) ≡ Err bad → ¬ (Rose seen.source_before.faults seen.source_after.faults) → (status ≡ BadText bad) ⊎ (status ≡ NoMemory)
dry_refuses k seen Done ends left bad told wrong source = absurd (answered_not_bad k seen ends.0 left bad ends.1 told wrong)
dry_refuses k seen Usage ends left bad told wrong source = absurd ends
dry_refuses k seen (BadText found) ends left bad told wrong source =
    let read = subst (λ (o : Option (List ℕ)). IsTextOf o seen.source_after.left ends.0) told ends.1 in
    inl (ap BadText (same_bad found bad (text_read false k (take greatest_text left)) (ap (text_read false k) (sym read.0) ∙ ends.2) wrong))
dry_refuses k seen SourceFault ends left bad told wrong source = absurd (source ends.0)
dry_refuses k seen SinkFault ends left bad told wrong source = absurd (answered_not_bad k seen ends.0 left bad ends.1 told wrong)
dry_refuses k seen NoMemory ends left bad told wrong source = inr refl
dry_refuses k seen DiskFault ends left bad told wrong source = absurd ends
dry_refuses k seen (Damaged damage) ends left bad told wrong source = absurd ends
dry_refuses k seen (BadLayout field value) ends left bad told wrong source = absurd ends
dry_refuses k seen (Small needed found) ends left bad told wrong source = absurd ends
dry_refuses k seen Full ends left bad told wrong source = absurd ends
dry_refuses k seen Spent ends left bad told wrong source = absurd ends

pub ends_complete : (form : Option Form) (run : Run) (status : Status) → RunEnds form run status → IsComplete form run.seen status
ends_complete None _ _ _ _ _ _ is _ _ _ _ = cc (is)
ends_complete (Some (Dry n)) run status ends k left reading is told good source sink =
    dry_complete n run.seen status ends left reading told (rw (same_attributes n k is) good) source sink
ends_complete (Some form) _ _ _ _ _ _ is _ _ _ _ = cc (is)

pub ends_refuses : (form : Option Form) (run : Run) (status : Status) → RunEnds form run status → RefusesBadText form run.seen status
ends_refuses None _ _ _ _ _ _ is _ _ _ = cc (is)
ends_refuses (Some (Dry n)) run status ends k left bad is told wrong source =
    dry_refuses n run.seen status ends left bad told (front_reads false n left ∙ rw (same_attributes n k is) wrong) source
ends_refuses (Some form) _ _ _ _ _ _ is _ _ _ = cc (is)

same_named : (found bad : BadLine) → BadText found ≡ BadText bad → found ≡ bad
same_named found bad is = cc (is)

dry_names : (k : ℕ) (seen : Seen) (status : Status) → DryEnds k seen status → (left : List ℕ) (bad : BadLine) → seen.source_before.left ≡ Some left → status ≡ BadText bad → text_read false k left ≡ Err bad
dry_names k seen (BadText found) ends left bad told is =
    let read = subst (λ (o : Option (List ℕ)). IsTextOf o seen.source_after.left ends.0) told ends.1 in
    let same : found ≡ bad = same_named found bad is in
    sym (front_reads false k left) ∙ ap (text_read false k) (sym read.0) ∙ ends.2 ∙ ap Err same
dry_names _ _ Done _ _ _ _ is = cc (is)
dry_names _ _ Usage _ _ _ _ is = cc (is)
dry_names _ _ SourceFault _ _ _ _ is = cc (is)
dry_names _ _ SinkFault _ _ _ _ is = cc (is)
dry_names _ _ NoMemory _ _ _ _ is = cc (is)
dry_names _ _ DiskFault _ _ _ _ is = cc (is)
dry_names _ _ (Damaged damage) _ _ _ _ is = cc (is)
dry_names _ _ (BadLayout field value) _ _ _ _ is = cc (is)
dry_names _ _ (Small needed found) _ _ _ _ is = cc (is)
dry_names _ _ Full _ _ _ _ is = cc (is)
dry_names _ _ Spent _ _ _ _ is = cc (is)

pub ends_names : (form : Option Form) (run : Run) (status : Status) → RunEnds form run status → NamesBadLine form run.seen status
ends_names None _ _ _ _ _ _ is _ _ = cc (is)
ends_names (Some (Dry n)) run status ends k left bad is told named = rw (← same_attributes n k is) (dry_names n run.seen status ends left bad told named)
ends_names (Some form) _ _ _ _ _ _ is _ _ = cc (is)

same_layout : (a b c d e f g h i j : ℕ) (P : ℕ → ℕ → ℕ → ℕ → ℕ → Type 0) → ◌≡◌ {A = Option Form} (Some (Create a b c d e)) (Some (Create f g h i j)) → P f g h i j → P a b c d e
same_layout a b c d e f g h i j P is p =
    let k : f ≡ a = cc in
    let pages : g ≡ b = cc in
    let log : h ≡ c = cc in
    let dcap : i ≡ d = cc in
    let icap : j ≡ e = cc in
    subst (λ (x : ℕ). P x b c d e) k (subst (λ (x : ℕ). P f x c d e) pages (subst (λ (x : ℕ). P f g x d e) log (subst (λ (x : ℕ). P f g h x e) dcap (subst (λ (x : ℕ). P f g h i x) icap p))))

create_complete : (fault : Option BadField) (needed : ℕ) (run : Run) (status : Status) → CreateEnds fault needed run status → fault ≡ None → needed ≤ run.before.size → ¬ (Rose run.before.write_faults run.after.write_faults) → ¬ (Rose run.seen.sink_before.faults run.seen.sink_after.faults) → (status ≡ Done) ⊎ (status ≡ NoMemory)
create_complete fault needed run Done ends good large writes sink = inl refl
create_complete fault needed run SinkFault ends good large writes sink = absurd (sink ends.2)
create_complete fault needed run (BadLayout field value) ends good large writes sink = cc (ends.0, good)
create_complete fault needed run (Small wanted found) ends good large writes sink = absurd (omega (arith, ends.2, large))
create_complete fault needed run DiskFault ends good large writes sink = absurd (writes ends.1)
create_complete fault needed run NoMemory ends good large writes sink = inr refl
create_complete fault needed run Usage ends good large writes sink = absurd ends
create_complete fault needed run (BadText bad) ends good large writes sink = absurd ends
create_complete fault needed run SourceFault ends good large writes sink = absurd ends
create_complete fault needed run (Damaged damage) ends good large writes sink = absurd ends
create_complete fault needed run Full ends good large writes sink = absurd ends
create_complete fault needed run Spent ends good large writes sink = absurd ends

pub ends_made : (form : Option Form) (run : Run) (status : Status) → RunEnds form run status → IsMadeWhole form run status
ends_made None _ _ _ _ _ _ _ _ is _ _ _ _ = cc (is)
ends_made (Some (Create a b c x y)) run status ends k pages log dcap icap is good large writes sink =
    create_complete (first_fault k pages log dcap icap) (size_of pages log) run status
    (same_layout k pages log dcap icap a b c x y (λ k pages log dcap icap. CreateEnds (first_fault k pages log dcap icap) (size_of pages log) run status) (sym is) ends)
    good large writes sink
ends_made (Some form) _ _ _ _ _ _ _ _ is _ _ _ _ = cc (is)

-- What holds of each status of a file that wasn't opened.
pub of_closed : (fault : OpenFault) (P : Status → Type 0) → ((needed found : ℕ) → P (Small needed found)) → ((damage : Damage) → P (Damaged damage)) → P DiskFault → P NoMemory → P (status_of fault)
of_closed (faults.Small needed found) P small damaged disk memory = small needed found
of_closed faults.NoSuper P small damaged disk memory = damaged damages.NoSuper
of_closed (faults.BadGroup frame) P small damaged disk memory = damaged (damages.BadGroup frame)
of_closed (faults.Unsound page rule) P small damaged disk memory = damaged (damages.Rule page rule)
of_closed faults.DiskFault P small damaged disk memory = disk
of_closed faults.NoMemory P small damaged disk memory = memory

-- where no script was read, the source failed by its status alone
pub source_kept : (step_lines : Bool) (status : Status) (k : ℕ) (before after : SourceModel) → NotScheduled step_lines k before after status → ¬ (status ≡ SourceFault) → after.faults ≡ before.faults
source_kept step_lines (BadText bad) k before after why other = why.3
source_kept step_lines SourceFault k before after why other = absurd (other refl)
source_kept step_lines Full k before after why other = absurd why
source_kept step_lines Spent k before after why other = absurd why
source_kept step_lines NoMemory k before after why other = why
source_kept step_lines Done k before after why other = absurd why
source_kept step_lines SinkFault k before after why other = absurd why
source_kept step_lines DiskFault k before after why other = absurd why
source_kept step_lines Usage k before after why other = absurd why
source_kept step_lines (Damaged damage) k before after why other = absurd why
source_kept step_lines (Small needed found) k before after why other = absurd why
source_kept step_lines (BadLayout field value) k before after why other = absurd why

came_kept : (origin : Origin) (status : Status) (k : ℕ) (before after : SourceModel) → CameNot origin k before after status → ¬ (status ≡ SourceFault) → after.faults ≡ before.faults
came_kept (Text step_lines) status k before after why other = source_kept step_lines status k before after why other
came_kept (Drawn state count) status k before after why other = ap (λ (s : SourceModel). s.faults) why.1

-- no script came neither for the words nor where the run is done
pub no_usage : (origin : Origin) (k : ℕ) (before after : SourceModel) → CameNot origin k before after Usage → ⊥
no_usage (Text step_lines) k before after why = why
no_usage (Drawn state count) k before after why = let is = why.0 in cc (is)

pub no_done : (origin : Origin) (k : ℕ) (before after : SourceModel) → CameNot origin k before after Done → ⊥
no_done (Text step_lines) k before after why = why
no_done (Drawn state count) k before after why = let is = why.0 in cc (is)

dry_source : (k : ℕ) (seen : Seen) (status : Status) → DryEnds k seen status → ¬ (status ≡ SourceFault) → seen.source_after.faults ≡ seen.source_before.faults
dry_source k seen Done ends other = ends.1.faults
dry_source k seen SinkFault ends other = ends.1.faults
dry_source k seen (BadText bad) ends other = ends.4
dry_source k seen SourceFault ends other = absurd (other refl)
dry_source k seen NoMemory ends other = ends.1
dry_source k seen Usage ends other = absurd ends
dry_source k seen DiskFault ends other = absurd ends
dry_source k seen (Damaged damage) ends other = absurd ends
dry_source k seen (BadLayout field value) ends other = absurd ends
dry_source k seen (Small needed found) ends other = absurd ends
dry_source k seen Full ends other = absurd ends
dry_source k seen Spent ends other = absurd ends

create_source : (fault : Option BadField) (needed : ℕ) (run : Run) (status : Status) → CreateEnds fault needed run status → run.seen.source_after.faults ≡ run.seen.source_before.faults
create_source fault needed run Done ends = ends.0.alone.unread.faults
create_source fault needed run SinkFault ends = ends.0.alone.unread.faults
create_source fault needed run (BadLayout field value) ends = ends.2.faults
create_source fault needed run (Small wanted found) ends = ends.3.unread.faults
create_source fault needed run DiskFault ends = ends.2.unread.faults
create_source fault needed run NoMemory ends = ends.1.unread.faults
create_source fault needed run Usage ends = absurd ends
create_source fault needed run (BadText bad) ends = absurd ends
create_source fault needed run SourceFault ends = absurd ends
create_source fault needed run (Damaged damage) ends = absurd ends
create_source fault needed run Full ends = absurd ends
create_source fault needed run Spent ends = absurd ends

steps_source : (by : Manner) (run : Run) (status : Status) → StepsEnd by run status → ¬ (status ≡ SourceFault) → run.seen.source_after.faults ≡ run.seen.source_before.faults
steps_source by run status ends other = elim ends [
  | inl shut ↦ shut.2.unread.faults
  | inr opened ↦ elim opened [
    | inl away ↦ came_kept by.origin status away.k run.seen.source_before run.seen.source_after away.why other
    | inr ran ↦ ran.1.source
  ]
]

pub check_source : (run : Run) (status : Status) → CheckEnds run status → run.seen.source_after.faults ≡ run.seen.source_before.faults
check_source run status ends = elim ends [ inl shut ↦ shut.2.unread.faults | inr checked ↦ checked.2.alone.unread.faults ]

pub tidy_source : (run : Run) (status : Status) → TidyEnds run status → run.seen.source_after.faults ≡ run.seen.source_before.faults
tidy_source run status ends = elim ends [
  | inl shut ↦ shut.2.unread.faults
  | inr opened ↦ elim opened [
    | inl away ↦ ap (λ (m : SourceModel). m.faults) away.why.1
    | inr tidied ↦ tidied.2.alone.unread.faults
  ]
]

pub map_source : (run : Run) (status : Status) → MapEnds run status → run.seen.source_after.faults ≡ run.seen.source_before.faults
map_source run status ends = elim ends [ inl shut ↦ shut.2.unread.faults | inr mapped ↦ mapped.2.1.alone.unread.faults ]

pub gen_source : (text : List ℕ) (seen : Seen) (status : Status) → GenEnds text seen status → seen.source_after.faults ≡ seen.source_before.faults
gen_source text seen status ends = elim ends [ inl refused ↦ refused.2.faults | inr said ↦ said.0.unread.faults ]

usage_source : (seen : Seen) (status : Status) → UsageEnds seen status → seen.source_after.faults ≡ seen.source_before.faults
usage_source seen Usage ends = ends.1.faults
usage_source seen other ends = absurd ends

-- The count of the source's faults is as it was, unless the status says that the source failed.
pub ends_source : (form : Option Form) (run : Run) (status : Status) → RunEnds form run status → ¬ (status ≡ SourceFault) → run.seen.source_after.faults ≡ run.seen.source_before.faults
ends_source None run status ends other = usage_source run.seen status ends
ends_source (Some (Dry k)) run status ends other = dry_source k run.seen status ends other
ends_source (Some (Create k pages log dcap icap)) run status ends other = create_source (first_fault k pages log dcap icap) (size_of pages log) run status ends
ends_source (Some forms.Run) run status ends other = steps_source by_threads run status ends other
ends_source (Some Drive) run status ends other = steps_source by_schedule run status ends other
ends_source (Some (Work x n)) run status ends other = steps_source (by_counting x n) run status ends other
ends_source (Some Check) run status ends other = check_source run status ends
ends_source (Some Map) run status ends other = map_source run status ends
ends_source (Some Tidy) run status ends other = tidy_source run status ends
ends_source (Some (Gen x n k)) run status ends other = gen_source (generated_text x n k) run.seen status ends

never_usage : (fault : OpenFault) → status_of fault ≡ Usage → ⊥
never_usage fault = of_closed fault (λ x. x ≡ Usage → ⊥) (λ needed found no. cc (no)) (λ damage no. cc (no)) (λ no. cc (no)) (λ no. cc (no))

-- The words alone decide whether they are no form.
steps_never_usage : (by : Manner) (run : Run) (status : Status) → StepsEnd by run status → status ≡ Usage → ⊥
steps_never_usage by run status ends is = elim ends [
  | inl shut ↦ never_usage shut.0 (sym shut.1 ∙ is)
  | inr opened ↦ elim opened [
    | inl away ↦ no_usage by.origin away.k run.seen.source_before run.seen.source_after (subst (λ (x : Status). CameNot by.origin away.k run.seen.source_before run.seen.source_after x) is away.why)
    | inr ran ↦ subst (λ (x : Status). RanEnds by x run ran.0) is ran.2
  ]
]

check_never_usage : (run : Run) (status : Status) → CheckEnds run status → status ≡ Usage → ⊥
check_never_usage run status ends is = elim ends [
  | inl shut ↦ never_usage shut.0 (sym shut.1 ∙ is)
  | inr checked ↦ subst (λ (x : Status). IsSaid (sound_text checked.0.meta checked.1) run.seen.sink_before run.seen.sink_after x) is checked.3
]

no_tidy_usage : (stop : TidyStop) → tidy_status stop ≡ Usage → ⊥
no_tidy_usage tidies.Full is = cc (is)
no_tidy_usage tidies.ReadFault is = cc (is)
no_tidy_usage tidies.WriteFault is = cc (is)
no_tidy_usage (tidies.Damaged page why) is = cc (is)
no_tidy_usage tidies.Spent is = cc (is)
no_tidy_usage tidies.NoMemory is = cc (is)

said_no_usage : (result : Result TidyCounts TidyStop) (before after : SinkModel) (status : Status) → SaysTidied result before after status → status ≡ Usage → ⊥
said_no_usage (Ok counts) before after status said is = subst (λ (x : Status). IsSaid (tidied_text counts) before after x) is said
said_no_usage (Err stop) before after status said is = no_tidy_usage stop (sym said.0 ∙ is)

tidy_never_usage : (run : Run) (status : Status) → TidyEnds run status → status ≡ Usage → ⊥
tidy_never_usage run status ends is = elim ends [
  | inl shut ↦ never_usage shut.0 (sym shut.1 ∙ is)
  | inr opened ↦ elim opened [
    | inl away ↦ cc (is, away.why.0)
    | inr tidied ↦ said_no_usage tidied.1 run.seen.sink_before run.seen.sink_after status tidied.3 is
  ]
]

map_never_usage : (run : Run) (status : Status) → MapEnds run status → status ≡ Usage → ⊥
map_never_usage run status ends is = elim ends [
  | inl shut ↦ never_usage shut.0 (sym shut.1 ∙ is)
  | inr mapped ↦ subst (λ (x : Status). MapsWith x run mapped.0.meta mapped.1) is mapped.4
]

gen_never_usage : (text : List ℕ) (seen : Seen) (status : Status) → GenEnds text seen status → status ≡ Usage → ⊥
gen_never_usage text seen status ends is = elim ends [
  | inl refused ↦ cc (is, refused.0)
  | inr said ↦ subst (λ (x : Status). IsSaid text seen.sink_before seen.sink_after x) is said.1
]

is_usage : (seen : Seen) (status : Status) → UsageEnds seen status → status ≡ Usage
is_usage seen Usage ends = refl
is_usage seen other ends = absurd ends

pub ends_usage : (form : Option Form) (run : Run) (status : Status) → RunEnds form run status → (status ≡ Usage) ↔ (form ≡ None)
ends_usage None run status ends = (λ is. refl, λ none. is_usage run.seen status ends)
ends_usage (Some (Dry k)) run status ends = (λ is. absurd (subst (λ (x : Status). DryEnds k run.seen x) is ends), λ none. cc (none))
ends_usage (Some (Create k pages log dcap icap)) run status ends =
    (λ is. absurd (subst (λ (x : Status). CreateEnds (first_fault k pages log dcap icap) (size_of pages log) run x) is ends), λ none. cc (none))
ends_usage (Some forms.Run) run status ends = (λ is. absurd (steps_never_usage by_threads run status ends is), λ none. cc (none))
ends_usage (Some Drive) run status ends = (λ is. absurd (steps_never_usage by_schedule run status ends is), λ none. cc (none))
ends_usage (Some (Work x n)) run status ends = (λ is. absurd (steps_never_usage (by_counting x n) run status ends is), λ none. cc (none))
ends_usage (Some Check) run status ends = (λ is. absurd (check_never_usage run status ends is), λ none. cc (none))
ends_usage (Some Map) run status ends = (λ is. absurd (map_never_usage run status ends is), λ none. cc (none))
ends_usage (Some Tidy) run status ends = (λ is. absurd (tidy_never_usage run status ends is), λ none. cc (none))
ends_usage (Some (Gen x n k)) run status ends = (λ is. absurd (gen_never_usage (generated_text x n k) run.seen status ends is), λ none. cc (none))
