-- A file that doesn't open is refused, in one way.
use Rattle.std.proofs.Common.{◌≡◌, ◌⊎◌, inl, inr, ℕ, List, Some, refl, ap, subst, ◌∙◌}
use Rattle.hb_lemmas.proofs.Options.{at_value}
use Rattle.hb_ops.specs.Files.{FileState}
use Rattle.hb_ops.specs.Sound.{IsSound}
use Rattle.hb_restart.specs.Refusals.{GoodIsNotRefused, IsNoRefusal, IsRefusedOnce, IsUnwritten, RefusesBytes}
use Rattle.hb_restart.specs.declared.faults.OpenFault.{OpenFault}
use Rattle.hb_restart.specs.declared.faults.OpenFault.TheVariants as faults
use Rattle.hb_store.specs.Opening.{OpensTo}
use Rattle.hbpi.specs.Codes.{status_of}
use Rattle.hbpi.specs.Checked.{CheckEnds}
use Rattle.hbpi.specs.Driven.{IsShutOut, Manner}
use Rattle.hbpi.specs.Mapped.{MapEnds}
use Rattle.hbpi.specs.TidyRuns.{TidyEnds}
use Rattle.hbpi.specs.StepEnds.{StepsEnd}
use Rattle.hbpi.specs.Promises.{RefusesFile}
use Rattle.hbpi.specs.SeenRuns.{Run}
use Rattle.hbpi.specs.declared.statuses.Status.{Status}
use Rattle.hbpi.specs.declared.statuses.Status.TheVariants.{NoMemory}

-- a refusal of the bytes is neither a fault of the disk nor want of memory
never : (fault : OpenFault) → IsUnwritten fault → IsNoRefusal fault → ⊥
never fault unwritten none = elim none [
  | inl failed ↦ subst IsUnwritten failed unwritten
  | inr refused ↦ subst IsUnwritten refused unwritten
]

-- a refusal that isn't a fault of the disk is one of the bytes, or want of memory
of_bytes : (fault : OpenFault) (bytes : List ℕ) (status : Status) → status ≡ status_of fault → RefusesBytes fault bytes → (fault ≡ faults.DiskFault → ⊥)
    → (status ≡ NoMemory) ⊎ ((fault : OpenFault) × (status ≡ status_of fault) × RefusesBytes fault bytes × IsUnwritten fault)
of_bytes (faults.Small needed found) bytes status is why held = inr (faults.Small needed found, is, why, tt)
of_bytes faults.NoSuper bytes status is why held = inr (faults.NoSuper, is, why, tt)
of_bytes (faults.BadGroup frame) bytes status is why held = inr (faults.BadGroup frame, is, why, tt)
of_bytes (faults.Unsound page rule) bytes status is why held = inr (faults.Unsound page rule, is, why, tt)
of_bytes faults.DiskFault bytes status is why held = absurd (held refl)
of_bytes faults.NoMemory bytes status is why held = inl is

-- another one that is true of them is the same
is_same : (fault other : OpenFault) (bytes : List ℕ) (status : Status) → IsRefusedOnce → status ≡ status_of fault → RefusesBytes fault bytes → (fault ≡ faults.DiskFault → ⊥) → RefusesBytes other bytes → IsUnwritten other
    → (status ≡ status_of other) ⊎ (status ≡ NoMemory)
is_same (faults.Small needed found) other bytes status once is why held that unwritten = inl (is ∙ ap status_of (once bytes (faults.Small needed found) other why that tt unwritten))
is_same faults.NoSuper other bytes status once is why held that unwritten = inl (is ∙ ap status_of (once bytes faults.NoSuper other why that tt unwritten))
is_same (faults.BadGroup frame) other bytes status once is why held that unwritten = inl (is ∙ ap status_of (once bytes (faults.BadGroup frame) other why that tt unwritten))
is_same (faults.Unsound page rule) other bytes status once is why held that unwritten = inl (is ∙ ap status_of (once bytes (faults.Unsound page rule) other why that tt unwritten))
is_same faults.DiskFault other bytes status once is why held that unwritten = absurd (held refl)
is_same faults.NoMemory other bytes status once is why held that unwritten = inr is

-- where the file was opened, its bytes open to a sound one
abbrev OpensSound : List ℕ → Type 0
OpensSound bytes = (s : FileState) × OpensTo bytes s × IsSound s

opened_sound : (bytes : List ℕ) (status : Status) → GoodIsNotRefused → OpensSound bytes
    → (((s : FileState) → OpensTo bytes s → IsSound s → ⊥) → (status ≡ NoMemory) ⊎ ((fault : OpenFault) × (status ≡ status_of fault) × RefusesBytes fault bytes × IsUnwritten fault))
    × ((fault : OpenFault) → RefusesBytes fault bytes → IsUnwritten fault → (status ≡ status_of fault) ⊎ (status ≡ NoMemory))
opened_sound bytes status good opens = (
  λ none. absurd (none opens.0 opens.1 opens.2),
  λ fault that unwritten. absurd (never fault unwritten (good fault bytes opens.0 opens.1 opens.2 that)),
)

-- a file that wasn't opened, or one that was
pub refuses_opening : (run : Run) (status : Status) → GoodIsNotRefused → IsRefusedOnce → ((fault : OpenFault) × (status ≡ status_of fault) × IsShutOut run fault) ⊎ ((bytes : List ℕ) → run.before.told ≡ Some bytes → OpensSound bytes) → RefusesFile run status
refuses_opening run status good once ends bytes told calm = elim ends [
  | inl shut ↦
      let why = at_value run.before.told _ bytes told shut.2.why.why in
      let held : shut.0 ≡ faults.DiskFault → ⊥ = λ is. calm (shut.2.leaves.faults.cause is) in
      (λ none. of_bytes shut.0 bytes status shut.1 why held, λ fault that unwritten. is_same shut.0 fault bytes status once shut.1 why held that unwritten)
  | inr opened ↦ opened_sound bytes status good (opened bytes told)
]

pub refuses_file : (by : Manner) (run : Run) (status : Status) → GoodIsNotRefused → IsRefusedOnce → StepsEnd by run status → RefusesFile run status
refuses_file by run status good once ends = refuses_opening run status good once (elim ends [
  | inl shut ↦ inl shut
  | inr opened ↦ elim opened [ inl away ↦ inr (λ b is. let here = at_value run.before.told _ b is away.opened.opens.file in (here.0, here.1, here.2)) | inr ran ↦ inr (λ b is. let here = at_value run.before.told _ b is ran.1.takes.told in (here.0, here.1, here.2)) ]
])

pub check_refuses : (run : Run) (status : Status) → GoodIsNotRefused → IsRefusedOnce → CheckEnds run status → RefusesFile run status
check_refuses run status good once ends = refuses_opening run status good once (elim ends [ inl shut ↦ inl shut | inr done ↦ inr (λ b is. let here = at_value run.before.told _ b is done.2.opens.file in (here.0, here.1, here.2)) ])

pub map_refuses : (run : Run) (status : Status) → GoodIsNotRefused → IsRefusedOnce → MapEnds run status → RefusesFile run status
map_refuses run status good once ends = refuses_opening run status good once (elim ends [ inl shut ↦ inl shut | inr done ↦ inr (λ b is. let here = at_value run.before.told _ b is done.2.1.opens.file in (here.0, here.1, here.2)) ])

pub tidy_refuses : (run : Run) (status : Status) → GoodIsNotRefused → IsRefusedOnce → TidyEnds run status → RefusesFile run status
tidy_refuses run status good once ends = refuses_opening run status good once (elim ends [
  | inl shut ↦ inl shut
  | inr opened ↦ elim opened [ inl away ↦ inr (λ b is. let here = at_value run.before.told _ b is away.opened.opens.file in (here.0, here.1, here.2)) | inr tidied ↦ inr (λ b is. let here = at_value run.before.told _ b is tidied.2.told in (here.0, here.1, here.2)) ]
])
