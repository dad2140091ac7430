-- What is known of the file of a machine that a core shows.
use Rattle.std.proofs.Common.{◌≡◌, ◌⊎◌, inl, inr, ℕ, ◌-◌, ◌<◌, List, [], ◌∷◌, length, Option, Some, None, IfSome, Result, option_map, refl, sym, ap, ◌∙◌, subst, arith}
use Rattle.hb_disk.specs.Model.{DiskModel}
use Rattle.hb_frag.specs.declared.pages.Page.{Page}
use Rattle.hb_lemmas.proofs.Booleans.{at_other}
use Rattle.hb_layout.specs.declared.meta.Meta.{Meta}
use Rattle.hb_ops.proofs.Facts.PageNumberLaws.{page_at-zero}
use Rattle.hb_ops.specs.Files.{FileState, if_live, live_page, page_at}
use Rattle.hb_ops.specs.Sound.{IsSound}
use Rattle.hb_store.specs.States.{StoreState}
use Rattle.hb_steps.proofs.Facts.LaterPages.{last_sound}
use Rattle.hb_steps.specs.Keeps.{HasSoundFile}
use Rattle.hb_steps.specs.Machines.{Files, Machine, current_file}
use Rattle.hb_core.specs.Showing.{RunningCore}
use Rattle.hb_core.specs.Working.{MayStep}
use Rattle.hb_tidy.specs.declared.stops.TidyStop.{TidyStop}
use Rattle.hb_tidy.specs.Going.{MayTidy, MayTidyWhere}
use Rattle.hb_tidy.specs.Looking.{LooksOver}
use Rattle.hb_tidy.specs.Tidying.{file_now}

-- What is known of a file by what it says of itself is known as long as that stays.
pub still_known : (P : Meta → Type 0) (d : DiskModel) (old new : RunningCore) → MayTidy d new → new.store.meta ≡ old.store.meta → P old.store.meta → MayTidyWhere P d new
still_known P d old new may same known = record { may = may; known = subst P (sym same) known }

-- It is sound, and says of itself what the core says.
pub record IsFileOf (c : RunningCore) (s : FileState) : Type 0 where
  pub meta : s.meta ≡ c.store.meta
  pub sound : IsSound s

pub file_is : (d : DiskModel) (c : RunningCore) (m : Machine) → MayStep d c m → IfSome (file_now m) (IsFileOf c)
file_is d c m shows = by m.files shows.goes_on.sound
  where
    by : (o : Option Files) → IfSome o (HasSoundFile m) → IfSome (option_map current_file o) (IsFileOf c)
    by None has = tt
    by (Some files) has = record {
      meta = has.meta ∙ ap (λ (st : StoreState). st.meta) shows.shows.store;
      sound = last_sound files.durable files.later has.durable has.later;
    }

if_two : (o : Option FileState) (P Q : FileState → Type 0) → IfSome o P → IfSome o Q → IfSome o (λ s. P s × Q s)
if_two None P Q p q = tt
if_two (Some s) P Q p q = (p, q)

-- so that need not be known before
pub over_file : {T : Type 0} (knows : FileState → Type 0) (r : Result T TidyStop) (says : T → FileState → Type 0) (d e : DiskModel) (old new : RunningCore) → LooksOver (λ s. IsFileOf old s × knows s) r says d old e new → LooksOver knows r says d old e new
over_file knows r says d e old new one = record {
  looks = λ m shows known. one.looks m shows (if_two (file_now m) (IsFileOf old) knows (file_is d old m shows) known);
  spent = one.spent;
  may = one.may;
  meta = one.meta;
  waiting = one.waiting;
  rests = one.rests;
}

-- ---- numbers of pages

pub page_beyond : (pages : List Page) (id : ℕ) → length pages < id → page_at pages id ≡ None
page_beyond [] id beyond = refl
page_beyond (page ∷ rest) id beyond =
    at_other id 0 None _ (λ is. omega (arith, beyond, is)) ∙ at_other id 1 (Some page) _ (λ is. omega (arith, beyond, is)) ∙ page_beyond rest (id - 1) (omega (arith, beyond))

-- no page in use has a number that the file hasn't
pub none_there : (c : RunningCore) (s : FileState) (id : ℕ) → IsFileOf c s → (id ≡ 0) ⊎ (c.store.meta.high < id) → live_page s id ≡ None
none_there c s id file (inl zero) = ap if_live (ap (page_at s.pages) zero ∙ page_at-zero s.pages)
none_there c s id file (inr beyond) =
    let long = file.sound.rooted.numbered in
    let high = ap (λ (x : Meta). x.high) file.meta in
    ap if_live (page_beyond s.pages id (omega (arith, beyond, long, high)))
