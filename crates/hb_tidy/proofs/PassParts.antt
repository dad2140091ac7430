-- A pass, page by page, and its end.
use Rattle.std.proofs.Common.{◌≡◌, ◌≢◌, ◌⊎◌, ◌↔◌, inl, inr, ℕ, ◌+◌, ◌<◌, ◌≤◌, true, false, List, [], All, Option, None, Some, Result, Ok, sym, ap, ◌∙◌, subst, arith}
use Rattle.std.proofs.lemmas.List.Elements.{All-nil}
use Rattle.std.proofs.lemmas.Bool.{cases_lt}
use Rattle.hb_disk.specs.Model.{DiskModel, IsDisk}
use Rattle.hb_activity.specs.declared.jobs.Job.{Job}
use Rattle.hb_activity.specs.declared.jobs.JobKind.TheVariants.{Post}
use Rattle.hb_lemmas.proofs.Options.{not_none, one_value}
use Rattle.hb_frag.specs.declared.pages.LivePage.{LivePage}
use Rattle.hb_frag.specs.Leaves.{siblings_of}
use Rattle.hb_layout.specs.declared.limits.TheConstants.{HEIGHT_MAX}
use Rattle.hb_layout.specs.Limits.{IsLayout}
use Rattle.hb_layout.specs.declared.meta.Meta.{Meta}
use Rattle.hb_ops.specs.Files.{FileState, live_page}
use Rattle.hb_ops.specs.Settled.{HasLoneRoot}
use Rattle.hb_core.specs.Showing.{RunningCore}
use Rattle.hb_tidy.proofs.CallsMade.{nothing_looked}
use Rattle.hb_tidy.proofs.CleanPages.{file_is_tidy, tidy_at_next, tidy_at_none, unused_is_tidy}
use Rattle.hb_tidy.proofs.Facts.Joined.{goes_next, over_goes, over_known, over_ok, over_then, over_weaker}
use Rattle.hb_tidy.proofs.KnownFiles.{IsFileOf, over_file}
use Rattle.hb_tidy.specs.declared.stops.TidyStop.{TidyStop}
use Rattle.hb_tidy.specs.Finding.{AreTidyUpTo, HasGrown, IsTidy, IsTidyAt, OwesGrowth}
use Rattle.hb_tidy.specs.Going.{Goes, MayTidy}
use Rattle.hb_tidy.specs.Looking.{LooksOver, NothingOf}
use Rattle.hb_tidy.specs.Owed.{FindsJobs, IsJobOwed}

-- what is said of a page or of the file, where no job waits behind the look
abbrev pub Clean : (FileState → Type 0) → RunningCore → Unit {0} → FileState → Type 0
Clean P c v s = c.jobs ≡ [] → P s

-- Jobs were found, and wait.
pub waits_then : (knows : FileState → Type 0) (found : List Job) (P : FileState → Type 0) (d e f : DiskModel) (old mid new : RunningCore) → (new.jobs ≡ [] → found ≡ []) → LooksOver {T = Unit {0}} knows (Ok (tt {0})) (λ v s. FindsJobs s (P s) [] found) d old e mid
    → LooksOver {T = Unit {0}} (λ s. All (IsJobOwed s) found) (Ok (tt {0})) (λ w. NothingOf) e mid f new → LooksOver knows (Ok (tt {0})) (Clean P new) d old f new
waits_then knows found P d e f old mid new tells one two =
    over_then knows (tt {0}) (λ v s. FindsJobs s (P s) [] found) (λ s. All (IsJobOwed s) found) (Ok (tt {0})) (λ w. NothingOf) (Clean P new) d e f old mid new one
    (λ s known said. said.owed (All-nil (IsJobOwed s))) two (λ s w known said more none. (said.none (tells none)).1)

-- One page more, and the end.
abbrev pub CleanUpTo : RunningCore → ℕ → Unit {0} → FileState → Type 0
CleanUpTo c place = Clean (λ s. HasGrown s × AreTidyUpTo s place) c

pub pages_begin : (d e : DiskModel) (old new : RunningCore) → LooksOver NothingOf (Ok (tt {0})) (Clean HasGrown new) d old e new → LooksOver {T = Unit {0}} NothingOf (Ok (tt {0})) (CleanUpTo new 0) d old e new
pages_begin d e old new one =
    over_file NothingOf (Ok (tt {0})) (CleanUpTo new 0) d e old new
    (over_ok (λ s. IsFileOf old s × NothingOf s) (tt {0}) (tt {0}) (Clean HasGrown new) (CleanUpTo new 0) d e old new (λ s known said none. (said none, tidy_at_none old s known.0))
    (over_known (λ s. IsFileOf old s × NothingOf s) (Ok (tt {0})) (Clean HasGrown new) d e old new one))

pub pages_next : (place : ℕ) (d e f : DiskModel) (old mid new : RunningCore) → LooksOver {T = Unit {0}} NothingOf (Ok (tt {0})) (CleanUpTo mid place) d old e mid
    → LooksOver NothingOf (Ok (tt {0})) (Clean (λ s. IsTidyAt s (place + 1)) new) e mid f new → LooksOver {T = Unit {0}} NothingOf (Ok (tt {0})) (CleanUpTo new (place + 1)) d old f new
pages_next place d e f old mid new one two =
    over_then NothingOf (tt {0}) (CleanUpTo mid place) NothingOf (Ok (tt {0})) (Clean (λ s. IsTidyAt s (place + 1)) new) (CleanUpTo new (place + 1)) d e f old mid new one (λ s known said. tt) two
    (λ s w known said more none. let before = said (two.waiting none) in (before.0, tidy_at_next s place before.1 (more none)))

pub pages_all : (d e : DiskModel) (old new : RunningCore) → LooksOver {T = Unit {0}} NothingOf (Ok (tt {0})) (CleanUpTo new old.store.meta.high) d old e new → LooksOver NothingOf (Ok (tt {0})) (Clean IsTidy new) d old e new
pages_all d e old new one =
    over_file NothingOf (Ok (tt {0})) (Clean IsTidy new) d e old new
    (over_ok (λ s. IsFileOf old s × NothingOf s) (tt {0}) (tt {0}) (CleanUpTo new old.store.meta.high) (Clean IsTidy new) d e old new (λ s known said none. let all = said none in file_is_tidy old s known.0 all.0 all.1)
    (over_known (λ s. IsFileOf old s × NothingOf s) (Ok (tt {0})) (CleanUpTo new old.store.meta.high) d e old new one))

-- what was seen of a page was looked below; or nothing is there
pub page_then : (id : ℕ) (seen : Option LivePage) (P : FileState → Type 0) (r : Result (Unit {0}) TidyStop) (d e f : DiskModel) (old mid new : RunningCore) → LooksOver NothingOf (Ok seen) (λ page s. live_page s id ≡ page) d old e mid
    → LooksOver (λ s. live_page s id ≡ seen) r (Clean P new) e mid f new → LooksOver NothingOf r (Clean P new) d old f new
page_then id seen P r d e f old mid new one two = over_then NothingOf seen (λ page s. live_page s id ≡ page) (λ s. live_page s id ≡ seen) r (Clean P new) (Clean P new) d e f old mid new one (λ s known said. said) two (λ s v known said more. more)

pub no_page : (id : ℕ) (d : DiskModel) (c : RunningCore) → IsDisk d → MayTidy d c → LooksOver (λ s. live_page s id ≡ None) (Ok (tt {0})) (Clean (λ s. IsTidyAt s id) c) d c d c
no_page id d c disk may = nothing_looked d c disk may (tt {0}) (λ s. live_page s id ≡ None) (Clean (λ s. IsTidyAt s id) c) (λ s known none. unused_is_tidy s id known)

-- ---- the root

-- a file of the greatest height grows no more
pub height_is_most : (d : DiskModel) (c : RunningCore) → IsDisk d → MayTidy d c → c.store.meta.height ≡ HEIGHT_MAX → LooksOver NothingOf (Ok (tt {0})) (Clean HasGrown c) d c d c
height_is_most d c disk may most =
    over_file NothingOf (Ok (tt {0})) (Clean HasGrown c) d d c c
    (nothing_looked d c disk may (tt {0}) (λ s. IsFileOf c s × NothingOf s) (Clean HasGrown c) (λ s known none. inl (ap (λ (x : Meta). x.height) known.0.meta ∙ most)))

-- the root was found, and looked into
pub root_then : (root : LivePage) (r : Result (Unit {0}) TidyStop) (d e f : DiskModel) (old mid new : RunningCore) → LooksOver {T = Option LivePage} NothingOf (Ok (Some root)) (λ page s. live_page s old.store.meta.root ≡ page) d old e mid
    → LooksOver (λ s. live_page s s.meta.root ≡ Some root) r (Clean HasLoneRoot new) e mid f new → LooksOver NothingOf r (Clean HasGrown new) d old f new
root_then root r d e f old mid new one two =
    over_file NothingOf r (Clean HasGrown new) d f old new
    (over_then (λ s. IsFileOf old s × NothingOf s) (Some root) (λ page s. live_page s old.store.meta.root ≡ page) (λ s. live_page s s.meta.root ≡ Some root) r (Clean HasLoneRoot new) (Clean HasGrown new) d e f old mid new
    (over_known (λ s. IsFileOf old s × NothingOf s) (Ok (Some root)) (λ page s. live_page s old.store.meta.root ≡ page) d e old mid one)
    (λ s known said. ap (λ (x : Meta). live_page s x.root) known.0.meta ∙ said)
    two
    (λ s v known said more none. inr (more none)))

-- something is to be done, and a job waits
pub found_here : (knows more P : FileState → Type 0) (d e : DiskModel) (old new : RunningCore) → ((s : FileState) → IsFileOf old s → knows s → more s) → LooksOver {T = Unit {0}} more (Ok (tt {0})) (λ w. NothingOf) d old e new → (new.jobs ≡ [] → ⊥) → LooksOver knows (Ok (tt {0})) (Clean P new) d old e new
found_here knows more P d e old new imp one some =
    over_file knows (Ok (tt {0})) (Clean P new) d e old new
    (over_weaker more (λ s. IsFileOf old s × knows s) (Ok (tt {0})) (λ w. NothingOf) (Clean P new) d e old new (λ s known. imp s known.0 known.1) (λ s w known said none. absurd (some none)) one)

-- a growth is owed, and its job waits
pub growth_waits : (job : Job) (d e : DiskModel) (old new : RunningCore) → job.kind ≡ Post → job.level ≡ old.store.meta.height → LooksOver {T = Unit {0}} (λ s. IsJobOwed s job) (Ok (tt {0})) (λ v. NothingOf) d old e new
    → LooksOver {T = Unit {0}} (λ s. OwesGrowth s × (s.meta.live ≢ s.meta.pages)) (Ok (tt {0})) (λ v. NothingOf) d old e new
growth_waits job d e old new kind level one =
    over_file (λ s. OwesGrowth s × (s.meta.live ≢ s.meta.pages)) (Ok (tt {0})) (λ v. NothingOf) d e old new
    (over_weaker (λ s. IsJobOwed s job) (λ s. IsFileOf old s × (OwesGrowth s × (s.meta.live ≢ s.meta.pages))) (Ok (tt {0})) (λ v. NothingOf) (λ v. NothingOf) d e old new
    (λ s known. inl (record { kind = kind; level = level ∙ sym (ap (λ (x : Meta). x.height) known.0.meta); owed = known.1.0; free = known.1.1 })) (λ s v known said. tt) one)

-- Over a disk that tells, the root is in use.
pub root_there : (more P : FileState → Type 0) (d e f : DiskModel) (old mid new : RunningCore) → LooksOver {T = Option LivePage} NothingOf (Ok None) (λ page s. live_page s old.store.meta.root ≡ page) d old e mid → LooksOver {T = Unit {0}} more (Ok (tt {0})) (λ w. NothingOf) e mid f new
    → LooksOver NothingOf (Ok (tt {0})) (Clean P new) d old f new
root_there more P d e f old mid new one two =
    over_file NothingOf (Ok (tt {0})) (Clean P new) d f old new
    (over_then {T = Option LivePage} (λ s. IsFileOf old s × NothingOf s) None (λ page s. live_page s old.store.meta.root ≡ page) more (Ok (tt {0})) (λ w. NothingOf) (Clean P new) d e f old mid new
    (over_known {T = Option LivePage} (λ s. IsFileOf old s × NothingOf s) (Ok None) (λ page s. live_page s old.store.meta.root ≡ page) d e old mid one) (λ s known said. absurd (never s known.0 said)) two (λ s w known said more none. absurd (never s known.0 said)))
  where
    never : (s : FileState) → IsFileOf old s → live_page s old.store.meta.root ≡ None → ⊥
    never s file none =
        let top = file.sound.rooted.top in
        not_none (live_page s s.meta.root) top.0 top.1 (ap (λ (x : Meta). live_page s x.root) file.meta ∙ none)

-- the root was looked into, and has no sibling leaf
pub root_alone : (root : LivePage) (d : DiskModel) (c : RunningCore) → IsDisk d → MayTidy d c → siblings_of root ≡ [] → LooksOver (λ s. live_page s s.meta.root ≡ Some root) (Ok (tt {0})) (Clean HasLoneRoot c) d c d c
root_alone root d c disk may none =
    nothing_looked d c disk may (tt {0}) (λ s. live_page s s.meta.root ≡ Some root) (Clean HasLoneRoot c)
    (λ s known empty page live. subst (λ (p : LivePage). siblings_of p ≡ []) (one_value (live_page s s.meta.root) root page known live) none)

-- the greatest height, and a lesser one
pub is_most : (meta : Meta) → IsLayout meta → HEIGHT_MAX ≤ meta.height → meta.height ≡ HEIGHT_MAX
is_most meta layout high = let few = layout.few_levels in omega (arith, few, high)

pub is_low : (height : ℕ) → (false ≡ true) ↔ (HEIGHT_MAX ≤ height) → height < HEIGHT_MAX
is_low height test = by (cases_lt height HEIGHT_MAX)
  where
    by : (height < HEIGHT_MAX) ⊎ (HEIGHT_MAX ≤ height) → height < HEIGHT_MAX
    by (inl low) = low
    by (inr high) = absurd (let never = test.1 high in cc)

-- a pass behind other calls
pub passed_then : (v : Unit {0}) (r : Result (Unit {0}) TidyStop) (d e f : DiskModel) (old mid new : RunningCore) → Goes (Ok v) d old e mid → LooksOver NothingOf r (Clean IsTidy new) e mid f new → r ≡ Ok v → Goes (Ok v) d old f new
passed_then v r d e f old mid new one two is = goes_next v r d e f old mid new one (over_goes r (Clean IsTidy new) e f mid new two) is
