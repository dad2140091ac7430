-- Looks at the pages below a page, one child leaf after the other.
use Rattle.std.proofs.Common.{◌≡◌, ℕ, ◌+◌, ◌<◌, List, [], All, length, get_or, take, Option, None, Some, IsSome, Result, Ok, subst}
use Rattle.std.proofs.lemmas.Bool.{false≢true}
use Rattle.hb_disk.specs.Model.{DiskModel, IsDisk}
use Rattle.hb_space.specs.Boxes.{Area, Meets}
use Rattle.hb_activity.specs.declared.jobs.Job.{Job}
use Rattle.hb_frag.specs.declared.pages.LivePage.{LivePage}
use Rattle.hb_frag.specs.Leaves.{siblings_of}
use Rattle.hb_lemmas.proofs.Options.{one_value}
use Rattle.hb_lemmas.proofs.Lists.{All-take_more}
use Rattle.hb_ops.specs.Files.{FileState, live_page}
use Rattle.hb_ops.specs.Settled.{HasChild, IsMergeable}
use Rattle.hb_core.specs.Showing.{RunningCore}
use Rattle.hb_tidy.proofs.CallsMade.{nothing_looked}
use Rattle.hb_tidy.proofs.CleanPages.{below_is_tidy}
use Rattle.hb_tidy.proofs.JobLists.{none_yet}
use Rattle.hb_tidy.proofs.Facts.Joined.{over_ok, over_then, over_weaker}
use Rattle.hb_tidy.proofs.KnownFiles.{IsFileOf, over_file}
use Rattle.hb_tidy.proofs.OwedJobs.{added_are, finds_both, finds_less, finds_nothing, postings_owed}
use Rattle.hb_tidy.specs.declared.stops.TidyStop.{TidyStop}
use Rattle.hb_tidy.specs.Finding.{BothLive, HasPage, IsTidyAt, IsTidyBelow}
use Rattle.hb_tidy.specs.Going.{MayTidy}
use Rattle.hb_tidy.specs.Looking.{LooksOver}
use Rattle.hb_tidy.specs.Owed.{FindsJobs, HasAdded, IsJobOwed, IsPosting}
use Rattle.hb_tidy.specs.Placing.{placed_children}

module _ (parent : ℕ) (above : LivePage) where
  -- where no job was made, nothing was found at this leaf
  abbrev pub SeesBelow : ℕ × Area → List Job → List Job → Unit {0} → FileState → Type 0
  SeesBelow leaf before after v s = FindsJobs s (IsTidyBelow s parent leaf) before after

  -- nor at any of these
  abbrev pub SeesAll : List (ℕ × Area) → List Job → List Job → Unit {0} → FileState → Type 0
  SeesAll leaves before after v s = FindsJobs s (All (IsTidyBelow s parent) leaves) before after

  -- Postings that the child owes were asked for, and pages that it may take over.
  pub child_seen : (name : ℕ) (below : LivePage) (area : Area) (given : List (ℕ × Area)) (first before after : List Job) (r : Result (Unit {0}) TidyStop) (d e : DiskModel) (old new : RunningCore) → HasChild above name area → given ≡ siblings_of below
      → (before ≡ [] → (first ≡ []) × All (λ (sibling : ℕ × Area). ¬ (Meets area sibling.1)) given) → HasAdded old.store.meta.k (IsPosting old.store.meta above below area) first before
      → LooksOver (BothLive parent above name below) r (λ v s. FindsJobs s ((gone : ℕ) → ¬ (IsMergeable s parent name gone)) before after) d old e new
      → LooksOver (BothLive parent above name below) r (SeesBelow (name, area) first after) d old e new
  child_seen name below area given first before after r d e old new leaf is none added one =
      over_file (BothLive parent above name below) r (SeesBelow (name, area) first after) d e old new
      (over_weaker (BothLive parent above name below) (λ s. IsFileOf old s × BothLive parent above name below s) r (λ v s. FindsJobs s ((gone : ℕ) → ¬ (IsMergeable s parent name gone)) before after) (SeesBelow (name, area) first after) d e old new (λ s known. known.1)
      (λ s v known said. finds_both s (All (λ (sibling : ℕ × Area). ¬ (Meets area sibling.1)) given) ((gone : ℕ) → ¬ (IsMergeable s parent name gone)) (IsTidyBelow s parent (name, area)) first before after
      (λ posted last. record {
        posted = λ named live.
            let same = one_value (live_page s name) below named known.1.1 live in
            subst (λ (page : LivePage). All (λ (sibling : ℕ × Area). ¬ (Meets area sibling.1)) (siblings_of page)) same
            (subst (λ (ss : List (ℕ × Area)). All (λ (sibling : ℕ × Area). ¬ (Meets area sibling.1)) ss) is posted);
        none = last;
      })
      (record { none = none; owed = added_are old.store.meta.k (IsPosting old.store.meta above below area) (IsJobOwed s) first before added (postings_owed old s parent name above below area known.0 known.1 leaf) })
      said)
      one)

  -- after the look by which the child was found
  pub child_then : (name : ℕ) (below : LivePage) (area : Area) (before after : List Job) (r : Result (Unit {0}) TidyStop) (d e f : DiskModel) (old mid new : RunningCore) → LooksOver (HasPage parent above) (Ok (Some below)) (λ seen s. IsSome seen × (live_page s name ≡ seen)) d old e mid
      → LooksOver (BothLive parent above name below) r (SeesBelow (name, area) before after) e mid f new → LooksOver (HasPage parent above) r (SeesBelow (name, area) before after) d old f new
  child_then name below area before after r d e f old mid new one two =
      over_then (HasPage parent above) (Some below) (λ seen s. IsSome seen × (live_page s name ≡ seen)) (BothLive parent above name below) r (SeesBelow (name, area) before after) (SeesBelow (name, area) before after) d e f old mid new
      one (λ s known said. (known, said.1)) two (λ s v known said more. more)

  -- it stands there over a disk that tells
  pub child_owed : (leaf : ℕ × Area) (before after : List Job) (d e : DiskModel) (old new : RunningCore) → LooksOver {T = Option LivePage} (HasPage parent above) (Ok None) (λ seen s. IsSome seen × (live_page s leaf.0 ≡ seen)) d old e new
      → LooksOver (HasPage parent above) (Ok (tt {0})) (SeesBelow leaf before after) d old e new
  child_owed leaf before after d e old new one =
      over_ok {T = Option LivePage} (HasPage parent above) None (tt {0}) (λ seen s. IsSome seen × (live_page s leaf.0 ≡ seen)) (SeesBelow leaf before after) d e old new (λ s known said. absurd (false≢true said.0)) one

  pub leaves_begin : (leaves : List (ℕ × Area)) (jobs : List Job) (d : DiskModel) (c : RunningCore) → IsDisk d → MayTidy d c → LooksOver (HasPage parent above) (Ok (tt {0})) (SeesAll (take 0 leaves) jobs jobs) d c d c
  leaves_begin leaves jobs d c disk may = nothing_looked d c disk may (tt {0}) (HasPage parent above) (SeesAll (take 0 leaves) jobs jobs) (λ s known. finds_nothing s _ jobs (none_yet (IsTidyBelow s parent) leaves))

  pub leaves_next : (leaves : List (ℕ × Area)) (i : ℕ) (leaf : ℕ × Area) (first before after : List Job) (d e f : DiskModel) (old mid new : RunningCore) → i < length leaves → leaf ≡ get_or leaves i leaf
      → LooksOver (HasPage parent above) (Ok (tt {0})) (SeesAll (take i leaves) first before) d old e mid → LooksOver (HasPage parent above) (Ok (tt {0})) (SeesBelow leaf before after) e mid f new
      → LooksOver (HasPage parent above) (Ok (tt {0})) (SeesAll (take (i + 1) leaves) first after) d old f new
  leaves_next leaves i leaf first before after d e f old mid new lt is one two =
      over_then (HasPage parent above) (tt {0}) (SeesAll (take i leaves) first before) (HasPage parent above) (Ok (tt {0})) (SeesBelow leaf before after) (SeesAll (take (i + 1) leaves) first after) d e f old mid new one (λ s known said. known) two
      (λ s w known said more. finds_both s _ _ _ first before after (λ so_far here. All-take_more (IsTidyBelow s parent) leaves i leaf lt is so_far here) said more)

  -- So nothing is found at the page, where these are all its child leaves.
  pub leaves_all : (leaves : List (ℕ × Area)) (first after : List Job) (d e : DiskModel) (old new : RunningCore) → leaves ≡ placed_children above → LooksOver (HasPage parent above) (Ok (tt {0})) (SeesAll leaves first after) d old e new
      → LooksOver {T = Unit {0}} (HasPage parent above) (Ok (tt {0})) (λ v s. FindsJobs s (IsTidyAt s parent) first after) d old e new
  leaves_all leaves first after d e old new is one =
      over_ok (HasPage parent above) (tt {0}) (tt {0}) (SeesAll leaves first after) (λ v s. FindsJobs s (IsTidyAt s parent) first after) d e old new
      (λ s known said. finds_less s (All (IsTidyBelow s parent) leaves) (IsTidyAt s parent) first after (λ all. below_is_tidy s parent above known (subst (λ (ls : List (ℕ × Area)). All (IsTidyBelow s parent) ls) is all)) said) one
