-- Looks at the pages that one page gave boxes to, whether it may take one over.
use Rattle.std.proofs.Common.{◌≡◌, ℕ, ◌+◌, ◌<◌, List, [], All, length, get_or, take, Option, None, Some, Ok}
use Rattle.std.specs.List.{Contains}
use Rattle.std.proofs.lemmas.List.Elements.{All-contains}
use Rattle.hb_disk.specs.Model.{DiskModel, IsDisk}
use Rattle.hb_lemmas.proofs.Options.{not_none}
use Rattle.hb_lemmas.proofs.Lists.{All-take_more}
use Rattle.hb_space.specs.Boxes.{Area}
use Rattle.hb_activity.specs.declared.jobs.Job.{Job}
use Rattle.hb_activity.specs.declared.jobs.JobKind.TheVariants.{Merge}
use Rattle.hb_frag.specs.declared.leaves.Leaf.TheVariants.{Child}
use Rattle.hb_frag.specs.declared.pages.LivePage.{LivePage}
use Rattle.hb_frag.specs.Leaves.{leaves, siblings_of}
use Rattle.hb_ops.specs.Files.{FileState, live_page}
use Rattle.hb_ops.specs.Merging.{FitsMerge}
use Rattle.hb_ops.specs.Settled.{HasChild, IsMergeable}
use Rattle.hb_core.specs.Showing.{RunningCore}
use Rattle.hb_tidy.specs.Finding.{BothLive}
use Rattle.hb_tidy.proofs.CallsMade.{nothing_looked}
use Rattle.hb_tidy.proofs.CleanPages.{fits_known, gone_listed, not_mergeable}
use Rattle.hb_tidy.proofs.JobLists.{none_yet}
use Rattle.hb_tidy.proofs.Facts.Joined.{over_known, over_ok, over_then, over_weaker}
use Rattle.hb_tidy.proofs.KnownFiles.{IsFileOf, over_file}
use Rattle.hb_tidy.proofs.OwedJobs.{added_are, finds_both, finds_less, finds_nothing, merges_owed}
use Rattle.hb_tidy.specs.Going.{MayTidy}
use Rattle.hb_tidy.specs.Looking.{LooksOver, NothingOf}
use Rattle.hb_tidy.specs.Owed.{FindsJobs, HasAdded, IsAtCorner, IsJobOwed}

module _ (parent keep : ℕ) (above kept : LivePage) where
  abbrev Both : FileState → Type 0
  Both s = BothLive parent above keep kept s

  -- where no job was made, this page isn't one to go
  abbrev pub NotGoing : ℕ → List Job → List Job → Unit {0} → FileState → Type 0
  NotGoing gone before after v s = FindsJobs s (¬ (IsMergeable s parent keep gone)) before after

  -- nor is any of these
  abbrev pub NoneGoing : List (ℕ × Area) → List Job → List Job → Unit {0} → FileState → Type 0
  NoneGoing given before after v s = FindsJobs s (All (λ (leaf : ℕ × Area). ¬ (IsMergeable s parent keep leaf.0)) given) before after

  pub pair_unnamed : (gone : ℕ) (jobs : List Job) (d : DiskModel) (c : RunningCore) → IsDisk d → MayTidy d c → ¬ (Contains (leaves above.frag) (Child gone)) → LooksOver (BothLive parent above keep kept) (Ok (tt {0})) (NotGoing gone jobs jobs) d c d c
  pair_unnamed gone jobs d c disk may unnamed =
      nothing_looked d c disk may (tt {0}) Both (NotGoing gone jobs jobs) (λ s both. finds_nothing s (¬ (IsMergeable s parent keep gone)) jobs (λ merge. let fits = fits_known s parent keep gone above kept both.0 both.1 merge in unnamed fits.2.pages.names_gone))

  pub pair_tried : (gone : ℕ) (area : Area) (before after : List Job) (going : LivePage) (d e : DiskModel) (old new : RunningCore) → HasChild above keep area → LooksOver NothingOf (Ok (Some going)) (λ page s. live_page s gone ≡ page) d old e new
      → (after ≡ [] → (before ≡ []) × (¬ (FitsMerge old.store.meta parent keep gone above kept going)))
      → HasAdded old.store.meta.k (λ (job : Job). IsAtCorner Merge above area job × FitsMerge old.store.meta parent keep gone above kept going) before after → LooksOver (BothLive parent above keep kept) (Ok (tt {0})) (NotGoing gone before after) d old e new
  pair_tried gone area before after going d e old new leaf one none added =
      over_file Both (Ok (tt {0})) (NotGoing gone before after) d e old new
      (over_ok (λ s. IsFileOf old s × Both s) (Some going) (tt {0}) (λ page s. live_page s gone ≡ page) (NotGoing gone before after) d e old new
      (λ s known said. record {
        none = λ empty. let pair = none empty in (pair.0, not_mergeable old s parent keep gone above kept going known.0 known.1.0 known.1.1 said pair.1);
        owed = added_are old.store.meta.k _ (IsJobOwed s) before after added (merges_owed old s parent keep above kept area known.0 known.1 leaf gone going said);
      })
      (over_known (λ s. IsFileOf old s × Both s) (Ok (Some going)) (λ page s. live_page s gone ≡ page) d e old new one))

  pub pair_absent : (gone : ℕ) (jobs : List Job) (d e : DiskModel) (old new : RunningCore) → LooksOver {T = Option LivePage} NothingOf (Ok None) (λ page s. live_page s gone ≡ page) d old e new → LooksOver (BothLive parent above keep kept) (Ok (tt {0})) (NotGoing gone jobs jobs) d old e new
  pair_absent gone jobs d e old new one =
      over_ok {T = Option LivePage} Both None (tt {0}) (λ page s. live_page s gone ≡ page) (NotGoing gone jobs jobs) d e old new
      (λ s both said. finds_nothing s (¬ (IsMergeable s parent keep gone)) jobs (λ merge. let fits = fits_known s parent keep gone above kept both.0 both.1 merge in not_none (live_page s gone) fits.0 fits.1 said))
      (over_known {T = Option LivePage} Both (Ok None) (λ page s. live_page s gone ≡ page) d e old new one)

  -- one after the other
  pub pairs_begin : (given : List (ℕ × Area)) (jobs : List Job) (d : DiskModel) (c : RunningCore) → IsDisk d → MayTidy d c → LooksOver (BothLive parent above keep kept) (Ok (tt {0})) (NoneGoing (take 0 given) jobs jobs) d c d c
  pairs_begin given jobs d c disk may = nothing_looked d c disk may (tt {0}) Both (NoneGoing (take 0 given) jobs jobs) (λ s both. finds_nothing s _ jobs (none_yet (λ (leaf : ℕ × Area). ¬ (IsMergeable s parent keep leaf.0)) given))

  pub pairs_next : (given : List (ℕ × Area)) (i : ℕ) (leaf : ℕ × Area) (first before after : List Job) (d e f : DiskModel) (old mid new : RunningCore) → i < length given → leaf ≡ get_or given i leaf
      → LooksOver (BothLive parent above keep kept) (Ok (tt {0})) (NoneGoing (take i given) first before) d old e mid → LooksOver (BothLive parent above keep kept) (Ok (tt {0})) (NotGoing leaf.0 before after) e mid f new
      → LooksOver (BothLive parent above keep kept) (Ok (tt {0})) (NoneGoing (take (i + 1) given) first after) d old f new
  pairs_next given i leaf first before after d e f old mid new lt is one two =
      over_then Both (tt {0}) (NoneGoing (take i given) first before) Both (Ok (tt {0})) (NotGoing leaf.0 before after) (NoneGoing (take (i + 1) given) first after) d e f old mid new one (λ s both said. both) two
      (λ s w both said more. finds_both s _ _ _ first before after (λ so_far here. All-take_more (λ (leaf : ℕ × Area). ¬ (IsMergeable s parent keep leaf.0)) given i leaf lt is so_far here) said more)

  -- So no page may go, where these are all to which the page to keep gave a box.
  pub pairs_all : (before after : List Job) (d e : DiskModel) (old new : RunningCore) → LooksOver (BothLive parent above keep kept) (Ok (tt {0})) (NoneGoing (siblings_of kept) before after) d old e new
      → LooksOver (BothLive parent above keep kept) (Ok (tt {0})) (λ v s. FindsJobs s ((gone : ℕ) → ¬ (IsMergeable s parent keep gone)) before after) d old e new
  pairs_all before after d e old new one =
      over_weaker Both Both (Ok (tt {0})) (NoneGoing (siblings_of kept) before after) (λ v s. FindsJobs s ((gone : ℕ) → ¬ (IsMergeable s parent keep gone)) before after) d e old new (λ s both. both)
      (λ s w both said. finds_less s _ _ before after
      (λ all gone merge.
      let listed = gone_listed s parent keep gone above kept both.0 both.1 merge in
      All-contains (λ (leaf : ℕ × Area). ¬ (IsMergeable s parent keep leaf.0)) (siblings_of kept) (gone, listed.0) all listed.1 merge) said)
      one
