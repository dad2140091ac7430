-- Jobs that were added to a list, and that the file owes them.
use Rattle.std.proofs.Common.{◌≡◌, inl, inr, ℕ, List, [], ◌∷◌, ◌++◌, All, Option, Some, Result, sym, ap, ◌∙◌, subst, append-nil, append_assoc}
use Rattle.std.proofs.lemmas.List.Elements.{All-append, All-nil, All-weaker}
use Rattle.std.proofs.lemmas.Result.{on_ok_weaker}
use Rattle.hb_lemmas.proofs.Lists.{All-alone}
use Rattle.hb_activity.specs.declared.jobs.Job.{Job}
use Rattle.hb_activity.specs.declared.jobs.JobKind.TheVariants.{Merge}
use Rattle.hb_space.specs.Boxes.{Area}
use Rattle.hb_frag.specs.declared.pages.LivePage.{LivePage}
use Rattle.hb_layout.specs.declared.meta.Meta.{Meta}
use Rattle.hb_ops.specs.Files.{FileState, live_page}
use Rattle.hb_ops.specs.Merging.{FitsMerge}
use Rattle.hb_ops.specs.Operations.{IsAllowedOn}
use Rattle.hb_ops.specs.Settled.{HasChild, IsMergeable}
use Rattle.hb_ops.specs.declared.operations.Op.TheVariants as ops
use Rattle.hb_steps.specs.KeptFits.{JobFits}
use Rattle.hb_core.specs.Showing.{RunningCore}
use Rattle.hb_tidy.proofs.KnownFiles.{IsFileOf}
use Rattle.hb_tidy.specs.declared.stops.TidyStop.{TidyStop}
use Rattle.hb_tidy.specs.Finding.{BothLive}
use Rattle.hb_tidy.specs.Owed.{AddsPostings, FindsJobs, HasAdded, IsAtCorner, IsJobOwed, IsPosting}

-- ---- a list of jobs

pub added_none : (k : ℕ) (P : Job → Type 0) (jobs : List Job) → HasAdded k P jobs jobs
added_none k P jobs = record { added = []; is = sym (append-nil jobs); fit = All-nil (JobFits k); each = All-nil P }

pub added_one : (k : ℕ) (P : Job → Type 0) (before after : List Job) (job : Job) → after ≡ before ++ job ∷ [] → JobFits k job → P job → HasAdded k P before after
added_one k P before after job is fits so = record { added = job ∷ []; is = is; fit = All-alone (JobFits k) job fits; each = All-alone P job so }

pub added_then : (k : ℕ) (P : Job → Type 0) (first mid last : List Job) → HasAdded k P first mid → HasAdded k P mid last → HasAdded k P first last
added_then k P first mid last one two = record {
  added = one.added ++ two.added;
  is = two.is ∙ ap (λ (jobs : List Job). jobs ++ two.added) one.is ∙ append_assoc first one.added two.added;
  fit = All-append (JobFits k) one.added two.added one.fit two.fit;
  each = All-append P one.added two.added one.each two.each;
}

-- of each as much as is known of those before, and of the new ones
pub added_are : (k : ℕ) (P Q : Job → Type 0) (before after : List Job) → HasAdded k P before after → ((job : Job) → P job → Q job) → All Q before → All Q after
added_are k P Q before after one imp all = subst (λ (jobs : List Job). All Q jobs) (sym one.is) (All-append Q before one.added all (All-weaker P Q imp one.added one.each))

pub added_fit : (k : ℕ) (P : Job → Type 0) (before after : List Job) → HasAdded k P before after → All (JobFits k) before → All (JobFits k) after
added_fit k P before after one all = subst (λ (jobs : List Job). All (JobFits k) jobs) (sym one.is) (All-append (JobFits k) before one.added all one.fit)

pub added_weaker : (k : ℕ) (P Q : Job → Type 0) (before after : List Job) → ((job : Job) → P job → Q job) → HasAdded k P before after → HasAdded k Q before after
added_weaker k P Q before after imp one = record { added = one.added; is = one.is; fit = one.fit; each = All-weaker P Q imp one.added one.each }

-- by a look behind another one: what the file says of itself stays
pub fit_then : (old mid : Meta) (first before after : List Job) → mid ≡ old → (All (JobFits old.k) first → All (JobFits old.k) before) → (All (JobFits mid.k) before → All (JobFits mid.k) after) → All (JobFits old.k) first → All (JobFits old.k) after
fit_then old mid first before after same one two all =
    subst (λ (meta : Meta). All (JobFits meta.k) after) same (two (subst (λ (meta : Meta). All (JobFits meta.k) before) (sym same) (one all)))

pub postings_weaker : {T : Type 0} (r : Result T TidyStop) (meta : Meta) (parent child : LivePage) (area : Area) (P Q : Type 0) (before after : List Job) → (P → Q) → AddsPostings r meta parent child area P before after → AddsPostings r meta parent child area Q before after
postings_weaker r meta parent child area P Q before after imp one = record {
  added = one.added;
  none = on_ok_weaker {P = after ≡ [] → (before ≡ []) × P} {Q = after ≡ [] → (before ≡ []) × Q} r (λ none empty. let all = none empty in (all.0, imp all.1)) one.none;
  full = one.full;
}

-- ---- a file that owes them

pub finds_nothing : (s : FileState) (P : Type 0) (jobs : List Job) → P → FindsJobs s P jobs jobs
finds_nothing s P jobs so = record { none = λ empty. (empty, so); owed = λ all. all }

pub finds_less : (s : FileState) (P Q : Type 0) (before after : List Job) → (P → Q) → FindsJobs s P before after → FindsJobs s Q before after
finds_less s P Q before after imp one = record { none = λ empty. let all = one.none empty in (all.0, imp all.1); owed = one.owed }

-- one part after another
pub finds_both : (s : FileState) (P Q R : Type 0) (first mid last : List Job) → (P → Q → R) → FindsJobs s P first mid → FindsJobs s Q mid last → FindsJobs s R first last
finds_both s P Q R first mid last imp one two = record {
  none = λ empty. let later = two.none empty in let sooner = one.none later.0 in (sooner.0, imp sooner.1 later.1);
  owed = λ all. two.owed (one.owed all);
}

-- three pages that fit may be merged
merge_may : (s : FileState) (parent keep gone : ℕ) (above kept going : LivePage) → live_page s parent ≡ Some above → live_page s keep ≡ Some kept → live_page s gone ≡ Some going → FitsMerge s.meta parent keep gone above kept going → IsMergeable s parent keep gone
merge_may s parent keep gone above kept going above_live kept_live gone_live fits =
    let op = ops.Merge parent keep gone in
    subst (λ (o : Option LivePage). IsAllowedOn op s.meta o (live_page s keep) (live_page s gone)) (sym above_live)
    (subst (λ (o : Option LivePage). IsAllowedOn op s.meta (Some above) o (live_page s gone)) (sym kept_live)
    (subst (λ (o : Option LivePage). IsAllowedOn op s.meta (Some above) (Some kept) o) (sym gone_live) fits))

module _ (c : RunningCore) (s : FileState) (parent child : ℕ) (above below : LivePage) (area : Area) (file : IsFileOf c s) (both : BothLive parent above child below s) (leaf : HasChild above child area) where
  pub merges_owed : (gone : ℕ) (going : LivePage) → live_page s gone ≡ Some going → (job : Job) → IsAtCorner Merge above area job × FitsMerge c.store.meta parent child gone above below going → IsJobOwed s job
  merges_owed gone going live job so = inr (inr (record {
    parent = parent;
    keep = child;
    gone = gone;
    above = above;
    area = area;
    live = both.0;
    leaf = leaf;
    at = so.0;
    may = merge_may s parent child gone above below going both.0 both.1 live (subst (λ (meta : Meta). FitsMerge meta parent child gone above below going) (sym file.meta) so.1);
  }))

  pub postings_owed : (job : Job) → IsPosting c.store.meta above below area job → IsJobOwed s job
  postings_owed job so = inr (inl (record {
    parent = parent;
    child = child;
    above = above;
    below = below;
    area = area;
    live = both;
    leaf = leaf;
    owed = subst (λ (meta : Meta). IsPosting meta above below area job) (sym file.meta) so;
  }))
