-- What crashes leave of a run, one step more.
use Rattle.hb_core.proofs.Facts.Names.{◌≡◌, ◌⊎◌, inl, inr, ℕ, ◌+◌, ◌≤◌, List, ◌++◌, All, sym, subst, arith, All-append, prefix_less, settled_prefix, CoreKeeps, Files, Machine, settled_count, IsPrefixImage, CrashesTo, HoldsSince, RunningLaws, Leaves-weaker, Leaves, DiskModel, IsDisk, RecordSet, Answered, OpensToEither, StoreKeeps}
use Rattle.std.proofs.Common.{get_or}
use Rattle.hb_steps.proofs.Facts.PrefixImages.{prefix_longer}
use Rattle.hb_steps.proofs.TwoSteps.SinglePlaces.{no_place, one_place, stands_longer}
use Rattle.hb_steps.specs.KeptOrder.{IsSettledIn, StandsInOrder, StandsSomewhere}
use Rattle.hb_core.proofs.Facts.RunDisks.{opens_kept}
use Rattle.hb_disk.proofs.Facts.RunLaws.{Leaves-then}
use Rattle.hb_lemmas.proofs.Lists.{All-behind}
use Rattle.hb_set.specs.Order.{Entry}

-- The machine at the end of a run, and the one after a step more: both keep all that they should over a disk that tells.
pub record StepKeepsAll (n : RecordSet) (e f : DiskModel) (mid next : Machine) (answers given : List Answered) : Type 0 where
  pub files : Files
  pub files_then : Files
  pub keeps : CoreKeeps n mid files
  pub keeps_then : CoreKeeps n next files_then
  pub moments : Leaves e f (OpensToEither files.durable files.later)
  pub kept_then : StoreKeeps f next.store files_then.durable files_then.later
  pub more : List Entry
  pub order : next.order ≡ mid.order ++ more
  -- the answers of the run are among the machine's, and no later than now; those of the step are of now
  pub first : List Answered
  pub among : mid.answered ≡ first ++ answers
  pub among_then : next.answered ≡ mid.answered ++ given
  pub timed : All (λ (a : Answered). a.at ≤ e.clock) answers
  pub timed_then : All (λ (a : Answered). a.at ≡ f.clock) given

module _ (laws : RunningLaws) (n : RecordSet) (d e f : DiskModel) (mid next : Machine) (answers given : List Answered) (disk : IsDisk f) (step : StepKeepsAll n e f mid next answers given) (run : CrashesTo n d e mid answers) where
  longer : (least : ℕ) (c : List ℕ) → IsPrefixImage n mid.order least c → IsPrefixImage n next.order least c
  longer least c image = subst (λ (es : List Entry). IsPrefixImage n es least c) (sym step.order) (prefix_longer n mid.order step.more least c image)

  opened : (least : ℕ) (c : List ℕ) → least ≤ settled_count mid → OpensToEither step.files.durable step.files.later c → IsPrefixImage n next.order least c
  opened least c few opens = longer least c (prefix_less n mid.order least (settled_count mid) c few (settled_prefix laws.images n mid step.files c step.keeps opens))

  each_more : Leaves d f (IsPrefixImage n next.order 0)
  each_more =
      Leaves-then d e f (IsPrefixImage n next.order 0) (Leaves-weaker d e (IsPrefixImage n mid.order 0) (IsPrefixImage n next.order 0) (longer 0) run.each)
      (Leaves-weaker e f (OpensToEither step.files.durable step.files.later) (IsPrefixImage n next.order 0) (λ c opens. opened 0 c (omega arith) opens) step.moments)

  -- an answer of before: what it stands for it stood for then
  stood : (a : Answered) (place : ℕ) → StandsSomewhere mid.order a → StandsInOrder next.order a.line a.reply place → StandsInOrder mid.order a.line a.reply place
  stood a place (inl outside) stands = absurd (no_place n next.order a.line place a.reply step.keeps_then.order_legal.legal outside stands)
  stood a place (inr (other, was)) stands =
      let same = one_place n next.order a.line place other a.reply step.keeps_then.order_legal.legal stands (stands_longer mid.order next.order step.more a.line other a.reply step.order was) in
      subst (λ (p : ℕ). StandsInOrder mid.order a.line a.reply p) (sym same) was

  older : (a : Answered) → HoldsSince e n mid.order a → StandsSomewhere mid.order a → IsSettledIn mid a → a.at ≤ e.clock → HoldsSince f n next.order a
  older a since stands settled timed place now c image = by (step.moments.before a.at c timed image)
    where
      was : StandsInOrder mid.order a.line a.reply place
      was = stood a place stands now

      by : e.ImageSince a.at c ⊎ OpensToEither step.files.durable step.files.later c → IsPrefixImage n next.order (place + 1) c
      by (inl before) = longer (place + 1) c (since place was c before)
      by (inr opens) = let less = settled place was in opened (place + 1) c (omega (arith, less)) opens

  newer : (a : Answered) → IsSettledIn next a → a.at ≡ f.clock → HoldsSince f n next.order a
  newer a settled timed place stands c image =
      let less = settled place stands in
      let now = disk.only_now c (subst (λ (t : ℕ). f.ImageSince t c) timed image) in
      prefix_less n next.order (place + 1) (settled_count next) c (omega (arith, less))
      (settled_prefix laws.images n next step.files_then c step.keeps_then (opens_kept laws.opens f next.store step.files_then.durable step.files_then.later step.kept_then c now))

  of_answers : (P : Answered → Type 0) → All P mid.answered → All P answers
  of_answers P all = All-behind P step.first answers (subst (λ (l : List Answered). All P l) step.among all)

  of_given : (P : Answered → Type 0) → All P next.answered → All P given
  of_given P all = All-behind P mid.answered given (subst (λ (l : List Answered). All P l) step.among_then all)

  since_more : All (HoldsSince f n next.order) (answers ++ given)
  since_more =
      let stands = of_answers (StandsSomewhere mid.order) step.keeps.kept.replies_stand.answers in
      let settled = of_answers (IsSettledIn mid) step.keeps.pending_prefix.settled in
      let settled_then = of_given (IsSettledIn next) step.keeps_then.pending_prefix.settled in
      All-append (HoldsSince f n next.order) answers given (λ k x lt. older (get_or answers k x) (run.since k x lt) (stands k x lt) (settled k x lt) (step.timed k x lt)) (λ k x lt. newer (get_or given k x) (settled_then k x lt) (step.timed_then k x lt))

  pub crashes_more : CrashesTo n d f next (answers ++ given)
  crashes_more = record { each = each_more; since = since_more }
