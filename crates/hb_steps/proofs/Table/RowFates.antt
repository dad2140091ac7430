-- What becomes of the job that a worker has in work: it stays in work, the row puts it back, or the row ends it. And what a row says:
-- it goes on, or the line of a split is `full`.
use Rattle.hb_steps.proofs.Table.Names.{◌≡◌, ◌⊎◌, inl, inr, ℕ, zero, suc, List, ◌∷◌, Option, Some, None, refl, sym, ap, ◌∙◌, subst, arith, [], Contains, same_Some, LivePage, Line, MergePlan, Job, Wanted, Activity, job_in_work, Deed, answers_now, after_try, children_of, one_behind, scans, tries, DoesMerge, after_keep, Machine, live_here, sight, Row, RowAt, Area}
use Rattle.std.proofs.Common.{◌+◌}
use Rattle.hb_lemmas.proofs.Lists.{first_member}
use Rattle.hb_set.specs.declared.commands.Reply.TheVariants as replies
use Rattle.hb_terms.specs.declared.merging.MergePlan.TheVariants as merging
use Rattle.hb_terms.specs.declared.plans.PostPlan.{PostPlan}
use Rattle.hb_terms.specs.declared.plans.PostPlan.TheVariants as plans
use Rattle.hb_activity.specs.declared.activities.Activity.TheVariants as at
use Rattle.hb_activity.specs.Deeds.{GoesOn}
use Rattle.hb_consol.specs.ConsolidatorRows.{HasMergePlan, first_one, pair_from}
use Rattle.hb_steps.specs.JobLaws.{EndsAt, IsLastPair}
use Rattle.hb_steps.specs.Rows.{RowAlone}
use Rattle.hb_frag.specs.Leaves.{first_named, siblings_of}
use Rattle.hb_poster.specs.PosterRows.{DoesPlan, after_look}
use Rattle.hb_terms.specs.Plans.{IsPlan}
use Rattle.hb_steps.proofs.Facts.EachRow.{each_row}

-- ---- what a row says, and what it takes from the queue

-- It takes no job, and goes on; or it answers the line of a split `full`, since no page is free.
pub record IsQuietRow (deed : Deed) : Type 0 where
  pub says : deed.says ≡ GoesOn
  pub takes : deed.takes ≡ None

pub record IsFullRow (m : Machine) (activity : Activity) (deed : Deed) : Type 0 where
  pub line : Line
  pub held : ℕ
  pub stands : activity ≡ at.SessionSplit line held
  pub none_free : m.store.meta.live ≡ m.store.meta.pages
  pub deed_is : deed ≡ answers_now line.number replies.Full

abbrev pub RowSaying : Machine → Activity → Deed → Type 0
RowSaying m activity deed = IsQuietRow deed ⊎ IsFullRow m activity deed

pub saying_of : (m : Machine) (activity : Activity) (wanted : Option Wanted) (deed : Deed) → Row activity wanted m deed → RowSaying m activity deed
saying_of m activity wanted deed row = each_row m (RowSaying m) activity wanted deed
    (record {
      full = λ line held none. inr (record { line = line; held = held; stands = refl; none_free = none; deed_is = refl });
      splits = λ line held page live leaves. inl (record { says = refl; takes = refl });
      puts = λ line source fresh rec command half either page live. inl (record { says = refl; takes = refl });
    })
    (λ its page wants hand. record {
      passes = λ line held rest found p goal leaf row. inl (record { says = refl; takes = refl });
      only_replies = λ line held rest found reply alone. inl (record { says = refl; takes = refl });
      inserts = λ line held rest found rec command absent room. inl (record { says = refl; takes = refl });
      lacks_room = λ line held rest found rec command level absent full. inl (record { says = refl; takes = refl });
      deletes = λ line held rest found p there command stands. inl (record { says = refl; takes = refl });
      searches = λ line held rest found area others more row. inl (record { says = refl; takes = refl });
      grows = λ job fresh free_after may free next. inl (record { says = refl; takes = refl });
      ends = λ activity job kind hand. inl (record { says = refl; takes = refl });
      arrives = λ job held child area level leaf. inl (record { says = refl; takes = refl });
      walks = λ job held leaf farther row. inl (record { says = refl; takes = refl });
      looks = λ job parent. inl (record { says = refl; takes = refl });
      promotes = λ job parent. inl (record { says = refl; takes = refl });
      posts = λ job parent above path inner area live plan. inl (record { says = refl; takes = refl });
      parts = λ job parent above live plan leaves. inl (record { says = refl; takes = refl });
      walks_to_merge = λ job held leaf farther row. inl (record { says = refl; takes = refl });
      merges = λ activity deed kind row stays. inl (record { says = ap (λ (d : Deed). d.says) stays.is; takes = ap (λ (d : Deed). d.takes) stays.is });
      merges_two = λ job parent keep gone pair. inl (record { says = refl; takes = refl });
    }) row

-- ---- what becomes of the job in work

-- The row of a job in work: the page that the step latched, and whether the job stays in work, is put back, or ends there.
abbrev pub JobFate : Machine → Activity → Job → LivePage → Deed → Type 0
JobFate m activity job page deed = (job_in_work deed.next ≡ Some job) ⊎ Contains deed.adds job ⊎ EndsAt activity m page

second_of : (first job : Job) (rest : List Job) → Contains (first ∷ job ∷ rest) job
second_of first job rest = (suc zero, omega arith, refl)

module _ (m : Machine) (page : LivePage) where
  stays : (activity : Activity) (job : Job) (deed other : Deed) → deed ≡ other → job_in_work other.next ≡ Some job → JobFate m activity job page deed
  stays activity job deed other is work = inl (ap (λ (d : Deed). job_in_work d.next) is ∙ work)

  own_job : (activity : Activity) (own job : Job) (deed : Deed) → Some own ≡ Some job → JobFate m activity own page deed → JobFate m activity job page deed
  own_job activity own job deed work fate = subst (λ (j : Job). JobFate m activity j page deed) (same_Some own job work) fate

  back : (activity : Activity) (job : Job) (deed other : Deed) → deed ≡ other → Contains other.adds job → JobFate m activity job page deed
  back activity job deed other is waits = inr (inl (subst (λ (d : Deed). Contains d.adds job) (sym is) waits))

  fate_look : (job : Job) (parent : ℕ) (above : LivePage) (live : live_here m.store parent ≡ Some above) (plan : PostPlan) (planned : IsPlan above page job.point m.store.meta.icap plan) (deed : Deed) → deed ≡ after_look job parent plan → JobFate m (at.PosterChild job parent) job page deed
  fate_look job parent above live plans.Nothing planned deed is = inr (inr (above, live, planned))
  fate_look job parent above live (plans.Post way inner area) planned deed is = stays (at.PosterChild job parent) job deed _ is refl
  fate_look job parent above live plans.SplitFirst planned deed is = stays (at.PosterChild job parent) job deed _ is refl

  fate_plan : (job : Job) (parent : ℕ) (above : LivePage) (live : live_here m.store parent ≡ Some above) (plan : PostPlan) (planned : IsPlan above page job.point m.store.meta.icap plan) (deed : Deed) → DoesPlan (sight m) job parent above plan deed → JobFate m (at.PosterAgain job parent) job page deed
  fate_plan job parent above live plans.Nothing planned deed is = inr (inr (inl (above, live, planned)))
  fate_plan job parent above live (plans.Post way inner area) planned deed is = back (at.PosterAgain job parent) job deed _ is (first_member job [])
  fate_plan job parent above live plans.SplitFirst planned deed (inl row) = inr (inr (inr ((above, live, planned), row.none_free)))
  fate_plan job parent above live plans.SplitFirst planned deed (inr row) = back (at.PosterAgain job parent) job deed _ row.deed_is (second_of _ job [])

  -- the next child of a parent
  fate_scans : (activity : Activity) (job : Job) (parent : ℕ) (next : Option ℕ) (deed : Deed) → (next ≡ None → EndsAt activity m page) → deed ≡ scans job parent next → JobFate m activity job page deed
  fate_scans activity job parent None deed ends is = inr (inr (ends refl))
  fate_scans activity job parent (Some child) deed ends is = stays activity job deed _ is refl

  -- the next pair
  fate_tries : (activity : Activity) (job : Job) (parent : ℕ) (above : LivePage) (keep : ℕ) (pair : Option (ℕ × ℕ)) (deed : Deed) → (IsLastPair above keep pair → EndsAt activity m page) → deed ≡ tries job parent above keep pair → JobFate m activity job page deed
  fate_tries activity job parent above keep None deed ends is = fate_scans activity job parent (one_behind keep (children_of above)) deed (λ none. ends (refl, none)) is
  fate_tries activity job parent above keep (Some (gone, leaf)) deed ends is = stays activity job deed _ is refl

  -- a pair that was tried
  fate_tried : (job : Job) (parent keep gone leaf : ℕ) (has : HasMergePlan (sight m) parent keep gone page) (plan : MergePlan) → has.plan ≡ plan → (deed : Deed) → deed ≡ after_try job parent keep gone leaf has.above has.kept plan → JobFate m (at.ConsolidatorTry job parent keep gone leaf) job page deed
  fate_tried job parent keep gone leaf has merging.Merge plan_is deed is = stays (at.ConsolidatorTry job parent keep gone leaf) job deed _ is refl
  fate_tried job parent keep gone leaf has merging.NotContained plan_is deed is =
      fate_tries (at.ConsolidatorTry job parent keep gone leaf) job parent has.above keep (pair_from has.above has.kept (leaf + 1)) deed
      (λ last. ((has, λ merges. let never : merging.NotContained ≡ merging.Merge = sym plan_is ∙ merges in cc), last)) is
  fate_tried job parent keep gone leaf has merging.ManyParents plan_is deed is =
      fate_tries (at.ConsolidatorTry job parent keep gone leaf) job parent has.above keep (pair_from has.above has.kept (leaf + 1)) deed
      (λ last. ((has, λ merges. let never : merging.ManyParents ≡ merging.Merge = sym plan_is ∙ merges in cc), last)) is
  fate_tried job parent keep gone leaf has merging.TooHeavy plan_is deed is =
      fate_tries (at.ConsolidatorTry job parent keep gone leaf) job parent has.above keep (pair_from has.above has.kept (leaf + 1)) deed
      (λ last. ((has, λ merges. let never : merging.TooHeavy ≡ merging.Merge = sym plan_is ∙ merges in cc), last)) is

  -- a page to keep
  fate_kept : (job : Job) (parent keep gone : ℕ) (area : Option Area) → first_named gone (siblings_of page) ≡ area → (deed : Deed) → deed ≡ after_keep job parent keep gone area → JobFate m (at.ConsolidatorKeep job parent keep gone) job page deed
  fate_kept job parent keep gone None named deed is = inr (inr named)
  fate_kept job parent keep gone (Some area) named deed is = stays (at.ConsolidatorKeep job parent keep gone) job deed _ is refl

  -- a pair that was decided on
  fate_decided : (job : Job) (parent keep gone : ℕ) (has : HasMergePlan (sight m) parent keep gone page) (plan : MergePlan) → has.plan ≡ plan → (deed : Deed) → DoesMerge (sight m) job parent keep gone has.above plan deed → JobFate m (at.ConsolidatorDecide job parent keep gone) job page deed
  fate_decided job parent keep gone has merging.Merge plan_is deed (inl row) = back (at.ConsolidatorDecide job parent keep gone) job deed _ row.deed_is (first_member job _)
  fate_decided job parent keep gone has merging.Merge plan_is deed (inr row) = inr (inr (inr row.none_live))
  fate_decided job parent keep gone has merging.NotContained plan_is deed is = inr (inr (inl (has, λ merges. let never : merging.NotContained ≡ merging.Merge = sym plan_is ∙ merges in cc)))
  fate_decided job parent keep gone has merging.ManyParents plan_is deed is = inr (inr (inl (has, λ merges. let never : merging.ManyParents ≡ merging.Merge = sym plan_is ∙ merges in cc)))
  fate_decided job parent keep gone has merging.TooHeavy plan_is deed is = inr (inr (inl (has, λ merges. let never : merging.TooHeavy ≡ merging.Merge = sym plan_is ∙ merges in cc)))

  fate_at : (activity : Activity) (job : Job) (id : ℕ) (deed : Deed) → job_in_work activity ≡ Some job → RowAt activity (sight m) id page deed → JobFate m activity job page deed
  fate_at (at.PosterGrow own) job id deed work (inl row) = back (at.PosterGrow own) job deed _ row.deed_is (subst (λ (j : Job). Contains (own ∷ []) j) (same_Some own job work) (first_member own []))
  fate_at (at.PosterGrow own) job id deed work (inr row) = inr (inr row.why)
  fate_at (at.PosterWalk own held) job id deed work (inl row) = stays (at.PosterWalk own held) job deed _ row.deed_is work
  fate_at (at.PosterWalk own held) job id deed work (inr row) = stays (at.PosterWalk own held) job deed _ row.passes.deed_is work
  fate_at (at.PosterChild own parent) job id deed work row = own_job (at.PosterChild own parent) own job deed work (fate_look own parent row.page row.live row.plan row.planned deed row.deed_is)
  fate_at (at.PosterPromote own parent) job id deed work row = stays (at.PosterPromote own parent) job deed _ row work
  fate_at (at.PosterAgain own parent) job id deed work row = own_job (at.PosterAgain own parent) own job deed work (fate_plan own parent row.page row.live row.plan row.planned deed row.does_it)
  fate_at (at.ConsolidatorWalk own held) job id deed work (inl row) =
      own_job (at.ConsolidatorWalk own held) own job deed work (fate_scans (at.ConsolidatorWalk own held) own id (first_one (children_of page)) deed (λ none. none) row.deed_is)
  fate_at (at.ConsolidatorWalk own held) job id deed work (inr row) = stays (at.ConsolidatorWalk own held) job deed _ row.passes.deed_is work
  fate_at (at.ConsolidatorScan own parent child) job id deed work row =
      own_job (at.ConsolidatorScan own parent child) own job deed work
      (fate_tries (at.ConsolidatorScan own parent child) own parent row.above child (pair_from row.above page 0) deed (λ last. (row.above, row.live, last)) row.deed_is)
  fate_at (at.ConsolidatorTry own parent keep gone leaf) job id deed work row =
      own_job (at.ConsolidatorTry own parent keep gone leaf) own job deed work (fate_tried own parent keep gone leaf row.has row.has.plan refl deed row.deed_is)
  fate_at (at.ConsolidatorPromote own parent keep gone) job id deed work row = stays (at.ConsolidatorPromote own parent keep gone) job deed _ row work
  fate_at (at.ConsolidatorKeep own parent keep gone) job id deed work row =
      own_job (at.ConsolidatorKeep own parent keep gone) own job deed work (fate_kept own parent keep gone (first_named gone (siblings_of page)) refl deed row)
  fate_at (at.ConsolidatorDecide own parent keep gone) job id deed work row =
      own_job (at.ConsolidatorDecide own parent keep gone) own job deed work (fate_decided own parent keep gone row.has row.has.plan refl deed row.does_it)
  fate_at (at.SessionWalk line held rest found) job id deed work row = let never : None ≡ Some job = work in cc
  fate_at activity job id deed work row = absurd row

-- The same at the page that the step wants.
pub record HasFate (m : Machine) (activity : Activity) (wanted : Option Wanted) (job : Job) (deed : Deed) : Type 0 where
  pub its : Wanted
  pub wants : wanted ≡ Some its
  pub page : LivePage
  pub live : live_here m.store its.page ≡ Some page
  pub fate : JobFate m activity job page deed

-- a worker wants a page
no_row : (m : Machine) (activity : Activity) (job : Job) (deed : Deed) → job_in_work activity ≡ Some job → RowAlone activity (sight m) deed → ⊥
no_row m (at.SessionSplit line held) job deed work row = let never : None ≡ Some job = work in cc
no_row m (at.SessionPut line source fresh) job deed work row = let never : None ≡ Some job = work in cc
no_row m activity job deed work row = row

pub fate_of_job : (m : Machine) (activity : Activity) (wanted : Option Wanted) (job : Job) (deed : Deed) → job_in_work activity ≡ Some job → Row activity wanted m deed → HasFate m activity wanted job deed
fate_of_job m activity None job deed work row = absurd (no_row m activity job deed work row)
fate_of_job m activity (Some wanted) job deed work (page, hand, row) = record { its = wanted; wants = refl; page = page; live = hand.live; fate = fate_at m page activity job wanted.page deed work row }
