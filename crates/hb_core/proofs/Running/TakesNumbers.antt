-- A row that needs a number takes it, and one that takes it needs it.
use Rattle.hb_core.proofs.Running.Names.{◌≡◌, ◌⊎◌, inl, inr, ℕ, ◌<◌, true, Option, Some, None, refl, sym, ap, ◌∙◌, subst, arith, same_Some, LivePage, PostPlan, LacksRoom, Job, Wanted, Activity, Deed, DoesPlan, GrowsFile, GrowsNot, MayGrow, NeedsNumber, takes_number, Machine, sight, IsAtHand, Row, each_op, each_row, Op, false≢true}
use Rattle.hb_terms.specs.declared.plans.PostPlan.TheVariants as plans
use Rattle.hb_activity.specs.declared.activities.Activity.TheVariants as at
use Rattle.hb_terms.proofs.Facts.Owing.{one_plan}

module _ (m : Machine) where
  taken : (deed other : Deed) → deed ≡ other → takes_number other.op ≡ true → takes_number deed.op ≡ true
  taken deed other is takes = ap (λ (d : Deed). takes_number d.op) is ∙ takes

  -- a page is free, so the row isn't the one of a full file
  none_left : m.store.meta.live < m.store.meta.pages → m.store.meta.live ≡ m.store.meta.pages → ⊥
  none_left lt same = absurd (omega (arith, lt, same))

  grown : (job : Job) (root here : LivePage) (deed : Deed) → m.store.meta.live < m.store.meta.pages → MayGrow (sight m) job root → root ≡ here → GrowsFile (sight m) job here deed ⊎ GrowsNot (sight m) job here deed → takes_number deed.op ≡ true
  grown job root here deed lt may same (inl row) = taken deed _ row.deed_is refl
  grown job root here deed lt may same (inr row) = elim row.why [
    | inl never ↦ absurd (never (subst (MayGrow (sight m) job) same may))
    | inr none ↦ absurd (none_left lt none)
  ]

  planned : (job : Job) (parent : ℕ) (page : LivePage) (plan : PostPlan) (deed : Deed) → m.store.meta.live < m.store.meta.pages → plan ≡ plans.SplitFirst → DoesPlan (sight m) job parent page plan deed → takes_number deed.op ≡ true
  planned job parent page plans.Nothing deed lt is does = cc
  planned job parent page (plans.Post at inner area) deed lt is does = cc
  planned job parent page plans.SplitFirst deed lt is (inl none) = absurd (none_left lt none.none_free)
  planned job parent page plans.SplitFirst deed lt is (inr row) = taken deed _ row.deed_is refl

  pub takes_what_it_needs : (activity : Activity) (wanted : Option Wanted) (deed : Deed) → NeedsNumber activity wanted m → Row activity wanted m deed → takes_number deed.op ≡ true
  takes_what_it_needs (at.SessionSplit line held) None deed lt (inl none) = absurd (none_left lt none.none_free)
  takes_what_it_needs (at.SessionSplit line held) None deed lt (inr row) = taken deed _ row.deed_is refl
  takes_what_it_needs (at.PosterGrow job) (Some wanted) deed (lt, root, hand, may) (page, here, row) =
      grown job root page deed lt may (same_Some root page (sym hand.live ∙ here.live)) row
  takes_what_it_needs (at.PosterAgain job parent) (Some wanted) deed (lt, child, hand, (over, live, lacks)) (page, here, row) =
      let same : child ≡ page = same_Some child page (sym hand.live ∙ here.live) in
      let above : over ≡ row.page = same_Some over row.page (sym live ∙ row.live) in
      let lacks_here = subst (λ (q : LivePage). LacksRoom q page job.point m.store.meta.icap) above (subst (λ (q : LivePage). LacksRoom over q job.point m.store.meta.icap) same lacks) in
      planned job parent row.page row.plan deed lt (one_plan row.page page job.point m.store.meta.icap row.plan plans.SplitFirst row.planned lacks_here) row.does_it
  takes_what_it_needs (at.SessionSplit line held) (Some wanted) deed needs (page, here, row) = absurd row
  takes_what_it_needs activity wanted deed needs row = absurd needs

-- and what takes a number needs it
module _ (m : Machine) (at_work : Activity) (wanted : Option Wanted) where
  abbrev Shown : Activity → Option Op → Type 0
  Shown activity op = at_work ≡ activity → takes_number op ≡ true → NeedsNumber activity wanted m

  here : (activity : Activity) (its : Wanted) (page : LivePage) → at_work ≡ activity → IsAtHand m at_work its page → IsAtHand m activity its page
  here activity its page is hand = subst (λ (a : Activity). IsAtHand m a its page) is hand

  pub needs_what_it_takes : (deed : Deed) → Row at_work wanted m deed → takes_number deed.op ≡ true → NeedsNumber at_work wanted m
  needs_what_it_takes deed row = each_row m (λ activity deed. Shown activity deed.op) at_work wanted deed
      (record {
        full = λ line held none is takes. absurd (false≢true takes);
        splits = λ line held page live leaves is takes. leaves.free;
        puts = λ line source fresh rec command half either page live is takes. absurd (false≢true takes);
      })
      (λ its page wants hand. each_op (sight m) its.page page Shown (record {
        none = λ activity is takes. absurd (false≢true takes);
        inserts = λ line held rest found rec command absent room is takes. absurd (false≢true takes);
        deletes = λ line held rest found p there command stands is takes. absurd (false≢true takes);
        grows = λ job fresh free_after may free next is takes. subst (λ (o : Option Wanted). NeedsNumber (at.PosterGrow job) o m) (sym wants) (free, page, here (at.PosterGrow job) its page is hand, may);
        posts = λ job parent above path inner area live plan is takes. absurd (false≢true takes);
        parts = λ job parent above live plan leaves is takes. subst (λ (o : Option Wanted). NeedsNumber (at.PosterAgain job parent) o m) (sym wants)
            (leaves.free, page, here (at.PosterAgain job parent) its page is hand, (above, live, plan));
        merges = λ job parent keep gone pair is takes. absurd (false≢true takes);
      }))
      row refl
