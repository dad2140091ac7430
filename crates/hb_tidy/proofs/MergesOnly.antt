-- Who merges lets no part leave a page.
use Rattle.std.proofs.Common.{◌≡◌, inl, inr, ℕ, ◌+◌, ◌≤◌, Option, Some, None, refl, sym, ap, ◌∙◌, subst, arith}
use Rattle.hb_activity.specs.Classes.{Consolidators, class_of}
use Rattle.hb_activity.specs.Deeds.{Deed}
use Rattle.hb_activity.specs.declared.activities.Activity.{Activity}
use Rattle.hb_activity.specs.declared.wanting.Wanted.{Wanted}
use Rattle.hb_steps.proofs.Facts.EachRow.{each_op, each_row}
use Rattle.hb_steps.proofs.Facts.GivenUpLaws.{gives_up_nothing}
use Rattle.hb_steps.proofs.Facts.StepKinds.{FlushesMore, each_kind, ready_kind}
use Rattle.hb_core.specs.Counting.{DidOp}
use Rattle.hb_steps.specs.Forcing.{FailsToWrite, ForcesAll}
use Rattle.hb_steps.specs.Machines.{Machine, sight, with_disk}
use Rattle.hb_steps.specs.Performing.{MayDo, Performs}
use Rattle.hb_steps.specs.Rows.{Row}
use Rattle.hb_steps.specs.Steps.{StepsTo, Works}
use Rattle.hb_steps.specs.declared.outcomes.Outcome.{Outcome}
use Rattle.hb_steps.specs.declared.outcomes.Outcome.TheVariants as outcomes
use Rattle.hb_layout.specs.declared.meta.Meta.{Meta}
use Rattle.hb_ops.specs.declared.operations.Op.{Op}
use Rattle.hb_ops.specs.declared.operations.Op.TheVariants as ops
use Rattle.hb_store.specs.States.{StoreState}
use Rattle.hb_tidy.proofs.Facts.Grown.{grown_did, grown_done}

abbrev MergesOnly : Option Op → Type 0
MergesOnly None = Unit {0}
MergesOnly (Some (ops.Merge parent keep gone)) = Unit {0}
MergesOnly (Some other) = ⊥

abbrev ByMerger : Activity → Option Op → Type 0
ByMerger activity op = class_of activity ≡ Consolidators → MergesOnly op

row_merges : (now : Machine) (activity : Activity) (wanted : Option Wanted) (deed : Deed) → Row activity wanted now deed → ByMerger activity deed.op
row_merges now activity wanted deed row = each_row now (λ (a : Activity) (d : Deed). ByMerger a d.op) activity wanted deed
    (record {
      full = λ line held none kind. tt;
      splits = λ line held page live leaves kind. cc (kind);
      puts = λ line source fresh rec command half either page live kind. cc (kind);
    })
    (λ its page wants hand. each_op (sight now) its.page page ByMerger (record {
      none = λ a kind. tt;
      inserts = λ line held rest found rec command absent room kind. cc (kind);
      deletes = λ line held rest found p there command stands kind. cc (kind);
      grows = λ job fresh free_after may free next kind. cc (kind);
      posts = λ job parent above path inner area live plan kind. cc (kind);
      parts = λ job parent above live plan leaves kind. cc (kind);
      merges = λ job parent keep gone pair kind. tt;
    })) row

-- an operation by which no part leaves a page
abbrev pub SplitsNone : Op → Type 0
SplitsNone (ops.Extract source fresh path cuts free_after) = ⊥
SplitsNone other = Unit {0}

-- so no more pages are in use behind its step
abbrev NoMore : Machine → Machine → Type 0
NoMore m new = new.store.meta.live ≤ m.store.meta.live

still : (m new : Machine) → new.store.meta ≡ m.store.meta → NoMore m new
still m new same = let live = ap (λ (x : Meta). x.live) same in omega (arith, live)

by_deed : (op : Option Op) (mark : ℕ) (fetched new : StoreState) → MergesOnly op → MayDo op mark fetched new → new.meta.live ≤ fetched.meta.live
by_deed None mark fetched new only does = let live = ap (λ (x : StoreState). x.meta.live) does in omega (arith, live)
by_deed (Some (ops.Merge parent keep gone)) mark fetched new only does = let less : new.meta.live + 1 ≡ fetched.meta.live + 0 = (grown_done (ops.Merge parent keep gone) mark fetched new does).live in omega (arith, less)
by_deed (Some (ops.Put page rec)) mark fetched new only does = absurd only
by_deed (Some (ops.Del page point)) mark fetched new only does = absurd only
by_deed (Some (ops.Extract source fresh path cuts free_after)) mark fetched new only does = absurd only
by_deed (Some (ops.Post parent way inner area)) mark fetched new only does = absurd only
by_deed (Some (ops.Grow fresh free_after)) mark fetched new only does = absurd only

module _ (m : Machine) (actor : ℕ) (outcome : Outcome) (new : Machine) (kind : class_of (m.activity actor) ≡ Consolidators) where
  fails : {most : ℕ} → FailsToWrite m most outcome new → NoMore m new
  fails failed = still m new (ap (λ (x : Machine). x.store.meta) failed.stops)

  forces : (said : Outcome) → ForcesAll m said outcome new → NoMore m new
  forces said (inl (says, is)) = still m new (ap (λ (x : Machine). x.store.meta) is)
  forces said (inr badly) = fails badly.1

  more : FlushesMore m outcome new → NoMore m new
  more (none, inl (page, oldest, due, plain, well)) = still m new (ap (λ (x : Machine). x.store.meta) well.leaves)
  more (none, inr (inl (old, due, plain, turns))) = still m new (ap (λ (x : Machine). x.store.meta) turns.leaves)
  more (none, inr (inr (calls, left, failed))) = fails failed

  performed : (fetched : StoreState) (deed : Deed) → fetched.meta ≡ m.store.meta → MergesOnly deed.op → Performs m fetched actor deed outcome new → NoMore m new
  performed fetched deed meta only performs =
      let less = by_deed deed.op _ fetched new.store only performs.store in
      let same = ap (λ (x : Meta). x.live) meta in
      omega (arith, less, same)

  none_only : (op : Option Op) → op ≡ None → MergesOnly op
  none_only op none = subst MergesOnly (sym none) tt

  worked : Works m actor outcome new → NoMore m new
  worked (inl (by, way, so)) = still m new (ap (λ (x : Machine). x.store.meta) so.1)
  worked (inr (inl (free, unready, inl (waits, force)))) = forces outcomes.Helped force
  worked (inr (inl (free, unready, inr (none, rest)))) = ready_kind m outcome new (NoMore m new) none more rest
  worked (inr (inr (free, ready, inl acts))) = performed acts.fetched acts.deed (ap (λ (s : StoreState). s.meta) acts.brings.rest) (row_merges (with_disk acts.fetched m.files m.clock m) (m.activity actor) _ acts.deed acts.row kind) acts.performs
  worked (inr (inr (free, ready, inr (inl gives)))) = performed gives.fetched _ (ap (λ (s : StoreState). s.meta) gives.brings.rest) (none_only _ (gives_up_nothing gives.why (m.activity actor))) gives.performs
  worked (inr (inr (free, ready, inr (inr bad)))) = still m new (ap (λ (x : Machine). x.store.meta) bad.stops ∙ ap (λ (s : StoreState). s.meta) bad.brings.rest)

  makes_none : StepsTo m actor outcome new → NoMore m new
  makes_none step =
      each_kind m actor outcome new (NoMore m new)
      (λ said quiet so. still m new (ap (λ (x : Machine). x.store.meta) so.1))
      (λ said quiet force. forces said force)
      more
      (λ deed outright performs. performed m.store deed refl (none_only deed.op outright.op) performs)
      worked
      step

  -- a part that left would be a page more
  pub merger_splits_none : StepsTo m actor outcome new → (op : Op) (mark : ℕ) → DidOp op mark m.store new.store → SplitsNone op
  merger_splits_none step (ops.Extract source fresh path cuts free_after) mark did =
      let more : new.store.meta.live + 0 ≡ m.store.meta.live + (0 + 1) = (grown_did (ops.Extract source fresh path cuts free_after) mark m.store new.store did).live in
      let none : new.store.meta.live ≤ m.store.meta.live = makes_none step in
      omega (arith, more, none)
  merger_splits_none step (ops.Put page rec) mark did = tt
  merger_splits_none step (ops.Del page point) mark did = tt
  merger_splits_none step (ops.Post parent way inner area) mark did = tt
  merger_splits_none step (ops.Merge parent keep gone) mark did = tt
  merger_splits_none step (ops.Grow fresh free_after) mark did = tt
