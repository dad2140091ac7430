-- What a step makes of the counts of a core, by the operation that it did.
use Rattle.std.proofs.Common.{◌≡◌, ◌⊎◌, inl, inr, ℕ, ◌+◌, ◌-◌, ◌^◌, ◌<◌, ◌≤◌, [], ◌∷◌, length, Option, Some, None, sym, ap, ◌∙◌, subst, arith}
use Rattle.hb_ops.specs.declared.operations.Op.{Op}
use Rattle.hb_ops.specs.declared.operations.Op.TheVariants as ops
use Rattle.hb_core.specs.Counting.{CountsFlush, CountsOp, CountsStep, CountsWithin, DidOp}
use Rattle.hb_core.specs.Counts.{counted}
use Rattle.hb_core.specs.Showing.{RunningCore}
use Rattle.hb_outside.specs.Memory.{next_count}
use Rattle.hb_steps.specs.declared.outcomes.Outcome.{Outcome}
use Rattle.hb_tidy.proofs.Facts.AddedCounts.{added_none, plus_none, same_counts}
use Rattle.hb_tidy.proofs.Facts.Grown.{as_event, by_op}
use Rattle.hb_tidy.proofs.MergesOnly.{SplitsNone}
use Rattle.hb_tidy.specs.Counted.{added}
use Rattle.hb_tidy.specs.Working.{DidInStep, Event, operations_in}
use Rattle.hb_tidy.specs.Working.{Steps}

pub one_taken : (taken next : ℕ) → taken < 2 ^ 64 - 1 → next ≡ next_count taken → next ≡ taken + 1
one_taken taken next left is = omega (arith, left, is)

one_up : (n taken : ℕ) → n ≤ taken → taken < 2 ^ 64 - 1 → next_count n ≡ n + 1
one_up n taken low left = omega (arith, low, left)

-- a step that did this operation, or none, and is counted so
pub record DidOnce (event : Event) (op : Option Op) (old new : RunningCore) : Type 0 where
  pub did : DidInStep op (length old.order) old.store new.store
  pub counts : new.done ≡ added old.done (operations_in (event ∷ []))

module _ (old new : RunningCore) (within : CountsWithin old) (left : old.taken < 2 ^ 64 - 1) where
  -- an operation is counted as one more of its kind, where it is no part that somebody else than the poster let leave a page
  one_more : (actor : ℕ) (op : Op) → (actor ≡ 17) ⊎ SplitsNone op → counted actor op old.done ≡ added old.done (by_op op)
  one_more actor (ops.Put page rec) who = added_none old.done
  one_more actor (ops.Del page point) who = added_none old.done
  one_more actor (ops.Extract source fresh path cuts free_after) (inl is) = subst (λ (n : ℕ). counted n (ops.Extract source fresh path cuts free_after) old.done ≡ added old.done (by_op (ops.Extract source fresh path cuts free_after))) (sym is) split
    where
      split : record old.done { split = next_count old.done.split } ≡ added old.done (by_op (ops.Extract source fresh path cuts free_after))
      split = same_counts _ _ (plus_none old.done.grown) (plus_none old.done.posted) (one_up old.done.split old.taken within.split left) (plus_none old.done.merged)
  one_more actor (ops.Extract source fresh path cuts free_after) (inr none) = absurd none
  one_more actor (ops.Post parent way inner area) who = same_counts _ _ (plus_none old.done.grown) (one_up old.done.posted old.taken within.posted left) (plus_none old.done.split) (plus_none old.done.merged)
  one_more actor (ops.Merge parent keep gone) who = same_counts _ _ (plus_none old.done.grown) (plus_none old.done.posted) (plus_none old.done.split) (one_up old.done.merged old.taken within.merged left)
  one_more actor (ops.Grow fresh free_after) who = same_counts _ _ (one_up old.done.grown old.taken within.grown left) (plus_none old.done.posted) (plus_none old.done.split) (plus_none old.done.merged)

  pub step_did : (actor : ℕ) (outcome : Outcome) → ((op : Op) → DidOp op (length old.order) old.store new.store → (actor ≡ 17) ⊎ SplitsNone op) → CountsStep actor old new → (op : Option Op) × DidOnce (Steps actor outcome op) op old new
  step_did actor outcome who step = by step.done
    where
      by : CountsOp actor old new → (op : Option Op) × DidOnce (Steps actor outcome op) op old new
      by (inl (none, done)) = (None, record { did = none; counts = done ∙ added_none old.done })
      by (inr (op, did, done)) = (Some op, record { did = did; counts = done ∙ one_more actor op (who op did) ∙ ap (added old.done) (sym (as_event actor outcome op)) })

pub flush_did : (actor : ℕ) (outcome : Outcome) (old new : RunningCore) → CountsFlush old new → DidOnce (Steps actor outcome None) None old new
flush_did actor outcome old new flush = record { did = flush.no_op; counts = flush.done ∙ added_none old.done }
