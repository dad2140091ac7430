-- After a step the reply that is kept for a line that awaits its place is one of the order.
use Rattle.hb_steps.proofs.Orders.Names.{inl, inr, ℕ, subst, Reply, Outcome, MachineKeeps, StandsOutside, AwaitsNoneOutside, Machine, StepsTo, IsActor}
use Rattle.hb_steps.proofs.Facts.StepLines.{LinesAfter, lines_after}

module _ (m : Machine) (actor : ℕ) (new : Machine) (inside : AwaitsNoneOutside m) where
  -- what is awaited is a reply of the order
  awaited_inside : LinesAfter m actor new → AwaitsNoneOutside new
  awaited_inside (inl stays) other number place reply is = inside other number place reply (stays.awaits other number place reply is)
  awaited_inside (inr (inl joins)) other number place reply is = elim (joins.awaits other number place reply is) [
    | inl before ↦ inside other number place reply before
    | inr now ↦ subst (λ (r : Reply). ¬ (StandsOutside r)) now joins.inside
  ]
  awaited_inside (inr (inr (inl answered))) other number place reply is = inside other number place reply (answered.awaits other number place reply is)
  awaited_inside (inr (inr (inr settled))) other number place reply is = inside other number place reply (settled.awaits other number place reply is)

pub awaits_none_outside : (m : Machine) (actor : ℕ) (outcome : Outcome) (new : Machine) → IsActor actor → MachineKeeps m → StepsTo m actor outcome new → AwaitsNoneOutside new
awaits_none_outside m actor outcome new may keeps step = awaited_inside m actor new keeps.awaits_inside (lines_after m actor outcome new keeps.lines_in_sequence step)
