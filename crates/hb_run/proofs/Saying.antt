-- What a turn does to what the lock has.
use Rattle.std.proofs.Common.{◌≡◌, ◌⊎◌, ◌≢◌, ◌≤◌, ℕ, ◌-◌, Bool, false, List, length, Option, Some, None, inl, inr, sym, ap, subst, arith}
use Rattle.std.specs.List.{slice_get}
use Rattle.hb_outside.specs.Memory.{next_count}
use Rattle.hb_run.specs.Courses.{Course}
use Rattle.hb_run.specs.GoingOn.{GoesWell, Rests, Steps}
use Rattle.hb_run.specs.Turning.{turn_of}
use Rattle.hb_run.specs.UnderLock.{Board, MaySay, TakesOneTurn, board_of, is_time}
use Rattle.hb_run.specs.Waiting.{NotesNext, signs_of}
use Rattle.hb_run.specs.declared.turns.Next.{Next}
use Rattle.hb_run.specs.declared.turns.Next.TheVariants as nexts
use Rattle.hb_run.specs.declared.turns.Turn.{Turn}

-- what an actor does after a turn may be done then
may_say : (actor effects : ℕ) (free : Bool) (moves : List ℕ) (coming : Bool) (c : Course) (turn : Option Turn) (next : Next) → GoesWell actor effects free moves c turn next → MaySay actor (signs_of moves coming c) next
may_say actor effects free moves coming c turn nexts.Goes well = well.runs
may_say actor effects free moves coming c turn (nexts.Waits pause) well = well.1
may_say actor effects free moves coming c turn nexts.Ends (inl stopped) = inl stopped
may_say actor effects free moves coming c turn nexts.Ends (inr (inl session)) = inr (inl session.0)
may_say actor effects free moves coming c turn nexts.Ends (inr (inr (inl done))) = inr (inr (inl done))
may_say actor effects free moves coming c turn nexts.Ends (inr (inr (inr flushes))) = inr (inr (inr flushes))

module _ {X : Type 0} (seen : X → Course) (moves : X → List ℕ) (coming : X → Bool) (all : X → List Next) (actor : ℕ) (free : Bool) (old new : X) (next : Next) where
  abbrev board : X → Board
  board x = board_of (moves x) (coming x) (all x) (seen x)

  abbrev Turns : Type 0
  Turns = ((new ≡ old) × Rests actor free (moves old) (seen old) next) ⊎ Steps actor free (moves new) (seen old) (seen new) next

  abbrev Notes : Type 0
  Notes = ((new ≡ old) × (actor ≡ 19)) ⊎ NotesNext (actor - 1) next (all old) (all new)

  one : Turns → ((board new ≡ board old) × (actor ≡ 19) × (is_time (board old).signs ≡ false)) ⊎ ((board new).signs.taken ≡ next_count (board old).signs.taken)
  one (inl (same, (is, due, well))) = inl (ap board same, is, due)
  one (inr (outcome, turn, well)) = inr turn.counts.taken

  says : Turns → MaySay actor (board new).signs next
  says (inl (same, (is, due, well))) = subst (λ (x : X). MaySay actor (board x).signs next) (sym same) (may_say actor (length (seen old).core.order) free (moves old) (coming old) (seen old) None next well)
  says (inr (outcome, turn, well)) = may_say actor (length (seen old).core.order) free (moves new) (coming new) (seen new) (Some (turn_of outcome)) next well

  noted : Notes → actor ≤ 16 → slice_get (all new) (actor - 1) ≡ Some next
  noted (inl (same, is)) session = absurd (omega (arith, is, session))
  noted (inr notes) session = notes.here (omega (arith, session))

  others : Notes → (other : ℕ) → other ≢ actor - 1 → slice_get (all new) other ≡ slice_get (all old) other
  others (inl (same, is)) other off = ap (λ (x : X). slice_get (all x) other) same
  others (inr notes) other off = notes.others other off

  pub takes_one : Turns → Notes → TakesOneTurn actor next (board old) (board new)
  takes_one turn notes = record { one = one turn; says = says turn; noted = noted notes; others = others notes }
