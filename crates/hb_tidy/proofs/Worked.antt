-- What happened to a machine, one thing after the other.
use Rattle.std.proofs.Common.{◌≡◌, inl, inr, ℕ, ◌+◌, List, [], ◌∷◌, ◌++◌, All, Result, Ok, Err, refl, sym, ap, ◌∙◌, subst, arith}
use Rattle.std.specs.Prelude.{MatchResult}
use Rattle.std.specs.Result.{IfOk}
use Rattle.std.proofs.lemmas.List.Elements.{All-append, All-nil}
use Rattle.hb_lemmas.proofs.Lists.{All-alone, All-behind, All-front, All-one}
use Rattle.hb_steps.specs.Machines.{Machine}
use Rattle.hb_core.specs.Counting.{CountsStay}
use Rattle.hb_core.specs.Counts.{no_counts}
use Rattle.hb_core.specs.Showing.{RunningCore}
use Rattle.hb_core.specs.declared.counts.TidyCounts.{TidyCounts}
use Rattle.hb_tidy.proofs.Facts.AddedCounts.{added_none, added_then, operations_then}
use Rattle.hb_tidy.specs.declared.stops.TidyStop.{TidyStop}
use Rattle.hb_tidy.specs.Counted.{added}
use Rattle.hb_tidy.specs.Working.{DropsAtEnd, DropsNone, Event, Happens, HasWorked, WorksOff, operations_in, steps_in}
use Rattle.hb_tidy.specs.Working.{Breaks, Comes, Steps, Waits}

works_then : (xs ys : List Event) (a b c : Machine) → WorksOff xs a b → WorksOff ys b c → WorksOff (xs ++ ys) a c
works_then [] ys a b c is two = subst (λ (x : Machine). WorksOff ys x c) is two
works_then (event ∷ rest) ys a b c (next, here, last) two = (next, here, works_then rest ys next b c last two)

steps_then : (xs ys : List Event) → steps_in (xs ++ ys) ≡ steps_in xs + steps_in ys
steps_then [] ys = omega arith
steps_then (Steps actor outcome op ∷ rest) ys = let more = steps_then rest ys in omega (arith, more)
steps_then (Waits job ∷ rest) ys = steps_then rest ys
steps_then (Comes id ∷ rest) ys = steps_then rest ys
steps_then (Breaks id why ∷ rest) ys = steps_then rest ys

drops_later : (xs ys : List Event) → All DropsNone xs → DropsAtEnd ys → DropsAtEnd (xs ++ ys)
drops_later [] ys none last = last
drops_later (event ∷ rest) ys none last = (inl ((All-one DropsNone event).0 (All-front DropsNone (event ∷ []) rest none)), drops_later rest ys (All-behind DropsNone (event ∷ []) rest none) last)

abbrev Drops : {T : Type 0} → Result T TidyStop → List Event → Type 0
Drops r events = MatchResult r (λ v. All DropsNone events) (λ stop. DropsAtEnd events)

drops_then : {T : Type 0} (r : Result T TidyStop) (xs ys : List Event) → All DropsNone xs → Drops r ys → Drops r (xs ++ ys)
drops_then (Ok v) xs ys none last = All-append DropsNone xs ys none last
drops_then (Err stop) xs ys none last = drops_later xs ys none last

counted_then : (first mid last n k both : ℕ) → mid ≡ first + n → last ≡ mid + k → both ≡ n + k → last ≡ first + both
counted_then first mid last n k both one two long = omega (arith, one, two, long)

did_then : (first mid last : TidyCounts) (xs ys : List Event) → mid ≡ added first (operations_in xs) → last ≡ added mid (operations_in ys) → last ≡ added first (operations_in (xs ++ ys))
did_then first mid last xs ys one two =
    two ∙ ap (λ (c : TidyCounts). added c (operations_in ys)) one ∙ added_then first (operations_in xs) (operations_in ys) ∙ ap (added first) (sym (operations_then xs ys))

pub worked_then : {T U : Type 0} (v : T) (r : Result U TidyStop) (old mid new : RunningCore) (a b c : Machine) → HasWorked (Ok v) old a mid b → HasWorked r mid b new c → HasWorked r old a new c
worked_then v r old mid new a b c one two = record {
  events = one.events ++ two.events;
  works = works_then one.events two.events a b c one.works two.works;
  counted = counted_then old.taken mid.taken new.taken (steps_in one.events) (steps_in two.events) (steps_in (one.events ++ two.events)) one.counted two.counted (steps_then one.events two.events);
  did = did_then old.done mid.done new.done one.events two.events one.did two.did;
  drops = drops_then r one.events two.events one.drops two.drops;
}

-- ---- one thing, or none

drops_none : {T : Type 0} (r : Result T TidyStop) → Drops r []
drops_none (Ok v) = All-nil DropsNone
drops_none (Err stop) = tt

drops_one : {T : Type 0} (r : Result T TidyStop) (event : Event) → IfOk r (λ v. DropsNone event) → Drops r (event ∷ [])
drops_one (Ok v) event none = All-alone DropsNone event none
drops_one (Err stop) event none = (inr refl, tt)

same_count : (old new : ℕ) → new ≡ old → new ≡ old + 0
same_count old new is = omega (arith, is)

pub worked_none : {T : Type 0} (r : Result T TidyStop) (old new : RunningCore) (m x : Machine) → CountsStay old new → x ≡ m → HasWorked r old m new x
worked_none r old new m x stay is = record { events = []; works = is; counted = same_count old.taken new.taken stay.taken; did = stay.done ∙ added_none old.done; drops = drops_none r }

pub worked_once : {T : Type 0} (r : Result T TidyStop) (old new : RunningCore) (m x : Machine) (event : Event) → new.taken ≡ old.taken + steps_in (event ∷ []) → new.done ≡ added old.done (operations_in (event ∷ [])) → Happens event m x → IfOk r (λ v. DropsNone event)
    → HasWorked r old m new x
worked_once r old new m x event taken done here none = record { events = event ∷ []; works = (x, here, refl); counted = taken; did = done; drops = drops_one r event none }

-- what drops no job, whatever the call says
pub none_dropped : {T : Type 0} (r : Result T TidyStop) (event : Event) → DropsNone event → IfOk r (λ v. DropsNone event)
none_dropped (Ok v) event none = none
none_dropped (Err stop) event none = tt

pub failed_drops : {T : Type 0} (r : Result T TidyStop) (stop : TidyStop) (event : Event) → r ≡ Err stop → IfOk r (λ v. DropsNone event)
failed_drops (Ok v) stop event is = let never = is in cc
failed_drops (Err other) stop event is = tt

-- and what took no step
taken_still : (old new : ℕ) (event : Event) → steps_in (event ∷ []) ≡ 0 → new ≡ old → new ≡ old + steps_in (event ∷ [])
taken_still old new event none same = omega (arith, none, same)

pub worked_still : {T : Type 0} (r : Result T TidyStop) (old new : RunningCore) (m x : Machine) (event : Event) → CountsStay old new → steps_in (event ∷ []) ≡ 0 → operations_in (event ∷ []) ≡ no_counts → Happens event m x → DropsNone event → HasWorked r old m new x
worked_still r old new m x event stay step op here none =
    worked_once r old new m x event (taken_still old.taken new.taken event step stay.taken) (stay.done ∙ added_none old.done ∙ ap (added old.done) (sym op)) here (none_dropped r event none)

-- ---- another answer

pub worked_as : {T U : Type 0} (v : T) (w : U) (old new : RunningCore) (m x : Machine) → HasWorked (Ok v) old m new x → HasWorked (Ok w) old m new x
worked_as v w old new m x one = record { events = one.events; works = one.works; counted = one.counted; did = one.did; drops = one.drops }

pub worked_err : {T U : Type 0} (stop : TidyStop) (old new : RunningCore) (m x : Machine) → HasWorked {T = T} (Err stop) old m new x → HasWorked {T = U} (Err stop) old m new x
worked_err stop old new m x one = record { events = one.events; works = one.works; counted = one.counted; did = one.did; drops = one.drops }
