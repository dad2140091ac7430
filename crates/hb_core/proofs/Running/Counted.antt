-- What the private calls of a step make of the counts of a core.
use Rattle.hb_core.proofs.Running.Names.{◌≡◌, ◌⊎◌, inl, inr, ℕ, List, [], length, Option, Some, None, IfOk, Result, Ok, Err, refl, sym, ap, ◌∙◌, subst, Activity, Deed, Op, KeepsAllButPages, MayFetch, forced_state, stopped_state, StoreState, Outcome, CountsNoOp, counted_by, FailsToWrite, FlushesOnce, ForcesAll, Machine, DoesDeed, with_standing, MayDo, RunningCore, TakesNextLine, TakesNextMerging, TakesNextPosting}
use Rattle.std.proofs.Common.{IfErr}
use Rattle.hb_core.specs.Counting.{CountsOp, CountsPart, CountsStep, DidOp, DoesNoOp, OnlyBrings}
use Rattle.hb_core.specs.Counts.{counted}
use Rattle.hb_outside.specs.Memory.{next_count}
use Rattle.hb_steps.specs.Performing.{DoesOp}
use Rattle.hb_core.proofs.Running.StepTaken.{with_taken}

-- ---- stores of which no operation made anything

pub pages_may : (id : ℕ) (old new : StoreState) → MayFetch id old new → KeepsAllButPages old new
pages_may id old new (inl same) = subst (KeepsAllButPages old) (sym same) refl
pages_may id old new (inr fetched) = fetched.rest

pub no_op_still : (st : StoreState) → DoesNoOp st st
no_op_still st = record { meta = refl; groups = inl refl }

no_op_as : (old new : StoreState) → new ≡ old → DoesNoOp old new
no_op_as old new is = subst (DoesNoOp old) (sym is) (no_op_still old)

no_op_by_pages : (old new : StoreState) → KeepsAllButPages old new → DoesNoOp old new
no_op_by_pages old new pages = record { meta = ap (λ (s : StoreState). s.meta) pages; groups = inl (ap (λ (s : StoreState). s.log.groups) pages) }

pages_then_no_op : (a b c : StoreState) → KeepsAllButPages a b → DoesNoOp b c → DoesNoOp a c
pages_then_no_op a b c pages none = record { meta = none.meta ∙ ap (λ (s : StoreState). s.meta) pages; groups = by none.groups }
  where
    by : (c.log.groups ≡ b.log.groups) ⊎ (c.log.groups ≡ []) → (c.log.groups ≡ a.log.groups) ⊎ (c.log.groups ≡ [])
    by (inl same) = inl (same ∙ ap (λ (s : StoreState). s.log.groups) pages)
    by (inr forced) = inr forced

-- ---- a flush

fails_no_op : (m : Machine) {most : ℕ} (outcome : Outcome) (new : Machine) → FailsToWrite m most outcome new → DoesNoOp m.store new.store
fails_no_op m outcome new fails = subst (λ (x : Machine). DoesNoOp m.store x.store) (sym fails.stops) (record { meta = refl; groups = inl refl })

pub force_no_op : (m : Machine) (done outcome : Outcome) (new : Machine) → ForcesAll m done outcome new → DoesNoOp m.store new.store
force_no_op m done outcome new (inl (says, is)) = subst (λ (x : Machine). DoesNoOp m.store x.store) (sym is) (record { meta = refl; groups = inr refl })
force_no_op m done outcome new (inr (some, fails)) = fails_no_op m outcome new fails

pub flush_no_op : (m : Machine) (due : Outcome) (nothing : Type 0) (outcome : Outcome) (new : Machine) → (nothing → new ≡ m) → FlushesOnce m due nothing outcome new → DoesNoOp m.store new.store
flush_no_op m due nothing outcome new same (inl (some, force)) = force_no_op m due outcome new force
flush_no_op m due nothing outcome new same (inr (none, inl (page, oldest, inl writes))) = subst (λ (x : Machine). DoesNoOp m.store x.store) (sym writes.leaves) (record { meta = refl; groups = inl refl })
flush_no_op m due nothing outcome new same (inr (none, inl (page, oldest, inr fails))) = fails_no_op m outcome new fails
flush_no_op m due nothing outcome new same (inr (none, inr (inl (old, inl turns)))) = subst (λ (x : Machine). DoesNoOp m.store x.store) (sym turns.leaves) (record { meta = refl; groups = inr refl })
flush_no_op m due nothing outcome new same (inr (none, inr (inl (old, inr fails)))) = fails_no_op m outcome new fails
flush_no_op m due nothing outcome new same (inr (none, inr (inr (flushed, rest)))) = no_op_as m.store new.store (ap (λ (x : Machine). x.store) (same rest))

-- said of stores
pub forced_no_op : (old new : StoreState) → new ≡ forced_state old → DoesNoOp old new
forced_no_op old new is = subst (DoesNoOp old) (sym is) (record { meta = refl; groups = inr refl })

pub stopped_no_op : (old new : StoreState) → new ≡ stopped_state old → DoesNoOp old new
stopped_no_op old new is = subst (DoesNoOp old) (sym is) (record { meta = refl; groups = inl refl })

-- of a core that shows the machines
pub no_op_shown : (a b c d : StoreState) → a ≡ c → b ≡ d → DoesNoOp a b → DoesNoOp c d
no_op_shown a b c d first second none = subst (λ (x : StoreState). DoesNoOp x d) first (subst (DoesNoOp a) second none)

-- ---- a core's parts

pub stays_part : (actor : ℕ) (old new : RunningCore) → CountsNoOp old new → CountsPart actor old new
stays_part actor old new none = record { taken = none.stay.taken; done = inl (none.no_op, none.stay.done) }

pub brings_part : (actor : ℕ) (old new : RunningCore) → OnlyBrings old new → CountsPart actor old new
brings_part actor old new brings = record {
  taken = ap (λ (s : RunningCore). s.taken) brings.rest;
  done = inl (no_op_by_pages old.store new.store brings.pages, ap (λ (s : RunningCore). s.done) brings.rest);
}

-- pages that came, and what is done then
pub brings_then : (actor : ℕ) (old mid new : RunningCore) → OnlyBrings old mid → CountsPart actor mid new → CountsPart actor old new
brings_then actor old mid new brings part = record { taken = part.taken ∙ ap (λ (s : RunningCore). s.taken) brings.rest; done = by part.done }
  where
    same_done : mid.done ≡ old.done
    same_done = ap (λ (s : RunningCore). s.done) brings.rest

    same_order : length mid.order ≡ length old.order
    same_order = ap (λ (s : RunningCore). length s.order) brings.rest

    before : (op : Op) → DidOp op (length mid.order) mid.store new.store → DidOp op (length old.order) old.store new.store
    before op did = record {
      came = did.came;
      rest = did.rest ∙ ap (λ (s : StoreState). record s { pages = did.came.pages }) brings.pages;
      does = subst (λ (n : ℕ). DoesOp op n did.came new.store) same_order did.does;
    }

    by : CountsOp actor mid new → CountsOp actor old new
    by (inl (none, done)) = inl (pages_then_no_op old.store mid.store new.store brings.pages none, done ∙ same_done)
    by (inr (op, did, done)) = inr (op, before op did, done ∙ ap (counted actor op) same_done)

-- what leaves store and counts alone, behind a part
pub part_then : (actor : ℕ) (old mid new : RunningCore) → CountsPart actor old mid → new.store ≡ mid.store → new.taken ≡ mid.taken → new.done ≡ mid.done → CountsPart actor old new
part_then actor old mid new part store taken done = record { taken = taken ∙ part.taken; done = by part.done }
  where
    by : CountsOp actor old mid → CountsOp actor old new
    by (inl (none, counts)) = inl (subst (DoesNoOp old.store) (sym store) none, done ∙ counts)
    by (inr (op, did, counts)) = inr (op, subst (DidOp op (length old.order) old.store) (sym store) did, done ∙ counts)

-- an actor stands elsewhere once pages came
pub stands_then : (actor : ℕ) (old mid stood new : RunningCore) (next : Activity) → OnlyBrings old mid → stood ≡ with_standing actor next mid → CountsPart actor stood new → CountsPart actor old new
stands_then actor old mid stood new next brings is part =
    let here : CountsPart actor (with_standing actor next mid) new = subst (λ (s : RunningCore). CountsPart actor s new) is part in
    brings_then actor old mid new brings (record { taken = here.taken; done = here.done })

pub stands_part : (actor : ℕ) (old mid stood : RunningCore) (next : Activity) → OnlyBrings old mid → stood ≡ with_standing actor next mid → CountsPart actor old stood
stands_part actor old mid stood next brings is =
    part_then actor old mid stood (brings_part actor old mid brings) (ap (λ (s : RunningCore). s.store) is) (ap (λ (s : RunningCore). s.taken) is) (ap (λ (s : RunningCore). s.done) is)

-- a deed
pub deed_part : (actor : ℕ) (pins : List ℕ) (deed : Deed) (outcome : Outcome) (old new : RunningCore) → DoesDeed actor pins deed outcome old new → CountsPart actor old new
deed_part actor pins deed outcome old new does = record { taken = ap (λ (s : RunningCore). s.taken) does.rest; done = by deed.op refl }
  where
    by : (o : Option Op) → deed.op ≡ o → CountsOp actor old new
    by None is = inl (
      no_op_as old.store new.store (subst (λ (o : Option Op). MayDo o (length old.order) old.store new.store) is does.store),
      does.counts ∙ ap (λ (o : Option Op). counted_by actor o old.done) is,
    )
    by (Some op) is = inr (
      op,
      record { came = old.store; rest = refl; does = subst (λ (o : Option Op). MayDo o (length old.order) old.store new.store) is does.store },
      does.counts ∙ ap (λ (o : Option Op). counted_by actor o old.done) is,
    )

-- and one without an operation
pub deed_stays : (actor : ℕ) (pins : List ℕ) (deed : Deed) (outcome : Outcome) (old new : RunningCore) → deed.op ≡ None → DoesDeed actor pins deed outcome old new → CountsNoOp old new
deed_stays actor pins deed outcome old new none does = record {
  stay = record { taken = ap (λ (s : RunningCore). s.taken) does.rest; done = does.counts ∙ ap (λ (o : Option Op). counted_by actor o old.done) none };
  no_op = no_op_as old.store new.store (subst (λ (o : Option Op). MayDo o (length old.order) old.store new.store) none does.store);
}

pub deed_store : (actor : ℕ) (pins : List ℕ) (deed : Deed) (outcome : Outcome) (old new : RunningCore) → deed.op ≡ None → DoesDeed actor pins deed outcome old new → new.store ≡ old.store
deed_store actor pins deed outcome old new none does = subst (λ (o : Option Op). MayDo o (length old.order) old.store new.store) none does.store

-- a core that is another one in what counts neither steps nor operations
pub counts_so : (old new other : RunningCore) → new ≡ other → other.store ≡ old.store → other.taken ≡ old.taken → other.done ≡ old.done → CountsNoOp old new
counts_so old new other is store taken done = subst (CountsNoOp old) (sym is) (record { stay = record { taken = taken; done = done }; no_op = no_op_as old.store other.store store })

-- ---- a step takes a line or a job

pub line_counts : (actor behind : ℕ) (outcome : Outcome) (old new : RunningCore) → TakesNextLine actor behind outcome old new → CountsNoOp old new
line_counts actor behind outcome old new (inl none) = counts_so old new _ none.1 refl refl refl
line_counts actor behind outcome old new (inr (inl (says, place, line, takes))) = counts_so old new _ takes.rest refl refl refl
line_counts actor behind outcome old new (inr (inr (inl (by, place, line, next, first, says, same)))) = counts_so old new old same refl refl refl
line_counts actor behind outcome old new (inr (inr (inr (place, line, refuses)))) = counts_so old new _ refuses.rest refl refl refl

pub posting_counts : (actor : ℕ) (outcome : Outcome) (old new : RunningCore) → TakesNextPosting actor outcome old new → CountsNoOp old new
posting_counts actor outcome old new (inl none) = counts_so old new old none.1 refl refl refl
posting_counts actor outcome old new (inr (job, next, kind, posting, does)) = deed_stays actor [] _ outcome old new refl does

pub merging_counts : (actor : ℕ) (outcome : Outcome) (old new : RunningCore) → TakesNextMerging actor outcome old new → CountsNoOp old new
merging_counts actor outcome old new (inl none) = counts_so old new old none.1 refl refl refl
merging_counts actor outcome old new (inr (job, next, kind, merging, does)) = deed_stays actor [] _ outcome old new refl does

-- ---- a step, once it is counted

pub counts_step : (actor taken : ℕ) (c new : RunningCore) → taken ≡ next_count c.taken → CountsPart actor (with_taken taken c) new → CountsStep actor c new
counts_step actor taken c new is part = record { taken = part.taken ∙ is; done = part.done }

pub counts_none : (actor taken : ℕ) (c new : RunningCore) → taken ≡ next_count c.taken → CountsNoOp (with_taken taken c) new → CountsStep actor c new
counts_none actor taken c new is none = counts_step actor taken c new is (stays_part actor (with_taken taken c) new none)

-- what is known of a result in both cases
pub by_result : {A E : Type 0} (r : Result A E) (P : A → Type 0) (Q : E → Type 0) (C : Type 0) → ((x : A) → P x → C) → ((e : E) → Q e → C) → IfOk r P → IfErr r Q → C
by_result (Ok x) P Q C ok err p q = ok x p
by_result (Err e) P Q C ok err p q = err e q
