-- A file grows by the operations that were done.
use Rattle.std.proofs.Common.{◌≡◌, ℕ, ◌+◌, ◌-◌, [], ◌∷◌, Option, Some, None, refl, sym, ap, subst, arith}
use Rattle.std.proofs.Math.Nat.{sub-add_cancel}
use Rattle.hb_core.specs.Counting.{DidOp}
use Rattle.hb_core.specs.Counts.{no_counts}
use Rattle.hb_core.specs.declared.counts.TidyCounts.{TidyCounts}
use Rattle.hb_frag.specs.declared.pages.LivePage.{LivePage}
use Rattle.hb_layout.specs.declared.meta.Meta.{Meta}
use Rattle.hb_ops.specs.Operations.{IsAllowedOn, change_of}
use Rattle.hb_ops.specs.declared.operations.Op.{Op}
use Rattle.hb_ops.specs.declared.operations.Op.TheVariants as ops
use Rattle.hb_steps.specs.Machines.{Machine}
use Rattle.hb_steps.specs.Performing.{DoesOp}
use Rattle.hb_steps.specs.declared.outcomes.Outcome.{Outcome}
use Rattle.hb_store.specs.Calls.{read_here}
use Rattle.hb_store.specs.States.{StoreState}
use Rattle.hb_tidy.proofs.Facts.AddedCounts.{operations_then, plus_none}
use Rattle.hb_tidy.specs.Counted.{GrewBy, added}
use Rattle.hb_tidy.specs.TidyFiles.{FilesGrowByOperations}
use Rattle.hb_tidy.specs.Working.{DidInStep, Event, Happens, operations_in}
use Rattle.hb_tidy.specs.Working.{Breaks, Comes, Steps, Waits}

still_grown : (meta : Meta) → GrewBy meta meta no_counts
still_grown meta = record { height = plus_none meta.height; live = refl }

pub same_grown : (old new : Meta) → new ≡ old → GrewBy old new no_counts
same_grown old new is = subst (λ (m : Meta). GrewBy old m no_counts) (sym is) (still_grown old)

height_then : (a b c x y : ℕ) → b ≡ a + x → c ≡ b + y → c ≡ a + (x + y)
height_then a b c x y one two = omega (arith, one, two)

live_then : (a b c g1 s1 m1 g2 s2 m2 : ℕ) → b + m1 ≡ a + (g1 + s1) → c + m2 ≡ b + (g2 + s2) → c + (m1 + m2) ≡ a + (g1 + g2 + (s1 + s2))
live_then a b c g1 s1 m1 g2 s2 m2 one two = omega (arith, one, two)

grown_then : (a b c : Meta) (x y : TidyCounts) → GrewBy a b x → GrewBy b c y → GrewBy a c (added x y)
grown_then a b c x y one two = record {
  height = height_then a.height b.height c.height x.grown y.grown one.height two.height;
  live = live_then a.live b.live c.live x.grown x.split x.merged y.grown y.split y.merged one.live two.live;
}

-- ---- by an operation

one_page : (n : ℕ) → n + 1 + 0 ≡ n + (0 + 1)
one_page n = omega arith

-- how much, as an event says it
abbrev pub by_op : Op → TidyCounts
by_op (ops.Put page rec) = no_counts
by_op (ops.Del page point) = no_counts
by_op (ops.Extract source fresh path cuts free_after) = record no_counts { split = 1 }
by_op (ops.Post parent way inner area) = record no_counts { posted = 1 }
by_op (ops.Merge parent keep gone) = record no_counts { merged = 1 }
by_op (ops.Grow fresh free_after) = record no_counts { grown = 1 }

pub as_event : (actor : ℕ) (outcome : Outcome) (op : Op) → operations_in (Steps actor outcome (Some op) ∷ []) ≡ by_op op
as_event actor outcome (ops.Put page rec) = refl
as_event actor outcome (ops.Del page point) = refl
as_event actor outcome (ops.Extract source fresh path cuts free_after) = refl
as_event actor outcome (ops.Post parent way inner area) = refl
as_event actor outcome (ops.Merge parent keep gone) = refl
as_event actor outcome (ops.Grow fresh free_after) = refl

grown_of_op : (op : Op) (meta : Meta) (first second third : Option LivePage) → IsAllowedOn op meta first second third → GrewBy meta (change_of op meta first second third).meta (by_op op)
grown_of_op (ops.Put page rec) meta (Some one) second third allowed = still_grown meta
grown_of_op (ops.Put page rec) meta None second third allowed = absurd allowed
grown_of_op (ops.Del page point) meta (Some one) second third allowed = still_grown meta
grown_of_op (ops.Del page point) meta None second third allowed = absurd allowed
grown_of_op (ops.Extract source fresh path cuts free_after) meta (Some one) second third allowed = record { height = plus_none meta.height; live = one_page meta.live }
grown_of_op (ops.Extract source fresh path cuts free_after) meta None second third allowed = absurd allowed
grown_of_op (ops.Post parent way inner area) meta (Some one) second third allowed = record { height = plus_none meta.height; live = refl }
grown_of_op (ops.Post parent way inner area) meta None second third allowed = absurd allowed
grown_of_op (ops.Merge parent keep gone) meta (Some above) (Some kept) (Some going) allowed = record { height = plus_none meta.height; live = merged }
  where
    merged : meta.live - 1 + 1 ≡ meta.live + 0
    merged = let back : meta.live - 1 + 1 ≡ meta.live = sub-add_cancel allowed.some_live in omega (arith, back)
grown_of_op (ops.Merge parent keep gone) meta None second third allowed = absurd allowed
grown_of_op (ops.Merge parent keep gone) meta (Some above) None third allowed = absurd allowed
grown_of_op (ops.Merge parent keep gone) meta (Some above) (Some kept) None allowed = absurd allowed
grown_of_op (ops.Grow fresh free_after) meta first second third allowed = record { height = refl; live = one_page meta.live }

pub grown_done : (op : Op) (mark : ℕ) (old new : StoreState) → DoesOp op mark old new → GrewBy old.meta new.meta (by_op op)
grown_done op mark old new does =
    subst (λ (m : Meta). GrewBy old.meta m (by_op op)) (sym does.commits.meta) (grown_of_op op old.meta (read_here old op 0) (read_here old op 1) (read_here old op 2) does.allowed)

-- the pages that it needs came before
pub grown_did : (op : Op) (mark : ℕ) (old new : StoreState) → DidOp op mark old new → GrewBy old.meta new.meta (by_op op)
grown_did op mark old new did = subst (λ (m : Meta). GrewBy m new.meta (by_op op)) (ap (λ (s : StoreState). s.meta) did.rest) (grown_done op mark did.came new did.does)

-- ---- by what happens

grown_in_step : (actor : ℕ) (outcome : Outcome) (op : Option Op) (mark : ℕ) (old new : StoreState) → DidInStep op mark old new → GrewBy old.meta new.meta (operations_in (Steps actor outcome op ∷ []))
grown_in_step actor outcome None mark old new none = same_grown old.meta new.meta none.meta
grown_in_step actor outcome (Some op) mark old new did = subst (GrewBy old.meta new.meta) (sym (as_event actor outcome op)) (grown_did op mark old new did)

grown_once : (event : Event) (m next : Machine) → Happens event m next → GrewBy m.store.meta next.store.meta (operations_in (event ∷ []))
grown_once (Steps actor outcome op) m next (cause, step, did) = grown_in_step actor outcome op _ m.store next.store did
grown_once (Waits job) m next (waits, owed) = same_grown m.store.meta next.store.meta (ap (λ (x : Machine). x.store.meta) waits.rest)
grown_once (Comes id) m next comes = same_grown m.store.meta next.store.meta (ap (λ (s : StoreState). s.meta) comes.brings.rest)
grown_once (Breaks id why) m next (is, bad) = same_grown m.store.meta next.store.meta (ap (λ (x : Machine). x.store.meta) is)

pub files_grow_by_operations : FilesGrowByOperations
files_grow_by_operations m new [] is = same_grown m.store.meta new.store.meta (ap (λ (x : Machine). x.store.meta) is)
files_grow_by_operations m new (event ∷ rest) (next, here, later) =
    subst (GrewBy m.store.meta new.store.meta) (sym (operations_then (event ∷ []) rest))
    (grown_then m.store.meta next.store.meta new.store.meta (operations_in (event ∷ [])) (operations_in rest) (grown_once event m next here) (files_grow_by_operations next new rest later))
