-- What a table has, by its places.
use Rattle.std.proofs.Common.{◌≡◌, inl, inr, ℕ, zero, suc, ◌+◌, ◌<◌, ◌==◌, cond, List, [], ◌∷◌, length, get_or, Option, Some, None, refl, sym, ap, ◌∙◌, ne_eqb, eq-eqb, arith}
use Rattle.std.proofs.Math.ListN.{set}
use Rattle.std.proofs.lemmas.Bool.{cases_eq}
use Rattle.std.proofs.lemmas.List.{get_or-set_same, get_or-set_other}
use Rattle.std.proofs.lemmas.Cmp.{nat_cmp_total}
use Rattle.std.specs.FinMap as map
use Rattle.std.specs.FinMap.{nat_cmp-IsAntisymmetric}
use Rattle.std.specs.Ordering.{nat_cmp}
use Rattle.std.specs.Cmp.{unsigned_ties}
use Rattle.hb_boxlock.specs.declared.locks.BoxLock.{BoxLock}
use Rattle.hb_boxlock.specs.Locking.{LockTable, lock_at}
use Rattle.hb_boxlock.specs.Slots.{table_from}

-- what a table has after one more lock, and after one less
pub after_insert : (table : LockTable) (actor other : ℕ) (lock : BoxLock) → lock_at (map.insert table actor lock) other ≡ cond (other == actor) (Some lock) (lock_at table other)
after_insert table actor other lock = map.get-insert nat_cmp_total table actor lock other ∙ ap (λ b. cond b (Some lock) (lock_at table other)) (sym (unsigned_ties other actor))

pub after_remove : (table : LockTable) (actor other : ℕ) → lock_at (map.remove table actor) other ≡ cond (other == actor) None (lock_at table other)
after_remove table actor other = map.get-remove nat_cmp_total table actor other ∙ ap (λ b. cond b None (lock_at table other)) (sym (unsigned_ties other actor))

-- a table has nothing in front of its first place
pub in_front : (first : ℕ) (places : List (Option BoxLock)) (actor : ℕ) → actor < first → lock_at (table_from first places) actor ≡ None
in_front first [] actor lt = map.get-empty nat_cmp actor
in_front first (None ∷ places) actor lt = in_front (suc first) places actor (omega arith)
in_front first (Some lock ∷ places) actor lt =
    after_insert (table_from (suc first) places) first actor lock
    ∙ ap (λ b. cond b (Some lock) (lock_at (table_from (suc first) places) actor)) (ne_eqb actor first (λ e. omega (arith, e)))
    ∙ in_front (suc first) places actor (omega arith)

-- and at each place what stands there
pub at_place : (first : ℕ) (places : List (Option BoxLock)) (place : ℕ) → lock_at (table_from first places) (first + place) ≡ get_or places place None
at_place first [] place = map.get-empty nat_cmp (first + place)
at_place first (None ∷ places) zero = in_front (suc first) places (first + 0) (omega arith)
at_place first (None ∷ places) (suc place) = ap (lock_at (table_from (suc first) places)) (let e : first + suc place ≡ suc first + place = omega arith in e) ∙ at_place (suc first) places place
at_place first (Some lock ∷ places) zero =
    after_insert (table_from (suc first) places) first (first + 0) lock
    ∙ ap (λ b. cond b (Some lock) (lock_at (table_from (suc first) places) (first + 0))) (eq-eqb (first + 0) first (omega arith))
at_place first (Some lock ∷ places) (suc place) =
    after_insert (table_from (suc first) places) first (first + suc place) lock
    ∙ ap (λ b. cond b (Some lock) (lock_at (table_from (suc first) places) (first + suc place))) (ne_eqb (first + suc place) first (λ e. omega (arith, e)))
    ∙ ap (lock_at (table_from (suc first) places)) (let e : first + suc place ≡ suc first + place = omega arith in e)
    ∙ at_place (suc first) places place

-- the table of all places
abbrev pub table_of : List (Option BoxLock) → LockTable
table_of places = table_from 1 places

pub of_actor : (places : List (Option BoxLock)) (place actor : ℕ) → place + 1 ≡ actor → lock_at (table_of places) actor ≡ get_or places place None
of_actor places place actor is = ap (lock_at (table_of places)) (let e : actor ≡ 1 + place = omega (arith, is) in e) ∙ at_place 1 places place

-- a place that gets another lock, or none
pub set_lock : (places : List (Option BoxLock)) (place actor : ℕ) (lock : BoxLock) → place + 1 ≡ actor → place < length places → table_of (set places place (Some lock)) ≡ map.insert (table_of places) actor lock
set_lock places place actor lock is in_range = map.same_map nat_cmp_total nat_cmp-IsAntisymmetric _ _ each
  where
    each : (q : ℕ) → lock_at (table_of (set places place (Some lock))) q ≡ lock_at (map.insert (table_of places) actor lock) q
    each zero = in_front 1 (set places place (Some lock)) 0 (omega arith)
        ∙ sym (after_insert (table_of places) actor 0 lock ∙ ap (λ b. cond b (Some lock) (lock_at (table_of places) 0)) (ne_eqb 0 actor (λ e. omega (arith, e, is))) ∙ in_front 1 places 0 (omega arith))
    each (suc k) = elim (cases_eq k place) [
      | inl same ↦
          of_actor (set places place (Some lock)) k (suc k) (omega arith)
          ∙ ap (λ (j : ℕ). get_or (set places place (Some lock)) j None) same ∙ get_or-set_same places place (Some lock) None in_range
          ∙ sym (after_insert (table_of places) actor (suc k) lock ∙ ap (λ b. cond b (Some lock) (lock_at (table_of places) (suc k))) (eq-eqb (suc k) actor (omega (arith, same, is))))
      | inr other ↦
          of_actor (set places place (Some lock)) k (suc k) (omega arith)
          ∙ get_or-set_other places place k (Some lock) None other
          ∙ sym (after_insert (table_of places) actor (suc k) lock ∙ ap (λ b. cond b (Some lock) (lock_at (table_of places) (suc k))) (ne_eqb (suc k) actor (λ e. other (omega (arith, e, is)))) ∙ of_actor places k (suc k) (omega arith))
    ]

pub set_none : (places : List (Option BoxLock)) (place actor : ℕ) → place + 1 ≡ actor → place < length places → table_of (set places place None) ≡ map.remove (table_of places) actor
set_none places place actor is in_range = map.same_map nat_cmp_total nat_cmp-IsAntisymmetric _ _ each
  where
    each : (q : ℕ) → lock_at (table_of (set places place None)) q ≡ lock_at (map.remove (table_of places) actor) q
    each zero = in_front 1 (set places place None) 0 (omega arith)
        ∙ sym (after_remove (table_of places) actor 0 ∙ ap (λ b. cond b None (lock_at (table_of places) 0)) (ne_eqb 0 actor (λ e. omega (arith, e, is))) ∙ in_front 1 places 0 (omega arith))
    each (suc k) = elim (cases_eq k place) [
      | inl same ↦
          of_actor (set places place None) k (suc k) (omega arith)
          ∙ ap (λ (j : ℕ). get_or (set places place None) j None) same ∙ get_or-set_same places place None None in_range
          ∙ sym (after_remove (table_of places) actor (suc k) ∙ ap (λ b. cond b None (lock_at (table_of places) (suc k))) (eq-eqb (suc k) actor (omega (arith, same, is))))
      | inr other ↦
          of_actor (set places place None) k (suc k) (omega arith)
          ∙ get_or-set_other places place k None None other
          ∙ sym (after_remove (table_of places) actor (suc k) ∙ ap (λ b. cond b None (lock_at (table_of places) (suc k))) (ne_eqb (suc k) actor (λ e. other (omega (arith, e, is)))) ∙ of_actor places k (suc k) (omega arith))
    ]

-- no lock at all
pub none_at_all : (first : ℕ) (places : List (Option BoxLock)) → ((i : ℕ) → i < length places → get_or places i None ≡ None) → table_from first places ≡ map.empty
none_at_all first [] none = refl
none_at_all first (None ∷ places) none = none_at_all (suc first) places (λ i lt. none (suc i) (omega (arith, lt)))
none_at_all first (Some lock ∷ places) none = let no : Some lock ≡ None = none 0 (omega arith) in cc
