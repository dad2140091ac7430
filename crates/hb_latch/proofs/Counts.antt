-- How many latches an actor holds after each call.
use Rattle.std.proofs.Common.{◌≡◌, ℕ, ◌+◌, ◌==◌, true, false, cond, not, List, [], ◌∷◌, count_by, Some, None, IsSome, refl, sym, ap, subst, ◌∙◌, arith}
use Rattle.std.specs.Ordering.{is_lt, is_eq, eq_by_cmp}
use Rattle.std.specs.FinMap as map
use Rattle.std.specs.FinMap.{find, put, is_sorted}
use Rattle.std.specs.FinMap.Entries.{below_all, by_order}
use Rattle.std.specs.declared.cmp.Ordering.TheVariants.{Less, Equal, Greater}
use Rattle.std.proofs.lemmas.Bool.{and_parts}
use Rattle.std.proofs.lemmas.List.Sums.{sum_by-cons}
use Rattle.hb_latch.specs.declared.modes.Mode.{Mode}
use Rattle.hb_latch.specs.Tables.{LatchTable, latch_cmp, mode_at, latches_of}
use Rattle.hb_latch.proofs.Facts.KeyOrder.{latch_order, exact_keys}
use Rattle.hb_lemmas.proofs.Orderings.{equal_so, less_so}
use Rattle.hb_lemmas.proofs.Booleans.{T_true}
use Rattle.hb_lemmas.proofs.SortedEntries.{without, entries-remove}

abbrev Entry : Type 0
Entry = (ℕ × ℕ) × Mode

-- how many of the entries are the actor's
abbrev share : ℕ → List Entry → ℕ
share actor es = count_by (λ e. e.0.0 == actor) es

share_cons : (actor : ℕ) (e : Entry) (es : List Entry) → share actor (e ∷ es) ≡ cond (e.0.0 == actor) 1 0 + share actor es
share_cons actor e es = sum_by-cons (λ (x : Entry). cond (x.0.0 == actor) 1 0) e es

-- a key isn't found among greater ones
find_less : (key k : ℕ × ℕ) (es : List Entry) → latch_cmp key k ≡ Less → below_all latch_cmp k es ≡ true → find latch_cmp key es ≡ None
find_less key k [] less below = refl
find_less key k (e ∷ es) less below =
    let parts = and_parts (is_lt (latch_cmp k e.0)) (below_all latch_cmp k es) below in
    let lower : latch_cmp key e.0 ≡ Less = latch_order.trans key k e.0 less (less_so _ parts.0) in
    ap (λ o. cond (is_eq o) (Some e.1) (find latch_cmp key es)) lower ∙ find_less key k es less parts.1

find_below : (key : ℕ × ℕ) (es : List Entry) → below_all latch_cmp key es ≡ true → find latch_cmp key es ≡ None
find_below key [] below = refl
find_below key (e ∷ es) below =
    let parts = and_parts (is_lt (latch_cmp key e.0)) (below_all latch_cmp key es) below in
    ap (λ o. cond (is_eq o) (Some e.1) (find latch_cmp key es)) (less_so _ parts.0) ∙ find_below key es parts.1

-- a new entry counts once, for its actor
share_new : (actor : ℕ) (key : ℕ × ℕ) (mode : Mode) (es : List Entry) → find latch_cmp key es ≡ None → share actor (put latch_cmp key mode es) ≡ share actor es + cond (key.0 == actor) 1 0
share_new actor key mode [] none = omega (arith, share_cons actor (key, mode) [])
share_new actor key mode (e ∷ es) none =
    elim (latch_cmp key e.0) as (λ o. latch_cmp key e.0 ≡ o → cond (is_eq o) (Some e.1) (find latch_cmp key es) ≡ None → share actor (by_order o ((key, mode) ∷ e ∷ es) ((e.0, mode) ∷ es) (e ∷ put latch_cmp key mode es)) ≡ share actor (e ∷ es) + cond (key.0 == actor) 1 0) [
      | Less ↦ λ is none. omega (arith, share_cons actor (key, mode) (e ∷ es))
      | Equal ↦ λ is none. cc
      | Greater ↦ λ is none. omega (arith, share_cons actor e (put latch_cmp key mode es), share_cons actor e es, share_new actor key mode es none)
    ] refl none

-- another mode of an entry changes no count
share_again : (actor : ℕ) (key : ℕ × ℕ) (mode old : Mode) (es : List Entry) → is_sorted latch_cmp es ≡ true → find latch_cmp key es ≡ Some old → share actor (put latch_cmp key mode es) ≡ share actor es
share_again actor key mode old [] sorted some = cc
share_again actor key mode old (e ∷ es) sorted some =
    let parts = and_parts (below_all latch_cmp e.0 es) (is_sorted latch_cmp es) sorted in
    elim (latch_cmp key e.0) as (λ o. latch_cmp key e.0 ≡ o → cond (is_eq o) (Some e.1) (find latch_cmp key es) ≡ Some old → share actor (by_order o ((key, mode) ∷ e ∷ es) ((e.0, mode) ∷ es) (e ∷ put latch_cmp key mode es)) ≡ share actor (e ∷ es)) [
      | Less ↦ λ is some. let none = find_less key e.0 es is parts.0 in cc
      | Equal ↦ λ is some. share_cons actor (e.0, mode) es ∙ sym (share_cons actor e es)
      | Greater ↦ λ is some. omega (arith, share_cons actor e (put latch_cmp key mode es), share_cons actor e es, share_again actor key mode old es parts.1 some)
    ] refl some

-- what isn't found isn't left out
without_none : (key : ℕ × ℕ) (es : List Entry) → find latch_cmp key es ≡ None → without latch_order key es ≡ es
without_none key [] none = refl
without_none key (e ∷ es) none =
    elim (eq_by_cmp latch_cmp key e.0) as (λ b. cond b (Some e.1) (find latch_cmp key es) ≡ None → cond (not b) (e ∷ without latch_order key es) (without latch_order key es) ≡ e ∷ es) [
      | true ↦ λ none. cc
      | false ↦ λ none. ap (λ (rest : List Entry). e ∷ rest) (without_none key es none)
    ] none

-- an entry that is left out counted once, for its actor
share_less : (actor : ℕ) (key : ℕ × ℕ) (old : Mode) (es : List Entry) → is_sorted latch_cmp es ≡ true → find latch_cmp key es ≡ Some old → share actor (without latch_order key es) + cond (key.0 == actor) 1 0 ≡ share actor es
share_less actor key old [] sorted some = cc
share_less actor key old (e ∷ es) sorted some =
    let parts = and_parts (below_all latch_cmp e.0 es) (is_sorted latch_cmp es) sorted in
    elim (eq_by_cmp latch_cmp key e.0) as (λ b. eq_by_cmp latch_cmp key e.0 ≡ b → cond b (Some e.1) (find latch_cmp key es) ≡ Some old → share actor (cond (not b) (e ∷ without latch_order key es) (without latch_order key es)) + cond (key.0 == actor) 1 0 ≡ share actor (e ∷ es)) [
      | true ↦ λ tied some.
          let same : key ≡ e.0 = exact_keys key e.0 (equal_so _ tied) in
          let left = without_none key es (find_below key es (subst (λ (k : ℕ × ℕ). below_all latch_cmp k es ≡ true) (sym same) parts.0)) in
          let first : cond {A = ℕ} (key.0 == actor) 1 0 ≡ cond {A = ℕ} (e.0.0 == actor) 1 0 = ap (λ (k : ℕ × ℕ). cond (k.0 == actor) 1 0) same in
          omega (arith, share_cons actor e es, first, ap (share actor) left)
      | false ↦ λ other some. omega (arith, share_cons actor e (without latch_order key es), share_cons actor e es, share_less actor key old es parts.1 some)
    ] refl some

sorted : (table : LatchTable) → is_sorted latch_cmp (map.entries table) ≡ true
sorted table = T_true _ (map.entries_sorted table)

pub count_taken : (table : LatchTable) (actor page other : ℕ) (mode : Mode) → mode_at table actor page ≡ None → latches_of (map.insert table (actor, page) mode) other ≡ latches_of table other + cond (actor == other) 1 0
count_taken table actor page other mode none =
    ap (share other) (map.entries-insert latch_order table (actor, page) mode)
    ∙ share_new other (actor, page) mode (map.entries table) (sym (map.get-entries table (actor, page)) ∙ none)

pub count_promoted : (table : LatchTable) (actor page other : ℕ) (mode : Mode) → IsSome (mode_at table actor page) → latches_of (map.insert table (actor, page) mode) other ≡ latches_of table other
count_promoted table actor page other mode there =
    elim (mode_at table actor page) as (λ o. mode_at table actor page ≡ o → IsSome o → latches_of (map.insert table (actor, page) mode) other ≡ latches_of table other) [
      | None ↦ λ is there. cc
      | Some old ↦ λ is there.
          ap (share other) (map.entries-insert latch_order table (actor, page) mode)
          ∙ share_again other (actor, page) mode old (map.entries table) (sorted table) (sym (map.get-entries table (actor, page)) ∙ is)
    ] refl there

pub count_released : (table : LatchTable) (actor page other : ℕ) → IsSome (mode_at table actor page) → latches_of (map.remove table (actor, page)) other + cond (actor == other) 1 0 ≡ latches_of table other
count_released table actor page other there =
    elim (mode_at table actor page) as (λ o. mode_at table actor page ≡ o → IsSome o → latches_of (map.remove table (actor, page)) other + cond (actor == other) 1 0 ≡ latches_of table other) [
      | None ↦ λ is there. cc
      | Some old ↦ λ is there.
          ap (λ (es : List Entry). share other es + cond (actor == other) 1 0) (entries-remove latch_order exact_keys table (actor, page))
          ∙ share_less other (actor, page) old (map.entries table) (sorted table) (sym (map.get-entries table (actor, page)) ∙ is)
    ] refl there
