-- What a table keeps once an actor has given all its latches back.
use Rattle.std.proofs.Common.{◌≡◌, ℕ, ◌≤◌, ◌==◌, Bool, true, false, cond, not, List, [], ◌∷◌, filter, None, T, refl, sym, ap, subst, ◌∙◌, arith}
use Rattle.std.specs.declared.cmp.Ordering.TheVariants.{Equal}
use Rattle.std.specs.FinMap as map
use Rattle.std.specs.FinMap.Entries.{where_key, is_sorted-where_key, find-where_key}
use Rattle.std.proofs.lemmas.List.Elements.{All-filter}
use Rattle.std.proofs.lemmas.List.Sums.{sum_by-cons}
use Rattle.hb_lemmas.proofs.Booleans.{cond-not, T_true}
use Rattle.hb_latch.specs.declared.entries.Held.{Held}
use Rattle.hb_latch.specs.Tables.{LatchTable, latch_cmp, mode_at}
use Rattle.hb_space.specs.Actors.{IsActor}
use Rattle.hb_latch.specs.Entries.{IsKept, key_of, table_entries}
use Rattle.hb_latch.proofs.Facts.KeyOrder.{exact_keys, latch_order}
use Rattle.hb_latch.proofs.Shares.{share}
use Rattle.hb_latch.proofs.TableViews.{table_of, mode_of, KeysRise}
use Rattle.hb_lemmas.proofs.SortedEntries.{get_is}

-- the latches of the actors that pass a test
module _ (p : ℕ → Bool) where
  entries_left : (hs : List Held) → table_entries (filter (λ h. p h.actor) hs) ≡ where_key latch_cmp (λ k. p k.0) (table_entries hs)
  entries_left [] = refl
  entries_left (h ∷ hs) = elim (p h.actor) as (λ b. table_entries (cond b (h ∷ filter (λ h. p h.actor) hs) (filter (λ h. p h.actor) hs)) ≡ cond b ((key_of h, h.mode) ∷ where_key latch_cmp (λ k. p k.0) (table_entries hs)) (where_key latch_cmp (λ k. p k.0) (table_entries hs))) [
    | true ↦ ap (λ es. (key_of h, h.mode) ∷ es) (entries_left hs)
    | false ↦ entries_left hs
  ]

  pub rise_left : (hs : List Held) → KeysRise hs → KeysRise (filter (λ h. p h.actor) hs)
  rise_left hs rise = T_true _ (subst (λ es. T (map.is_sorted latch_cmp es)) (sym (entries_left hs)) (is_sorted-where_key latch_cmp (λ k. p k.0) (table_entries hs) (subst T (sym rise) tt)))

  pub table_left : (hs : List Held) → KeysRise hs → table_of (filter (λ h. p h.actor) hs) ≡ map.retain_keys (table_of hs) (λ k. p k.0)
  table_left hs rise = map.same_map latch_order exact_keys _ _ (λ q.
      let alike : (x : ℕ × ℕ) → latch_cmp q x ≡ Equal → p x.0 ≡ p q.0 = λ x tied. ap (λ k. p k.0) (sym (exact_keys q x tied)) in
      get_is latch_order key_of mode_of (filter (λ h. p h.actor) hs) q (rise_left hs rise)
      ∙ ap (map.find latch_cmp q) (entries_left hs)
      ∙ find-where_key latch_cmp (λ k. p k.0) q alike (table_entries hs)
      ∙ ap (λ o. cond (p q.0) o None) (sym (get_is latch_order key_of mode_of hs q rise))
      ∙ sym (map.get-retain_keys (table_of hs) (λ k. p k.0) q alike))

  fewer : (a : ℕ) (hs : List Held) → share a (filter (λ h. p h.actor) hs) ≤ share a hs
  fewer a [] = omega arith
  fewer a (h ∷ hs) = elim (p h.actor) as (λ b. share a (cond b (h ∷ filter (λ h. p h.actor) hs) (filter (λ h. p h.actor) hs)) ≤ share a (h ∷ hs)) [
    | true ↦ omega (arith, fewer a hs, sum_by-cons (λ (h : Held). cond (h.actor == a) 1 0) h hs, sum_by-cons (λ (h : Held). cond (h.actor == a) 1 0) h (filter (λ h. p h.actor) hs))
    | false ↦ omega (arith, fewer a hs, sum_by-cons (λ (h : Held). cond (h.actor == a) 1 0) h hs)
  ]

  pub kept_left : (hs : List Held) → IsKept hs → IsKept (filter (λ h. p h.actor) hs)
  kept_left hs kept = record {
    rising = rise_left hs kept.rising;
    actors = All-filter (λ (h : Held). p h.actor) (λ (h : Held). IsActor h.actor) hs kept.actors;
    few = λ a. omega (arith, fewer a hs, kept.few a);
  }

-- what an actor leaves that gives all back: nothing of its own, and all of the others
pub modes_left : (table : LatchTable) (actor other page : ℕ) → mode_at (map.retain_keys table (λ k. not (k.0 == actor))) other page ≡ cond (other == actor) None (mode_at table other page)
modes_left table actor other page =
    map.get-retain_keys table (λ k. not (k.0 == actor)) (other, page) (λ x tied. ap (λ k. not (k.0 == actor)) (sym (exact_keys (other, page) x tied)))
    ∙ cond-not (other == actor) (mode_at table other page) None

pub none_left : (actor : ℕ) (hs : List Held) → share actor (filter (λ h. not (h.actor == actor)) hs) ≡ 0
none_left actor [] = refl
none_left actor (h ∷ hs) = elim (h.actor == actor) as (λ b. (h.actor == actor) ≡ b → share actor (cond (not b) (h ∷ filter (λ h. not (h.actor == actor)) hs) (filter (λ h. not (h.actor == actor)) hs)) ≡ 0) [
  | true ↦ λ is. none_left actor hs
  | false ↦ λ is. omega (arith, none_left actor hs, sum_by-cons (λ (h : Held). cond (h.actor == actor) 1 0) h (filter (λ h. not (h.actor == actor)) hs), ap (λ (b : Bool). cond {A = ℕ} b 1 0) is)
] refl
