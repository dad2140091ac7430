-- What a table keeps stays through an insert, a change of a mode, and a removal.
use Rattle.std.proofs.Common.{◌≡◌, ℕ, suc, ◌+◌, ◌<◌, ◌≤◌, ◌==◌, true, false, cond, List, length, get_or, All, refl, ap, subst, arith}
use Rattle.std.specs.List.{insert, remove}
use Rattle.std.proofs.Math.ListN.{set}
use Rattle.std.proofs.lemmas.Bool.Decides.{Decides-eqb}
use Rattle.std.proofs.lemmas.List.Elements.{All-append, All-take, All-drop, All-cons, All-set}
use Rattle.std.proofs.lemmas.List.Sums.{sum_by-insert, sum_by-remove, sum_by-set}
use Rattle.hb_latch.specs.declared.entries.Held.{Held}
use Rattle.hb_space.specs.Actors.{IsActor}
use Rattle.hb_latch.specs.Entries.{key_of, IsKept}
use Rattle.hb_latch.proofs.Shares.{share}
use Rattle.hb_lemmas.proofs.SortedEntries.{rise_insert, rise_set, rise_remove}
use Rattle.hb_latch.proofs.Facts.KeyOrder.{latch_order}
use Rattle.hb_latch.proofs.TableViews.{mode_of}
use Rattle.hb_lemmas.specs.Places.{IsGapFor, IsPlaceOf}
use Rattle.hb_latch.specs.Tables.{latch_cmp}

actors_insert : (hs : List Held) (n : Held) (i : ℕ) → All (λ h. IsActor h.actor) hs → IsActor n.actor → All (λ h. IsActor h.actor) (insert hs i n)
actors_insert hs n i all is =
    let P : Held → Type 0 = λ h. IsActor h.actor in
    All-append P _ _ (All-take P i hs all) (All-cons P n _ is (All-drop P i hs all))

actors_remove : (hs : List Held) (i : ℕ) → All (λ h. IsActor h.actor) hs → All (λ h. IsActor h.actor) (remove hs i)
actors_remove hs i all =
    let P : Held → Type 0 = λ h. IsActor h.actor in
    All-append P _ _ (All-take P i hs all) (All-drop P (suc i) hs all)

few_insert : (hs : List Held) (n : Held) (i : ℕ) → ((a : ℕ) → share a hs ≤ 3) → share n.actor hs < 3 → (a : ℕ) → share a (insert hs i n) ≤ 3
few_insert hs n i few room a =
    let sum = sum_by-insert (λ (h : Held). cond (h.actor == a) 1 0) hs i n in
    elim (n.actor == a) as (λ b. (n.actor == a) ≡ b → share a (insert hs i n) ≡ share a hs + cond b 1 0 → share a (insert hs i n) ≤ 3) [
      | true ↦ λ is e. let here : share a hs < 3 = subst (λ (x : ℕ). share x hs < 3) ((Decides-eqb n.actor a).0 is) room in omega arith
      | false ↦ λ is e. omega (arith, few a)
    ] refl sum

few_remove : (hs : List Held) (i : ℕ) (d : Held) → i < length hs → ((a : ℕ) → share a hs ≤ 3) → (a : ℕ) → share a (remove hs i) ≤ 3
few_remove hs i d lt few a = omega (arith, few a, sum_by-remove (λ (h : Held). cond (h.actor == a) 1 0) hs i d lt)

few_set : (hs : List Held) (n : Held) (i : ℕ) (d : Held) → i < length hs → (get_or hs i d).actor ≡ n.actor → ((a : ℕ) → share a hs ≤ 3) → (a : ℕ) → share a (set hs i n) ≤ 3
few_set hs n i d lt same few a =
    let sum = sum_by-set (λ (h : Held). cond (h.actor == a) 1 0) hs i n d lt in
    let one : cond {A = ℕ} ((get_or hs i d).actor == a) 1 0 ≡ cond {A = ℕ} (n.actor == a) 1 0 = ap (λ (x : ℕ). cond (x == a) 1 0) same in
    omega (arith, few a, one, sum)

pub kept_insert : (hs : List Held) (n : Held) (i : ℕ) → IsKept hs → IsGapFor latch_cmp key_of hs (key_of n) i → IsActor n.actor → share n.actor hs < 3 → IsKept (insert hs i n)
kept_insert hs n i kept gap is room = record {
  rising = rise_insert latch_order key_of mode_of hs n i kept.rising gap;
  actors = actors_insert hs n i kept.actors is;
  few = few_insert hs n i kept.few room;
}

pub kept_set : (hs : List Held) (n : Held) (i : ℕ) → IsKept hs → IsPlaceOf key_of hs (key_of n) i → IsKept (set hs i n)
kept_set hs n i kept at =
    let same : (get_or hs i n).actor ≡ n.actor = ap (λ (k : ℕ × ℕ). k.0) (at.same_key n) in
    let P : Held → Type 0 = λ h. IsActor h.actor in
    record {
      rising = rise_set latch_order key_of mode_of hs n i kept.rising at;
      actors = All-set P hs i n (subst IsActor same (kept.actors i n at.in_range)) kept.actors;
      few = few_set hs n i n at.in_range same kept.few;
    }

pub kept_remove : (hs : List Held) (p : ℕ × ℕ) (i : ℕ) (d : Held) → IsKept hs → IsPlaceOf key_of hs p i → IsKept (remove hs i)
kept_remove hs p i d kept at = record {
  rising = rise_remove latch_order key_of mode_of hs p i kept.rising at;
  actors = actors_remove hs i kept.actors;
  few = few_remove hs i d at.in_range kept.few;
}
