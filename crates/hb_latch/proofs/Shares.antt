-- An actor has at most three latches, so that there is room for one more of an actor that has fewer.
use Rattle.std.proofs.Common.{◌≡◌, ℕ, zero, suc, ◌+◌, ◌*◌, ◌<◌, ◌≤◌, ◌==◌, Bool, true, false, cond, List, [], ◌∷◌, length, count_by, All, refl, ap, subst, arith}
use Rattle.std.proofs.Common.{inl, inr}
use Rattle.std.proofs.lemmas.Bool.{cases_lt}
use Rattle.std.proofs.lemmas.Bool.Decides.{Decides-eqb, nat_tests}
use Rattle.std.proofs.lemmas.List.Elements.{All-head, All-tail}
use Rattle.std.proofs.lemmas.List.Sums.{sum_by-cons}
use Rattle.hb_latch.specs.declared.entries.Held.{Held}
use Rattle.hb_space.specs.Actors.{IsActor}

-- how many latches of the list are the actor's
abbrev pub share : ℕ → List Held → ℕ
share actor hs = count_by (λ h. h.actor == actor) hs

-- those of the actors 1 to n together
abbrev shares : ℕ → List Held → ℕ
shares zero hs = 0
shares (suc n) hs = share (suc n) hs + shares n hs

share_cons : (a : ℕ) (h : Held) (hs : List Held) → share a (h ∷ hs) ≡ cond (h.actor == a) 1 0 + share a hs
share_cons a h hs = sum_by-cons (λ (x : Held). cond (x.actor == a) 1 0) h hs

-- one more latch counts for no actor below its own, and once from it on
shares_less : (n : ℕ) (h : Held) (hs : List Held) → n < h.actor → shares n (h ∷ hs) ≡ shares n hs
shares_less zero h hs lt = refl
shares_less (suc n) h hs lt =
    let rest = shares_less n h hs (omega arith) in
    let other : (h.actor == suc n) ≡ false = grind (arith, nat_tests) in
    let one : cond {A = ℕ} (h.actor == suc n) 1 0 ≡ 0 = ap (λ (b : Bool). cond b 1 0) other in
    omega (arith, share_cons (suc n) h hs, one, rest)

shares_more : (n : ℕ) (h : Held) (hs : List Held) → 1 ≤ h.actor → h.actor ≤ n → shares n (h ∷ hs) ≡ suc (shares n hs)
shares_more zero h hs low high = absurd (omega arith)
shares_more (suc n) h hs low high =
    elim (h.actor == suc n) as (λ b. (h.actor == suc n) ≡ b → share (suc n) (h ∷ hs) ≡ cond b 1 0 + share (suc n) hs → share (suc n) (h ∷ hs) + shares n (h ∷ hs) ≡ suc (share (suc n) hs + shares n hs)) [
      | true ↦ λ is first. let same : h.actor ≡ suc n = (Decides-eqb h.actor (suc n)).0 is in let rest = shares_less n h hs (omega arith) in omega arith
      | false ↦ λ is first. let below : h.actor ≤ n = grind (arith, nat_tests) in let rest = shares_more n h hs low below in omega arith
    ] refl (share_cons (suc n) h hs)

-- so the list has no more latches than the 19 actors have
all_shared : (hs : List Held) → All (λ h. IsActor h.actor) hs → length hs ≤ shares 19 hs
all_shared [] actors = omega arith
all_shared (h ∷ hs) actors =
    let one : IsActor h.actor = All-head (λ (x : Held). IsActor x.actor) h hs actors in
    let rest = all_shared hs (All-tail (λ (x : Held). IsActor x.actor) h hs actors) in
    let more = shares_more 19 h hs one.from_1 one.to_19 in
    omega arith

shares_few : (n : ℕ) (hs : List Held) → ((a : ℕ) → share a hs ≤ 3) → shares n hs ≤ 3 * n
shares_few zero hs few = omega arith
shares_few (suc n) hs few = omega (arith, few (suc n), shares_few n hs few)

shares_room : (n actor : ℕ) (hs : List Held) → ((a : ℕ) → share a hs ≤ 3) → share actor hs < 3 → 1 ≤ actor → actor ≤ n → shares n hs < 3 * n
shares_room zero actor hs few room low high = absurd (omega arith)
shares_room (suc n) actor hs few room low high = elim (cases_lt actor (suc n)) [
  | inl lt ↦ omega (arith, few (suc n), shares_room n actor hs few room low (omega arith))
  | inr ge ↦ let same : actor ≡ suc n = omega arith in let here : share (suc n) hs < 3 = subst (λ (a : ℕ). share a hs < 3) same room in omega (arith, shares_few n hs few)
]

-- there is room
pub has_room : (actor : ℕ) (hs : List Held) → All (λ h. IsActor h.actor) hs → ((a : ℕ) → share a hs ≤ 3) → IsActor actor → share actor hs < 3 → length hs < 57
has_room actor hs actors few is room = omega (arith, all_shared hs actors, shares_room 19 actor hs few room is.from_1 is.to_19)
