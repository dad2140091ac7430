-- Latches that go beside each other, and what a call changes in the table.
use Rattle.std.proofs.Common.{◌≡◌, ◌≢◌, ℕ, ◌==◌, ◌&&◌, Bool, true, false, cond, Option, Some, None, IsTrue, IfSome, refl, sym, ap, subst, ◌∙◌}
use Rattle.std.specs.FinMap as map
use Rattle.std.specs.Ordering.{nat_cmp, eq_by_cmp}
use Rattle.std.specs.Cmp.{both_tied, unsigned_ties}
use Rattle.std.proofs.lemmas.Bool.{and_parts}
use Rattle.std.proofs.lemmas.Bool.Decides.{Decides-eqb}
use Rattle.hb_latch.specs.declared.modes.Mode.{Mode}
use Rattle.hb_latch.specs.declared.modes.Mode.TheVariants.{Shared, Update, Exclusive}
use Rattle.hb_latch.specs.Modes.{goes_beside}
use Rattle.hb_latch.specs.Tables.{LatchTable, latch_cmp, mode_at, IsGrantable, AreCompatible}
use Rattle.hb_latch.proofs.Facts.KeyOrder.{latch_order}

pub both_ways : (mode other : Mode) → goes_beside mode other ≡ goes_beside other mode
both_ways Shared Shared = refl
both_ways Shared Update = refl
both_ways Shared Exclusive = refl
both_ways Update Shared = refl
both_ways Update Update = refl
both_ways Update Exclusive = refl
both_ways Exclusive Shared = refl
both_ways Exclusive Update = refl
both_ways Exclusive Exclusive = refl

-- keys are compared by both of their numbers
same_key : (actor page other elsewhere : ℕ) → eq_by_cmp latch_cmp (other, elsewhere) (actor, page) ≡ ((other == actor) && (elsewhere == page))
same_key actor page other elsewhere = sym (both_tied (other == actor) (elsewhere == page) (nat_cmp other actor) (nat_cmp elsewhere page) (unsigned_ties other actor) (unsigned_ties elsewhere page))

pub after_insert : (table : LatchTable) (actor page other elsewhere : ℕ) (mode : Mode) → mode_at (map.insert table (actor, page) mode) other elsewhere ≡ cond ((other == actor) && (elsewhere == page)) (Some mode) (mode_at table other elsewhere)
after_insert table actor page other elsewhere mode =
    map.get-insert latch_order table (actor, page) mode (other, elsewhere)
    ∙ ap (λ b. cond b (Some mode) (mode_at table other elsewhere)) (same_key actor page other elsewhere)

pub after_remove : (table : LatchTable) (actor page other elsewhere : ℕ) → mode_at (map.remove table (actor, page)) other elsewhere ≡ cond ((other == actor) && (elsewhere == page)) None (mode_at table other elsewhere)
after_remove table actor page other elsewhere =
    map.get-remove latch_order table (actor, page) (other, elsewhere)
    ∙ ap (λ b. cond b None (mode_at table other elsewhere)) (same_key actor page other elsewhere)

-- what goes beside the mode, if it is there
abbrev Beside : Mode → Option Mode → Type 0
Beside mode o = IfSome o (λ held. IsTrue (goes_beside mode held))

-- two modes of one page go beside each other, if both are there
abbrev pub Both : Option Mode → Option Mode → Type 0
Both x y = IfSome x (λ mode. Beside mode y)

from_right : (mode : Mode) (x : Option Mode) → Beside mode x → Both x (Some mode)
from_right mode None b = tt
from_right mode (Some held) b = both_ways held mode ∙ b

without_right : (x : Option Mode) → Both x None
without_right None = tt
without_right (Some held) = tt

-- one of them is new, or none
with_new : (b c : Bool) (x y : Option Mode) (mode : Mode) → (b ≡ true → c ≡ true → ⊥) → (b ≡ true → Beside mode y) → (c ≡ true → Beside mode x) → Both x y → Both (cond b (Some mode) x) (cond c (Some mode) y)
with_new true true x y mode apart left right old = absurd (apart refl refl)
with_new true false x y mode apart left right old = left refl
with_new false true x y mode apart left right old = from_right mode x (right refl)
with_new false false x y mode apart left right old = old

-- one of them is gone, or none
with_less : (b c : Bool) (x y : Option Mode) → Both x y → Both (cond b None x) (cond c None y)
with_less true c x y old = tt
with_less false true x y old = without_right x
with_less false false x y old = old

pub none_compatible : AreCompatible (mode_at map.empty)
none_compatible actor other page apart = subst (λ (o : Option Mode). IfSome o (λ mode. Beside mode (mode_at map.empty other page))) (sym (map.get-empty latch_cmp (actor, page))) tt

-- the actors of two latches that are each the new one are the same
same_so : (a b p q : ℕ) → ((a == b) && (p == q)) ≡ true → (a ≡ b) × (p ≡ q)
same_so a b p q is = let parts = and_parts (a == b) (p == q) is in ((Decides-eqb a b).0 parts.0, (Decides-eqb p q).0 parts.1)

pub taken_compatible : (table : LatchTable) (actor page : ℕ) (mode : Mode) → AreCompatible (mode_at table) → IsGrantable (mode_at table) actor page mode → AreCompatible (mode_at (map.insert table (actor, page) mode))
taken_compatible table actor page mode old grantable one two place apart =
    let beside : (third : ℕ) → third ≢ actor → place ≡ page → Beside mode (mode_at table third place) = λ third other same. subst (λ (q : ℕ). Beside mode (mode_at table third q)) (sym same) (grantable third other) in
    let made = with_new ((one == actor) && (place == page)) ((two == actor) && (place == page)) (mode_at table one place) (mode_at table two place) mode
    (λ first second. apart ((same_so one actor place page first).0 ∙ sym (same_so two actor place page second).0))
    (λ first. beside two (λ same. apart ((same_so one actor place page first).0 ∙ sym same)) (same_so one actor place page first).1)
    (λ second. beside one (λ same. apart (same ∙ sym (same_so two actor place page second).0)) (same_so two actor place page second).1)
    (old one two place apart) in
    subst (λ (o : Option Mode). Both o (mode_at (map.insert table (actor, page) mode) two place)) (sym (after_insert table actor page one place mode))
    (subst (λ (o : Option Mode). Both (cond ((one == actor) && (place == page)) (Some mode) (mode_at table one place)) o) (sym (after_insert table actor page two place mode)) made)

pub released_compatible : (table : LatchTable) (actor page : ℕ) → AreCompatible (mode_at table) → AreCompatible (mode_at (map.remove table (actor, page)))
released_compatible table actor page old one two place apart =
    let left = with_less ((one == actor) && (place == page)) ((two == actor) && (place == page)) (mode_at table one place) (mode_at table two place) (old one two place apart) in
    subst (λ (o : Option Mode). Both o (mode_at (map.remove table (actor, page)) two place)) (sym (after_remove table actor page one place))
    (subst (λ (o : Option Mode). Both (cond ((one == actor) && (place == page)) None (mode_at table one place)) o) (sym (after_remove table actor page two place)) left)
