-- The table that latches make.
use Rattle.std.proofs.Common.{◌≡◌, ℕ, List, [], ◌∷◌, count_by, cond, ◌+◌, ◌==◌, Option, None, IsSome, IsTrue, refl, sym, ap, subst, ◌∙◌}
use Rattle.std.specs.FinMap as map
use Rattle.std.specs.FinMap.{is_sorted}
use Rattle.std.proofs.lemmas.List.Sums.{sum_by-cons}
use Rattle.hb_latch.specs.declared.modes.Mode.{Mode}
use Rattle.hb_latch.specs.declared.entries.Held.{Held}
use Rattle.hb_latch.specs.Tables.{LatchTable, latch_cmp, latches_of}
use Rattle.hb_latch.specs.Entries.{key_of, table_entries}
use Rattle.hb_latch.proofs.Facts.KeyOrder.{latch_order}
use Rattle.hb_lemmas.proofs.SortedEntries.{entries_are, get_is}
use Rattle.hb_lemmas.specs.Places.{IsGapFor, IsPlaceOf}

-- the keys of latches rise
abbrev pub KeysRise : List Held → Type 0
KeysRise latches = IsTrue (is_sorted latch_cmp (table_entries latches))

abbrev pub mode_of : Held → Mode
mode_of held = held.mode

-- the table of the latches
abbrev pub table_of : List Held → LatchTable
table_of hs = map.from_sorted (table_entries hs)

-- how many latches an actor holds
pub count_is : (hs : List Held) (actor : ℕ) → KeysRise hs → latches_of (table_of hs) actor ≡ count_by (λ h. h.actor == actor) hs
count_is hs actor r = ap (count_by (λ (e : (ℕ × ℕ) × Mode). e.0.0 == actor)) (entries_are latch_order key_of mode_of hs r) ∙ one_by_one hs
  where
    one_by_one : (hs : List Held) → count_by (λ (e : (ℕ × ℕ) × Mode). e.0.0 == actor) (table_entries hs) ≡ count_by (λ h. h.actor == actor) hs
    one_by_one [] = refl
    one_by_one (h ∷ hs) =
        sum_by-cons (λ (e : (ℕ × ℕ) × Mode). cond (e.0.0 == actor) 1 0) (key_of h, h.mode) (table_entries hs)
        ∙ ap (λ n. cond (h.actor == actor) 1 0 + n) (one_by_one hs)
        ∙ sym (sum_by-cons (λ (x : Held). cond (x.actor == actor) 1 0) h hs)

-- the place of a latch that the table has, and the gap for one that it hasn't
pub held_in : (hs seen : List Held) (table : LatchTable) (p : ℕ × ℕ) (i : ℕ) → seen ≡ hs → table_of hs ≡ table → KeysRise hs → (IsSome (map.find latch_cmp p (table_entries seen)) → IsPlaceOf key_of seen p i) → IsSome (map.get table p) → IsPlaceOf key_of hs p i
held_in hs seen table p i same is rise found there =
    subst (λ (xs : List Held). IsPlaceOf key_of xs p i) same (found (subst (λ (xs : List Held). IsSome (map.find latch_cmp p (table_entries xs))) (sym same) (subst (λ (o : Option Mode). IsSome o) (get_is latch_order key_of mode_of hs p rise) (subst (λ (t : LatchTable). IsSome (map.get t p)) (sym is) there))))

pub gap_in : (hs seen : List Held) (table : LatchTable) (p : ℕ × ℕ) (i : ℕ) → seen ≡ hs → table_of hs ≡ table → KeysRise hs → (map.find latch_cmp p (table_entries seen) ≡ None → IsGapFor latch_cmp key_of seen p i) → map.get table p ≡ None → IsGapFor latch_cmp key_of hs p i
gap_in hs seen table p i same is rise absent none =
    subst (λ (xs : List Held). IsGapFor latch_cmp key_of xs p i) same (absent (ap (λ (xs : List Held). map.find latch_cmp p (table_entries xs)) same ∙ sym (get_is latch_order key_of mode_of hs p rise) ∙ ap (λ (t : LatchTable). map.get t p) is ∙ none))

-- an actor's share of the latches
pub share_in : (hs : List Held) (table : LatchTable) (actor : ℕ) → table_of hs ≡ table → KeysRise hs → latches_of table actor ≡ count_by (λ h. h.actor == actor) hs
share_in hs table actor is rise = sym (ap (λ (t : LatchTable). latches_of t actor) is) ∙ count_is hs actor rise
