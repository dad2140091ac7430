-- Records that rise in a box, looked at one after the other.
use Rattle.std.proofs.Common.{◌≡◌, ◌↔◌, ℕ, zero, suc, ◌-◌, ◌<◌, ◌≤◌, List, [], ◌∷◌, length, get_or, All, AllPairs, Option, Some, None, sym, ap, subst, ◌∙◌, arith}
use Rattle.std.specs.List.{AllByRecursion}
use Rattle.std.specs.declared.cmp.Ordering.TheVariants.{Less}
use Rattle.std.proofs.lemmas.Cmp.{nat_list_cmp_total}
use Rattle.std.proofs.lemmas.List.Elements.{All-from_recursion, recursion_from_All}
use Rattle.hb_lemmas.proofs.Lists.{All-one}
use Rattle.hb_space.specs.Points.{point_cmp}
use Rattle.hb_space.specs.Boxes.{Area, Holds}
use Rattle.hb_space.specs.declared.records.Record.{Record}
use Rattle.hb_frag.specs.declared.leaves.Leaf.TheVariants as leaves
use Rattle.hb_frag.specs.Leaves.{leaves_of}
use Rattle.hb_frag.specs.Rules.{IsInOrder, Precedes}
use Rattle.hb_frag.specs.Trees.{Tree, Tip}
use Rattle.hb_view.specs.Lists.{records_there, after_there}
use Rattle.hb_view.specs.Walks.{WalksOver, ComesBehind, RiseFrom}
use Rattle.hb_view.specs.Roots.{tree_there, rest_there, IsListAt}
use Rattle.hb_page_codec.specs.Reading.{many_at}
use Rattle.hb_view.specs.Behind.{after_or, list_or}

-- ---- a step over the records

pub step_stops : (area : Area) (last : Option (List ℕ)) (left others : List Record) (r : Record) (T : Type 0) → (RiseFrom area last left ↔ T) → left ≡ r ∷ others → ¬ (Holds area r.key × ComesBehind last r.key) → ¬ T
step_stops area last left others r T same e never = λ t. let w = subst (λ (rs : List Record). RiseFrom area last rs) e (same.1 t) in never (w.0, w.1)

pub step_goes_on : (area : Area) (last : Option (List ℕ)) (left others : List Record) (r : Record) (T : Type 0) → (RiseFrom area last left ↔ T) → left ≡ r ∷ others → Holds area r.key × ComesBehind last r.key → RiseFrom area (Some r.key) others ↔ T
step_goes_on area last left others r T same e next =
    (λ w. same.0 (subst (λ (rs : List Record). RiseFrom area last rs) (sym e) (next.0, next.1, w)), λ t. (subst (λ (rs : List Record). RiseFrom area last rs) e (same.1 t)).2)

pub all_rose : (k count i : ℕ) (rest : List ℕ) (area : Area) (last : Option (List ℕ)) (T : Type 0) → count ≤ i → (RiseFrom area last (records_there k (count - i) rest) ↔ T) → T
unfolding many_at
all_rose k count i rest area last T le same =
    let e : count - i ≡ 0 = omega arith in
    same.0 (subst (λ (rs : List Record). RiseFrom area last rs) (sym (ap (λ n. records_there k n rest) e)) tt)

pub none_after : (k count i : ℕ) (rest : List ℕ) → count ≤ i → rest ≡ after_there k (count - i) rest
unfolding many_at
none_after k count i rest le = let e : count - i ≡ 0 = omega arith in sym (ap (λ n. after_there k n rest) e)

-- ---- all of them

inside : (area : Area) (last : Option (List ℕ)) (rs : List Record) → RiseFrom area last rs → AllByRecursion (λ r. Holds area r.key) rs
inside area last [] h = tt
inside area last (r ∷ rest) h = (h.0, inside area (Some r.key) rest h.2)

-- all come behind the last one
behind_last : (area : Area) (p : List ℕ) (rs : List Record) → RiseFrom area (Some p) rs → (j : ℕ) (d : Record) → j < length rs → point_cmp p (get_or rs j d).key ≡ Less
behind_last area p [] h j d lt = absurd (omega arith)
behind_last area p (r ∷ rest) h zero d lt = h.1
behind_last area p (r ∷ rest) h (suc j) d lt = nat_list_cmp_total.trans p r.key (get_or rest j d).key h.1 (behind_last area r.key rest h.2 j d (omega arith))

rising : (area : Area) (last : Option (List ℕ)) (rs : List Record) → RiseFrom area last rs → AllPairs Precedes rs
rising area last [] h i j d lt in_range = absurd (omega arith)
rising area last (r ∷ rest) h zero zero d lt in_range = absurd (omega arith)
rising area last (r ∷ rest) h zero (suc j) d lt in_range = behind_last area r.key rest h.2 j d (omega arith)
rising area last (r ∷ rest) h (suc i) zero d lt in_range = absurd (omega arith)
rising area last (r ∷ rest) h (suc i) (suc j) d lt in_range = rising area (Some r.key) rest h.2 i j d (omega arith) (omega arith)

-- and back
abbrev StartsBehind : Option (List ℕ) → List Record → Type 0
StartsBehind last [] = Unit {0}
StartsBehind last (r ∷ rest) = ComesBehind last r.key

next_starts : (r : Record) (rest : List Record) → AllPairs Precedes (r ∷ rest) → StartsBehind (Some r.key) rest
next_starts r [] pairs = tt
next_starts r (s ∷ rest) pairs = pairs 0 1 r (omega arith) (omega arith)

rise : (area : Area) (last : Option (List ℕ)) (rs : List Record) → AllByRecursion (λ r. Holds area r.key) rs → AllPairs Precedes rs → StartsBehind last rs → RiseFrom area last rs
rise area last [] all pairs starts = tt
rise area last (r ∷ rest) all pairs starts =
    (all.0, starts, rise area (Some r.key) rest all.1 (λ i j d lt in_range. pairs (suc i) (suc j) d (omega arith) (omega arith)) (next_starts r rest pairs))

starts_first : (rs : List Record) → StartsBehind None rs
starts_first [] = tt
starts_first (r ∷ rest) = tt

pub rise_tells : (area : Area) (rs : List Record) → RiseFrom area None rs ↔ IsInOrder (record { leaf = leaves.Records rs; area = area })
rise_tells area rs = (
  λ h. record { inside = All-from_recursion (λ r. Holds area r.key) rs (inside area None rs h); rising = rising area None rs h },
  λ o. rise area None rs (recursion_from_All (λ r. Holds area r.key) rs o.inside) o.rising (starts_first rs),
)

-- ---- a leaf of records

pub passes_same : (P Q : Type 0) (rest rest' : List ℕ) (r : Option (List ℕ)) → (P ↔ Q) → rest ≡ rest' → WalksOver P rest r → WalksOver Q rest' r
passes_same P Q rest rest' (Some x) same e h = (same.0 h.0, h.1 ∙ e)
passes_same P Q rest rest' None same e h = λ q. h (same.1 q)

pub list_in_order : (k : ℕ) (bytes first : List ℕ) (count : ℕ) (area : Area) (r : Option (List ℕ)) → IsListAt k bytes count first → WalksOver (RiseFrom area None (records_there k count first)) (after_there k count first) r
    → WalksOver (All IsInOrder (leaves_of (tree_there k bytes) area)) (rest_there k bytes) r
list_in_order k bytes first count area r list h =
    let rs = list.records in
    let said : RiseFrom area None rs ↔ All IsInOrder (leaves_of (Tip (leaves.Records rs)) area) =
    (λ w. (All-one IsInOrder (record { leaf = leaves.Records rs; area = area })).1 ((rise_tells area rs).0 w), λ a. (rise_tells area rs).1 ((All-one IsInOrder (record { leaf = leaves.Records rs; area = area })).0 a)) in
    let there : RiseFrom area None (records_there k count first) ↔ All IsInOrder (leaves_of (Tip (leaves.Records rs)) area) =
    subst (λ (l : List Record). RiseFrom area None l ↔ All IsInOrder (leaves_of (Tip (leaves.Records rs)) area)) (sym (ap list_or list.read)) said in
    passes_same _ _ (after_there k count first) (rest_there k bytes) r
    (subst (λ (t : Tree). RiseFrom area None (records_there k count first) ↔ All IsInOrder (leaves_of t area)) (sym list.tree) there) (ap after_or list.read) h
