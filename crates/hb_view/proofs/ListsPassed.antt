-- What a walk over the bytes of a list of records goes past.
use Rattle.std.proofs.Common.{◌≡◌, ℕ, suc, ◌+◌, ◌-◌, ◌<◌, ◌≤◌, max, cond, ltb, List, [], ◌∷◌, length, take, drop, Option, Some, None, IfSome, refl, sym, ap, subst, ◌∙◌, arith}
use Rattle.std.proofs.lemmas.List.{length-drop}
use Rattle.std.proofs.lemmas.Option.{same_Some}
use Rattle.hb_lemmas.specs.Options.{◌>>=◌}
use Rattle.hb_lemmas.proofs.Lists.{All-one}
use Rattle.hb_lemmas.proofs.Numbers.{one_left}
use Rattle.hb_lemmas.proofs.Options.{at_value, bind_some, one_value}
use Rattle.hb_lemmas.proofs.Booleans.{unless_some}
use Rattle.hb_space.specs.Boxes.{Area, Holds}
use Rattle.hb_space.specs.declared.form.TheConstants.{BMAX}
use Rattle.hb_space.specs.declared.records.Record.{Record}
use Rattle.hb_frag.specs.declared.leaves.Leaf.TheVariants as leaves
use Rattle.hb_frag.specs.Trees.{Tip}
use Rattle.hb_frag.specs.Rules.{BelongsAt, IsInOrder}
use Rattle.hb_page_codec.specs.Reading.{many_at}
use Rattle.hb_page_codec.specs.ReadingFields.{body_at, count_at, point_at, record_at, records_at}
use Rattle.hb_page_codec.specs.ReadingPages.{records_tip_at}
use Rattle.hb_view.specs.declared.leaves.LeafView.TheVariants as views
use Rattle.hb_view.specs.declared.well_made.Passed.{Passed}
use Rattle.hb_view.specs.Walks.{ComesBehind, RiseFrom}
use Rattle.hb_view.specs.WellMade.{GoesPast, IsTreeWellMade, PassesOver}
use Rattle.hb_view.proofs.Cornered.{point_shorter}
use Rattle.hb_view.proofs.Risen.{rise_tells}
use Rattle.hb_view.proofs.Walked.{many_counted}

-- what holds of whatever a second step reads, wherever the first one reads something
pub if_then : {A B : Type 0} (r : Option A) (f : A → Option B) (P : B → Type 0) → ((x : A) → r ≡ Some x → IfSome (f x) P) → IfSome (r >>= f) P
if_then None f P h = tt
if_then (Some x) f P h = h x refl

-- ---- records

abbrev Rising : Area → Option (List ℕ) → List Record × List ℕ → Type 0
Rising area last x = ¬ (RiseFrom area last x.0)

-- so many records are the first of them and the others
first_of : (k n : ℕ) (bytes after : List ℕ) (r : Record) → record_at k bytes ≡ Some (r, after) → records_at k (suc n) bytes ≡ (records_at k n after >>= λ others. Some (r ∷ others.0, others.1))
unfolding many_at
first_of k n bytes after r e = rw e refl

none_of : (k n : ℕ) (bytes : List ℕ) → record_at k bytes ≡ None → records_at k (suc n) bytes ≡ None
unfolding many_at
none_of k n bytes e = rw e refl

goes_on : (k n : ℕ) (bytes after : List ℕ) (area : Area) (last : Option (List ℕ)) (r : Record) (result : Option (List ℕ)) → record_at k bytes ≡ Some (r, after) → Holds area r.key × ComesBehind last r.key
    → GoesPast (RiseFrom area (Some r.key)) (records_at k n after) result → GoesPast (RiseFrom area last) (records_at k (suc n) bytes) result
goes_on k n bytes after area last r (Some rest) e next past = (r ∷ past.0, first_of k n bytes after r e ∙ ap (λ (o : Option (List Record × List ℕ)). o >>= λ others. Some (r ∷ others.0, others.1)) past.1, (next.0, next.1, past.2))
goes_on k n bytes after area last r None e next past =
    subst (λ (o : Option (List Record × List ℕ)). IfSome o (Rising area last)) (sym (first_of k n bytes after r e))
    (if_then (records_at k n after) (λ others. Some (r ∷ others.0, others.1)) (Rising area last) (λ x ex. λ rise. at_value (records_at k n after) (Rising area (Some r.key)) x ex past rise.2))

-- one that doesn't come next
stops_here : (k n : ℕ) (bytes after : List ℕ) (area : Area) (last : Option (List ℕ)) (r : Record) → record_at k bytes ≡ Some (r, after) → ¬ (Holds area r.key × ComesBehind last r.key) → IfSome (records_at k (suc n) bytes) (Rising area last)
stops_here k n bytes after area last r e never =
    subst (λ (o : Option (List Record × List ℕ)). IfSome o (Rising area last)) (sym (first_of k n bytes after r e))
    (if_then (records_at k n after) (λ others. Some (r ∷ others.0, others.1)) (Rising area last) (λ x ex. λ rise. never (rise.0, rise.1)))

-- what is left to go past, of so many records
abbrev pub LeftOf : ℕ → Area → Option (List ℕ) → ℕ → List ℕ → ℕ → List ℕ → Type 0
LeftOf k area last left rest count bytes = (result : Option (List ℕ)) → GoesPast (RiseFrom area last) (records_at k left rest) result → GoesPast (RiseFrom area None) (records_at k count bytes) result

pub one_past : (k count i : ℕ) (bytes rest after : List ℕ) (area : Area) (last : Option (List ℕ)) (r : Record) → i < count → record_at k rest ≡ Some (r, after) → Holds area r.key × ComesBehind last r.key
    → LeftOf k area last (count - i) rest count bytes → LeftOf k area (Some r.key) (count - (i + 1)) after count bytes
one_past k count i bytes rest after area last r lt e next left result past =
    left result (subst (λ n. GoesPast (RiseFrom area last) (records_at k n rest) result) (sym (one_left count i lt)) (goes_on k (count - (i + 1)) rest after area last r result e next past))

pub none_read : (k count i : ℕ) (bytes rest : List ℕ) (area : Area) (last : Option (List ℕ)) → i < count → record_at k rest ≡ None → LeftOf k area last (count - i) rest count bytes → IfSome (records_at k count bytes) (Rising area None)
none_read k count i bytes rest area last lt e left =
    let none : records_at k (count - i) rest ≡ None = ap (λ n. records_at k n rest) (one_left count i lt) ∙ none_of k (count - (i + 1)) rest e in
    left None (subst (λ (o : Option (List Record × List ℕ)). IfSome o (Rising area last)) (sym none) tt)

pub one_stops : (k count i : ℕ) (bytes rest after : List ℕ) (area : Area) (last : Option (List ℕ)) (r : Record) → i < count → record_at k rest ≡ Some (r, after) → ¬ (Holds area r.key × ComesBehind last r.key)
    → LeftOf k area last (count - i) rest count bytes → IfSome (records_at k count bytes) (Rising area None)
one_stops k count i bytes rest after area last r lt e never left =
    left None (subst (λ n. IfSome (records_at k n rest) (Rising area last)) (sym (one_left count i lt)) (stops_here k (count - (i + 1)) rest after area last r e never))

pub all_past : (k count i : ℕ) (bytes rest : List ℕ) (area : Area) (last : Option (List ℕ)) → count ≤ i → LeftOf k area last (count - i) rest count bytes → GoesPast (RiseFrom area None) (records_at k count bytes) (Some rest)
unfolding many_at
all_past k count i bytes rest area last le left =
    let e : count - i ≡ 0 = omega arith in
    left (Some rest) (subst (λ n. GoesPast (RiseFrom area last) (records_at k n rest) (Some rest)) (sym e) ([], refl, tt))

-- a record has a byte at least
body_shorter : (bytes : List ℕ) (x : List ℕ × List ℕ) → body_at bytes ≡ Some x → 1 + length x.1 ≤ length bytes
unfolding body_at
body_shorter [] x e = absurd cc
body_shorter (n ∷ rest) x e =
    let g = unless_some (ltb BMAX n) (cond (ltb (length rest) n) None (Some (take n rest, drop n rest))) x e in
    let h = unless_some (ltb (length rest) n) (Some (take n rest, drop n rest)) x g.1 in
    let same : length (drop n rest) ≡ length x.1 = ap (λ (y : List ℕ × List ℕ). length y.1) (same_Some (take n rest, drop n rest) x h.1) in
    omega (arith, length-drop n rest, same)

pub record_shorter : (k : ℕ) (bytes after : List ℕ) (r : Record) → record_at k bytes ≡ Some (r, after) → 1 + length after ≤ length bytes
unfolding record_at
record_shorter k bytes after r e =
    let p = bind_some (point_at k bytes) (λ key. body_at key.1 >>= λ body. Some (record { key = key.0; body = body.0 }, body.1)) (r, after) e in
    let b = bind_some (body_at p.0.1) (λ body. Some (record { key = p.0.0; body = body.0 }, body.1)) (r, after) p.2 in
    let made : Record × List ℕ = (record { key = p.0.0; body = b.0.0 }, b.0.1) in
    let same : length b.0.1 ≡ length after = ap (λ (y : Record × List ℕ). length y.1) (same_Some made (r, after) b.2) in
    omega (arith, point_shorter k bytes p.0 p.1, body_shorter p.0.1 b.0 b.1, same)

-- ---- a leaf of records

list_well_made : (level : ℕ) (area : Area) (rs : List Record) → level ≡ 0 → RiseFrom area None rs → IsTreeWellMade level area (Tip (leaves.Records rs))
list_well_made level area rs ground rise = record {
  well_cut = tt;
  kinds = (All-one (BelongsAt level) (leaves.Records rs)).1 ground;
  in_order = (All-one IsInOrder (record { leaf = leaves.Records rs; area = area })).1 ((rise_tells area rs).0 rise);
  normal = tt;
}

list_kind : (level : ℕ) (area : Area) (rs : List Record) → IsTreeWellMade level area (Tip (leaves.Records rs)) → level ≡ 0
list_kind level area rs made = (All-one (BelongsAt level) (leaves.Records rs)).0 made.kinds

list_rises : (level : ℕ) (area : Area) (rs : List Record) → IsTreeWellMade level area (Tip (leaves.Records rs)) → RiseFrom area None rs
list_rises level area rs made = (rise_tells area rs).1 ((All-one IsInOrder (record { leaf = leaves.Records rs; area = area })).0 made.in_order)

pub list_passed : (k level : ℕ) (area : Area) (before : ℕ) (bytes first : List ℕ) (count : ℕ) (passed : Passed) → level ≡ 0 → count_at k bytes ≡ Some (count, first) → GoesPast (RiseFrom area None) (records_at k count first) (Some passed.rest.now)
    → passed.weight ≡ before + max 1 count → passed.leaf ≡ Some views.Records → PassesOver level area before (records_tip_at k bytes) passed
unfolding records_tip_at
list_passed k level area before bytes first count passed ground e past weight leaf = record {
  tree = Tip (leaves.Records past.0);
  there = rw (e, past.1) refl;
  well_made = list_well_made level area past.0 ground past.2;
  weight = let n = many_counted (record_at k) count first (past.0, passed.rest.now) past.1 in omega (arith, n, weight);
  leaf = leaf;
}

-- it stops where no such leaf can be well made
list_stops : (k level : ℕ) (area : Area) (bytes : List ℕ) → ((n : ℕ × List ℕ) → count_at k bytes ≡ Some n → level ≡ 0 → IfSome (records_at k n.0 n.1) (Rising area None)) → IfSome (records_tip_at k bytes) (λ x. ¬ (IsTreeWellMade level area x.0))
unfolding records_tip_at
list_stops k level area bytes never =
    if_then (count_at k bytes) _ _ (λ n en. if_then (records_at k n.0 n.1) _ _ (λ x ex. λ made. at_value (records_at k n.0 n.1) (Rising area None) x ex (never n en (list_kind level area x.0 made)) (list_rises level area x.0 made)))

pub list_falls : (k level : ℕ) (area : Area) (bytes first : List ℕ) (count : ℕ) → count_at k bytes ≡ Some (count, first) → IfSome (records_at k count first) (Rising area None) → IfSome (records_tip_at k bytes) (λ x. ¬ (IsTreeWellMade level area x.0))
list_falls k level area bytes first count e falls =
    list_stops k level area bytes (λ n en ground. subst (λ (m : ℕ × List ℕ). IfSome (records_at k m.0 m.1) (Rising area None)) (one_value (count_at k bytes) (count, first) n e en) falls)
