-- What was read over is what was read.
use Rattle.std.proofs.Common.{◌≡◌, ℕ, zero, suc, ◌+◌, ◌-◌, ◌*◌, ◌<◌, ◌≤◌, List, [], ◌∷◌, length, drop, Option, Some, None, inl, inr, refl, sym, ap, subst, ◌∙◌, arith}
use Rattle.std.proofs.lemmas.Bool.{cases_lt, le-ltb, lt-ltb}
use Rattle.std.proofs.lemmas.List.{length-drop, drop-drop}
use Rattle.hb_frag.specs.Trees.{Tree}
use Rattle.hb_page_codec.specs.Reading.{number_at, many_at}
use Rattle.hb_page_codec.specs.ReadingFields.{axis_at, body_at, count_at, point_at, record_at, records_at}
use Rattle.hb_page_codec.specs.ReadingPages.{cut_at, records_tip_at, node_at, tree_at}
use Rattle.hb_page_codec.proofs.Facts.Depth.{Leaves, tree_is, tree_shortens}
use Rattle.std.proofs.lemmas.Option.{same_Some}
use Rattle.hb_view.specs.Behind.{behind, record_behind, list_behind, cut_behind, name_behind, node_behind}
use Rattle.hb_lemmas.specs.Options.{◌>>=◌}

-- the bytes behind two things are those behind the second one
pub behind_then : {A B : Type 0} (r : Option (A × List ℕ)) (f : A × List ℕ → Option (B × List ℕ)) (g : List ℕ → Option (List ℕ)) → ((x : A × List ℕ) → behind (f x) ≡ g x.1) → behind (r >>= f) ≡ (behind r >>= g)
behind_then None f g same = refl
behind_then (Some x) f g same = same x

-- what is made of it changes nothing
pub behind_made : {A B : Type 0} (r : Option (A × List ℕ)) (make : A → B) → behind (r >>= λ x. Some (make x.0, x.1)) ≡ behind r
behind_made None make = refl
behind_made (Some x) make = refl

-- a point has 8 bytes for each value
pub point_short : (k : ℕ) (bytes : List ℕ) → length bytes < 8 * k → point_at k bytes ≡ None
unfolding many_at
point_short zero bytes lt = absurd (omega arith)
point_short (suc k) bytes lt = elim (cases_lt (length bytes) 8) [
  | inl few ↦ rw (lt-ltb (length bytes) 8 few) refl
  | inr many ↦ rw (le-ltb (length bytes) 8 many, point_short k (drop 8 bytes) (omega (arith, length-drop 8 bytes))) refl
]

pub point_long : (k : ℕ) (bytes : List ℕ) → 8 * k ≤ length bytes → behind (point_at k bytes) ≡ Some (drop (8 * k) bytes)
unfolding many_at
point_long zero bytes le = refl
point_long (suc k) bytes le =
    let many : 8 ≤ length bytes = omega arith in
    let next = point_long k (drop 8 bytes) (omega (arith, length-drop 8 bytes)) in
    let all : drop (8 * k) (drop 8 bytes) ≡ drop (8 * suc k) bytes = drop-drop (8 * k) 8 bytes ∙ ap (λ n. drop n bytes) (let e : 8 + 8 * k ≡ 8 * suc k = omega arith in e) in
    rw (le-ltb (length bytes) 8 many) (behind_made (many_at (number_at 8) k (drop 8 bytes)) _ ∙ next ∙ ap (λ (rest : List ℕ). Some rest) all)

-- a record is its point and its body
pub record_skipped : (k : ℕ) (bytes : List ℕ) → behind (record_at k bytes) ≡ record_behind k bytes
unfolding record_at record_behind
record_skipped k bytes = behind_then (point_at k bytes) _ (λ rest. behind (body_at rest)) (λ key. behind_made (body_at key.1) _)

-- many things are one and the others
many_step : {A : Type 0} (read : List ℕ → Option (A × List ℕ)) (n : ℕ) (bytes : List ℕ) → behind (many_at read (suc n) bytes) ≡ (behind (read bytes) >>= λ rest. behind (many_at read n rest))
unfolding many_at
many_step read n bytes = behind_then (read bytes) _ (λ rest. behind (many_at read n rest)) (λ first. behind_made (many_at read n first.1) _)

pub goes_on : (k count i : ℕ) (bytes after : List ℕ) (total : Option (List ℕ)) → i < count → record_behind k bytes ≡ Some after
    → behind (many_at (record_at k) (count - i) bytes) ≡ total → behind (many_at (record_at k) (count - (i + 1)) after) ≡ total
goes_on k count i bytes after total lt one so_far =
    let e : count - i ≡ suc (count - (i + 1)) = omega arith in
    let first : behind (record_at k bytes) ≡ Some after = record_skipped k bytes ∙ one in
    sym (ap (λ n. behind (many_at (record_at k) n bytes)) e ∙ many_step (record_at k) (count - (i + 1)) bytes ∙ ap (λ (r : Option (List ℕ)). r >>= λ rest. behind (many_at (record_at k) (count - (i + 1)) rest)) first) ∙ so_far

pub stops : (k count i : ℕ) (bytes : List ℕ) (total : Option (List ℕ)) → i < count → record_behind k bytes ≡ None → behind (many_at (record_at k) (count - i) bytes) ≡ total → total ≡ None
stops k count i bytes total lt none so_far =
    let e : count - i ≡ suc (count - (i + 1)) = omega arith in
    let first : behind (record_at k bytes) ≡ None = record_skipped k bytes ∙ none in
    sym so_far ∙ ap (λ n. behind (many_at (record_at k) n bytes)) e ∙ many_step (record_at k) (count - (i + 1)) bytes ∙ ap (λ (r : Option (List ℕ)). r >>= λ rest. behind (many_at (record_at k) (count - (i + 1)) rest)) first

pub is_done : (k count i : ℕ) (bytes : List ℕ) (total : Option (List ℕ)) → count ≤ i → behind (many_at (record_at k) (count - i) bytes) ≡ total → total ≡ Some bytes
unfolding many_at
is_done k count i bytes total le so_far = let e : count - i ≡ 0 = omega arith in sym so_far ∙ ap (λ n. behind (many_at (record_at k) n bytes)) e

-- a step of which nothing is kept
pub steps : {A B : Type 0} (r : Option A) (f : A → Option (B × List ℕ)) (g : A → Option (List ℕ)) → ((x : A) → behind (f x) ≡ g x) → behind (r >>= f) ≡ (r >>= g)
steps None f g same = refl
steps (Some x) f g same = same x

-- a tree by its root
cut_skipped : (k : ℕ) (bytes : List ℕ) → behind (cut_at (tree_at k) k bytes) ≡ cut_behind k bytes
unfolding cut_at cut_behind
cut_skipped k bytes = steps (axis_at k bytes) _ _ (λ axis. steps (number_at 8 axis.1) _ _ (λ value. behind_then (tree_at k value.1) _ (λ rest. behind (tree_at k rest)) (λ left. behind_made (tree_at k left.1) _)))

records_skipped : (k : ℕ) (bytes : List ℕ) → behind (records_tip_at k bytes) ≡ list_behind k bytes
unfolding records_tip_at list_behind
records_skipped k bytes = steps (count_at k bytes) _ _ (λ count. behind_made (records_at k count.0 count.1) _)

pub name_skipped : {A : Type 0} (make : ℕ → A) (bytes : List ℕ) → behind (number_at 4 bytes >>= λ page. Some (make page.0, page.1)) ≡ name_behind bytes
unfolding name_behind
name_skipped make bytes = named (number_at 4 bytes)
  where
    named : (r : Option (ℕ × List ℕ)) → behind (r >>= λ page. Some (make page.0, page.1)) ≡ (r >>= λ page. Some page.1)
    named None = refl
    named (Some page) = refl

node_skipped : (k : ℕ) (bytes : List ℕ) → behind (node_at (tree_at k) k bytes) ≡ node_behind k bytes
unfolding node_at node_behind
node_skipped k [] = refl
node_skipped k (zero ∷ rest) = cut_skipped k rest
node_skipped k (suc zero ∷ rest) = records_skipped k rest
node_skipped k (suc (suc zero) ∷ rest) = name_skipped _ rest
node_skipped k (suc (suc (suc zero)) ∷ rest) = name_skipped _ rest
node_skipped k (suc (suc (suc (suc b))) ∷ rest) = refl

pub tree_skipped : (k : ℕ) (bytes : List ℕ) → behind (tree_at k bytes) ≡ node_behind k bytes
tree_skipped k bytes = ap (λ (r : Option (Tree × List ℕ)). behind r) (tree_is k bytes) ∙ node_skipped k bytes

-- what is behind a tree is no longer than the whole
pub tree_shorter : (k : ℕ) (bytes rest : List ℕ) → behind (tree_at k bytes) ≡ Some rest → length rest ≤ length bytes
tree_shorter k bytes rest e = shorter (tree_at k bytes) (tree_shortens k bytes) e
  where
    shorter : (r : Option (Tree × List ℕ)) → Leaves r (length bytes) → behind r ≡ Some rest → length rest ≤ length bytes
    shorter None h e = absurd cc
    shorter (Some x) h e = let same : x.1 ≡ rest = same_Some x.1 rest e in subst (λ (b : List ℕ). length b ≤ length bytes) same h
