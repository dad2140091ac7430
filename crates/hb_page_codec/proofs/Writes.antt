-- Writing one thing behind the other.
use Rattle.std.proofs.Common.{◌≡◌, ℕ, zero, suc, ◌+◌, ◌<◌, ◌≤◌, List, [], ◌∷◌, ◌++◌, length, get_or, take, sym, ap, subst, ◌∙◌, append_assoc, length-append, arith}
use Rattle.std.specs.List.{flat_map}
use Rattle.std.proofs.lemmas.List.{append-nil, take_all}
use Rattle.std.proofs.lemmas.List.Concat.{flat_map-cons}
use Rattle.hb_lemmas.specs.Numbers.{big_endian}
use Rattle.hb_frag.specs.declared.leaves.Leaf.TheVariants.{Records, Child, Sibling}
use Rattle.hb_frag.specs.Trees.{Tree, Tip, Cut}
use Rattle.hb_frag.specs.Grammar.{tree_bytes, FitsTree}
use Rattle.hb_page_codec.specs.Writing.{Wrote, AreCountable}
pub use Rattle.hb_lemmas.proofs.Numbers.{length_big_endian}

-- one thing and then another
pub Wrote-then : (old : List ℕ) (at : ℕ) (front : List ℕ) (mid : List ℕ) (place : ℕ) (back : List ℕ) (new : List ℕ) (end : ℕ)
    → Wrote old at front mid place → Wrote mid place back new end → Wrote old at (front ++ back) new end
Wrote-then old at front mid place back new end a b = record {
  behind = b.behind ∙ omega (arith, a.behind, length-append front back);
  front = b.front ∙ ap (λ (xs : List ℕ). xs ++ back) a.front ∙ append_assoc (take at old) front back;
}

-- nothing
pub Wrote-nothing : (old : List ℕ) (at : ℕ) → Wrote old at [] old at
Wrote-nothing old at = record { behind = omega arith; front = sym (append-nil (take at old)) }

flat_map_step : {A : Type 0} (f : A → List ℕ) (xs : List A) (i : ℕ) (d : A) → i < length xs → flat_map f (take (suc i) xs) ≡ flat_map f (take i xs) ++ f (get_or xs i d)
flat_map_step f [] i d lt = absurd (omega arith)
flat_map_step f (x ∷ xs) zero d lt = flat_map-cons f x [] ∙ append-nil (f x)
flat_map_step f (x ∷ xs) (suc i) d lt =
    flat_map-cons f x (take (suc i) xs) ∙ ap (λ (t : List ℕ). f x ++ t) (flat_map_step f xs i d (omega arith)) ∙ sym (append_assoc (f x) (flat_map f (take i xs)) (f (get_or xs i d)))
    ∙ ap (λ (t : List ℕ). t ++ f (get_or xs i d)) (sym (flat_map-cons f x (take i xs)))

-- the next one of a list
pub Wrote-next : {A : Type 0} (f : A → List ℕ) (xs : List A) (i : ℕ) (d : A) (old : List ℕ) (at : ℕ) (mid : List ℕ) (place : ℕ) (new : List ℕ) (end : ℕ) → i < length xs
    → Wrote old at (flat_map f (take i xs)) mid place → Wrote mid place (f (get_or xs i d)) new end → Wrote old at (flat_map f (take (i + 1) xs)) new end
Wrote-next f xs i d old at mid place new end lt a b =
    let step : flat_map f (take (i + 1) xs) ≡ flat_map f (take i xs) ++ f (get_or xs i d) = ap (λ n. flat_map f (take n xs)) (let e : i + 1 ≡ suc i = omega arith in e) ∙ flat_map_step f xs i d lt in
    rw step (Wrote-then old at (flat_map f (take i xs)) mid place (f (get_or xs i d)) new end a b)

-- the bytes of a cut
pub length-cut : (axis value : ℕ) (left right : Tree) → length (tree_bytes (Cut axis value left right)) ≡ 10 + length (tree_bytes left) + length (tree_bytes right)
length-cut axis value left right =
    length-append (0 ∷ axis ∷ big_endian 8 value ++ tree_bytes left) (tree_bytes right)
    ∙ omega (arith, length-append (0 ∷ axis ∷ big_endian 8 value) (tree_bytes left), length_big_endian 8 value)

-- all of a list
pub wrote_all : {A : Type 0} (f : A → List ℕ) (xs : List A) (i : ℕ) (old : List ℕ) (at : ℕ) (new : List ℕ) (end : ℕ) → length xs ≤ i
    → Wrote old at (flat_map f (take i xs)) new end → Wrote old at (flat_map f xs) new end
wrote_all f xs i old at new end le w = subst (λ ys. Wrote old at (flat_map f ys) new end) (take_all i xs le) w

-- a tree that has its place can be counted
pub countable : (k : ℕ) (t : Tree) → FitsTree k t → AreCountable t
countable k (Tip (Records rs)) fits = fits.0
countable k (Tip (Child page)) fits = tt
countable k (Tip (Sibling page)) fits = tt
countable k (Cut axis value left right) fits = (countable k left fits.2, countable k right fits.3)
