-- Lists in which each element stands in a relation to each later one.
use Rattle.std.proofs.Common.{zero, suc, List, [], ◌∷◌, ◌++◌, All, arith}
use Rattle.std.specs.List.{AllPairs}
use Rattle.std.proofs.lemmas.List.Elements.{All-append, All-cons, All-head, All-nil, All-tail}
use Rattle.std.proofs.lemmas.List.Kept.{AllPairs-cons}
use Rattle.hb_lemmas.proofs.Lists.{All-parts}

-- none has no pair
pub pairs_none : {X : Type 0} (R : X → X → Type 0) → AllPairs R []
pairs_none R i j d less inside = absurd (omega (arith, inside))

-- the first one to each other, and the others among themselves
pub pairs_first : {X : Type 0} (R : X → X → Type 0) (x : X) (xs : List X) → AllPairs R (x ∷ xs) → All (R x) xs
pairs_first R x xs pairs k d lt = pairs zero (suc k) d (omega arith) (omega (arith, lt))

pub pairs_rest : {X : Type 0} (R : X → X → Type 0) (x : X) (xs : List X) → AllPairs R (x ∷ xs) → AllPairs R xs
pairs_rest R x xs pairs i j d less inside = pairs (suc i) (suc j) d (omega (arith, less)) (omega (arith, inside))

-- two such lists, and each of the first one to each of the second
pub pairs_append : {X : Type 0} (R : X → X → Type 0) (xs ys : List X) → AllPairs R xs → AllPairs R ys → All (λ x. All (R x) ys) xs → AllPairs R (xs ++ ys)
pairs_append R [] ys first second across = second
pairs_append R (x ∷ xs) ys first second across =
    AllPairs-cons R x (xs ++ ys)
    (All-append (R x) xs ys (pairs_first R x xs first) (All-head (λ y. All (R y) ys) x xs across))
    (pairs_append R xs ys (pairs_rest R x xs first) second (All-tail (λ y. All (R y) ys) x xs across))

-- and a front with each of it to what stands behind, taken apart
pub pairs_parts : {X : Type 0} (R : X → X → Type 0) (xs ys : List X) → AllPairs R (xs ++ ys) → AllPairs R xs × All (λ x. All (R x) ys) xs
pairs_parts R [] ys pairs = (pairs_none R, All-nil (λ x. All (R x) ys))
pairs_parts R (x ∷ xs) ys pairs =
    let firsts = (All-parts (R x) xs ys).0 (pairs_first R x (xs ++ ys) pairs) in
    let later = pairs_parts R xs ys (pairs_rest R x (xs ++ ys) pairs) in
    (AllPairs-cons R x xs firsts.0 later.0, All-cons (λ y. All (R y) ys) x xs firsts.1 later.1)
