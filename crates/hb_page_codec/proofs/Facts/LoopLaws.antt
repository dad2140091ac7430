-- Reading one thing after the other, as a loop does.
use Rattle.std.proofs.Common.{◌≡◌, ℕ, suc, ◌-◌, ◌+◌, ◌≤◌, ◌<◌, List, [], ◌∷◌, ◌++◌, Option, Some, None, refl, sym, ap, ◌∙◌, append_assoc, arith}
use Rattle.std.proofs.lemmas.List.{append-nil}
use Rattle.hb_page_codec.specs.Reading.{many_at}
use Rattle.hb_lemmas.specs.Options.{◌>>=◌}

-- what was read before, and what is still read
abbrev pub with_front : {A : Type 0} → List A → Option (List A × List ℕ) → Option (List A × List ℕ)
with_front front read = read >>= λ x. Some (front ++ x.0, x.1)

-- one thing more in front
regroup : {A : Type 0} (front : List A) (n : A) (read : Option (List A × List ℕ)) → with_front front (read >>= λ x. Some (n ∷ x.0, x.1)) ≡ with_front (front ++ n ∷ []) read
regroup front n (Some x) = ap (λ ns. Some (ns, x.1)) (simp append_assoc)
regroup front n None = refl

-- before the first one nothing was read, and all are still read
pub starts : {A : Type 0} (read : List ℕ → Option (A × List ℕ)) (count : ℕ) (bytes : List ℕ) → with_front [] (many_at read (count - 0) bytes) ≡ many_at read count bytes
starts read count bytes = same (many_at read (count - 0) bytes) ∙ ap (λ n. many_at read n bytes) (let e : count - 0 ≡ count = omega arith in e)
  where
    same : {A : Type 0} (x : Option (List A × List ℕ)) → with_front [] x ≡ x
    same (Some x) = refl
    same None = refl

-- one more that is read goes to the front
pub goes_on : {A : Type 0} (read : List ℕ → Option (A × List ℕ)) (front : List A) (count i : ℕ) (bytes : List ℕ) (n : A) (after : List ℕ) (total : Option (List A × List ℕ)) → i < count → read bytes ≡ Some (n, after)
    → with_front front (many_at read (count - i) bytes) ≡ total → with_front (front ++ n ∷ []) (many_at read (count - (i + 1)) after) ≡ total
unfolding many_at
goes_on read front count i bytes n after total lt h so_far =
    let k : count - i ≡ suc (count - (i + 1)) = omega arith in
    let one : with_front front (many_at read (count - i) bytes) ≡ with_front (front ++ n ∷ []) (many_at read (count - (i + 1)) after) = rw (k, h) (regroup front n (many_at read (count - (i + 1)) after)) in
    sym one ∙ so_far

-- where one isn't read, all are not
pub stops : {A : Type 0} (read : List ℕ → Option (A × List ℕ)) (front : List A) (count i : ℕ) (bytes : List ℕ) (total : Option (List A × List ℕ)) → i < count → read bytes ≡ None
    → with_front front (many_at read (count - i) bytes) ≡ total → total ≡ None
unfolding many_at
stops read front count i bytes total lt h so_far =
    let k : count - i ≡ suc (count - (i + 1)) = omega arith in
    let one : with_front front (many_at read (count - i) bytes) ≡ None = rw (k, h) refl in
    sym so_far ∙ one

-- where none is left, what was read is all
pub is_done : {A : Type 0} (read : List ℕ → Option (A × List ℕ)) (front : List A) (count i : ℕ) (bytes : List ℕ) (total : Option (List A × List ℕ)) → count ≤ i → with_front front (many_at read (count - i) bytes) ≡ total → total ≡ Some (front, bytes)
unfolding many_at
is_done read front count i bytes total le so_far =
    let k : count - i ≡ 0 = omega arith in
    let one : with_front front (many_at read (count - i) bytes) ≡ Some (front, bytes) = rw k (ap (λ ns. Some (ns, bytes)) (append-nil front)) in
    sym so_far ∙ one
