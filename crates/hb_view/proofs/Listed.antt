-- Looking through the records at the front of bytes, one after the other.
use Rattle.std.proofs.Common.{◌≡◌, ℕ, suc, ◌+◌, ◌-◌, ◌<◌, ◌≤◌, List, ◌∷◌, Option, Some, None, IsSome, inl, inr, refl, sym, ap, subst, ◌∙◌, arith}
use Rattle.hb_space.specs.declared.records.Record.{Record}
use Rattle.hb_page_codec.specs.Reading.{many_at}
use Rattle.hb_page_codec.specs.ReadingFields.{record_at, records_at}
use Rattle.hb_view.specs.Lists.{records_there, after_there}
use Rattle.hb_view.specs.Views.{FindsAmong}
use Rattle.hb_lemmas.specs.Options.{◌>>=◌}
use Rattle.hb_lemmas.proofs.Numbers.{one_left}
use Rattle.hb_lemmas.proofs.Options.{not_there}
use Rattle.hb_view.specs.Behind.{after_or, list_or}

-- the first of some records, and the others
pub record IsFirst (k m : ℕ) (bytes : List ℕ) (r : Record) (after : List ℕ) : Type 0 where
  pub others : IsSome (records_at k m after)
  pub list : records_there k (suc m) bytes ≡ r ∷ records_there k m after
  pub behind_them : after_there k (suc m) bytes ≡ after_there k m after

is_first : (k m : ℕ) (bytes : List ℕ) (r : Record) (after : List ℕ) → IsSome (records_at k (suc m) bytes) → record_at k bytes ≡ Some (r, after) → IsFirst k m bytes r after
unfolding many_at
is_first k m bytes r after there e =
    let next : records_at k (suc m) bytes ≡ (records_at k m after >>= with_first) = rw e refl in
    let both = parted (records_at k m after) (subst (λ (o : Option (List Record × List ℕ)). IsSome o) next there) in
    record { others = both.0; list = ap list_or next ∙ both.1; behind_them = ap after_or next ∙ both.2 }
  where
    with_first : List Record × List ℕ → Option (List Record × List ℕ)
    with_first others = Some (r ∷ others.0, others.1)

    parted : (o : Option (List Record × List ℕ)) → IsSome (o >>= with_first) → IsSome o × (list_or (o >>= with_first) ≡ r ∷ list_or o) × (after_or (o >>= with_first) ≡ after_or o)
    parted None h = cc
    parted (Some x) h = (refl, refl, refl)

-- what is found among those that are left is found among all
abbrev pub FindsOn : List ℕ → List Record → List Record → Type 0
FindsOn p left all = (body : Option (List ℕ)) → FindsAmong p left body → FindsAmong p all body

pub left_first : (k count i : ℕ) (rest : List ℕ) (r : Record) (after : List ℕ) → i < count → IsSome (records_at k (count - i) rest) → record_at k rest ≡ Some (r, after) → IsFirst k (count - (i + 1)) rest r after
left_first k count i rest r after lt there e = is_first k (count - (i + 1)) rest r after (subst (λ n. IsSome (records_at k n rest)) (one_left count i lt) there) e

pub left_list : (k count i : ℕ) (rest : List ℕ) (r : Record) (after : List ℕ) → i < count → IsSome (records_at k (count - i) rest) → record_at k rest ≡ Some (r, after) → records_there k (count - i) rest ≡ r ∷ records_there k (count - (i + 1)) after
left_list k count i rest r after lt there e = ap (λ n. records_there k n rest) (one_left count i lt) ∙ (left_first k count i rest r after lt there e).list

pub left_behind : (k count i : ℕ) (rest : List ℕ) (r : Record) (after : List ℕ) → i < count → IsSome (records_at k (count - i) rest) → record_at k rest ≡ Some (r, after) → after_there k (count - (i + 1)) after ≡ after_there k (count - i) rest
left_behind k count i rest r after lt there e = sym (ap (λ n. after_there k n rest) (one_left count i lt) ∙ (left_first k count i rest r after lt there e).behind_them)

pub is_found : (k count i : ℕ) (rest p : List ℕ) (all : List Record) (r : Record) (after : List ℕ) → i < count → IsSome (records_at k (count - i) rest) → FindsOn p (records_there k (count - i) rest) all → record_at k rest ≡ Some (r, after) → r.key ≡ p
    → FindsAmong p all (Some r.body)
is_found k count i rest p all r after lt there on e same =
    on (Some r.body) (subst (λ (rs : List Record). FindsAmong p rs (Some r.body)) (sym (left_list k count i rest r after lt there e)) (inl (same, refl)))

pub passes_on : (k count i : ℕ) (rest p : List ℕ) (all : List Record) (r : Record) (after : List ℕ) → i < count → IsSome (records_at k (count - i) rest) → FindsOn p (records_there k (count - i) rest) all → record_at k rest ≡ Some (r, after) → ¬ (r.key ≡ p)
    → FindsOn p (records_there k (count - (i + 1)) after) all
passes_on k count i rest p all r after lt there on e other body h =
    on body (subst (λ (rs : List Record). FindsAmong p rs body) (sym (left_list k count i rest r after lt there e)) (inr (other, h)))

pub others_there : (k count i : ℕ) (rest : List ℕ) (r : Record) (after : List ℕ) → i < count → IsSome (records_at k (count - i) rest) → record_at k rest ≡ Some (r, after) → IsSome (records_at k (count - (i + 1)) after)
others_there k count i rest r after lt there e = (left_first k count i rest r after lt there e).others

pub none_missing : (k count i : ℕ) (rest : List ℕ) → i < count → IsSome (records_at k (count - i) rest) → record_at k rest ≡ None → ⊥
unfolding many_at
none_missing k count i rest lt there none =
    let next : records_at k (count - i) rest ≡ None = ap (λ n. records_at k n rest) (one_left count i lt) ∙ rw none refl in
    not_there (records_at k (count - i) rest) next there

pub none_left : (k count i : ℕ) (rest p : List ℕ) (all : List Record) → count ≤ i → FindsOn p (records_there k (count - i) rest) all → FindsAmong p all None
unfolding many_at
none_left k count i rest p all le on =
    let e : count - i ≡ 0 = omega arith in
    on None (subst (λ (rs : List Record). FindsAmong p rs None) (sym (ap (λ n. records_there k n rest) e)) refl)
