-- What a comparison answered.
use Rattle.std.proofs.Common.{◌≡◌, true, refl, ap, ◌∙◌, subst}
use Rattle.std.specs.Ordering.{is_eq, is_lt, ordering_reverse, eq_by_cmp}
use Rattle.std.specs.declared.cmp.Ordering.{Ordering}
use Rattle.std.specs.declared.cmp.Ordering.TheVariants.{Less, Equal, Greater}
use Rattle.std.proofs.lemmas.Bool.{false≢true}
use Rattle.std.specs.Cmp.{IsTotalOrder}
use Rattle.std.proofs.lemmas.Cmp.{tied_itself}

pub less_so : (o : Ordering) → is_lt o ≡ true → o ≡ Less
less_so Less h = refl
less_so Equal h = absurd (false≢true h)
less_so Greater h = absurd (false≢true h)

pub equal_so : (o : Ordering) → is_eq o ≡ true → o ≡ Equal
equal_so Less h = absurd (false≢true h)
equal_so Equal h = refl
equal_so Greater h = absurd (false≢true h)

-- of two keys the lesser one is first
pub reversed : {K : Type 0} {cmp : K → K → Ordering} → IsTotalOrder cmp → (p q : K) (o : Ordering) → cmp p q ≡ o → cmp q p ≡ ordering_reverse o
reversed order p q o h = order.antisymm q p ∙ ap ordering_reverse h

-- a key compares alike with itself
pub alike : {K : Type 0} {cmp : K → K → Ordering} → IsTotalOrder cmp → (p q : K) → p ≡ q → eq_by_cmp cmp p q ≡ true
alike {K} {cmp} order p q same = subst (λ (x : K). eq_by_cmp cmp p x ≡ true) same (ap is_eq (tied_itself order p))
