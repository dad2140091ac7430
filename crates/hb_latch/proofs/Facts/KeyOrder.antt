-- The order of keys is total, and keys that compare alike are one.
use Rattle.std.proofs.Common.{◌≡◌, ℕ, refl}
use Rattle.std.specs.Ordering.{nat_cmp, ordering_then}
use Rattle.std.specs.Cmp.{IsTotalOrder, on_total, then_total}
use Rattle.std.proofs.lemmas.Cmp.{nat_cmp_total}
use Rattle.std.specs.declared.cmp.Ordering.TheVariants.{Less, Equal, Greater}
use Rattle.std.specs.FinMap.{IsAntisymmetric, nat_cmp-IsAntisymmetric}
use Rattle.hb_latch.specs.Tables.{latch_cmp}

pub latch_order : IsTotalOrder latch_cmp
latch_order = then_total (on_total (λ (k : ℕ × ℕ). k.0) nat_cmp_total) (on_total (λ (k : ℕ × ℕ). k.1) nat_cmp_total)

pub exact_keys : IsAntisymmetric latch_cmp
exact_keys x y tied =
    elim (nat_cmp x.0 y.0) as (λ o. nat_cmp x.0 y.0 ≡ o → ordering_then o (nat_cmp x.1 y.1) ≡ Equal → x ≡ y) [
      | Less ↦ λ is e. cc
      | Equal ↦ λ is e. λ i. (nat_cmp-IsAntisymmetric x.0 y.0 is i, nat_cmp-IsAntisymmetric x.1 y.1 e i)
      | Greater ↦ λ is e. cc
    ] refl tied
