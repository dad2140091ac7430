-- A latch that a next activity may have goes beside those of other actors.
use Rattle.hb_steps.proofs.Latches.Names.{◌≡◌, ◌≢◌, inl, inr, ℕ, Option, Some, IsTrue, sym, subst, Mode, goes_beside, Wanted, LatchesFit, Machine, modes}
use Rattle.std.proofs.Common.{IfSome}
use Rattle.hb_latch.specs.Tables.{IsGrantable}
use Rattle.hb_lemmas.proofs.Options.{at_value}
use Rattle.hb_steps.proofs.Latches.Backing.{ComesFrom}

module _ (m : Machine) (fit : LatchesFit m) where
  pub both_before : (actor other page : ℕ) (mode held : Mode) → actor ≢ other → modes m actor page ≡ Some mode → modes m other page ≡ Some held → IsTrue (goes_beside mode held)
  both_before actor other page mode held apart first second =
      at_value (modes m other page) (λ (held : Mode). IsTrue (goes_beside mode held)) held second (at_value (modes m actor page) (λ (mode : Mode). IfSome (modes m other page) (λ held. IsTrue (goes_beside mode held))) mode first (fit.compatible actor other page apart))

  pub beside_from : (actor other page : ℕ) (mode held : Mode) → other ≢ actor → ComesFrom m actor page mode → modes m other page ≡ Some held → IsTrue (goes_beside mode held)
  beside_from actor other page mode held another (inl own_before) holds = both_before actor other page mode held (λ same. another (sym same)) own_before holds
  beside_from actor other page mode held another (inr (inl freely)) holds =
      let grants : IsGrantable (modes m) actor freely.wanted.page freely.wanted.mode = subst (λ (o : Option Wanted). IfSome o (λ wanted. IsGrantable (modes m) actor wanted.page wanted.mode)) freely.wants freely.free in
      let here : IfSome (modes m other page) (λ held. IsTrue (goes_beside freely.wanted.mode held)) = subst (λ (n : ℕ). IfSome (modes m other n) (λ held. IsTrue (goes_beside freely.wanted.mode held))) freely.page_is (grants other another) in
      subst (λ (own : Mode). IsTrue (goes_beside own held)) freely.mode_is (at_value (modes m other page) (λ (held : Mode). IsTrue (goes_beside freely.wanted.mode held)) held holds here)
  beside_from actor other page mode held another (inr (inr anew)) holds = let used = fit.used other page held holds in absurd ((anew used.0 used.1).0 (inl (other, held, holds)))
