-- Who is in the way of a latch, as the modes tell it.
use Rattle.std.proofs.Common.{◌≡◌, ℕ, true, false, Option, Some, None, IsTrue, IfSome, refl, sym, subst, ◌∙◌}
use Rattle.std.specs.Option.{IsSomeAnd}
use Rattle.std.proofs.lemmas.Bool.{false≢true}
use Rattle.hb_latch.specs.declared.modes.Mode.{Mode}
use Rattle.hb_latch.specs.Modes.{goes_beside}
use Rattle.hb_latch.specs.Tables.{HeldModes, IsGrantable, KeepsFrom}

pub nobody_keeps : (modes : HeldModes) (actor page : ℕ) (mode : Mode) → ((other : ℕ) → ¬ (KeepsFrom modes actor page mode other)) → IsGrantable modes actor page mode
nobody_keeps modes actor page mode nobody other apart =
    elim (modes other page) as (λ o. modes other page ≡ o → IfSome o (λ held. IsTrue (goes_beside mode held))) [
      | None ↦ λ is. tt
      | Some held ↦ λ is. elim (goes_beside mode held) as (λ b. goes_beside mode held ≡ b → b ≡ true) [
        | true ↦ λ beside. refl
        | false ↦ λ beside. absurd (nobody other (record {
          another = apart;
          conflict = subst (λ (o : Option Mode). IsSomeAnd o (λ held. ¬ (IsTrue (goes_beside mode held)))) (sym is) (λ t. false≢true (sym beside ∙ t));
        }))
      ] refl
    ] refl

pub none_keeps : (modes : HeldModes) (actor page : ℕ) (mode : Mode) → IsGrantable modes actor page mode → (other : ℕ) → ¬ (KeepsFrom modes actor page mode other)
none_keeps modes actor page mode grantable other keeps =
    elim (modes other page) as (λ o. IfSome o (λ held. IsTrue (goes_beside mode held)) → IsSomeAnd o (λ held. ¬ (IsTrue (goes_beside mode held))) → ⊥) [
      | None ↦ λ beside apart. apart
      | Some held ↦ λ beside apart. apart beside
    ] (grantable other keeps.another) keeps.conflict
