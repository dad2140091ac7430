use Rattle.std.proofs.Common.{◌≡◌, ◌∙◌, ◌++◌, List, ℕ, codes, decimal, sym, ap, subst, append_assoc}
use Rattle.hbpi.specs.Outcome.{GetsLine, fault_line}
use Rattle.hbpi.specs.declared.statuses.Damage.{Damage}
use Rattle.hbpi.specs.declared.statuses.Status.TheVariants.{Damaged}
use Rattle.hbpi.proofs.faults.put_damage.Goals as goal

-- the line of a page that isn't the one that was asked for, as it is put
level_line : (page : ℕ) → codes "damaged " ++ decimal page ++ codes " level\n" ≡ codes "damaged " ++ decimal page ++ codes " level" ++ codes "\n"
level_line page = sym (append_assoc (codes "damaged " ++ decimal page) (codes " level") (codes "\n"))

extent_line : (page : ℕ) → codes "damaged " ++ decimal page ++ codes " extent\n" ≡ codes "damaged " ++ decimal page ++ codes " extent" ++ codes "\n"
extent_line page = sym (append_assoc (codes "damaged " ++ decimal page) (codes " extent") (codes "\n"))

pub returns-in-Level : goal.returns-in-Level
returns-in-Level g c =
    subst (λ (line : List ℕ). GetsLine (g.K.Sink.model c.args.sink.now) (g.K.Sink.model c.put_line-in-Level.new.sink) line)
    (c.as_slice-in-Level.ensures.value ∙ c.page_line.ensures ∙ level_line c.in-Level.page ∙ ap (λ (damage : Damage). fault_line (Damaged damage)) (sym c.in-Level.is))
    c.put_line-in-Level.ensures

pub returns-in-Extent : goal.returns-in-Extent
returns-in-Extent g c =
    subst (λ (line : List ℕ). GetsLine (g.K.Sink.model c.args.sink.now) (g.K.Sink.model c.put_line-in-Extent.new.sink) line)
    (c.as_slice-in-Extent.ensures.value ∙ c.page_line-in-Extent.ensures ∙ extent_line c.in-Extent.page ∙ ap (λ (damage : Damage). fault_line (Damaged damage)) (sym c.in-Extent.is))
    c.put_line-in-Extent.ensures
