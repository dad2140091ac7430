use Rattle.std.proofs.Common.{inl, inr, List, ℕ, sym, ◌∙◌, ap, subst}
use Rattle.hbpi.specs.Outcome.{fault_line, GetsLine}
use Rattle.hbpi.proofs.PutTexts.{gets_nothing}
use Rattle.hbpi.proofs.faults.put_fault.Goals as goal

pub returns-in-BadLayout-clause-line : goal.returns-in-BadLayout-clause-line
returns-in-BadLayout-clause-line g c =
    subst (λ (line : List ℕ). GetsLine (g.K.Sink.model c.args.sink.now) (g.K.Sink.model c.put_line-in-BadLayout.new.sink) line)
    (c.as_slice-in-BadLayout.ensures.value ∙ c.bad_layout_line.ensures ∙ ap fault_line (sym c.in-BadLayout.is))
    c.put_line-in-BadLayout.ensures

pub returns-in-Done-clause-line : goal.returns-in-Done-clause-line
returns-in-Done-clause-line g c = elim c.in-Done.is [ inl is ↦ rw is (gets_nothing _) | inr is ↦ rw is (gets_nothing _) ]

pub returns-in-SourceFault-clause-line : goal.returns-in-SourceFault-clause-line
returns-in-SourceFault-clause-line g c = rw c.in-SourceFault.is c.put_line-in-SourceFault.ensures

pub returns-in-DiskFault-clause-line : goal.returns-in-DiskFault-clause-line
returns-in-DiskFault-clause-line g c = rw c.in-DiskFault.is c.put_line-in-DiskFault.ensures
