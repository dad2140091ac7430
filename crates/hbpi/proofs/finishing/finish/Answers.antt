use Rattle.std.proofs.Common.{ap, sym, subst, ◌∙◌}
use Rattle.hb_outside.specs.Calls.{SinkModel}
use Rattle.hbpi.specs.Codes.{status_after}
use Rattle.hbpi.specs.Outcome.{GetsLine, fault_line}
use Rattle.hbpi.specs.declared.statuses.Status.{Status}
use Rattle.hbpi.proofs.finishing.finish.Goals as goal

pub returns : goal.returns
returns g c =
    let S : g.row.K.Denot → SinkModel = g.K.Sink.model in
    let given = c.leave.ensures.given in
    let line = subst (λ (x : Status). GetsLine (S c.args.ran.sink) (S c.put_fault.new.sink) (fault_line x)) (sym given.0) c.put_fault.ensures.line in
    record {
      hands = c.leave.ensures.hands;
      status_is = given.0 ∙ c.status_of-status.ensures;
      silent = λ is. given.1 ∙ c.put_fault.ensures.silent (c.status_of-status.ensures ∙ ap status_after is);
      silent_done = λ is. given.1 ∙ c.put_fault.ensures.silent_done (c.status_of-status.ensures ∙ ap status_after is);
      line = subst (λ (x : g.row.K.Denot). GetsLine (S c.args.ran.sink) (S x) (fault_line c.leave.result.status)) (sym given.1) line;
    }
