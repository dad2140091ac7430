use Rattle.std.proofs.Common.{◌≡◌, ℕ, List, length, ◌∙◌, subst}
use Rattle.hb_text.specs.Output.{order_text}
use Rattle.hb_outside.specs.Calls.{PutsOn}
use Rattle.hbpi.proofs.dry.finish.Goals as goal

pub returns-clause-ends : goal.returns-clause-ends
returns-clause-ends g c =
    let before = g.K.Sink.model c.args.sink in
    let after = g.K.Sink.model c.put_order_on-put.new.sink in
    let order = c.args.answers.order in
    let put = c.args.answers.put in
    let last = c.put_order_on-put.result in
    let count : c.len.result ≡ length order.items = c.len.ensures ∙ order.ok.0 in
    record {
      result = last;
      status_is = c.status_of-status.ensures;
      put = subst (λ (n : ℕ). PutsOn put (order_text order.items n) last before after) count
          (subst (λ (l : List ℕ). PutsOn put (order_text l c.len.result) last before after) c.as_slice.ensures.value c.put_order_on-put.ensures);
    }
