use Rattle.std.proofs.Common.{◌≡◌, ℕ, List, sym, ap, subst, ◌∙◌}
use Rattle.hb_core.specs.CoreSeen.{core_seen}
use Rattle.hb_outside.specs.Calls.{SinkModel}
use Rattle.hb_set.specs.declared.scripts.Answered.{Answered}
use Rattle.hb_set.specs.declared.scripts.Line.{Line}
use Rattle.hbpi.specs.Counted.{counts_text, records_left}
use Rattle.hbpi.specs.Saying.{SaysCounts}
use Rattle.hbpi.specs.declared.statuses.Status.{Status}
use Rattle.hbpi.proofs.finishing.finish_counting.Goals as goal

pub returns : goal.returns
returns g c =
    let K : g.row.K.Denot → SinkModel = g.K.Sink.model in
    let end = c.args.ran.end in
    let given = c.leave.ensures.given in
    let text : List Line → List Answered → List ℕ = λ ls a. counts_text a (records_left ls a c.args.records) in
    let lines : c.as_slice-lines.result.now ≡ (core_seen c.args.ran.core).lines = c.as_slice-lines.ensures ∙ c.script.ensures.lines in
    let same : text c.as_slice-lines.result.now c.as_slice.result.now ≡ text (core_seen c.args.ran.core).lines c.args.ran.answered.items =
    ap (λ (ls : List Line). text ls c.as_slice.result.now) lines ∙ ap (text (core_seen c.args.ran.core).lines) c.as_slice.ensures.value in
    let says = subst (λ (t : List ℕ). SaysCounts end t (K c.args.sink) (K c.say_counts-status.new.sink) c.say_counts-status.result) same c.say_counts-status.ensures in
    let in_sink = subst (λ (x : g.row.K.Denot). SaysCounts end (text (core_seen c.args.ran.core).lines c.args.ran.answered.items) (K c.args.sink) (K x) c.say_counts-status.result) (sym given.1) says in
    record {
      hands = c.leave.ensures.hands;
      says = subst (λ (x : Status). SaysCounts end (text (core_seen c.args.ran.core).lines c.args.ran.answered.items) (K c.args.sink) (K c.leave.result.sink) x) (sym given.0) in_sink;
    }
