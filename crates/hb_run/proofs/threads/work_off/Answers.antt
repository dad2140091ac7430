use Rattle.std.proofs.Common.{Bool, ◌||◌, ap, sym, ◌∙◌}
use Rattle.hb_run.specs.CourseSeen.{course_seen}
use Rattle.hb_run.specs.Turning.{is_done}
use Rattle.hb_run.proofs.threads.work_off.Goals as goal

pub returns-then-is_over : goal.returns-then-is_over
returns-then-is_over g c = record {
  keeps = c.loop.invariant;
  whole = λ runs. ap (λ (b : Bool). b || is_done (course_seen g.D.Device.model g.K.Sink.model c.loop.course)) (sym runs) ∙ sym c.is_over.ensures ∙ c.if-is_over.true;
}
