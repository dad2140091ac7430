use Rattle.std.proofs.Common.{ℕ, List, ◌++◌, Option, is_some, ap, ◌∙◌, subst}
use Rattle.std.specs.Vec.{vec_capacity}
use Rattle.hb_set.specs.declared.scripts.Answered.{Answered}
use Rattle.hb_store.specs.declared.stops.StopWhy.{StopWhy}
use Rattle.hb_core.specs.CoreSeen.{core_seen, core_disk}
use Rattle.hb_core.specs.Runs.{left_numbers}
use Rattle.hb_drive.specs.Driving.{IsEndOf}
use Rattle.hb_drive.proofs.RunParts.{order_is_short, room_for_all}
use Rattle.hb_drive.proofs.RunEnds.{leaves_end}
use Rattle.hb_drive.proofs.ending.end_run.Goals as goal

pub unanswered-requires-clause-shows : goal.unanswered-requires-clause-shows
unanswered-requires-clause-shows g c = let may = c.requires.may in (may.0, may.1.shows, may.1.goes_on.kept)

pub unanswered-requires-clause-room : goal.unanswered-requires-clause-room
unanswered-requires-clause-room g c = room_for_all (core_seen c.args.core).lines c.args.left.items (vec_capacity c.args.left) c.requires.none c.requires.room

pub settled-requires : goal.settled-requires
settled-requires g c = order_is_short (g.D.Device.model (core_disk c.args.core)) (core_seen c.args.core) c.requires.may.0 4294967296 c.requires.may.1 c.args.core.few

pub returns-clause-ends : goal.returns-clause-ends
returns-clause-ends g c = λ m may.
    let core = core_seen c.args.core in
    let end = c.end_of-end.result in
    let failed = c.is_err-failed.result in
    let left = c.as_slice.ensures.value ∙ c.unanswered.ensures m may.shows may.goes_on.kept ∙ ap (λ (l : List ℕ). l ++ left_numbers m) c.requires.none in
    let A : List Answered → Type 0 = λ l. IsEndOf end failed c.stop-stop.result l in
    let S : Option StopWhy → Type 0 = λ o. IsEndOf end failed o c.args.answered.items in
    leaves_end (g.D.Device.model (core_disk c.args.core)) core m may.shows c.args.answered.items (g.K.Sink.model c.args.sink) (g.K.Sink.model c.put_rest-last.new.sink) c.args.put c.put_rest-last.result c.as_slice.result.now failed end left
    (record {
      stopped = c.is_some.result;
      order = c.order.result.now;
      settled = c.settled.result;
      stop_is = c.is_some.ensures ∙ ap (λ (o : Option StopWhy). is_some o) c.stop-stop.ensures;
      order_is = c.order.ensures;
      settled_is = c.settled.ensures;
      put = c.put_rest-last.ensures;
      fails = c.is_err-failed.ensures.value;
      ended = subst S c.stop-stop.ensures (subst A c.as_slice-2.ensures.value c.end_of-end.ensures);
    })
