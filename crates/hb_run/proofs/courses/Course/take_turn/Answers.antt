use Rattle.std.proofs.Common.{rules, ◌≡◌, ℕ, ◌-◌, Bool, false, List, length, None, inl, refl, subst, sym}
use Rattle.hb_run.specs.CourseSeen.{course_seen}
use Rattle.hb_run.specs.Ringing.{IsNews}
use Rattle.hb_run.specs.Turning.{CountsMove, settled_of}
use Rattle.hb_run.specs.GoingOn.{GoesWell, may_flush}
use Rattle.hb_run.proofs.Waking.{wakes_all}
use Rattle.hb_run.proofs.courses.Course.take_turn.Goals as goal

pub returns-clause-wakes : goal.returns-clause-wakes
returns-clause-wakes g c =
    let place = c.args.seat.now.actor - 1 in
    let old = course_seen g.D.Device.model g.K.Sink.model c.args.self.now in
    let new = course_seen g.D.Device.model g.K.Sink.model c.turn-turn.new.self in
    let moved = c.is_move.result in
    let coming = c.anyone_comes-self.result in
    let news = c.news-news-2.result in
    let A : ℕ → Type 0 = λ s. IsNews place moved s c.mark-before.result.round coming new news in
    let B : ℕ → Type 0 = λ r. IsNews place moved (settled_of old.core) r coming new news in
    let C : List ℕ → Type 0 = λ l. CountsMove place moved c.args.self.now.roster.moves l in
    let E : Bool → Type 0 = λ b. CountsMove place b c.args.self.now.roster.moves c.turn-turn.new.self.roster.moves in
    wakes_all place moved c.args.self.now.roster.moves c.note.new.self.moves c.args.self.now.roster.coming coming old new news
    (subst B c.mark-before.ensures.round (subst A c.mark-before.ensures.settled c.news-news-2.ensures))
    (subst C (sym c.note.ensures.moves) (subst E (sym c.is_move.ensures) c.turn-turn.ensures.counts))

pub returns-then-not-may_flush-clause-turn : goal.returns-then-not-may_flush-clause-turn
returns-then-not-may_flush-clause-turn g c =
    let seen = course_seen g.D.Device.model g.K.Sink.model c.args.self.now in
    let due : may_flush (course_seen g.D.Device.model g.K.Sink.model c.args.self.now) ≡ false = search rules in
    inl (
      refl,
      (
        c.if-seat-eq-FLUSHER.true,
        due,
        subst (λ (a : ℕ). GoesWell a (length seen.core.order) c.args.self.now.roster.free c.args.self.now.roster.moves seen None c.rest-next.result) (sym c.if-seat-eq-FLUSHER.true) (c.rest-next.ensures (length seen.core.order)),
      ),
    )

pub returns-then-not-may_flush-clause-notes : goal.returns-then-not-may_flush-clause-notes
returns-then-not-may_flush-clause-notes g c = inl (refl, c.if-seat-eq-FLUSHER.true)
