-- The deeds of steps: a step keeps all but the disk, takes a line or a job, does a row, or ends with nothing in hand.
use Rattle.hb_steps.proofs.Table.Names.{◌≡◌, inl, inr, ℕ, ◌==◌, Bool, cond, [], Some, None, refl, sym, ap, ◌∙◌, subst, cases_Bool, eqb-true, Reply, Line, DropWhy, Activity, Outcome, Class, Sessions, Posters, Consolidators, Flushers, Empty, HasLine, class_of, hand_of, idle_of, Deed, answers_now, DoesRow, ForcesAll, StaysSo, gives_up, Machine, Performs, StepsTo, TakesJob, TakesMerging, Works, next_line, taking, StoreState}
use Rattle.std.proofs.Common.{◌≢◌}
use Rattle.std.proofs.lemmas.Bool.{eqb-false}
use Rattle.hb_activity.specs.declared.activities.Activity.TheVariants as at
use Rattle.hb_steps.specs.declared.outcomes.Outcome.TheVariants as outcomes
use Rattle.hb_steps.proofs.Table.GivenUp.{given_up_is, idle_hand}
use Rattle.hb_steps.proofs.Facts.StepKinds.{each_step, FlushesMore, ready_kind}
use Rattle.hb_steps.proofs.Facts.Ways.{KeepsAllButDisk, forces_so, meets_so, more_so, stays_so}
use Rattle.hb_steps.specs.Machines.{with_activity}

-- An actor ends with nothing in hand, does nothing to the file, and takes and adds no job.
pub record EndsHand (activity : Activity) (deed : Deed) : Type 0 where
  pub kind : class_of deed.next ≡ class_of activity
  pub hand : hand_of deed.next ≡ Empty
  pub op : deed.op ≡ None
  pub takes : deed.takes ≡ None
  pub adds : deed.adds ≡ []

-- who has a line in hand is a session
pub line_is_sessions : (activity : Activity) (line : Line) → hand_of activity ≡ HasLine line → class_of activity ≡ Sessions
line_is_sessions at.SessionIdle line is = refl
line_is_sessions (at.SessionWalk own held rest found) line is = refl
line_is_sessions (at.SessionSplit own held) line is = refl
line_is_sessions (at.SessionPut own source fresh) line is = refl
line_is_sessions (at.SessionAwait number reply place) line is = refl
line_is_sessions activity line is = cc

pub idle_kind : (kind : Class) → class_of (idle_of kind) ≡ kind
idle_kind Sessions = refl
idle_kind Posters = refl
idle_kind Consolidators = refl
idle_kind Flushers = refl

answers : (activity : Activity) (number : ℕ) (reply : Reply) → class_of activity ≡ Sessions → EndsHand activity (answers_now number reply)
answers activity number reply kind = record { kind = sym kind; hand = refl; op = refl; takes = refl; adds = refl }

gives : (why : DropWhy) (activity : Activity) → EndsHand activity (gives_up why activity)
gives why activity = given_up_is (EndsHand activity) why activity
    (λ line is. answers activity line.number _ (line_is_sessions activity line is))
    (λ job is. record { kind = idle_kind (class_of activity); hand = idle_hand (class_of activity); op = refl; takes = refl; adds = refl })
    (λ is. record { kind = idle_kind (class_of activity); hand = idle_hand (class_of activity); op = refl; takes = refl; adds = refl })

-- What is to be shown of each deed.
pub record ShowsDeeds (m : Machine) (actor : ℕ) (outcome : Outcome) (new : Machine) (G : Type 0) : Type 0 where
  pub keeps : KeepsAllButDisk m new → new.store.meta ≡ m.store.meta → G
  pub takes : (line : Line) → m.activity actor ≡ at.SessionIdle → next_line actor m.answered m.lines ≡ Some line → Performs m m.store actor (taking line) outcome new → G
  pub posts : (deed : Deed) → m.activity actor ≡ at.PosterIdle → TakesJob m deed → Performs m m.store actor deed outcome new → G
  pub merges : (deed : Deed) → m.activity actor ≡ at.ConsolidatorIdle → TakesMerging m deed → Performs m m.store actor deed outcome new → G
  pub acts : DoesRow m actor outcome new → G
  pub ends : (fetched : StoreState) (deed : Deed) → fetched.meta ≡ m.store.meta → EndsHand (m.activity actor) deed → Performs m fetched actor deed outcome new → G

module _ (m : Machine) (actor : ℕ) (outcome : Outcome) (new : Machine) (G : Type 0) (shows : ShowsDeeds m actor outcome new G) where
  stays : (said : Outcome) → StaysSo m said outcome new → G
  stays said so = shows.keeps (stays_so m actor outcome new said so) (ap (λ (n : Machine). n.store.meta) so.1)

  forced_meta : (said : Outcome) → ForcesAll m said outcome new → new.store.meta ≡ m.store.meta
  forced_meta said (inl (says, is)) = ap (λ (n : Machine). n.store.meta) is
  forced_meta said (inr badly) = ap (λ (n : Machine). n.store.meta) badly.1.stops

  more_meta : FlushesMore m outcome new → new.store.meta ≡ m.store.meta
  more_meta (none, inl (page, oldest, due, quiet, well)) = ap (λ (n : Machine). n.store.meta) well.leaves
  more_meta (none, inr (inl (old, due, quiet, turns))) = ap (λ (n : Machine). n.store.meta) turns.leaves
  more_meta (none, inr (inr (calls, left, fails))) = ap (λ (n : Machine). n.store.meta) fails.stops

  forces : (said : Outcome) → ForcesAll m said outcome new → G
  forces said force = shows.keeps (forces_so m actor outcome new said force) (forced_meta said force)

  more : FlushesMore m outcome new → G
  more flush = shows.keeps (more_so m actor outcome new flush) (more_meta flush)

  worked : Works m actor outcome new → G
  worked (inl (by, way, so)) = stays (outcomes.Blocked by) so
  worked (inr (inl (free, unready, inl (waits, force)))) = forces outcomes.Helped force
  worked (inr (inl (free, unready, inr (none, rest)))) = ready_kind m outcome new G none more rest
  worked (inr (inr (free, ready, inl acts))) = shows.acts acts
  worked (inr (inr (free, ready, inr (inl abandons)))) = shows.ends abandons.fetched _ (ap (λ (s : StoreState). s.meta) abandons.brings.rest) (gives abandons.why (m.activity actor)) abandons.performs
  worked (inr (inr (free, ready, inr (inr meets)))) = shows.keeps (meets_so m actor outcome new meets) (ap (λ (n : Machine). n.store.meta) meets.stops ∙ ap (λ (s : StoreState). s.meta) meets.brings.rest)

  pub each_deed : StepsTo m actor outcome new → G
  each_deed step = each_step m actor outcome new G (record {
    stays = λ said plain so. stays said so;
    forces = λ said quiet force. forces said force;
    more = more;
    takes = shows.takes;
    refuses = λ line idle next boxes performs. shows.ends m.store _ refl (answers (m.activity actor) line.number _ (ap class_of idle)) performs;
    posts = shows.posts;
    merges = shows.merges;
    settles = λ number place reply is settled performs. shows.ends m.store _ refl (answers (m.activity actor) number reply (ap class_of is)) performs;
    works = λ none works. worked works;
  }) step

-- What holds of each actor holds still where one stands elsewhere and it holds of that.
pub each_again : (P : ℕ → Activity → Type 0) (all new : ℕ → Activity) (actor : ℕ) (next : Activity) → ((other : ℕ) → new other ≡ with_activity actor next all other) → P actor next → ((other : ℕ) → other ≢ actor → P other (all other)) → (other : ℕ) → P other (new other)
each_again P all new actor next changed own others other = subst (P other) (sym (changed other)) (elim (cases_Bool (other == actor)) [
  | inl here ↦ subst (λ (b : Bool). P other (cond b next (all other))) (sym here) (subst (λ (n : ℕ). P n next) (sym (eqb-true other actor here)) own)
  | inr off ↦ subst (λ (b : Bool). P other (cond b next (all other))) (sym off) (others other (eqb-false other actor off))
])
