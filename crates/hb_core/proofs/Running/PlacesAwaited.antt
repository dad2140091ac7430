-- A session of a core that awaits its place is answered, or forces, as a step of the machine that is shown.
use Rattle.hb_core.proofs.Running.Names.{◌≡◌, inl, inr, ℕ, ◌<◌, ◌≤◌, List, [], length, None, Ok, Err, refl, sym, ap, ◌∙◌, subst, append-nil, Activity, answers_now, DiskModel, mode_at, HeldModes, IsActor, Reply, Use, WritesGroups, IsTied, StoreState, Outcome, Machine, DoesDeed, StandsAs, with_standing, with_stop, latches_held, mode_among, RunningCore, ShowsMachine, number_in_hand, AwaitsPlace, pages_of, MayStep}
use Rattle.hb_activity.specs.declared.activities.Activity.TheVariants as at
use Rattle.hb_store.specs.declared.stops.StopWhy.TheVariants as stops
use Rattle.hb_store.specs.declared.stops.WriteFault.{WriteFault}
use Rattle.hb_wal.specs.Log.{mark_of}
use Rattle.hb_steps.specs.declared.outcomes.Outcome.TheVariants as outcomes
use Rattle.hb_steps.specs.Machines.{settled_count}
use Rattle.hb_core.proofs.Running.ForcedShows.{fails, forces, group_waits, with_held}
use Rattle.hb_core.proofs.Running.LineTaken.{deed_done}
use Rattle.hb_core.proofs.Running.NumbersInHand.{kept_number}
use Rattle.hb_core.proofs.Running.StandsElsewhere.{stands_as}
use Rattle.hb_core.proofs.Facts.SettledPlaces.{same_settled}

-- the machine stands as the core
pub awaits_as : (d : DiskModel) (c : RunningCore) (m : Machine) (actor number place : ℕ) (reply : Reply) → IsActor actor → MayStep d c m → StandsAs c actor (at.SessionAwait number reply place) → m.activity actor ≡ at.SessionAwait number reply place
awaits_as d c m actor number place reply may step stands = stands_as d c m actor (at.SessionAwait number reply place) may step.shows stands

-- who awaits its place holds no latch
no_latch : (d : DiskModel) (c : RunningCore) (m : Machine) (actor number place : ℕ) (reply : Reply) → IsActor actor → MayStep d c m → m.activity actor ≡ at.SessionAwait number reply place → (page : ℕ) → mode_at c.latches actor page ≡ None
no_latch d c m actor number place reply may step is page =
    ap (λ (t : HeldModes). t actor page) (sym step.shows.latches) ∙ ap (λ (a : Activity). mode_among page (latches_held m.store a)) is

module _ {D : Type 0} (model : D → DiskModel) (x y : D) (c : RunningCore) (m : Machine) (actor number place settled : ℕ) (reply : Reply) (step : MayStep (model x) c m) (is_settled : settled ≡ mark_of c.store.log.groups (length c.order)) where
  pub await_answered : (after : RunningCore) (outcome : Outcome) → IsActor actor → m.activity actor ≡ at.SessionAwait number reply place → place < settled → outcome ≡ outcomes.Answered number reply → after ≡ with_standing actor at.SessionIdle c → y ≡ x
      → (new : Machine) × AwaitsPlace m actor number reply place outcome new × ShowsMachine (model y) after new
  await_answered after outcome may is lt says then same =
      let does : DoesDeed actor [] (answers_now number reply) outcome c (with_standing actor at.SessionIdle c) = record {
        says = says;
        latches = record { own = no_latch (model x) c m actor number place reply may step is; others = λ other page differ. refl };
        jobs = record { left = c.jobs; takes = refl; adds = refl };
        order = sym (append-nil c.order);
        store = refl;
        uses = refl;
        stays = λ id stays same. refl;
        tied = subst (λ (l : List Use). IsTied c.store l) step.shows.uses (subst (λ (s : StoreState). IsTied s m.uses) step.shows.store step.goes_on.kept.frames_fit.tied);
        counts = refl;
        rest = refl;
      } in
      let done = deed_done (model x) c (with_standing actor at.SessionIdle c) m actor may step (answers_now number reply) outcome [] (sym (ap (λ (a : Activity). pages_of (latches_held m.store a)) is)) refl (kept_number (m.activity actor) number reply (ap number_in_hand is)) does in
      let below : place < settled_count m = subst (λ (n : ℕ). place < n) (is_settled ∙ sym (same_settled (model x) c m step.shows)) lt in
      (done.0, inl (below, done.1), subst (λ (k : D). ShowsMachine (model k) after done.0) (sym same) (subst (λ (s : RunningCore). ShowsMachine (model x) s done.0) (sym then) done.2))

  not_settled : settled ≤ place → settled_count m ≤ place
  not_settled le = subst (λ (n : ℕ). n ≤ place) (is_settled ∙ sym (same_settled (model x) c m step.shows)) le

  pub await_forced : (st : StoreState) (uses : List Use) → settled ≤ place → WritesGroups (Ok tt) (model x) (model y) c.store st → uses ≡ c.uses
      → (new : Machine) × AwaitsPlace m actor number reply place outcomes.Moved new × ShowsMachine (model y) (with_held st uses c) new
  await_forced st uses le writes same_use =
      let forced = forces (model x) (model y) c st uses m step.shows writes same_use outcomes.Moved in
      (forced.0, inr (not_settled le, forced.1), forced.2)

  pub await_failed : (fault : WriteFault) (st : StoreState) (uses : List Use) (z : D) (after : RunningCore) (outcome : Outcome) → settled ≤ place → WritesGroups (Err fault) (model x) (model y) c.store st → uses ≡ c.uses
      → outcome ≡ outcomes.Stopped stops.WriteFault → after ≡ with_stop stops.WriteFault (with_held st uses c) → z ≡ y → (new : Machine) × AwaitsPlace m actor number reply place outcome new × ShowsMachine (model z) after new
  await_failed fault st uses z after outcome le writes same_use says then same =
      let stopped = fails (model x) (model y) c st uses m step.shows fault writes same_use in
      let waits = group_waits (model x) (model y) c st uses m step.shows fault writes same_use in (
        stopped.0,
        subst (λ (o : Outcome). AwaitsPlace m actor number reply place o stopped.0) (sym says) (inr (not_settled le, inr (waits, stopped.1))),
        subst (λ (k : D). ShowsMachine (model k) after stopped.0) (sym same) (subst (λ (s : RunningCore). ShowsMachine (model y) s stopped.0) (sym then) stopped.2),
      )
