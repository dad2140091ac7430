-- The decider of the consolidator may be asked at the page that a kept machine's step has at hand.
use Rattle.hb_steps.proofs.Walks.Names.{held_come, ◌≡◌, inr, ℕ, ◌≤◌, ◌∷◌, [], Option, Some, None, IfSome, IsSome, refl, sym, ap, subst, arith, LivePage, IsActor, Job, Activity, job_in_work, walk_held, walk_point, StoreState, AnyPage, Brings, JobFits, StandsAbove, walking_job, MachineKeeps, AtParent, NamesKnown, PairHeld, merging_at, Machine, live_here}
use Rattle.hb_steps.proofs.Machines.LatchesApart.{pair_apart}
use Rattle.hb_ops.specs.Sound.{FitsFile}
use Rattle.hb_activity.specs.declared.activities.Activity.TheVariants as at
use Rattle.hb_consol.specs.Asks.{HoldsBoth, MayAskToMerge}
use Rattle.hb_steps.proofs.Walks.MayBeAsked.{pages_at_hand_fit, walks_stay_inside}
use Rattle.hb_steps.proofs.Walks.MergesKept.{known_at, names_still, place_stays}
use Rattle.hb_steps.proofs.Walks.WalkingWorkers.{walk_wants_above}
use Rattle.hb_steps.specs.AskedLaws.{MergerWalksMayBeAsked, PairsMayBeAsked}
use Rattle.hb_steps.specs.Looking.{other_page}
use Rattle.hb_steps.specs.LookingToMerge.{second_page}

pub merger_walks_may_be_asked : MergerWalksMayBeAsked
merger_walks_may_be_asked m actor fetched job held wanted page may keeps brings is point wants hand =
    let has = walks_stay_inside m actor fetched wanted page job.point may keeps brings (ap walk_point is) point wants hand in
    let fits : JobFits m.store.meta.k job = subst (λ (a : Activity). IfSome (job_in_work a) (JobFits m.store.meta.k)) is (keeps.attributes_fit.in_work actor) in
    let stands : StandsAbove m.store held job = subst (λ (a : Activity). IfSome (walking_job a) (StandsAbove m.store (walk_held a))) is (keeps.workers_stand actor) in
    let above : job.level ≤ wanted.level = walk_wants_above m actor job held wanted (inr is) stands wants in
    let level = hand.level in
    let some = fits.level in
    subst (λ (a : Activity). MayAskToMerge a m.store.meta page None None) (sym is) (record { above = omega (arith, above, level, some); held = has })

module _ (m : Machine) (actor : ℕ) (fetched : StoreState) (may : IsActor actor) (keeps : MachineKeeps m) (brings : Brings m AnyPage fetched) where
  -- what the consolidator knows is still known once pages came
  pub known_there : (place : AtParent) → merging_at (m.activity actor) ≡ Some place → NamesKnown fetched place
  known_there place at_place = names_still m.store fetched place (known_at m actor keeps.walk_in_space place at_place) (place_stays m actor fetched (held_come m AnyPage fetched brings actor) place at_place)

  fits : (id : ℕ) (page : LivePage) → live_here fetched id ≡ Some page → FitsFile m.store.meta page
  fits id page live = (pages_at_hand_fit m fetched id page keeps brings live).1

  -- the parent and the page to keep
  holds_both : (job : Job) (parent : ℕ) (names : _) (pair : PairHeld) (known : NamesKnown fetched (record { job = job; parent = parent; known = names; pair = Some pair })) → HoldsBoth m.store.meta parent pair.keep known.page known.pair.page
  holds_both job parent names pair known = record {
    two = pair_apart fetched job parent names pair known;
    above_made = fits parent known.page known.live;
    kept_made = fits pair.keep known.pair.page known.pair.live;
  }

  abbrev MayAsk : LivePage → Activity → Type 0
  MayAsk page activity = MayAskToMerge activity m.store.meta page (other_page fetched activity) (second_page fetched activity)

  asked_at : (page : LivePage) (activity : Activity) → m.activity actor ≡ activity → IsSome (merging_at activity) → MayAsk page activity
  asked_at page (at.ConsolidatorScan job parent child) is some =
      let known = known_there _ (ap merging_at is) in
      subst (λ (o : Option LivePage). MayAskToMerge (at.ConsolidatorScan job parent child) m.store.meta page o None) (sym known.live) tt
  asked_at page (at.ConsolidatorTry job parent keep gone leaf) is some =
      let pair : PairHeld = record { keep = keep; gone = gone; leaf = Some leaf } in
      let known = known_there (record { job = job; parent = parent; known = keep ∷ gone ∷ []; pair = Some pair }) (ap merging_at is) in
      subst (λ (o : Option LivePage). MayAskToMerge (at.ConsolidatorTry job parent keep gone leaf) m.store.meta page o (live_here fetched keep)) (sym known.live)
      (subst (λ (o : Option LivePage). MayAskToMerge (at.ConsolidatorTry job parent keep gone leaf) m.store.meta page (Some known.page) o) (sym known.pair.live) (holds_both job parent (keep ∷ gone ∷ []) pair known))
  asked_at page (at.ConsolidatorPromote job parent keep gone) is some = tt
  asked_at page (at.ConsolidatorKeep job parent keep gone) is some = tt
  asked_at page (at.ConsolidatorDecide job parent keep gone) is some =
      let pair : PairHeld = record { keep = keep; gone = gone; leaf = None } in
      let known = known_there (record { job = job; parent = parent; known = keep ∷ gone ∷ []; pair = Some pair }) (ap merging_at is) in
      subst (λ (o : Option LivePage). MayAskToMerge (at.ConsolidatorDecide job parent keep gone) m.store.meta page o (live_here fetched keep)) (sym known.live)
      (subst (λ (o : Option LivePage). MayAskToMerge (at.ConsolidatorDecide job parent keep gone) m.store.meta page (Some known.page) o) (sym known.pair.live) (record { level = known.level; both = holds_both job parent (keep ∷ gone ∷ []) pair known }))
  asked_at page activity is some = cc

pub pairs_may_be_asked : PairsMayBeAsked
pairs_may_be_asked m actor fetched page may keeps brings some = asked_at m actor fetched may keeps brings page (m.activity actor) refl some
