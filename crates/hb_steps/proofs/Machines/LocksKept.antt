-- After a step locks of different actors whose boxes meet are shared.
use Rattle.hb_steps.proofs.Machines.Names.{◌≡◌, ◌≢◌, ◌⊎◌, inl, inr, ℕ, ◌==◌, Bool, true, false, cond, length, Option, Some, None, IfSome, IsTrue, refl, sym, ap, ◌∙◌, subst, MatchOption, option_map, eqb-true, eqb-false, Activity, BoxLock, lock_of, Hand, hand_of, line_in_hand, line_of, Deed, next_line, taking, Command, Insert, Delete, Lookup, Search, Line, StopWhy, StoreState, Outcome, line_taken, EndsHand, each_deed, KeepsHand, hand_after, KeepsAllButDisk, DoesRow, StaysSo, CommandFits, LineFits, MachineKeeps, Machine, with_disk, Performs, StepsAs, StepsTo, TakesJob, TakesMerging, none-some, same_Some}
use Rattle.std.proofs.Common.{IsSomeAnd}
use Rattle.hb_activity.specs.declared.activities.Activity.TheVariants as at
use Rattle.hb_activity.specs.BoxLocks.{lock_of_command}
use Rattle.hb_space.specs.Boxes.{Meets}
use Rattle.hb_steps.specs.declared.outcomes.Outcome.TheVariants as outcomes
use Rattle.hb_steps.proofs.Orders.LinesFit.{took_job, took_merging}
use Rattle.hb_boxlock.specs.Locking.{Excludes}
use Rattle.hb_steps.specs.Locking.{BoxLocksFit, HasBoxFree}
use Rattle.hb_steps.specs.MachineLaws.{BoxLocksStayFit}
use Rattle.hb_steps.specs.Machines.{with_activity}
use Rattle.hb_steps.specs.Steps.{BeginsLine}
use Rattle.hb_space.proofs.Facts.Boxes.{Meets-back}
use Rattle.hb_boxlock.proofs.Facts.LockedBoxes.{both_shared}

-- ---- the lock of an activity is that of the line in its hand

abbrev pub lock_in_hand : Hand → Option BoxLock
lock_in_hand hand = option_map (λ (line : Line). lock_of_command line.command) (line_of hand)

pub lock_is : (activity : Activity) → lock_of activity ≡ lock_in_hand (hand_of activity)
lock_is (at.SessionWalk line held rest found) = refl
lock_is (at.SessionSplit line held) = refl
lock_is (at.SessionPut line source fresh) = refl
lock_is at.SessionIdle = refl
lock_is (at.SessionAwait line reply place) = refl
lock_is at.PosterIdle = refl
lock_is (at.PosterGrow job) = refl
lock_is (at.PosterWalk job held) = refl
lock_is (at.PosterChild job parent) = refl
lock_is (at.PosterPromote job parent) = refl
lock_is (at.PosterAgain job parent) = refl
lock_is at.ConsolidatorIdle = refl
lock_is (at.ConsolidatorWalk job held) = refl
lock_is (at.ConsolidatorScan job parent child) = refl
lock_is (at.ConsolidatorTry job parent keep gone leaf) = refl
lock_is (at.ConsolidatorPromote job parent keep gone) = refl
lock_is (at.ConsolidatorKeep job parent keep gone) = refl
lock_is (at.ConsolidatorDecide job parent keep gone) = refl
lock_is at.Flusher = refl

-- a box of as many attributes as the file
pub command_box : (k : ℕ) (command : Command) → CommandFits k command → length (lock_of_command command).area.lo ≡ k
command_box k (Insert rec) fits = fits
command_box k (Delete point) fits = fits
command_box k (Lookup point) fits = fits
command_box k (Search area) fits = fits.1

hand_box : (k : ℕ) (o : Option Line) (lock : BoxLock) → IfSome o (LineFits k) → option_map (λ (line : Line). lock_of_command line.command) o ≡ Some lock → length lock.area.lo ≡ k
hand_box k None lock fits is = absurd (none-some lock is)
hand_box k (Some line) lock fits is = subst (λ (l : BoxLock). length l.area.lo ≡ k) (same_Some (lock_of_command line.command) lock is) (command_box k line.command fits.command)

pub lock_box : (m : Machine) → MachineKeeps m → (actor : ℕ) (lock : BoxLock) → lock_of (m.activity actor) ≡ Some lock → length lock.area.lo ≡ m.store.meta.k
lock_box m kept actor lock is = hand_box m.store.meta.k (line_in_hand (m.activity actor)) lock (kept.attributes_fit.in_hand actor) (sym (lock_is (m.activity actor)) ∙ is)

-- ---- locks that don't exclude each other

-- a box that is free isn't excluded by what another one has locked
free_beside : (m : Machine) (actor other : ℕ) (lock held : BoxLock) → HasBoxFree m actor lock → other ≢ actor → lock_of (m.activity other) ≡ Some held → Meets lock.area held.area → IsTrue lock.shared × IsTrue held.shared
free_beside m actor other lock held free another is meets =
    both_shared lock held (λ out. free other (record { another = another; excluded = subst (λ (o : Option BoxLock). IsSomeAnd o (Excludes lock)) (sym is) out })) meets

-- ---- each step

-- an idle session that takes its line has its box free, or nothing happened
module _ (m : Machine) (actor : ℕ) (outcome : Outcome) (new : Machine) (line : Line) (idle : m.activity actor ≡ at.SessionIdle) (next : next_line actor m.answered m.lines ≡ Some line) where
  abbrev Begun : Type 0
  Begun = HasBoxFree m actor (lock_of_command line.command) ⊎ (new ≡ m)

  begun : BeginsLine m actor line outcome new → Begun
  begun (inl (by, way, so)) = inr so.1
  begun (inr (free, performs)) = inl free

  ran : (stop : Option StopWhy) → MatchOption stop (StepsAs (m.activity actor) m actor outcome new) (λ why. StaysSo m (outcomes.Stopped why) outcome new) → Begun
  ran None one =
      let as_idle : StepsAs at.SessionIdle m actor outcome new = subst (λ (a : Activity). StepsAs a m actor outcome new) idle one in
      begun (subst (λ (o : Option Line). MatchOption o (StaysSo m outcomes.Idle outcome new) (λ line. BeginsLine m actor line outcome new)) next as_idle)
  ran (Some why) so = inr so.1

  pub begins_free : StepsTo m actor outcome new → Begun
  begins_free step = ran m.stop step

module _ (m : Machine) (actor : ℕ) (outcome : Outcome) (new : Machine) (kept : MachineKeeps m) where
  -- what an actor has locked next it had before, or has free
  abbrev MayLock : Activity → Type 0
  MayLock next = (lock : BoxLock) → lock_of next ≡ Some lock → (lock_of (m.activity actor) ≡ Some lock) ⊎ (HasBoxFree m actor lock × (length lock.area.lo ≡ m.store.meta.k))

  -- the new one's lock, and another one's
  own_first : (next : Activity) → MayLock next → (other : ℕ) (lock held : BoxLock) → other ≢ actor → lock_of next ≡ Some lock → lock_of (m.activity other) ≡ Some held → Meets lock.area held.area → IsTrue lock.shared × IsTrue held.shared
  own_first next may other lock held another is held_is meets = elim (may lock is) [
    | inl before ↦ kept.box_locks_fit actor other lock held (λ same. another (sym same)) before held_is meets
    | inr (free, long) ↦ free_beside m actor other lock held free another held_is meets
  ]

  own_second : (next : Activity) → MayLock next → (other : ℕ) (lock held : BoxLock) → other ≢ actor → lock_of (m.activity other) ≡ Some lock → lock_of next ≡ Some held → Meets lock.area held.area → IsTrue lock.shared × IsTrue held.shared
  own_second next may other lock held another is held_is meets = elim (may held held_is) [
    | inl before ↦ kept.box_locks_fit other actor lock held another is before meets
    | inr (free, long) ↦
        let both = free_beside m actor other held lock free another is (Meets-back lock.area held.area (lock_box m kept other lock is ∙ sym long) meets) in
        (both.1, both.0)
  ]

  locks_again : (next : Activity) → ((other : ℕ) → new.activity other ≡ with_activity actor next m.activity other) → MayLock next → BoxLocksFit new
  locks_again next changed may a b lock held apart is held_is meets = by (a == actor) (b == actor) refl refl
    where
      stands : (other : ℕ) (l : BoxLock) → lock_of (new.activity other) ≡ Some l → lock_of (with_activity actor next m.activity other) ≡ Some l
      stands other l eq = ap lock_of (sym (changed other)) ∙ eq

      own : (other : ℕ) (l : BoxLock) → (other == actor) ≡ true → lock_of (new.activity other) ≡ Some l → lock_of next ≡ Some l
      own other l here eq = subst (λ (t : Bool). lock_of (cond t next (m.activity other)) ≡ Some l) here (stands other l eq)

      old : (other : ℕ) (l : BoxLock) → (other == actor) ≡ false → lock_of (new.activity other) ≡ Some l → lock_of (m.activity other) ≡ Some l
      old other l off eq = subst (λ (t : Bool). lock_of (cond t next (m.activity other)) ≡ Some l) off (stands other l eq)

      by : (x y : Bool) → (a == actor) ≡ x → (b == actor) ≡ y → IsTrue lock.shared × IsTrue held.shared
      by true true first second = absurd (apart (eqb-true a actor first ∙ sym (eqb-true b actor second)))
      by true false first second = own_first next may b lock held (eqb-false b actor second) (own a lock first is) (old b held second held_is) meets
      by false true first second = own_second next may a lock held (eqb-false a actor first) (old a lock first is) (own b held second held_is) meets
      by false false first second = kept.box_locks_fit a b lock held apart (old a lock first is) (old b held second held_is) meets

  -- who has no line in hand has no lock
  no_lock : (next : Activity) → line_in_hand next ≡ None → MayLock next
  no_lock next none lock is = absurd (none-some lock (sym (ap (option_map (λ (line : Line). lock_of_command line.command)) none) ∙ sym (lock_is next) ∙ is))

  same_lock : (next : Activity) → hand_of next ≡ hand_of (m.activity actor) → MayLock next
  same_lock next same lock is = inl (lock_is (m.activity actor) ∙ ap lock_in_hand (sym same) ∙ sym (lock_is next) ∙ is)

  by_hand : (deed : Deed) → KeepsHand (m.activity actor) deed → MayLock deed.next
  by_hand deed keeps = elim keeps.hand [ inl none ↦ no_lock deed.next (ap line_of none) | inr same ↦ same_lock deed.next same ]

  stays : KeepsAllButDisk m new → BoxLocksFit new
  stays keeps = subst (λ (all : ℕ → Activity). (a b : ℕ) (lock held : BoxLock) → a ≢ b → lock_of (all a) ≡ Some lock → lock_of (all b) ≡ Some held → Meets lock.area held.area → IsTrue lock.shared × IsTrue held.shared) (sym keeps.activity) kept.box_locks_fit

  taken_lock : (line : Line) → LineFits m.store.meta.k line → HasBoxFree m actor (lock_of_command line.command) → MayLock (taking line).next
  taken_lock line fits free lock is = inr (subst (λ (l : BoxLock). HasBoxFree m actor l × (length l.area.lo ≡ m.store.meta.k)) (same_Some (lock_of_command line.command) lock is) (free, command_box m.store.meta.k line.command fits.command))

  takes : StepsTo m actor outcome new → (line : Line) → m.activity actor ≡ at.SessionIdle → next_line actor m.answered m.lines ≡ Some line → Performs m m.store actor (taking line) outcome new → BoxLocksFit new
  takes step line idle next performs = elim (begins_free m actor outcome new line idle next step) [
    | inr same ↦ subst BoxLocksFit (sym same) kept.box_locks_fit
    | inl free ↦ locks_again (taking line).next performs.activity
        (taken_lock line (line_taken (LineFits m.store.meta.k) actor m.answered m.lines kept.attributes_fit.script line next) free)
  ]

  performed : (fetched : StoreState) (deed : Deed) → Performs m fetched actor deed outcome new → MayLock deed.next → BoxLocksFit new
  performed fetched deed performs may = locks_again deed.next performs.activity may

  posts : (deed : Deed) → TakesJob m deed → Performs m m.store actor deed outcome new → BoxLocksFit new
  posts deed taken performs = performed m.store deed performs (no_lock deed.next (took_job m deed taken))

  merges : (deed : Deed) → TakesMerging m deed → Performs m m.store actor deed outcome new → BoxLocksFit new
  merges deed taken performs = performed m.store deed performs (no_lock deed.next (took_merging m deed taken))

  acts : DoesRow m actor outcome new → BoxLocksFit new
  acts does = performed does.fetched does.deed does.performs (by_hand does.deed (hand_after (with_disk does.fetched m.files m.clock m) (m.activity actor) _ does.deed does.row))

  ends : (fetched : StoreState) (deed : Deed) → EndsHand (m.activity actor) deed → Performs m fetched actor deed outcome new → BoxLocksFit new
  ends fetched deed ended performs = performed fetched deed performs (no_lock deed.next (ap line_of ended.hand))

pub box_locks_stay_fit : BoxLocksStayFit
box_locks_stay_fit m actor outcome new kept step = each_deed m actor outcome new (BoxLocksFit new) (record {
  keeps = λ keeps meta. stays m actor outcome new kept keeps;
  takes = takes m actor outcome new kept step;
  posts = λ deed idle taken performs. posts m actor outcome new kept deed taken performs;
  merges = λ deed idle taken performs. merges m actor outcome new kept deed taken performs;
  acts = acts m actor outcome new kept;
  ends = λ fetched deed meta ended performs. ends m actor outcome new kept fetched deed ended performs;
}) step
