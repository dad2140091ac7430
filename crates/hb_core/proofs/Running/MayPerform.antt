-- What a decider said may be performed: its operation may be committed, its actor may stand as it says, a line that joins the order has room,
-- and the pages that came are those that the row needs.
use Rattle.hb_core.proofs.Running.Names.{◌≡◌, ◌⊎◌, inl, inr, ℕ, ◌<◌, List, length, Option, IsSome, IsTrue, IfSome, refl, sym, ap, ◌∙◌, subst, arith, ◌++◌, None, Some, mode_at, HeldModes, same_held, false≢true, DiskModel, IsActor, Op, FileState, Line, Activity, Fate, Next, Empty, Hand, HasJob, HasLine, hand_of, deed_of, joined_by, Deed, StoreKeeps, StoreState, if_value, some_value, AnyPage, takes_number, wanted_by, Brings, IsFreeHead, IsWantedPage, RowsMayBeDone, Machine, with_disk, with_uses, modes, CanMovePins, page_wanted, pages_of, use_done, use_number, use_wanted, latches_held, Wanted, Use, places, HasFrameFor, IsTied, is_some, MayCommit, MayStand, joins_order, number_of, placed_at, with_standing, MayDo, Row, RunningCore, HasPages, with_memory}
use Rattle.hb_activity.specs.declared.activities.Activity.TheVariants as at
use Rattle.hb_activity.specs.declared.deciding.Fate.TheVariants as fates
use Rattle.hb_core.proofs.Running.Asked.{at_number, brings}
use Rattle.hb_core.proofs.Running.Brought.{brings_wider}
use Rattle.hb_core.proofs.Running.Commits.{made_ready, may_commit_row}
use Rattle.hb_core.proofs.Running.OrderRoom.{joining_has_room}
use Rattle.hb_core.proofs.Running.StandsThere.{may_stand}
use Rattle.hb_core.proofs.Running.TakesNumbers.{takes_what_it_needs}
use Rattle.hb_core.proofs.Running.Holds.{can_go_over}
use Rattle.hb_core.proofs.Running.PlacesFor.{after_number}
use Rattle.hb_core.proofs.Running.ReadsStay.{reads_of_op}
use Rattle.hb_core.specs.Moving.{placed}
use Rattle.hb_core.proofs.Running.StandsElsewhere.{shown_length}

-- a line joins the order in the code just where it does in the deed
joined_alike : (then : Activity) (fate : Fate) (hand : Hand) → IsSome (joins_order (number_of hand) then fate) → IsSome (joined_by hand then fate)
joined_alike (at.SessionAwait number reply place) fates.TakesEffect (HasLine line) joins = refl
joined_alike (at.SessionAwait number reply place) fates.TakesEffect Empty joins = absurd (false≢true joins)
joined_alike (at.SessionAwait number reply place) fates.TakesEffect (HasJob job) joins = absurd (false≢true joins)
joined_alike (at.SessionAwait number reply place) fates.GoesOn hand joins = absurd (false≢true joins)
joined_alike (at.SessionAwait number reply place) (fates.Answers said) hand joins = absurd (false≢true joins)
joined_alike then fate hand joins = absurd (false≢true joins)

-- a row reads nothing of the order of use
pub row_as : (m : Machine) (uses : List Use) (activity : Activity) (wanted : Option Wanted) (deed : Deed) → Row activity wanted (with_uses uses m) deed → Row activity wanted m deed
row_as m uses activity None deed row = row
row_as m uses activity (Some wanted) deed (page, hand, row) = (page, record { live = hand.live; level = hand.level; box = hand.box }, row)

module _ (d : DiskModel) (c : RunningCore) (m : Machine) (actor : ℕ) (free : Option (ℕ × ℕ)) (may : IsActor actor) (has : HasPages m actor free d c) (next : Next)
    (row : Row (m.activity actor) (wanted_by m actor) (with_memory c m) (placed (length m.order) (deed_of (m.activity actor) next))) where
  abbrev deed : Deed
  deed = placed (length m.order) (deed_of (m.activity actor) next)

  pub row_there : Row (m.activity actor) (wanted_by m actor) (with_disk c.store m.files m.clock m) deed
  row_there = row_as (with_disk c.store m.files m.clock m) c.uses (m.activity actor) (wanted_by m actor) deed row

  came : Brings m AnyPage c.store
  came = brings d c m actor free may has

  pub stands_after : (st : StoreState) → MayDo next.op (length c.order) c.store st → MayStand actor (mode_at c.latches) st (placed_at (length c.order) next.then)
  stands_after st done =
      let here = may_stand m actor c.store st deed may has.may came row_there (subst (λ (n : ℕ). MayDo next.op n c.store st) (sym (shown_length d c (with_memory c m) has.shows)) done) in
      subst (λ (t : HeldModes). MayStand actor t st (placed_at (length c.order) next.then)) (sym (same_held m AnyPage c.store came has.may.goes_on.kept.latches_fit) ∙ has.shows.latches)
      (subst (λ (n : ℕ). MayStand actor (modes m) st (placed_at n next.then)) (shown_length d c (with_memory c m) has.shows) here)

  -- the actor has nothing in hand meanwhile
  elsewhere : (op : Op) (idle : Activity) → MayCommit d c op → MayCommit d (with_standing actor idle c) op
  elsewhere op idle may_commit = record { running = may_commit.running; ready = may_commit.ready; points = may_commit.points; allowed = may_commit.allowed; boxes = may_commit.boxes; place = may_commit.place; licensed = may_commit.licensed; marks = may_commit.marks }

  place_there : (op : Op) → next.op ≡ Some op → HasFrameFor op c.store c.uses
  place_there op is =
      let changes = made_ready d c m actor may has.may came has.shows deed row_there op is in
      let places_left = after_number m has.may.goes_on.kept (is_some free) m.store.meta (wanted_by m actor) changes.1 in
      let many = places_left.many in
      let same : places c.uses ≡ places (use_number (is_some free) m.store.meta (use_wanted (wanted_by m actor) m.uses)) = ap (λ (l : List Use). places l) has.uses in
      record {
        reads = reads_of_op m d c actor free may has deed row op is;
        place = λ id made none. omega (arith, many, same);
      }

  pub hold_after : (st : StoreState) → MayDo next.op (length c.order) c.store st → IsTied st (use_done next.op c.store c.uses)
      → CanMovePins (page_wanted (wanted_by m actor) ++ pages_of (latches_held m.store (m.activity actor))) (pages_of (latches_held st (placed_at (length c.order) next.then))) (use_done next.op c.store c.uses)
  hold_after st done tied =
      subst (λ (n : ℕ). CanMovePins (page_wanted (wanted_by m actor) ++ pages_of (latches_held m.store (m.activity actor))) (pages_of (latches_held st (placed_at n next.then))) (use_done next.op c.store c.uses)) (shown_length d c (with_memory c m) has.shows)
      (can_go_over m d c actor free may has deed row_there st (subst (λ (n : ℕ). MayDo next.op n c.store st) (sym (shown_length d c (with_memory c m) has.shows)) done) (use_done next.op c.store c.uses) refl tied)

  pub may_commit_then : (idle : Activity) → RowsMayBeDone → ((durable other : FileState) (later others : List FileState) → StoreKeeps d c.store durable later → StoreKeeps d c.store other others → durable ≡ other)
      → ((durable other : FileState) (later others : List FileState) → StoreKeeps d c.store durable later → StoreKeeps d c.store other others → later ≡ others) → IfSome next.op (MayCommit d (with_standing actor idle c))
  may_commit_then idle done one_durable one_later =
      if_value next.op (MayCommit d (with_standing actor idle c)) (λ op is. elsewhere op idle (may_commit_row d c m actor may has.may came has.shows deed row_there op is done one_durable one_later (place_there op is)))

  pub has_room : (line : Option ℕ) → line ≡ number_of (hand_of (m.activity actor)) → IsSome (joins_order line next.then next.fate) → length c.order < length c.lines
  has_room line is joins =
      let joined = joined_alike next.then next.fate (hand_of (m.activity actor)) (subst (λ (o : Option ℕ). IsSome (joins_order o next.then next.fate)) is joins) in
      let room = joining_has_room m actor has.may.goes_on.kept c.store deed row_there joined in
      subst (λ (lines : List Line). length c.order < length lines) has.shows.lines (subst (λ (n : ℕ). n < length m.lines) (shown_length d c (with_memory c m) has.shows) room)

  -- a number was given only where the row takes one
  pub brings_as_row : Brings m (λ id. IsWantedPage (wanted_by m actor) id ⊎ (IsTrue (takes_number next.op) × IsFreeHead m.store id)) c.store
  brings_as_row = brings_wider m _ _ c.store by has.brings
    where
      by : (id : ℕ) → IsWantedPage (wanted_by m actor) id ⊎ (IsSome free × IsFreeHead m.store id) → IsWantedPage (wanted_by m actor) id ⊎ (IsTrue (takes_number next.op) × IsFreeHead m.store id)
      by id (inl wanted) = inl wanted
      by id (inr (given, head)) =
          let number = some_value free given in
          inr (takes_what_it_needs (with_memory c m) (m.activity actor) (wanted_by m actor) deed (at_number d c m actor free may has number.0 number.1).0 row, head)
