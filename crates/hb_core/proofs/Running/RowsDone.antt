-- A row for which a core has its pages is done, or memory is refused to it.
use Rattle.hb_core.proofs.Running.Names.{◌≡◌, ◌⊎◌, inl, inr, ℕ, suc, zero, ◌-◌, ◌++◌, arith, true, false, Bool, List, [], ◌∷◌, length, slice_set, Option, Some, None, IsSome, refl, sym, ap, ◌∙◌, subst, is_some, cases_Bool, Activity, Wanted, hand_of, idle_of, Next, deed_of, Deed, DiskModel, IsActor, Use, use_numbered, IsTied, Halt, GivesUp, Outcome, Decodes, DoesRow, MayNeed, NeedsNumber, takes_number, wanted_by, Brings, IsFreeHead, IsWantedPage, class_for, Machine, next_of, with_disk, with_uses, DoesDeed, KeepsFilesBy, number_of, with_order_of_use, with_standing, latches_held, CanUnpin, Row, RunningCore, ShowsMachine, CameFor, page_wanted, pages_of, unpin_each, use_number, use_wanted, Halts, HaltsPinned, HasCome, HasPages, ShowsBut, with_memory, PinsMore, more_number, MachineKeeps}
use Rattle.hb_steps.proofs.Memory.OwnPages.{row_held}
use Rattle.std.specs.Option.{MatchOption}
use Rattle.hb_activity.specs.declared.activities.Activity.TheVariants as at
use Rattle.hb_activity.specs.declared.dropping.DropWhy.TheVariants as drops
use Rattle.hb_steps.specs.Acting.{GivesUpFor}
use Rattle.hb_store.specs.Making.{TakesMemory}
use Rattle.std.specs.Option.{IsSomeAnd}
use Rattle.hb_core.specs.Moving.{placed}
use Rattle.hb_core.proofs.Running.Brought.{brings_wider}
use Rattle.hb_core.proofs.Running.MayPerform.{brings_as_row, row_there}
use Rattle.hb_core.proofs.Running.DeedShows.{deed_shows}
use Rattle.hb_core.proofs.Running.ForcedShows.{shown_with}
use Rattle.hb_core.proofs.Running.NumbersInHand.{row_number}
use Rattle.hb_core.proofs.Running.Numbered.{decodes_as}
use Rattle.hb_core.proofs.Running.Pins.{can_unpin, tied_unpinned}
use Rattle.hb_core.proofs.Running.ReadsStay.{must_stays}
use Rattle.hb_core.proofs.Running.StandsElsewhere.{shows_but, stands_as}
use Rattle.hb_core.proofs.Running.TakesNumbers.{needs_what_it_takes, takes_what_it_needs}

set_twice : {X : Type 0} (xs : List X) (n : ℕ) (x y : X) → slice_set (slice_set xs n x) n y ≡ slice_set xs n y
set_twice [] n x y = refl
set_twice (z ∷ xs) zero x y = refl
set_twice (z ∷ xs) (suc n) x y = ap (λ (l : List _). z ∷ l) (set_twice xs n x y)

-- a core shows a machine with another order of use, where it has that
pub shows_with : (d : DiskModel) (c : RunningCore) (uses : List Use) (n : Machine) → ShowsMachine d c n → ShowsMachine d (with_order_of_use uses c) (with_uses uses n)
shows_with d c uses n shows = shown_with d d c c.store uses n shows n.store uses n.files n.clock refl shows.store refl (λ told. let s = shows.tells told in record { files = s.files; told = s.told; kept = s.kept; clock = s.clock }) shows.silent

-- a number that is given is one that the row needs
needed : (N : Type 0) (given : ℕ × ℕ → Type 0) (free : Option (ℕ × ℕ)) → MatchOption free (¬ N) (λ next. N × given next) → IsSome free → N
needed N given (Some next) number some = number.0
needed N given None number none = absurd cc

-- a step needs a number, whatever the order of use
needs_as : (m : Machine) (uses : List Use) (wanted : Option Wanted) (activity : Activity) → NeedsNumber activity wanted (with_uses uses m) → NeedsNumber activity wanted m
needs_as m uses wanted (at.SessionSplit line held) needs = needs
needs_as m uses (Some wanted) (at.PosterGrow job) (room, root, hand, may) = (room, root, record { live = hand.live; level = hand.level; box = hand.box }, may)
needs_as m uses (Some wanted) (at.PosterAgain job parent) (room, child, hand, planned) = (room, child, record { live = hand.live; level = hand.level; box = hand.box }, planned)
needs_as m uses wanted activity needs = absurd needs

-- of two machines that a core shows an actor has the same line in hand
pub lines_alike : (d : DiskModel) (c : RunningCore) (m n : Machine) (actor : ℕ) → IsActor actor → HasCome m actor d c → HasCome n actor d c → number_of (hand_of (m.activity actor)) ≡ number_of (hand_of (n.activity actor))
lines_alike d c m n actor may own come = ap (λ (a : Activity). number_of (hand_of a)) (stands_as d c (with_memory c m) actor (n.activity actor) may own.shows (come.shows.activities actor may))

-- the wanted page is pinned for the step still, so that it may be let go
pub may_let_wanted_go : (m : Machine) (actor : ℕ) (d : DiskModel) (c : RunningCore) (wanted : Option Wanted) (halt : Halt) → MachineKeeps m → wanted ≡ wanted_by m actor → HaltsPinned m actor halt d c → CanUnpin (page_wanted wanted) c.uses
may_let_wanted_go m actor d c wanted halt keeps wants halts = subst (λ (o : Option Wanted). CanUnpin (page_wanted o) c.uses) (sym wants)
    (can_unpin (page_wanted (wanted_by m actor)) c.uses halts.tied.pool (λ q. let more = (by halts.used_is).pins q in omega (arith, more)))
  where
    by : (c.uses ≡ use_wanted (wanted_by m actor) m.uses) ⊎ (c.uses ≡ use_numbered m.store.meta (use_wanted (wanted_by m actor) m.uses)) → PinsMore (page_wanted (wanted_by m actor)) m.uses c.uses
    by (inl same) = subst (λ (l : List Use). PinsMore (page_wanted (wanted_by m actor)) m.uses l) (sym same) (more_number false m.store.meta (wanted_by m actor) m.uses keeps.frames_fit.tied.pool.distinct)
    by (inr same) = subst (λ (l : List Use). PinsMore (page_wanted (wanted_by m actor)) m.uses l) (sym same) (more_number true m.store.meta (wanted_by m actor) m.uses keeps.frames_fit.tied.pool.distinct)

-- the wanted page is pinned for the step no more
pub let_go : (m : Machine) (actor : ℕ) (d : DiskModel) (c : RunningCore) (uses : List Use) (wanted : Option Wanted) (halt : Halt) → wanted ≡ wanted_by m actor → HaltsPinned m actor halt d c → CanUnpin (page_wanted wanted) c.uses
    → uses ≡ unpin_each (page_wanted wanted) c.uses → Halts m actor halt d (with_order_of_use uses c)
let_go m actor d c uses wanted halt wants halts can is = record {
  brings = halts.brings;
  shows = shows_with d (with_standing actor (m.activity actor) c) uses (with_memory c m) halts.shows;
  cause = halts.cause;
  used_is = by halts.used_is;
  tied = subst (λ (l : List Use). IsTied c.store l) (sym is) (tied_unpinned c.store (page_wanted wanted) c.uses halts.tied can);
}
  where
    so : uses ≡ unpin_each (page_wanted (wanted_by m actor)) c.uses
    so = is ∙ ap (λ (o : Option Wanted). unpin_each (page_wanted o) c.uses) wants

    by : (c.uses ≡ use_wanted (wanted_by m actor) m.uses) ⊎ (c.uses ≡ use_numbered m.store.meta (use_wanted (wanted_by m actor) m.uses)) → CameFor (wanted_by m actor) m.store.meta m.uses uses
    by (inl same) = inr (inl (so ∙ ap (unpin_each (page_wanted (wanted_by m actor))) same))
    by (inr same) = inr (inr (so ∙ ap (unpin_each (page_wanted (wanted_by m actor))) same))

module _ (d : DiskModel) (c : RunningCore) (m : Machine) (actor : ℕ) (free : Option (ℕ × ℕ)) (may : IsActor actor) (pages : HasPages m actor free d c) where
  -- the core while its decider is asked: the actor has nothing in hand
  abbrev pub idled : RunningCore
  idled = with_standing actor (idle_of (class_for actor)) c

  abbrev pub IsRow : Deed → Type 0
  IsRow deed = Row (m.activity actor) (wanted_by m actor) (with_memory c m) deed

  shows_idled : ShowsBut d idled actor (with_memory idled m)
  shows_idled = subst (λ (l : List Activity). ShowsMachine d (record c { activities = l }) (with_memory c m))
      (sym (set_twice c.activities (actor - 1) (idle_of (class_for actor)) (m.activity actor))) (shows_but d c (with_memory c m) actor may pages.shows)

  abbrev Needs : Type 0
  Needs = NeedsNumber (m.activity actor) (wanted_by m actor) (with_memory c m)

  needs : IsSome free → Needs
  needs = needed Needs (λ next. next_of c.store ≡ Some next) free pages.number

  brings_needed : Brings m (MayNeed m actor c.store) c.store
  brings_needed = brings_wider m (λ id. IsWantedPage (wanted_by m actor) id ⊎ (IsSome free × IsFreeHead m.store id)) (MayNeed m actor c.store) c.store wider pages.brings
    where
      wider : (id : ℕ) → IsWantedPage (wanted_by m actor) id ⊎ (IsSome free × IsFreeHead m.store id) → MayNeed m actor c.store id
      wider id (inl wanted) = inl wanted
      wider id (inr (some, head)) = inr (needs_as (with_disk c.store m.files m.clock m) c.uses (wanted_by m actor) (m.activity actor) (needs some), head)

  used_so : (c.uses ≡ use_wanted (wanted_by m actor) m.uses) ⊎ (c.uses ≡ use_numbered m.store.meta (use_wanted (wanted_by m actor) m.uses))
  used_so = by free pages.uses
    where
      by : (o : Option (ℕ × ℕ)) → c.uses ≡ use_number (is_some o) m.store.meta (use_wanted (wanted_by m actor) m.uses) → (c.uses ≡ use_wanted (wanted_by m actor) m.uses) ⊎ (c.uses ≡ use_numbered m.store.meta (use_wanted (wanted_by m actor) m.uses))
      by None is = inl is
      by (Some number) is = inr is

  refused_for : GivesUpFor drops.NoMemory m actor c.store → HaltsPinned m actor (GivesUp drops.NoMemory) d idled
  refused_for cause = record { brings = brings_needed; shows = shows_idled; cause = cause; used_is = used_so; tied = pages.tied }

  -- memory is refused, for a page that is decoded
  pub row_refused : Decodes (wanted_by m actor) (with_memory c m) (m.activity actor) → HaltsPinned m actor (GivesUp drops.NoMemory) d idled
  row_refused decodes = refused_for (inl (decodes_as (with_disk c.store m.files m.clock m) c.uses (wanted_by m actor) (m.activity actor) decodes))

  -- what the decider said
  module _ (next : Next) (row : IsRow (placed (length m.order) (deed_of (m.activity actor) next))) where
    abbrev deed : Deed
    deed = placed (length m.order) (deed_of (m.activity actor) next)

    -- a number is taken just where one is given
    takes_it : is_some free ≡ takes_number deed.op
    takes_it = by free pages.number
      where
        by : (o : Option (ℕ × ℕ)) → MatchOption o (¬ Needs) (λ next. Needs × (next_of c.store ≡ Some next)) → is_some o ≡ takes_number deed.op
        by (Some number) given = sym (takes_what_it_needs (with_memory c m) (m.activity actor) (wanted_by m actor) deed given.0 row)
        by None none = elim (cases_Bool (takes_number deed.op)) [
          | inl takes ↦ absurd (none (needs_what_it_takes (with_memory c m) (m.activity actor) (wanted_by m actor) deed row takes))
          | inr off ↦ sym off
        ]

    -- its deed is done
    pub row_done : (pins : List ℕ) (outcome : Outcome) (after : RunningCore) → pins ≡ page_wanted (wanted_by m actor) ++ pages_of (latches_held m.store (m.activity actor)) → DoesDeed actor pins deed outcome idled after
        → KeepsFilesBy next.op d c.store d after.store → (new : Machine) × DoesRow m actor outcome new × ShowsMachine d after new
    row_done pins outcome after pinned does keeps =
        let done = deed_shows d idled after m actor deed outcome may shows_idled pins does (must_stays m d c actor free may pages) _ pages.may.goes_on.kept.latches_fit pages.brings
        (row_held m actor _ c.store may pages.may.goes_on.kept.latches_fit pages.may.goes_on.kept.pages_of_file pages.may.free pages.brings deed (row_there d c m actor free may pages next row) outcome _) pages.may.goes_on.kept.lines_in_sequence
        (row_number m c.store (m.activity actor) (wanted_by m actor) deed pages.may.working (row_there d c m actor free may pages next row)) keeps in (
          done.0,
          record {
            fetched = c.store;
            deed = deed;
            brings = brings_as_row d c m actor free may pages next row;
            row = row_there d c m actor free may pages next row;
            performs = done.1.0;
            came = done.1.1 ∙ pages.uses ∙ ap (λ (b : Bool). use_number b m.store.meta (use_wanted (wanted_by m actor) m.uses)) takes_it;
            pins = done.1.2 ∙ pinned;
            tied = subst (λ (l : List Use). IsTied c.store l) (sym done.1.1) pages.tied;
          },
          done.2,
        )

    -- or memory is refused to its operation, which isn't one on records
    pub op_refused : IsSomeAnd next.op TakesMemory → HaltsPinned m actor (GivesUp drops.NoMemory) d idled
    op_refused some = refused_for (inr (deed, row_there d c m actor free may pages next row, some))
