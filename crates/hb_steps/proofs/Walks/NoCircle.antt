-- No circle of actors waits.
use Rattle.hb_steps.proofs.Walks.Names.{◌≡◌, ◌⊎◌, inl, inr, ℕ, IsTrue, List, [], ◌∷◌, Option, Some, None, IfSome, IsSomeAnd, refl, sym, ap, ◌∙◌, subst, same_Some, none-some, LivePage, Mode, Update, Wanted, Activity, IsLater, wanted_of, may_or_not, looked_live, wanted_by, HasNobodyElse, HasSoundFile, LatchesFit, WalksInSpace, Files, Machine, current_file, modes, latches_held, mode_among, Excludes, LocksOut, ComesLater, WantsItsOwn, goes_beside, IsActor, FileState, lock_of, lock_of_command, BoxLock, next_line, Line, StoreState}
use Rattle.hb_activity.specs.declared.activities.Activity.TheVariants as at
use Rattle.hb_activity.proofs.Facts.LaterPages.{never_itself, onward}
use Rattle.hb_activity.specs.Waiting.{WaitsFor}
use Rattle.hb_steps.proofs.Walks.LaterWanted.{wanted_comes_later}
use Rattle.hb_steps.specs.WaitingLaws.{AwaitsActor, NobodyWaitsInACircle, WaitInSequence}

-- an actor waits for another one's latch, and so on, to the last
abbrev pub AwaitsLatch : Machine → ℕ → ℕ → Type 0
AwaitsLatch m actor other = WaitsFor (modes m) (wanted_by m) actor other

abbrev pub LatchSequence : Machine → ℕ → List ℕ → ℕ → Type 0
LatchSequence m actor [] last = AwaitsLatch m actor last
LatchSequence m actor (next ∷ rest) last = AwaitsLatch m actor next × LatchSequence m next rest last

later_on : (s : FileState) (a b c : ℕ) → ComesLater s a b → ComesLater s b c → ComesLater s a c
later_on s a b c first second =
    let same : first.named ≡ second.page = same_Some first.named second.page (sym first.live_named ∙ second.live) in
    record {
      page = first.page;
      named = second.named;
      live = first.live;
      live_named = second.live_named;
      later = onward first.page first.named second.named first.later (subst (λ (p : LivePage). IsLater p second.named) (sym same) second.later);
    }

not_itself : (s : FileState) (a : ℕ) → ComesLater s a a → ⊥
not_itself s a one =
    let same : one.named ≡ one.page = same_Some one.named one.page (sym one.live_named ∙ one.live) in
    never_itself one.page (subst (IsLater one.page) same one.later)

-- a latch that is in the way is held
pub held_there : (o : Option Mode) (mode : Mode) → IsSomeAnd o (λ held. ¬ (IsTrue (goes_beside mode held))) → (held : Mode) × (o ≡ Some held)
held_there None mode never = absurd never
held_there (Some held) mode conflict = (held, refl)

module _ (m : Machine) (files : Files) (fit : LatchesFit m) (has : HasSoundFile m files) (nobody : HasNobodyElse m) (walks : WalksInSpace m) where
  -- who wants a page is one of the actors
  idle_wants : (actor : ℕ) (wanted : Wanted) (activity : Activity) → activity ≡ at.SessionIdle → wanted_of activity m.store.meta (looked_live m.store activity) ≡ Some wanted → ⊥
  idle_wants actor wanted activity is wants = none-some wanted (subst (λ (a : Activity). wanted_of a m.store.meta (looked_live m.store a) ≡ Some wanted) is wants)

  wants_may : (actor : ℕ) (wanted : Wanted) → wanted_by m actor ≡ Some wanted → IsActor actor
  wants_may actor wanted wants = elim (may_or_not actor) [
    | inl may ↦ may
    | inr none ↦ absurd (idle_wants actor wanted (m.activity actor) (nobody actor none) wants)
  ]

  -- the other one holds the page for update, and its next step is to have it alone
  pub record IsOwn (wanted : Wanted) (other : ℕ) (its : Wanted) : Type 0 where
    pub same : its.page ≡ wanted.page
    pub holds : modes m other wanted.page ≡ Some Update

  -- what an actor wants for which another one waits comes later than what that one wants
  one_wait : (actor other : ℕ) (wanted its : Wanted) → wanted_by m actor ≡ Some wanted → wanted_by m other ≡ Some its → AwaitsLatch m actor other → ComesLater (current_file files) wanted.page its.page ⊎ IsOwn wanted other its
  one_wait actor other wanted its wants its_wants waits =
      let same : waits.wanted ≡ wanted = same_Some waits.wanted wanted (sym waits.wants_it ∙ wants) in
      let held = held_there (modes m other waits.wanted.page) waits.wanted.mode waits.kept.conflict in
      let there : modes m other wanted.page ≡ Some held.0 = ap (λ (w : Wanted). modes m other w.page) (sym same) ∙ held.1 in
      by held.0 there (wanted_comes_later m files other wanted.page held.0 its (wants_may other its its_wants) fit has walks its_wants there)
    where
      by : (mode : Mode) → modes m other wanted.page ≡ Some mode → ComesLater (current_file files) wanted.page its.page ⊎ WantsItsOwn m other wanted.page mode its → ComesLater (current_file files) wanted.page its.page ⊎ IsOwn wanted other its
      by mode there (inl later) = inl later
      by mode there (inr own) = inr (record { same = own.same; holds = there ∙ ap Some own.update })

  -- two don't hold one page for update
  beside_updates : (a b : Option Mode) → a ≡ Some Update → b ≡ Some Update → IfSome a (λ mode. IfSome b (λ held. IsTrue (goes_beside mode held))) → ⊥
  beside_updates a b x y beside = never (subst (λ (o : Option Mode). IfSome (Some Update) (λ mode. IfSome o (λ held. IsTrue (goes_beside mode held)))) y (subst (λ (o : Option Mode). IfSome o (λ mode. IfSome b (λ held. IsTrue (goes_beside mode held)))) x beside))
    where
      never : IsTrue (goes_beside Update Update) → ⊥
      never beside = cc

  first_wants : (actor : ℕ) (rest : List ℕ) (last : ℕ) → LatchSequence m actor rest last → (wanted : Wanted) × (wanted_by m actor ≡ Some wanted)
  first_wants actor [] last waits = (waits.wanted, waits.wants_it)
  first_wants actor (next ∷ rest) last (waits, more) = (waits.wanted, waits.wants_it)

  -- The last one's comes later than the first one's, but where that is waited for directly and promotes its own.
  abbrev pub Ends : List ℕ → Wanted → ℕ → Wanted → Type 0
  Ends [] wanted last its = IsOwn wanted last its
  Ends (next ∷ rest) wanted last its = ⊥

  pub in_sequence : (rest : List ℕ) (actor last : ℕ) (wanted its : Wanted) → wanted_by m actor ≡ Some wanted → wanted_by m last ≡ Some its → LatchSequence m actor rest last → ComesLater (current_file files) wanted.page its.page ⊎ Ends rest wanted last its
  in_sequence [] actor last wanted its wants its_wants waits = one_wait actor last wanted its wants its_wants waits
  in_sequence (next ∷ []) actor last wanted its wants its_wants (waits, more) =
      both (one_wait actor next wanted more.wanted wants more.wants_it waits) (one_wait next last more.wanted its more.wants_it its_wants more)
    where
      both : ComesLater (current_file files) wanted.page more.wanted.page ⊎ IsOwn wanted next more.wanted → ComesLater (current_file files) more.wanted.page its.page ⊎ IsOwn more.wanted last its → ComesLater (current_file files) wanted.page its.page ⊎ ⊥
      both (inl a) (inl b) = inl (later_on (current_file files) wanted.page more.wanted.page its.page a b)
      both (inl a) (inr b) = inl (subst (ComesLater (current_file files) wanted.page) (sym b.same) a)
      both (inr a) (inl b) = inl (subst (λ (n : ℕ). ComesLater (current_file files) n its.page) a.same b)
      both (inr a) (inr b) = absurd (beside_updates (modes m next wanted.page) (modes m last wanted.page) a.holds (ap (modes m last) (sym a.same) ∙ b.holds)
          (fit.compatible next last wanted.page (λ same. more.kept.another (sym same))))
  in_sequence (next ∷ second ∷ rest) actor last wanted its wants its_wants (waits, more) =
      let middle = first_wants next (second ∷ rest) last more in
      both middle.0 (one_wait actor next wanted middle.0 wants middle.1 waits) (in_sequence (second ∷ rest) next last middle.0 its middle.1 its_wants more)
    where
      both : (middle : Wanted) → ComesLater (current_file files) wanted.page middle.page ⊎ IsOwn wanted next middle → ComesLater (current_file files) middle.page its.page ⊎ ⊥ → ComesLater (current_file files) wanted.page its.page ⊎ ⊥
      both middle (inl a) (inl b) = inl (later_on (current_file files) wanted.page middle.page its.page a b)
      both middle (inr a) (inl b) = inl (subst (λ (n : ℕ). ComesLater (current_file files) n its.page) a.same b)
      both middle a (inr never) = absurd never

  comes_back : (rest : List ℕ) (actor : ℕ) (wanted : Wanted) → LatchSequence m actor rest actor → ComesLater (current_file files) wanted.page wanted.page ⊎ Ends rest wanted actor wanted → ⊥
  comes_back [] actor wanted waits (inl later) = not_itself (current_file files) wanted.page later
  comes_back [] actor wanted waits (inr own) = waits.kept.another refl
  comes_back (next ∷ rest) actor wanted waits (inl later) = not_itself (current_file files) wanted.page later
  comes_back (next ∷ rest) actor wanted waits (inr never) = never

  no_circle : (actor : ℕ) (rest : List ℕ) → LatchSequence m actor rest actor → ⊥
  no_circle actor rest waits =
      let wants = first_wants actor rest actor waits in
      comes_back rest actor wants.0 waits (in_sequence rest actor actor wants.0 wants.0 wants.1 wants.1 waits)

-- ---- in a circle everybody is waited for, so nobody is idle, and all wait for latches

module _ (m : Machine) where
  idle_holds : (st : StoreState) (page : ℕ) (held : Mode) (activity : Activity) → activity ≡ at.SessionIdle → mode_among page (latches_held st activity) ≡ Some held → ⊥
  idle_holds st page held activity idle holds = none-some held (subst (λ (a : Activity). mode_among page (latches_held st a) ≡ Some held) idle holds)

  holder_stands : (actor page : ℕ) (held : Mode) → modes m actor page ≡ Some held → m.activity actor ≡ at.SessionIdle → ⊥
  holder_stands actor page held holds idle = idle_holds m.store page held (m.activity actor) idle holds

  idle_locks : (lock : BoxLock) (activity : Activity) → activity ≡ at.SessionIdle → IsSomeAnd (lock_of activity) (Excludes lock) → ⊥
  idle_locks lock activity idle out = subst (λ (a : Activity). IsSomeAnd (lock_of a) (Excludes lock)) idle out

  box_held : (actor other : ℕ) (next : Option Line) → m.activity other ≡ at.SessionIdle → IsSomeAnd next (λ line. LocksOut m actor (lock_of_command line.command) other) → ⊥
  box_held actor other None idle none = none
  box_held actor other (Some line) idle out = idle_locks (lock_of_command line.command) (m.activity other) idle out.excluded

  -- who is waited for isn't idle
  waited_for : (actor other : ℕ) → AwaitsActor m actor other → m.activity other ≡ at.SessionIdle → ⊥
  waited_for actor other (inl waits) idle =
      let held = held_there (modes m other waits.wanted.page) waits.wanted.mode waits.kept.conflict in
      holder_stands other waits.wanted.page held.0 held.1 idle
  waited_for actor other (inr awaits) idle = box_held actor other (next_line actor m.answered m.lines) idle awaits.locked

  by_latch : (actor other : ℕ) → (m.activity actor ≡ at.SessionIdle → ⊥) → AwaitsActor m actor other → AwaitsLatch m actor other
  by_latch actor other stands (inl waits) = waits
  by_latch actor other stands (inr awaits) = absurd (stands awaits.idle)

  last_stands : (rest : List ℕ) (actor last : ℕ) → WaitInSequence m actor rest last → m.activity last ≡ at.SessionIdle → ⊥
  last_stands [] actor last waits = waited_for actor last waits
  last_stands (next ∷ rest) actor last (waits, more) = last_stands rest next last more

  all_by_latch : (rest : List ℕ) (actor last : ℕ) → (m.activity actor ≡ at.SessionIdle → ⊥) → WaitInSequence m actor rest last → LatchSequence m actor rest last
  all_by_latch [] actor last stands waits = by_latch actor last stands waits
  all_by_latch (next ∷ rest) actor last stands (waits, more) = (by_latch actor next stands waits, all_by_latch rest next last (waited_for actor next waits) more)

pub nobody_waits_in_a_circle : NobodyWaitsInACircle
nobody_waits_in_a_circle m files actor rest fit has nobody walks waits =
    no_circle m files fit has nobody walks actor rest (all_by_latch m rest actor actor (last_stands m rest actor actor waits) waits)
