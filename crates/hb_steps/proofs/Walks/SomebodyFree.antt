-- Not every actor at work is kept waiting: whom an actor waits for wants a page that comes later, and pages can't come later for ever.
use Rattle.hb_steps.proofs.Walks.Names.{◌≡◌, ◌⊎◌, inl, inr, ℕ, zero, suc, ◌<◌, [], ◌∷◌, Option, Some, None, IsSomeAnd, refl, sym, ap, ◌∙◌, subst, arith, same_Some, LivePage, Mode, Wanted, Activity, holder_may, wanted_by, HasNobodyElse, HasSoundFile, LatchesFit, WalksInSpace, Files, Machine, current_file, modes, latches_held, mode_among, IsAtRest, ComesLater, HasWorkLeft, IsKeptWaiting, IsLeastInTheWay, live_page, volume, StoreState}
use Rattle.hb_activity.specs.declared.activities.Activity.TheVariants as at
use Rattle.hb_steps.proofs.Walks.NoCircle.{AwaitsLatch, held_there, in_sequence}
use Rattle.hb_steps.specs.WaitingLaws.{SomebodyGoesOn}

-- who rests holds nothing
rests_free : (st : StoreState) (activity : Activity) (page : ℕ) (mode : Mode) → IsAtRest activity → mode_among page (latches_held st activity) ≡ Some mode → ⊥
rests_free st at.SessionIdle page mode rests holds = cc
rests_free st at.PosterIdle page mode rests holds = cc
rests_free st at.ConsolidatorIdle page mode rests holds = cc
rests_free st at.Flusher page mode rests holds = cc
rests_free st activity page mode rests holds = absurd rests

module _ (m : Machine) (files : Files) (fit : LatchesFit m) (has : HasSoundFile m files) (nobody : HasNobodyElse m) (walks : WalksInSpace m)
    (kept : (other : ℕ) → HasWorkLeft m other → IsKeptWaiting m other) where
  -- who is in the way is at work
  holder_works : (actor page : ℕ) (mode : Mode) → modes m actor page ≡ Some mode → HasWorkLeft m actor
  holder_works actor page mode holds = (holder_may m nobody actor page mode holds, λ rests. rests_free m.store (m.activity actor) page mode rests holds)

  record IsKeptBy (actor : ℕ) : Type 0 where
    pub other : ℕ
    pub waits : AwaitsLatch m actor other
    pub works : HasWorkLeft m other

  kept_by : (actor by : ℕ) (wants : Option Wanted) → wanted_by m actor ≡ wants → IsSomeAnd wants (λ wanted. IsLeastInTheWay (modes m) actor wanted.page wanted.mode by) → IsKeptBy actor
  kept_by actor by None is never = absurd never
  kept_by actor by (Some wanted) is least =
      let held = held_there (modes m by wanted.page) wanted.mode least.keeps.conflict in
      record { other = by; waits = record { wanted = wanted; wants_it = is; kept = least.keeps }; works = holder_works by wanted.page held.0 held.1 }

  keeps_it : (actor : ℕ) → HasWorkLeft m actor → IsKeptBy actor
  keeps_it actor works = let one = kept actor works in kept_by actor one.0 (wanted_by m actor) refl one.1

  -- Two waits on, somebody at work wants a page that comes later.
  record GoesOn (wanted : Wanted) : Type 0 where
    pub actor : ℕ
    pub its : Wanted
    pub wants : wanted_by m actor ≡ Some its
    pub works : HasWorkLeft m actor
    pub later : ComesLater (current_file files) wanted.page its.page

  two_on : (actor : ℕ) (wanted : Wanted) → wanted_by m actor ≡ Some wanted → HasWorkLeft m actor → GoesOn wanted
  two_on actor wanted wants works =
      let first = keeps_it actor works in
      let second = keeps_it first.other first.works in
      let third = keeps_it second.other second.works in
      record {
        actor = second.other;
        its = third.waits.wanted;
        wants = third.waits.wants_it;
        works = second.works;
        later = by (in_sequence m files fit has nobody walks (first.other ∷ []) actor second.other wanted third.waits.wanted wants third.waits.wants_it (first.waits, second.waits));
      }
    where
      by : {a b : ℕ} → ComesLater (current_file files) a b ⊎ ⊥ → ComesLater (current_file files) a b
      by (inl later) = later
      by (inr never) = absurd never

  -- nobody stands so at a page of a level below this one, and none of this level whose box holds fewer points
  abbrev StuckBelow : ℕ → Type 0
  StuckBelow level = (actor : ℕ) (wanted : Wanted) (page : LivePage) → wanted_by m actor ≡ Some wanted → HasWorkLeft m actor → live_page (current_file files) wanted.page ≡ Some page → page.level < level → ⊥

  abbrev StuckWithin : ℕ → ℕ → Type 0
  StuckWithin level points = (actor : ℕ) (wanted : Wanted) (page : LivePage) → wanted_by m actor ≡ Some wanted → HasWorkLeft m actor → live_page (current_file files) wanted.page ≡ Some page → page.level ≡ level → volume page.area < points → ⊥

  within : (level : ℕ) → StuckBelow level → (points : ℕ) → StuckWithin level points
  within level below zero actor wanted page wants works live on few = absurd (omega (arith, few))
  within level below (suc points) actor wanted page wants works live on few =
      let next = two_on actor wanted wants works in
      let same : next.later.page ≡ page = same_Some next.later.page page (sym next.later.live ∙ live) in
      let here : next.later.page.level ≡ level = ap (λ (p : LivePage). p.level) same ∙ on in
      let holds : volume next.later.page.area < suc points = subst (λ (p : LivePage). volume p.area < suc points) (sym same) few in
      elim next.later.later [
        | inl lower ↦ below next.actor next.its next.later.named next.wants next.works next.later.live_named (omega (arith, lower, here))
        | inr (level_is, fewer) ↦ within level below points next.actor next.its next.later.named next.wants next.works next.later.live_named (level_is ∙ here) (omega (arith, fewer, holds))
      ]

  below_all : (level : ℕ) → StuckBelow level
  below_all zero actor wanted page wants works live lt = absurd (omega (arith, lt))
  below_all (suc level) actor wanted page wants works live lt =
      within page.level (λ a w p x y z less. below_all level a w p x y z (omega (arith, less, lt))) (suc (volume page.area)) actor wanted page wants works live refl (omega arith)

  nobody_stuck : (actor : ℕ) → HasWorkLeft m actor → ⊥
  nobody_stuck actor works =
      let first = keeps_it actor works in
      let next = two_on actor first.waits.wanted first.waits.wants_it works in
      below_all (suc next.later.page.level) actor first.waits.wanted next.later.page first.waits.wants_it works next.later.live (omega arith)

pub somebody_goes_on : SomebodyGoesOn
somebody_goes_on m files actor fit has nobody walks works kept = nobody_stuck m files fit has nobody walks kept actor works
