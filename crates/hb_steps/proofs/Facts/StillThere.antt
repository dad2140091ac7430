-- What a step leaves of the pages that actors hold between two steps.
use Rattle.hb_steps.proofs.Facts.Names.{◌≡◌, ◌≢◌, ◌⊎◌, inl, inr, ℕ, Some, sym, ap, ◌∙◌, subst, arith, cases_Bool, LivePage, Live, Mode, Meta, Activity, Outcome, Brings, none-some, LatchesFit, Machine, live_here, latches_held, StepsTo, IsActor, StoreState, in_memory, live_so}
use Rattle.std.proofs.Common.{nat_le, leb-true, leb-false}
use Rattle.hb_steps.proofs.Latches.SameLatches.{HasHeld, same_mode}
use Rattle.hb_steps.proofs.Memory.OwnPages.{held_pages_stay}
use Rattle.hb_steps.proofs.Facts.Ways.{others_stand}
use Rattle.hb_steps.specs.KeepingLaws.{NobodyElseComes}
use Rattle.hb_steps.specs.Keeps.{HasNobodyElse, HoldsPagesOfFile}
use Rattle.hb_steps.specs.Laws.{OthersStay}
use Rattle.hb_steps.specs.Machines.{modes}
use Rattle.hb_steps.specs.Performing.{mode_among}
use Rattle.hb_ops.specs.Sound.{FitsFile}
use Rattle.hb_store.specs.States.{IsGoodPage}

-- whether a number is that of an actor
pub may_or_not : (actor : ℕ) → IsActor actor ⊎ (¬ (IsActor actor))
may_or_not actor = elim (cases_Bool (nat_le 1 actor)) [
  | inl low ↦ elim (cases_Bool (nat_le actor 19)) [
    | inl high ↦ inl (record { from_1 = leb-true 1 actor low; to_19 = leb-true actor 19 high })
    | inr above ↦ let gt = leb-false actor 19 above in inr (λ may. omega (arith, gt, may.to_19))
  ]
  | inr none ↦ let lt = leb-false 1 actor none in inr (λ may. omega (arith, lt, may.from_1))
]

-- who has latched a page is one
pub holder_may : (m : Machine) → HasNobodyElse m → (actor page : ℕ) (mode : Mode) → modes m actor page ≡ Some mode → IsActor actor
holder_may m nobody actor page mode holds = elim (may_or_not actor) [
  | inl may ↦ may
  | inr none ↦ absurd (none-some mode (sym (ap (λ (a : Activity). mode_among page (latches_held m.store a)) (nobody actor none)) ∙ holds))
]

pub nobody_else_comes : NobodyElseComes
nobody_else_comes m actor outcome new may nobody step other none =
    let another : other ≢ actor = λ same. none (subst IsActor (sym same) may) in
    others_stand m actor outcome new step other another ∙ nobody other none

module _ (m : Machine) (may : ℕ → Type 0) (fetched : StoreState) (inside : HoldsPagesOfFile m) (brings : Brings m may fetched) where
  -- what is in memory after a fetch keeps the rules that speak of a page alone
  pub fetched_good : (id : ℕ) (page : LivePage) → live_here fetched id ≡ Some page → IsGoodPage m.store.meta (Live page)
  fetched_good id page live = elim (brings.good id (Live page) (live_so (in_memory fetched id) page live)) [
    | inl was ↦ (inside id (Live page) was).2
    | inr good ↦ good.2
  ]

  -- so it fits the file
  pub fetched_fits : (id : ℕ) (page : LivePage) → live_here fetched id ≡ Some page → FitsFile fetched.meta page
  fetched_fits id page live = subst (λ (meta : Meta). FitsFile meta page) (sym (ap (λ (s : StoreState). s.meta) brings.rest)) (fetched_good id page live).1

module _ (m : Machine) (actor : ℕ) (outcome : Outcome) (new : Machine) (latches : IsActor actor) (fit : LatchesFit m) (inside : HoldsPagesOfFile m) (step : StepsTo m actor outcome new) (other : ℕ) (another : other ≢ actor) where
  -- what it has latched stays
  pub other_held : HasHeld m other new.store
  other_held id mode page holds there = held_pages_stay m actor outcome new latches fit inside step other id mode page another holds there

  pub other_modes : (page : ℕ) → modes new other page ≡ modes m other page
  other_modes = same_mode m fit new other (others_stand m actor outcome new step other another) other_held

-- so no other actor stands elsewhere after a step, or has other latches
pub others_stay : OthersStay
others_stay m actor outcome new step other another = (others_stand m actor outcome new step other another, λ may fit inside. other_modes m actor outcome new may fit inside step other another)
