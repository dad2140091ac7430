-- After a step all latches are on pages in use, and those on one page go beside each other.
use Rattle.hb_steps.proofs.Latches.Names.{◌≡◌, ◌≢◌, ◌⊎◌, inl, inr, ℕ, Some, IsTrue, refl, sym, ap, ◌∙◌, LivePage, Live, Mode, goes_beside, Activity, walk_held, IsActor, in_memory, Outcome, wanted_by, HoldsPagesOfFile, LatchesFit, Machine, modes, StepsTo}
use Rattle.hb_lemmas.proofs.Options.{if_value}
use Rattle.hb_steps.proofs.Latches.Backing.{BackedIn, ComesFrom, rests}
use Rattle.hb_steps.proofs.Latches.Beside.{beside_from, both_before}
use Rattle.hb_steps.proofs.Latches.HeldKept.{each_held}
use Rattle.hb_steps.proofs.Latches.MergerBacked.{every_row_backed}
use Rattle.hb_steps.proofs.Latches.SameLatches.{HasHeld, still_latched, walk_stays}
use Rattle.hb_steps.specs.Laws.{LatchesStayFit}
use Rattle.hb_steps.specs.Machines.{latches_held, mode_among}

module _ (mutual_modes : (mode other : Mode) → goes_beside mode other ≡ goes_beside other mode) (m : Machine) (actor : ℕ) (outcome : Outcome) (new : Machine) (may : IsActor actor) (fit : LatchesFit m) (inside : HoldsPagesOfFile m) (step : StepsTo m actor outcome new) where
  -- Where an actor has a latch from: it had it before, or it took the step.
  abbrev HasFrom : ℕ → ℕ → Mode → Type 0
  HasFrom other page mode = (modes m other page ≡ Some mode) ⊎ ((other ≡ actor) × ComesFrom m actor page mode)

  record IsBackedNow (other : ℕ) (activity : Activity) : Type 0 where
    latches : (page : ℕ) (mode : Mode) → mode_among page (latches_held new.store activity) ≡ Some mode → HasFrom other page mode × (live : LivePage) × (in_memory new.store page ≡ Some (Live live))
    walk : (held : ℕ) → walk_held activity ≡ Some held → (live : LivePage) × (in_memory new.store held ≡ Some (Live live))

  again : (other : ℕ) → HasHeld m other new.store → IsBackedNow other (m.activity other)
  again other has = record {
    latches = λ page mode among.
        let held : modes m other page ≡ Some mode = sym (ap (mode_among page) (still_latched m fit other new.store has)) ∙ among in
        let used = fit.used other page mode held in
        (inl held, used.0, has page mode used.0 held used.1);
    walk = λ held walks. let both = walk_stays m fit other held new.store has walks in (both.0, both.2);
  }

  taken : (activity : Activity) → BackedIn m actor new.store activity → IsBackedNow actor activity
  taken activity backed = record {
    latches = λ page mode among. let one = backed.latches page mode among in (inr (refl, one.from), one.live, one.there);
    walk = backed.walk;
  }

  now_backed : (other : ℕ) → IsBackedNow other (new.activity other)
  now_backed = each_held m actor outcome new may fit inside step IsBackedNow again
      (λ activity free. taken activity (rests m actor new.store activity free.walk (free.latches new.store)))
      (λ way does. taken does.deed.next (every_row_backed m actor _ does.fetched new.store may fit inside way does.brings (wanted_by m actor) does.deed refl does.performs.store does.row))

  -- two latches on one page are not both of the actor that took the step
  go_beside : (a b page : ℕ) (mode held : Mode) → a ≢ b → HasFrom a page mode → HasFrom b page held → IsTrue (goes_beside mode held)
  go_beside a b page mode held apart (inl first) (inl second) = both_before m fit a b page mode held apart first second
  go_beside a b page mode held apart (inl first) (inr (is, second)) = mutual_modes mode held ∙ beside_from m fit actor a page held mode (λ same. apart (same ∙ sym is)) second first
  go_beside a b page mode held apart (inr (is, first)) (inl second) = beside_from m fit actor b page mode held (λ same. apart (is ∙ sym same)) first second
  go_beside a b page mode held apart (inr (is, first)) (inr (so, second)) = absurd (apart (is ∙ sym so))

  stay_fit : LatchesFit new
  stay_fit = record {
    compatible = λ a b page apart. if_value (modes new a page) _ (λ mode first. if_value (modes new b page) _ (λ held second.
        go_beside a b page mode held apart ((now_backed a).latches page mode first).0 ((now_backed b).latches page held second).0));
    used = λ a page mode holds. let one = (now_backed a).latches page mode holds in (one.1, one.2);
    walking = λ a held walks. (now_backed a).walk held walks;
  }

pub latches_stay_fit : ((mode other : Mode) → goes_beside mode other ≡ goes_beside other mode) → LatchesStayFit
latches_stay_fit mutual_modes m actor outcome new may fit inside step = stay_fit mutual_modes m actor outcome new may fit inside step
