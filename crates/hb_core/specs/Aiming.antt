-- What a step aims at: all that is found of it by the page that it looks into.
use Rattle.std.specs.Prelude.{◌≡◌, ℕ, length, Option, IfSome}
use Rattle.hb_activity.specs.declared.activities.Activity.{Activity}
use Rattle.hb_activity.specs.Wanting.{may_commit}
use Rattle.hb_store.specs.States.{StoreState}
use Rattle.hb_steps.specs.declared.asked_boxes.AskedBox.{AskedBox}
use Rattle.hb_steps.specs.Asking.{asked_box, looked_live}
use Rattle.hb_steps.specs.Looking.{wanted_in}
use Rattle.hb_core.specs.declared.aiming.Aim.{Aim}
use Rattle.hb_core.specs.CoreUpdates.{StandsAs}
use Rattle.hb_core.specs.Showing.{RunningCore}

pub record AimsAt (st : StoreState) (activity : Activity) (aim : Aim) : Type 0 where
  -- the latch that it wants, and the box that the wanted page is to have
  pub wanted : aim.wanted ≡ wanted_in st activity
  pub asked : aim.asked ≡ asked_box activity st
  -- whether it may change the file
  pub may_commit : aim.may_commit ≡ may_commit activity st.meta (looked_live st activity)

-- so does the next step of an actor
abbrev pub Aims : RunningCore → ℕ → Aim → Type 0
Aims c who aim = (activity : Activity) → StandsAs c who activity → AimsAt c.store activity aim

-- a box that is asked for has so many attributes
abbrev pub HasMany : ℕ → Option AskedBox → Type 0
HasMany k asked = IfSome asked (λ asked. length asked.area.lo ≡ k)
