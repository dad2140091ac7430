-- What a page is tested for before it is latched: its level, and its box.
use Rattle.std.specs.Prelude.{◌≡◌, ◌≢◌, Option, IfSome}
use Rattle.hb_frag.specs.declared.pages.LivePage.{LivePage}
use Rattle.hb_frag.specs.declared.pages.Page.{Page}
use Rattle.hb_frag.specs.declared.pages.Page.TheVariants.{Live, Free}
use Rattle.hb_activity.specs.declared.wanting.Wanted.{Wanted}
use Rattle.hb_store.specs.declared.stops.Why.{Why}
use Rattle.hb_store.specs.declared.stops.Why.TheVariants.{Rule, Level, Extent}
use Rattle.hb_steps.specs.declared.asked_boxes.AskedBox.{AskedBox}
use Rattle.hb_steps.specs.declared.asked_boxes.BoxTest.{BoxTest}
use Rattle.hb_steps.specs.declared.asked_boxes.BoxTest.TheVariants.{Exactly, Around}
use Rattle.hb_space.specs.Boxes.{Area, Within}

-- the box is the one that is asked for, or one around it
abbrev pub HasAskedBox : AskedBox → Area → Type 0
HasAskedBox asked area = by asked.test
  where
    by : BoxTest → Type 0
    by Exactly = area ≡ asked.area
    by Around = Within asked.area area

-- the page has the box that is asked for, where one is
abbrev pub HasItsBox : Option AskedBox → LivePage → Type 0
HasItsBox asked page = IfSome asked (λ box. HasAskedBox box page.area)

-- why a page isn't the one that was asked for, by the first test that it fails: it is free, of another level, of another box
abbrev pub IsNotAsked : Wanted → AskedBox → Page → Why → Type 0
IsNotAsked wanted asked (Free next) why = why ≡ Rule 2
IsNotAsked wanted asked (Live page) (Rule rule) = ⊥
IsNotAsked wanted asked (Live page) (Level level found) = (page.level ≢ wanted.level) × (level ≡ wanted.level) × (found ≡ page.level)
IsNotAsked wanted asked (Live page) (Extent area found) = (page.level ≡ wanted.level) × (¬ (HasAskedBox asked page.area)) × (area ≡ asked.area) × (found ≡ page.area)
