-- Over any disk a step that stops a machine for a damaged page names one that it needs, and a rule that can be broken.
use Rattle.hb_steps.proofs.Facts.Names.{◌≡◌, ◌⊎◌, inl, inr, ℕ, Option, Some, None, refl, sym, ap, ◌∙◌, subst, Page, Live, Meta, Wanted, Outcome, Deed, MeetsBadPage, ForcesAll, StaysSo, Machine, Performs, Works, StoreState}
use Rattle.std.proofs.lemmas.Option.{same_Some}
use Rattle.hb_frag.specs.declared.pages.Page.TheVariants.{Free}
use Rattle.hb_space.proofs.Facts.Boxes.{Within-self}
use Rattle.hb_space.specs.Boxes.{Area}
use Rattle.hb_store.specs.Fetching.{IsNoPage}
use Rattle.hb_store.specs.declared.stops.StopWhy.TheVariants.{Damaged, WriteFault}
use Rattle.hb_store.specs.declared.stops.Why.{Why}
use Rattle.hb_store.specs.declared.stops.Why.TheVariants.{Rule, Level, Extent}
use Rattle.hb_steps.specs.declared.asked_boxes.BoxTest.{BoxTest}
use Rattle.hb_steps.specs.declared.asked_boxes.BoxTest.TheVariants.{Exactly, Around}
use Rattle.hb_steps.specs.declared.outcomes.Outcome.TheVariants as outcomes
use Rattle.hb_steps.proofs.Facts.StepKinds.{each_kind, FlushesMore, ready_kind}
use Rattle.hb_steps.specs.Acting.{IsBadWanted, NeedsNumber}
use Rattle.hb_steps.specs.AskedBoxes.{HasAskedBox, IsNotAsked}
use Rattle.hb_steps.specs.Asking.{AskedBox, asked_box, wanted_by}
use Rattle.hb_steps.specs.DamageLaws.{DamageIsNamed, IsRuleNamed, NamesDamage}
use Rattle.hb_steps.specs.Fetching.{IsBadHead, IsBadRead, IsDamaged, IsWantedPage}
use Rattle.hb_steps.specs.Machines.{with_disk}

-- a box passes its own test
own_box : (area : Area) (test : BoxTest) → HasAskedBox (record { area = area; test = test }) area
own_box area Exactly = refl
own_box area Around = Within-self area

module _ (m : Machine) (st : StoreState) (meta_is : st.meta ≡ m.store.meta) where
  no_page : (page : ℕ) (why : Why) → IsNoPage st.meta page → why ≡ Rule 1 → IsRuleNamed m page why
  no_page page why lacks is = subst (IsRuleNamed m page) (sym is) (inl (refl, subst (λ (meta : Meta). IsNoPage meta page) meta_is lacks))

  not_free : (page : ℕ) (why : Why) → why ≡ Rule 2 → IsRuleNamed m page why
  not_free page why is = subst (IsRuleNamed m page) (sym is) (inr (inl refl))

  bad_read : (page : ℕ) (why : Why) → IsBadRead m.files st page why → IsRuleNamed m page why
  bad_read page (Rule rule) read = inr (inr (read.0, read.2))
  bad_read page (Level asked found) never = absurd never
  bad_read page (Extent asked found) never = absurd never

  not_asked : (id : ℕ) (wanted : Wanted) (asked : AskedBox) (page : Page) (why : Why) → IsNotAsked wanted asked page why → IsRuleNamed m id why
  not_asked id wanted asked (Free next) why is = not_free id why is
  not_asked id wanted asked (Live page) (Rule rule) never = absurd never
  not_asked id wanted asked (Live page) (Level level found) (other, as_wanted, as_found) = λ same. other (sym as_found ∙ sym same ∙ as_wanted)
  not_asked id wanted asked (Live page) (Extent area found) (level, other, as_asked, as_found) =
      λ same. other (subst (HasAskedBox asked) (sym as_asked ∙ same ∙ as_found) (own_box asked.area asked.test))

  damaged : (wanted : Wanted) (asked : AskedBox) (why : Why) → IsDamaged m.files st wanted asked why → IsRuleNamed m wanted.page why
  damaged wanted asked why (inl (lacks, is)) = no_page wanted.page why lacks is
  damaged wanted asked why (inr (inl (some, read))) = bad_read wanted.page why read
  damaged wanted asked why (inr (inr (some, page, there, other))) = not_asked wanted.page wanted asked page why other

  head : (page : ℕ) (why : Why) → IsBadHead m.files st page why → (page ≡ st.meta.free) × IsRuleNamed m page why
  head page why (inl (some, is, lacks, rule)) = (is, no_page page why lacks rule)
  head page why (inr (inl (some, is, has, read))) = (is, bad_read page why read)
  head page why (inr (inr (inl (some, is, live, there, rule)))) = (is, not_free page why rule)
  head page why (inr (inr (inr (none, high, is, rule)))) = (is ∙ sym none, not_free page why rule)

-- ---- the bad page of a step

module _ (m : Machine) (actor : ℕ) (outcome : Outcome) (new : Machine) (bad : MeetsBadPage m actor outcome new) where
  meta_stays : bad.fetched.meta ≡ m.store.meta
  meta_stays = ap (λ (s : StoreState). s.meta) bad.brings.rest

  bad_wanted : (w : Option Wanted) (a : Option AskedBox) → IsBadWanted m.files bad.fetched w a bad.page bad.why → IsWantedPage w bad.page × IsRuleNamed m bad.page bad.why
  bad_wanted None a never = absurd never
  bad_wanted (Some w) None never = absurd never
  bad_wanted (Some w) (Some a) (is, broken) = (is, subst (λ (id : ℕ). IsRuleNamed m id bad.why) (sym is) (damaged m bad.fetched meta_stays w a bad.why broken))

  names_it : NamesDamage m actor bad.page bad.why
  names_it = by bad.bad
    where
      by : IsBadWanted m.files bad.fetched (wanted_by m actor) (asked_box (m.activity actor) bad.fetched) bad.page bad.why
          ⊎ (NeedsNumber (m.activity actor) (wanted_by m actor) (with_disk bad.fetched m.files m.clock m) × IsBadHead m.files bad.fetched bad.page bad.why) → NamesDamage m actor bad.page bad.why
      by (inl wanted) = let both = bad_wanted (wanted_by m actor) (asked_box (m.activity actor) bad.fetched) wanted in record { needed = inl both.0; rule = both.1 }
      by (inr (needs, is)) = let both = head m bad.fetched meta_stays bad.page bad.why is in record { needed = inr (both.0 ∙ ap (λ (meta : Meta). meta.free) meta_stays); rule = both.1 }

  pub names_page : (page : ℕ) (why : Why) → new.stop ≡ Some (Damaged page why) → NamesDamage m actor page why
  names_page page why stopped =
      let same : Damaged bad.page bad.why ≡ Damaged page why = same_Some (Damaged bad.page bad.why) (Damaged page why) (sym (ap (λ (x : Machine). x.stop) bad.stops) ∙ stopped) in
      let page_is : bad.page ≡ page = cc in
      let why_is : bad.why ≡ why = cc in
      subst (NamesDamage m actor page) why_is (subst (λ (id : ℕ). NamesDamage m actor id bad.why) page_is names_it)

-- ---- no other step stops a machine so

module _ (m : Machine) (actor : ℕ) (outcome : Outcome) (new : Machine) (page : ℕ) (why : Why) (runs : m.stop ≡ None) (stopped : new.stop ≡ Some (Damaged page why)) where
  abbrev Named : Type 0
  Named = NamesDamage m actor page why

  runs_on : new.stop ≡ m.stop → Named
  runs_on is = let never : None ≡ Some (Damaged page why) = sym runs ∙ sym is ∙ stopped in cc never

  write_failed : new.stop ≡ Some WriteFault → Named
  write_failed is = let never : Some WriteFault ≡ Some (Damaged page why) = sym is ∙ stopped in cc never

  stays : (said : Outcome) → StaysSo m said outcome new → Named
  stays said (says, is) = runs_on (ap (λ (x : Machine). x.stop) is)

  forces : (said : Outcome) → ForcesAll m said outcome new → Named
  forces said (inl (says, is)) = runs_on (ap (λ (x : Machine). x.stop) is)
  forces said (inr badly) = write_failed (ap (λ (x : Machine). x.stop) badly.1.stops)

  performed : (fetched : StoreState) (deed : Deed) → Performs m fetched actor deed outcome new → Named
  performed fetched deed performs = runs_on performs.stop

  more : FlushesMore m outcome new → Named
  more (empty, inl (id, oldest, due, quiet, well)) = runs_on (ap (λ (x : Machine). x.stop) well.leaves)
  more (empty, inr (inl (old, due, quiet, turns))) = runs_on (ap (λ (x : Machine). x.stop) turns.leaves)
  more (empty, inr (inr (calls, left, fails))) = write_failed (ap (λ (x : Machine). x.stop) fails.stops)

  works : Works m actor outcome new → Named
  works (inl (by, way, so)) = stays (outcomes.Blocked by) so
  works (inr (inl (free, unready, inl (waits, force)))) = forces outcomes.Helped force
  works (inr (inl (free, unready, inr (empty, rest)))) = ready_kind m outcome new Named empty more rest
  works (inr (inr (free, ready, inl row))) = performed row.fetched row.deed row.performs
  works (inr (inr (free, ready, inr (inl gives)))) = performed gives.fetched _ gives.performs
  works (inr (inr (free, ready, inr (inr bad)))) = names_page m actor outcome new bad page why stopped

pub damage_is_named : DamageIsNamed
damage_is_named m actor outcome new page why step runs stopped =
    each_kind m actor outcome new (NamesDamage m actor page why) (λ said quiet so. stays m actor outcome new page why runs stopped said so) (λ said quiet force. forces m actor outcome new page why runs stopped said force)
    (more m actor outcome new page why runs stopped)
    (λ deed outright performs. performed m actor outcome new page why runs stopped m.store deed performs) (works m actor outcome new page why runs stopped) step
