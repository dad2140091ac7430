-- The page that a walk latches is further on for its point, over every disk: one level down, or of a box within the held page's.
use Rattle.hb_steps.proofs.Walks.Names.{◌≡◌, inl, inr, ℕ, ◌-◌, ◌<◌, List, Option, Some, None, refl, sym, ap, ◌∙◌, subst, arith, Contains, option_and_then, same_Some, All-contains, Leaf, Records, Child, Sibling, LivePage, Live, Meta, Mode, Wanted, Activity, goal_of, job_mode, session_mode, walk_held, in_mode, named_page, walk_next, wanted_of, wanted_page, first_among, sibling_fewer, AnyPage, HasItsBox, asked_box, box_at, box_by_leaf, looked_live, Brings, MachineKeeps, Machine, live_here, Placed, leaf_at, leaves, leaves_of, siblings_of, BelongsAt, IsActor, leaf_is_sibling, placed, Area, volume, IsGoodPage, StoreState}
use Rattle.hb_activity.specs.declared.activities.Activity.TheVariants as at
use Rattle.hb_activity.specs.Walks.{walk_point}
use Rattle.hb_frag.proofs.Facts.Tiles.{tiles_within}
use Rattle.hb_ops.proofs.Facts.PlacedLaws.{placed_is_leaf}
use Rattle.hb_ops.specs.Sound.{FitsFile}
use Rattle.hb_sound.specs.PointWalks.{IsFurther}
use Rattle.hb_space.proofs.Facts.Boxes.{Holds-within}
use Rattle.hb_space.specs.Boxes.{Holds, Within}
use Rattle.hb_steps.proofs.Facts.StillThere.{fetched_good}
use Rattle.hb_steps.proofs.Machines.BoxesAhead.{leaf_box}
use Rattle.hb_steps.proofs.Walks.AtHand.{good_here, walked_there}
use Rattle.hb_steps.specs.MachineLaws.{WalksLeadFurther}

-- ---- a page of the level and the box by which another one names it at a point

module _ (meta : Meta) (held : LivePage) (good : IsGoodPage meta (Live held)) (page : LivePage) (made : FitsFile meta page) (p : List ℕ) where
  among_leaves : (leaf : Leaf) (area : Area) → leaf_at held p ≡ Some (placed leaf area) → Contains (leaves_of held.frag held.area) (placed leaf area)
  among_leaves leaf area there = first_among p (leaves_of held.frag held.area) (placed leaf area) there

  child_further : (name : ℕ) (area : Area) → leaf_at held p ≡ Some (placed (Child name) area) → page.level ≡ held.level - 1 → Within area page.area → IsFurther p held page
  child_further name area there on within =
      let box = leaf_box meta held p (placed (Child name) area) good there in
      let above : 0 < held.level = All-contains (BelongsAt held.level) (leaves held.frag) (Child name) good.1.filled.kinds (placed_is_leaf held.frag held.area (placed (Child name) area) (among_leaves (Child name) area there)) in
      record {
        inside = Holds-within area page.area p (box.0.1 ∙ sym made.fits.attributes) within box.1;
        further = inl (omega (arith, above, on));
      }

  sibling_further : (name : ℕ) (area : Area) → leaf_at held p ≡ Some (placed (Sibling name) area) → page.level ≡ held.level → page.area ≡ area → IsFurther p held page
  sibling_further name area there on box =
      let among = among_leaves (Sibling name) area there in
      let has : Contains (siblings_of held) (name, area) = leaf_is_sibling (leaves_of held.frag held.area) name area among in
      let fewer : volume area < volume held.area = sibling_fewer held.frag held.area name area good.1.well_cut good.1.filled.own has in
      let within : Within area held.area = All-contains (λ (l : Placed). Within l.area held.area) (leaves_of held.frag held.area) (placed (Sibling name) area) (tiles_within held.frag held.area good.0.fits.1 good.1.well_cut) among in
      record {
        inside = subst (λ (a : Area). Holds a p) (sym box) (leaf_box meta held p (placed (Sibling name) area) good there).1;
        further = inr (on, subst (λ (a : Area). Within a held.area) (sym box) within, λ same. let as_many : volume area ≡ volume held.area = ap volume (sym box ∙ same) in absurd (omega (arith, fewer, as_many)));
      }

  leaf_further : (mode : ℕ → Mode) (leaf : Leaf) (area : Area) (wanted : Wanted) → leaf_at held p ≡ Some (placed leaf area) → in_mode mode (named_page held.level leaf) ≡ Some wanted → page.level ≡ wanted.level
      → HasItsBox (box_by_leaf (placed leaf area)) page → IsFurther p held page
  leaf_further mode (Records records) area wanted there wants on box = cc
  leaf_further mode (Child name) area wanted there wants on box =
      child_further name area there (let same : wanted_page name (held.level - 1) (mode (held.level - 1)) ≡ wanted = cc in on ∙ ap (λ (w : Wanted). w.level) (sym same)) box
  leaf_further mode (Sibling name) area wanted there wants on box =
      sibling_further name area there (let same : wanted_page name held.level (mode held.level) ≡ wanted = cc in on ∙ ap (λ (w : Wanted). w.level) (sym same)) box

  at_leaf : (mode : ℕ → Mode) (wanted : Wanted) (o : Option Placed) → leaf_at held p ≡ o → in_mode mode (option_and_then (λ (l : Placed). named_page held.level l.leaf) o) ≡ Some wanted → page.level ≡ wanted.level
      → HasItsBox (option_and_then box_by_leaf o) page → IsFurther p held page
  at_leaf mode wanted None is wants on box = cc
  at_leaf mode wanted (Some l) is wants on box = leaf_further mode l.leaf l.area wanted is wants on box

  -- the next page of a walk
  walk_further : (mode : ℕ → Mode) (walk_meta : Meta) (id : ℕ) (goal : Option (List ℕ)) (now then : Option LivePage) (wanted : Wanted) → goal ≡ Some p → now ≡ Some held → then ≡ Some held
      → in_mode mode (walk_next goal (Some id) walk_meta now) ≡ Some wanted → page.level ≡ wanted.level → HasItsBox (box_at then goal) page → IsFurther p held page
  walk_further mode walk_meta id goal now then wanted goal_is is was wants on box =
      at_leaf mode wanted (leaf_at held p) refl
      (subst (λ (o : Option LivePage). in_mode mode (walk_next (Some p) (Some id) walk_meta o) ≡ Some wanted) is (subst (λ (g : Option (List ℕ)). in_mode mode (walk_next g (Some id) walk_meta now) ≡ Some wanted) goal_is wants)) on
      (subst (λ (o : Option LivePage). HasItsBox (box_at o (Some p)) page) was (subst (λ (g : Option (List ℕ)). HasItsBox (box_at then g) page) goal_is box))

-- ---- so does a walk

module _ (m : Machine) (actor : ℕ) (fetched : StoreState) (may : IsActor actor) (keeps : MachineKeeps m) (brings : Brings m AnyPage fetched) (held : ℕ) (before : LivePage) (p : List ℕ) (wanted : Wanted) (page : LivePage) (live : live_here m.store held ≡ Some before)
    (there : live_here fetched held ≡ Some before) (found : live_here fetched wanted.page ≡ Some page) (on : page.level ≡ wanted.level) where
  goes_further : (id : ℕ) (goal : Option (List ℕ)) (mode : ℕ → Mode) → id ≡ held → goal ≡ Some p → in_mode mode (walk_next goal (Some id) m.store.meta (live_here m.store id)) ≡ Some wanted
      → HasItsBox (box_at (live_here fetched id) goal) page → IsFurther p before page
  goes_further id goal mode same goal_is wants box =
      walk_further m.store.meta before (good_here m actor fetched may keeps brings held before live) page (fetched_good m AnyPage fetched keeps.pages_of_file brings wanted.page page found).1 p mode m.store.meta id goal (live_here m.store id) (live_here fetched id) wanted goal_is
      (ap (live_here m.store) same ∙ live) (ap (live_here fetched) same ∙ there) wants on box

  leads_further : (activity : Activity) → walk_held activity ≡ Some held → walk_point activity ≡ Some p → wanted_of activity m.store.meta (looked_live m.store activity) ≡ Some wanted → HasItsBox (asked_box activity fetched) page → IsFurther p before page
  leads_further (at.SessionWalk line (Some id) rest found) holds goal_is wants box = goes_further id (goal_of line.command rest) (session_mode line.command) (same_Some id held holds) goal_is wants box
  leads_further (at.PosterWalk job (Some id)) holds goal_is wants box = goes_further id (Some job.point) (job_mode job) (same_Some id held holds) goal_is wants box
  leads_further (at.ConsolidatorWalk job (Some id)) holds goal_is wants box = goes_further id (Some job.point) (job_mode job) (same_Some id held holds) goal_is wants box
  leads_further activity holds goal_is wants box = cc

pub walks_lead_further : WalksLeadFurther
walks_lead_further m actor fetched held before p wanted page may keeps brings walks goal_is live wants hand =
    leads_further m actor fetched may keeps brings held before p wanted page live (walked_there m actor fetched may keeps brings held before walks live) hand.live hand.level (m.activity actor) walks goal_is wants hand.box
