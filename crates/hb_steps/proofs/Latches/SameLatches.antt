-- What the latches of an activity are in another memory that has the pages that they are on; and so, who holds what in another machine.
use Rattle.hb_steps.proofs.Latches.Names.{◌≡◌, ◌≢◌, inl, inr, ℕ, List, Option, Some, None, refl, sym, ap, ◌∙◌, subst, at_itself, LivePage, Live, Mode, Latch, Activity, walk_latch, job_mode, session_mode, walk_held, live_so, if_live, StoreState, in_memory, LatchesFit, Machine, modes}
use mathlib.Core.Path.{fun_ext}
use Rattle.std.proofs.lemmas.Bool.{cases_eq}
use Rattle.hb_latch.specs.Tables.{AreCompatible, HeldModes, LatchTable, mode_at}
use Rattle.hb_activity.specs.declared.activities.Activity.TheVariants as at
use Rattle.hb_steps.specs.Machines.{latches_held, live_here, mode_among}
use Rattle.hb_steps.specs.Performing.{Relatches}

pub same_latches : (activity : Activity) (old new : StoreState) → ((held : ℕ) → walk_held activity ≡ Some held → live_here new held ≡ live_here old held) → latches_held new activity ≡ latches_held old activity
same_latches (at.SessionWalk line (Some held) rest found) old new same = ap (λ (o : Option LivePage). walk_latch (Some held) o (session_mode line.command)) (same held refl)
same_latches (at.PosterWalk job (Some held)) old new same = ap (λ (o : Option LivePage). walk_latch (Some held) o (job_mode job)) (same held refl)
same_latches (at.ConsolidatorWalk job (Some held)) old new same = ap (λ (o : Option LivePage). walk_latch (Some held) o (job_mode job)) (same held refl)
same_latches activity old new same = refl

-- a walk that holds a page in use has a latch on it
abbrev pub Latched : ℕ → List Latch → Type 0
Latched page latches = (mode : Mode) × (mode_among page latches ≡ Some mode)

one_latched : (held : ℕ) (o : Option LivePage) (mode : ℕ → Mode) (page : LivePage) → o ≡ Some page → Latched held (walk_latch (Some held) o mode)
one_latched held o mode page is = subst (λ (o : Option LivePage). Latched held (walk_latch (Some held) o mode)) (sym is) (mode page.level, at_itself held (Some (mode page.level)) None)

pub walk_latched : (activity : Activity) (st : StoreState) (held : ℕ) (page : LivePage) → walk_held activity ≡ Some held → live_here st held ≡ Some page → Latched held (latches_held st activity)
walk_latched (at.SessionWalk line (Some id) rest found) st held page is live =
    let same : id ≡ held = cc in
    subst (λ (n : ℕ). Latched held (walk_latch (Some n) (live_here st n) (session_mode line.command))) (sym same) (one_latched held (live_here st held) (session_mode line.command) page live)
walk_latched (at.PosterWalk job (Some id)) st held page is live =
    let same : id ≡ held = cc in
    subst (λ (n : ℕ). Latched held (walk_latch (Some n) (live_here st n) (job_mode job))) (sym same) (one_latched held (live_here st held) (job_mode job) page live)
walk_latched (at.ConsolidatorWalk job (Some id)) st held page is live =
    let same : id ≡ held = cc in
    subst (λ (n : ℕ). Latched held (walk_latch (Some n) (live_here st n) (job_mode job))) (sym same) (one_latched held (live_here st held) (job_mode job) page live)
walk_latched activity st held page is live = cc

-- ---- another machine

-- the pages that an actor holds are in a memory, as they were
abbrev pub HasHeld : Machine → ℕ → StoreState → Type 0
HasHeld m actor st = (id : ℕ) (mode : Mode) (page : LivePage) → modes m actor id ≡ Some mode → in_memory m.store id ≡ Some (Live page) → in_memory st id ≡ Some (Live page)

-- so pages in use stay
pub live_held : (m : Machine) (actor : ℕ) (st : StoreState) → HasHeld m actor st → (id : ℕ) (mode : Mode) (page : LivePage) → modes m actor id ≡ Some mode → live_here m.store id ≡ Some page → live_here st id ≡ Some page
live_held m actor st has id mode page holds live = ap if_live (has id mode page holds (live_so (in_memory m.store id) page live))

module _ (m : Machine) (fit : LatchesFit m) where
  -- the page that a walk holds stays with the pages that are held
  pub walk_stays : (actor held : ℕ) (st : StoreState) → HasHeld m actor st → walk_held (m.activity actor) ≡ Some held → (live : LivePage) × (in_memory m.store held ≡ Some (Live live)) × (in_memory st held ≡ Some (Live live))
  walk_stays actor held st has walks =
      let old = fit.walking actor held walks in
      let latch = walk_latched (m.activity actor) m.store held old.0 walks (ap if_live old.1) in
      (old.0, old.1, has held latch.0 old.0 latch.1 old.1)

  pub still_latched : (actor : ℕ) (st : StoreState) → HasHeld m actor st → latches_held st (m.activity actor) ≡ latches_held m.store (m.activity actor)
  still_latched actor st has = same_latches (m.activity actor) m.store st (λ held walks. let both = walk_stays actor held st has walks in ap if_live both.2 ∙ sym (ap if_live both.1))

  pub same_mode : (new : Machine) (actor : ℕ) → new.activity actor ≡ m.activity actor → HasHeld m actor new.store → (page : ℕ) → modes new actor page ≡ modes m actor page
  same_mode new actor stands has page = ap (λ (a : Activity). mode_among page (latches_held new.store a)) stands ∙ ap (mode_among page) (still_latched actor new.store has)

  -- where every actor stands as it did
  module _ (new : Machine) (stands : (actor : ℕ) → new.activity actor ≡ m.activity actor) (has : (actor : ℕ) → HasHeld m actor new.store) where
    pub same_modes : modes new ≡ modes m
    same_modes = fun_ext (λ actor. fun_ext (same_mode new actor (stands actor) (has actor)))

    pub fit_again : LatchesFit new
    fit_again = record {
      compatible = subst AreCompatible (sym same_modes) fit.compatible;
      used = λ actor page mode holds.
          let held = sym (same_mode new actor (stands actor) (has actor) page) ∙ holds in
          let old = fit.used actor page mode held in
          (old.0, has actor page mode old.0 held old.1);
      walking = λ actor held walks. let both = walk_stays actor held new.store (has actor) (ap walk_held (sym (stands actor)) ∙ walks) in (both.0, both.2);
    }

  -- Where one actor stands elsewhere, and in a core's table has the latches of that, the table answers as the activities say.
  pub table_follows : (new : Machine) (actor : ℕ) (next : Activity) (old after : LatchTable) → modes m ≡ mode_at old → Relatches actor (latches_held new.store next) old after
      → new.activity actor ≡ next → ((other : ℕ) → other ≢ actor → new.activity other ≡ m.activity other) → ((other : ℕ) → other ≢ actor → HasHeld m other new.store) → modes new ≡ mode_at after
  table_follows new actor next old after shown latched own others has = fun_ext (λ who. fun_ext (λ page. elim (cases_eq who actor) [
    | inl is ↦ subst (λ (n : ℕ). modes new n page ≡ mode_at after n page) (sym is) (ap (λ (a : Activity). mode_among page (latches_held new.store a)) own ∙ sym (latched.own page))
    | inr another ↦ same_mode new who (others who another) (has who another) page ∙ ap (λ (t : HeldModes). t who page) shown ∙ sym (latched.others who page another)
  ]))
