-- What came into memory, and what left it: a page that is there before and afterwards is the same, where the disk tells or the page
-- must stay.
use Rattle.hb_steps.proofs.Memory.Names.{◌≡◌, ◌≢◌, ◌⊎◌, inl, inr, ℕ, Some, None, refl, sym, ap, ◌∙◌, subst, LivePage, Page, Live, Mode, Activity, Brings, MustStay, LatchesFit, Files, Machine, modes, with_disk, HasHeld, latches_held, mode_among, IsActor, if_live, StoreState, in_memory, has_value}
use Rattle.hb_steps.specs.Machines.{live_here}
use Rattle.hb_steps.proofs.Latches.SameLatches.{live_held, same_modes, still_latched}
use Rattle.hb_ops.proofs.Facts.PageNumberLaws.{live_so}
use Rattle.hb_lemmas.proofs.Options.{not_none, some_value}

-- a page of this number can't have come again as another one
abbrev pub IsSure : Machine → ℕ → Type 0
IsSure m id = (m.files ≢ None) ⊎ MustStay m id

-- so where the disk tells, and so is a page that an actor has latched between two steps
pub told_files : (m : Machine) (files : Files) → m.files ≡ Some files → m.files ≢ None
told_files m files told none = not_none m.files files told none

pub must_hold : (m : Machine) (actor id : ℕ) (activity : Activity) (mode : Mode) → IsActor actor → LatchesFit m → m.activity actor ≡ activity → mode_among id (latches_held m.store activity) ≡ Some mode → MustStay m id
must_hold m actor id activity mode may fit is among = inl (actor, mode, subst (λ (a : Activity). mode_among id (latches_held m.store a) ≡ Some mode) (sym is) among)

module _ (m : Machine) (may : ℕ → Type 0) (fetched : StoreState) (brings : Brings m may fetched) where
  -- such a page of the machine that is in memory afterwards is the one that was there
  pub same_there : (id : ℕ) (page now : Page) → IsSure m id → in_memory m.store id ≡ Some page → in_memory fetched id ≡ Some now → in_memory fetched id ≡ in_memory m.store id
  same_there id page now sure was is = elim (brings.others id (has_value (in_memory m.store id) page was)) [
    | inl same ↦ same
    | inr (inl gone) ↦ absurd (not_none (in_memory fetched id) now is gone)
    | inr (inr (untold, asked, free)) ↦ absurd (by sure untold free)
  ]
    where
      by : IsSure m id → m.files ≡ None → ¬ (MustStay m id) → ⊥
      by (inl told) untold free = told untold
      by (inr must) untold free = free must

  pub both_there : (id : ℕ) (page now : LivePage) → IsSure m id → live_here m.store id ≡ Some page → live_here fetched id ≡ Some now → live_here fetched id ≡ Some page
  both_there id page now sure was is =
      ap if_live (same_there id (Live page) (Live now) sure (live_so (in_memory m.store id) page was) (live_so (in_memory fetched id) now is)) ∙ was

  -- a page that somebody holds stays
  pub still_held : (actor id : ℕ) (mode : Mode) (page : Page) → modes m actor id ≡ Some mode → in_memory m.store id ≡ Some page → in_memory fetched id ≡ Some page
  still_held actor id mode page holds was = brings.stays id (inl (actor, mode, holds)) (has_value (in_memory m.store id) page was) ∙ was

  -- and so each actor has latched what it had
  pub held_come : (who : ℕ) → HasHeld m who fetched
  held_come who id mode page holds there = still_held who id mode (Live page) holds there

  pub latches_come : LatchesFit m → (who : ℕ) → latches_held fetched (m.activity who) ≡ latches_held m.store (m.activity who)
  latches_come fit who = still_latched m fit who fetched (held_come who)

  pub same_held : LatchesFit m → modes (with_disk fetched m.files m.clock m) ≡ modes m
  same_held fit = same_modes m fit (with_disk fetched m.files m.clock m) (λ who. refl) held_come

  -- so a page in use stays that an actor has latched where it stands
  pub own_there : (actor id : ℕ) (mode : Mode) (page : LivePage) → LatchesFit m → IsActor actor → mode_among id (latches_held m.store (m.activity actor)) ≡ Some mode → live_here m.store id ≡ Some page → live_here fetched id ≡ Some page
  own_there actor id mode page fit may among live = live_held m actor fetched (held_come actor) id mode page among live

  -- a page that must stay does, and any other one stays or is gone, or has come again where the disk doesn't tell
  pub stays_or_left : (id : ℕ) (page : Page) → in_memory m.store id ≡ Some page → (in_memory fetched id ≡ Some page) ⊎ ((¬ (MustStay m id)) × ((in_memory fetched id ≡ None) ⊎ (m.files ≡ None)))
  stays_or_left id page was = elim (brings.others id (has_value (in_memory m.store id) page was)) [
    | inl same ↦ inl (same ∙ was)
    | inr (inl gone) ↦ inr (λ must. not_none (in_memory fetched id) page (brings.stays id must (has_value (in_memory m.store id) page was) ∙ was) gone, inl gone)
    | inr (inr (untold, asked, free)) ↦ inr (free, inr untold)
  ]

-- nothing came
pub brings_none : (m : Machine) (may : ℕ → Type 0) (st : StoreState) → m.store ≡ st → Brings m may st
brings_none m may st same = subst (Brings m may) same (record {
  rest = refl;
  stays = λ id must there. refl;
  others = λ id there. inl refl;
  only = λ id none there. let page = some_value (in_memory m.store id) there in absurd (not_none (in_memory m.store id) page.0 page.1 none);
  good = λ id page there. inl there;
  told = λ id page none there. absurd (not_none (in_memory m.store id) page there none);
})
