-- A file of one level grows three times: twice by the free pages of its chain, and then by a page behind the last.
use Rattle.std.proofs.Common.{◌≡◌, ℕ, zero, suc, ◌≤◌, [], ◌∷◌, slice_get, Some, refl, sym, ap, subst, ◌∙◌, arith}
use Rattle.std.specs.List.{Contains}
use Rattle.hb_space.specs.Boxes.{Area}
use Rattle.hb_frag.specs.declared.leaves.Leaf.TheVariants.{Child}
use Rattle.hb_frag.specs.declared.pages.LivePage.{LivePage}
use Rattle.hb_frag.specs.declared.pages.Page.TheVariants.{Live, Free}
use Rattle.hb_frag.specs.Leaves.{Placed, leaves, leaves_of, siblings_of}
use Rattle.hb_frag.specs.Rules.{BelongsAt, IsInOrder}
use Rattle.hb_ops.specs.Files.{FileState, live_page, page_of}
use Rattle.hb_ops.specs.Sound.{ChildrenMatch, FitsFile, IsCounted, IsCovered, IsSound, SiblingsMatch, times_named}
use Rattle.hb_sound.proofs.Growths.{Growth, LicensesGrowth, MayGrow, grown}
use Rattle.hb_sound.specs.Examples.{passing, tower_ground}
use Rattle.hb_sound.proofs.Facts.ExampleParts.{in_order}
use Rattle.hb_space.proofs.Facts.Intervals.{held, interval, top}
use Rattle.std.proofs.lemmas.List.Elements.{All-from_recursion}
use Rattle.hb_sound.proofs.GrowthSound.{growth_keeps_sound}
use Rattle.hb_sound.proofs.Facts.PagePlaces.{place_of}
use Rattle.hb_ops.proofs.Facts.PageNumberLaws.{page_at-suc, page_at-zero}
use Rattle.hb_ops.proofs.Facts.PlacedLaws.{placed}

-- what a growth makes of a file that may grow so
record Grows (s : FileState) (x : Growth) (t : FileState) : Type 0 where
  may : MayGrow s x
  room : 1 ≤ s.meta.icap
  licensed : LicensesGrowth s x
  is : grown s x ≡ t

-- the chain of free pages is 3, 2
abbrev low : FileState
low = record {
  meta = record { k = 1; pages = 4; log = 4096; dcap = 6; icap = 1; root = 1; height = 1; high = 3; live = 1; free = 3 };
  pages = Live tower_ground ∷ Free 0 ∷ Free 2 ∷ [];
}

abbrev of_two : FileState
of_two = record {
  meta = record { k = 1; pages = 4; log = 4096; dcap = 6; icap = 1; root = 3; height = 2; high = 3; live = 2; free = 2 };
  pages = Live tower_ground ∷ Free 0 ∷ Live (passing 1 1) ∷ [];
}

abbrev of_three : FileState
of_three = record {
  meta = record { k = 1; pages = 4; log = 4096; dcap = 6; icap = 1; root = 2; height = 3; high = 3; live = 3; free = 0 };
  pages = Live tower_ground ∷ Live (passing 2 3) ∷ Live (passing 1 1) ∷ [];
}

abbrev of_four : FileState
of_four = record {
  meta = record { k = 1; pages = 4; log = 4096; dcap = 6; icap = 1; root = 4; height = 4; high = 4; live = 4; free = 0 };
  pages = Live tower_ground ∷ Live (passing 2 3) ∷ Live (passing 1 1) ∷ Live (passing 3 2) ∷ [];
}

first_step : Grows low (record { fresh = 3; free_after = 2 }) of_two
first_step = record {
  may = record {
    allocates = record { room = omega arith; from_chain = λ some. (refl, omega arith); from_behind = λ none. absurd (omega (arith, none)) };
    height = omega arith;
  };
  room = omega arith;
  licensed = λ some. refl;
  is = refl;
}

second_step : Grows of_two (record { fresh = 2; free_after = 0 }) of_three
second_step = record {
  may = record {
    allocates = record { room = omega arith; from_chain = λ some. (refl, omega arith); from_behind = λ none. absurd (omega (arith, none)) };
    height = omega arith;
  };
  room = omega arith;
  licensed = λ some. refl;
  is = refl;
}

third_step : Grows of_three (record { fresh = 4; free_after = 0 }) of_four
third_step = record {
  may = record {
    allocates = record { room = omega arith; from_chain = λ some. absurd (some refl); from_behind = λ none. (refl, omega arith, refl) };
    height = omega arith;
  };
  room = omega arith;
  licensed = λ some. absurd (some refl);
  is = refl;
}

-- the file of one level is sound: page 1 alone is in use
only_live : (id : ℕ) (page : LivePage) → live_page low id ≡ Some page → (id ≡ 1) × (page ≡ tower_ground)
only_live id page live = let here = place_of low id page live in at_place here.0 here.1 here.2
  where
    at_place : (n : ℕ) → id ≡ suc n → slice_get low.pages n ≡ Some (Live page) → (id ≡ 1) × (page ≡ tower_ground)
    at_place zero is there = (is, let same : page ≡ tower_ground = cc in same)
    at_place (suc zero) is there = absurd (let no : ⊥ = cc in no)
    at_place (suc (suc zero)) is there = absurd (let no : ⊥ = cc in no)
    at_place (suc (suc (suc n))) is there = absurd (let no : ⊥ = cc in no)

in_chain : (id next : ℕ) → page_of low id ≡ Some (Free next) → Contains (3 ∷ 2 ∷ []) id
in_chain zero next e = let none = page_at-zero low.pages in absurd (let no : ⊥ = cc in no)
in_chain (suc n) next e = at_place n (sym (page_at-suc low.pages n) ∙ e)
  where
    at_place : (n : ℕ) → slice_get low.pages n ≡ Some (Free next) → Contains (3 ∷ 2 ∷ []) (suc n)
    at_place zero there = absurd (let no : ⊥ = cc in no)
    at_place (suc zero) there = (1, omega arith, refl)
    at_place (suc (suc zero)) there = (0, omega arith, refl)
    at_place (suc (suc (suc n))) there = absurd (let no : ⊥ = cc in no)

counted : IsCounted low
counted = record {
  chain = 3 ∷ 2 ∷ [];
  chained = (refl, λ e. absurd (omega (arith, e)), 2, refl, (refl, λ e. absurd (omega (arith, e)), 0, refl, refl));
  all = in_chain;
  live = refl;
}

ground_fits : FitsFile low.meta tower_ground
ground_fits = record {
  fits = record { level = omega arith; attributes = refl };
  well_cut = tt;
  filled = record { kinds = All-from_recursion (BelongsAt 0) (leaves tower_ground.frag) (refl, tt); light = omega arith; own = λ none. none };
  in_order = All-from_recursion IsInOrder (leaves_of tower_ground.frag tower_ground.area) (in_order _ (interval 0 top) (held 0 7 top (omega arith) (omega arith), tt) (tt, tt), tt);
  normal = tt;
}

siblings : SiblingsMatch low
siblings id page name area live has =
    let none : Contains (siblings_of tower_ground) (name, area) = subst (λ (q : LivePage). Contains (siblings_of q) (name, area)) (only_live id page live).1 has in
    absurd (omega (arith, none.1))

no_child : (name : ℕ) (area : Area) → Contains (leaves_of tower_ground.frag tower_ground.area) (placed (Child name) area) → ⊥
no_child name area (zero, lt, e) = let leaf = ap (λ (l : Placed). l.leaf) e in let no : ⊥ = cc in no
no_child name area (suc k, lt, e) = absurd (omega arith)

children : ChildrenMatch low
children id page name area live has =
    absurd (no_child name area (subst (λ (q : LivePage). Contains (leaves_of q.frag q.area) (placed (Child name) area)) (only_live id page live).1 has))

covered : IsCovered low
covered = record {
  first = λ level lt. (1, tower_ground, refl, omega (arith, lt), refl);
  alone = λ id other page same live live' level whole whole'. (only_live id page live).0 ∙ sym (only_live other same live').0;
  not_named = λ id page live whole. ap (λ (n : ℕ). times_named n low.pages) (only_live id page live).0;
  named_once = λ id page live part. absurd (part (ap (λ (q : LivePage). q.area) (only_live id page live).1));
}

low_is_sound : IsSound low
low_is_sound = record {
  rooted = record { numbered = refl; some = omega arith; high = omega arith; root = omega arith; free = omega arith; live = omega arith; top = (tower_ground, refl, refl, refl) };
  counted = counted;
  well_made = λ id page live. subst (FitsFile low.meta) (sym (only_live id page live).1) ground_fits;
  siblings = siblings;
  children = children;
  covered = covered;
}

-- so each of the later files is sound
step : (s t : FileState) (x : Growth) → Grows s x t → IsSound s → IsSound t
step s t x g sound = subst IsSound g.is (growth_keeps_sound s x.fresh x.free_after sound g.room g.may g.licensed)

pub four_levels_are_sound : IsSound of_four
four_levels_are_sound =
    step of_three of_four (record { fresh = 4; free_after = 0 }) third_step
    (step of_two of_three (record { fresh = 2; free_after = 0 }) second_step
    (step low of_two (record { fresh = 3; free_after = 2 }) first_step low_is_sound))
