-- That the high file is sound, and its walk down.
use Rattle.std.proofs.Common.{◌≡◌, ℕ, zero, suc, ◌+◌, ◌<◌, inl, ◌-◌, ◌≤◌, ◌==◌, true, false, if◌then◌else◌, List, [], ◌∷◌, Some, refl, sym, subst, arith}
use Rattle.hb_space.specs.Boxes.{Area, Holds, Within, whole_area}
use Rattle.hb_frag.specs.declared.pages.LivePage.{LivePage}
use Rattle.hb_frag.specs.Leaves.{leaves, leaves_of}
use Rattle.hb_frag.specs.Rules.{BelongsAt, IsInOrder, capacity_of}
use Rattle.hb_ops.specs.Files.{live_page}
use Rattle.hb_ops.specs.Sound.{FitsFile, IsSound, ChildrenMatch, IsCovered}
use Rattle.hb_sound.specs.Examples.{passing, tower_file, tower_ground, tower_meta}
use Rattle.hb_sound.specs.PointWalks.{IsResponsible, IsWholeWalk, LeadsOn}
use Rattle.hb_sound.proofs.Facts.ExampleParts.{AllNumbered, HasChildren, HasFirst, HasSiblings, children_match, counted, each_page, first, in_order, is_covered, no_records, siblings_match}
use Rattle.hb_space.proofs.Facts.Intervals.{held, interval, top, within}
use Rattle.std.proofs.lemmas.List.Elements.{All-from_recursion}

-- the pages from a level down, the first of which has the number
abbrev pages_from : ℕ → ℕ → List LivePage
pages_from zero id = tower_ground ∷ []
pages_from (suc level) id = passing (suc level) (suc id) ∷ pages_from level (suc id)

abbrev all_pages : List LivePage
all_pages = pages_from 11 1

-- one leaf isn't too heavy, whatever the level
light : (level : ℕ) → 1 ≤ capacity_of level 6 6
light level = elim (level == 0) as (λ b. 1 ≤ (if b then 6 else 6)) [ true ↦ omega arith | false ↦ omega arith ]

-- a page that passes all points on is well made
passing_fits : (level child : ℕ) → 0 < level → level < 12 → FitsFile tower_meta (passing level child)
passing_fits zero child above below = absurd (omega (arith, above))
passing_fits (suc level) child above below = record {
  fits = record { level = below; attributes = refl };
  well_cut = tt;
  filled = record { kinds = All-from_recursion (BelongsAt (suc level)) (leaves (passing (suc level) child).frag) (above, tt); light = light (suc level); own = λ none. none };
  in_order = All-from_recursion IsInOrder (leaves_of (passing (suc level) child).frag (whole_area 1)) (no_records child _, tt);
  normal = tt;
}

ground_fits : FitsFile tower_meta tower_ground
ground_fits = record {
  fits = record { level = omega arith; attributes = refl };
  well_cut = tt;
  filled = record { kinds = All-from_recursion (BelongsAt 0) (leaves tower_ground.frag) (refl, tt); light = omega arith; own = λ none. none };
  in_order = All-from_recursion IsInOrder (leaves_of tower_ground.frag tower_ground.area) (in_order _ (interval 0 top) (held 0 7 top (omega arith) (omega arith), tt) (tt, tt), tt);
  normal = tt;
}

all_fit : (level id : ℕ) → level < 12 → AllNumbered (λ id page. FitsFile tower_meta page) id (pages_from level id)
all_fit zero id below = (ground_fits, tt)
all_fit (suc level) id below = (passing_fits (suc level) (suc id) (omega arith) below, all_fit level (suc id) (omega (arith, below)))

-- none has a sibling leaf
no_siblings : (level id : ℕ) → AllNumbered (HasSiblings tower_meta all_pages) id (pages_from level id)
no_siblings zero id = (tt, tt)
no_siblings (suc level) id = (tt, no_siblings level (suc id))

-- each names the next one, and each has the whole space
leads_to : (id : ℕ) (page : LivePage) → live_page tower_file id ≡ Some page → page.area ≡ whole_area 1 → HasChildren tower_meta all_pages 0 (passing (page.level + 1) id)
leads_to id page live whole = ((page, live, refl, subst (λ (a : Area). Within (whole_area 1) a) (sym whole) (within 0 top 0 top (omega arith) (omega arith))), tt)

children : ChildrenMatch tower_file
children = children_match tower_meta all_pages
    (leads_to 2 (passing 10 3) refl refl, (leads_to 3 (passing 9 4) refl refl, (leads_to 4 (passing 8 5) refl refl, (leads_to 5 (passing 7 6) refl refl, (leads_to 6 (passing 6 7) refl refl, (leads_to 7 (passing 5 8) refl refl, (leads_to 8 (passing 4 9) refl refl, (leads_to 9 (passing 3 10) refl refl, (leads_to 10 (passing 2 11) refl refl, (leads_to 11 (passing 1 12) refl refl, (leads_to 12 tower_ground refl refl, ((tt, tt), tt))))))))))))

there : (id : ℕ) (page : LivePage) → live_page tower_file id ≡ Some page → page.area ≡ whole_area 1 → HasFirst tower_file page.level
there id page live whole = (id, page, live, refl, whole)

covered : IsCovered tower_file
covered = is_covered tower_meta all_pages (λ level. 12 - level)
    (first refl refl refl, (first refl refl refl, (first refl refl refl, (first refl refl refl, (first refl refl refl, (first refl refl refl, (first refl refl refl, (first refl refl refl, (first refl refl refl, (first refl refl refl, (first refl refl refl, (first refl refl refl, tt))))))))))))
    (there 1 (passing 11 2) refl refl, (there 2 (passing 10 3) refl refl, (there 3 (passing 9 4) refl refl, (there 4 (passing 8 5) refl refl, (there 5 (passing 7 6) refl refl, (there 6 (passing 6 7) refl refl, (there 7 (passing 5 8) refl refl, (there 8 (passing 4 9) refl refl, (there 9 (passing 3 10) refl refl, (there 10 (passing 2 11) refl refl, (there 11 (passing 1 12) refl refl, (there 12 tower_ground refl refl, tt))))))))))))

pub tower_is_sound : IsSound tower_file
tower_is_sound = record {
  rooted = record { numbered = refl; some = omega arith; high = omega arith; root = omega arith; free = omega arith; live = omega arith; top = (passing 11 2, refl, refl, refl) };
  counted = counted tower_meta all_pages refl refl;
  well_made = each_page tower_meta all_pages (λ id page. FitsFile tower_meta page) (all_fit 11 1 (omega arith));
  siblings = siblings_match tower_meta all_pages (no_siblings 11 1);
  children = children;
  covered = covered;
}

-- the walk from the root down to the ground
down : (id level child : ℕ) → live_page tower_file id ≡ Some (passing level child) → LeadsOn tower_file (7 ∷ []) id child
down id level child live = inl (record { page = passing level child; area = _; live = live; there = refl })

pub tower_walk : IsWholeWalk tower_file (7 ∷ []) 1 (2 ∷ 3 ∷ 4 ∷ 5 ∷ 6 ∷ 7 ∷ 8 ∷ 9 ∷ 10 ∷ 11 ∷ 12 ∷ []) 12
tower_walk = record {
  walk = (down 1 11 2 refl, (down 2 10 3 refl, (down 3 9 4 refl, (down 4 8 5 refl, (down 5 7 6 refl, (down 6 6 7 refl, (down 7 5 8 refl, (down 8 4 9 refl, (down 9 3 10 refl, (down 10 2 11 refl, (down 11 1 12 refl, refl)))))))))));
  records = record { key = 7 ∷ []; body = [] } ∷ [];
  ends = record { page = tower_ground; area = _; live = refl; there = refl };
}

pub ground_is_responsible : IsResponsible tower_file (7 ∷ []) 12
ground_is_responsible = record {
  page = tower_ground;
  live = refl;
  on = refl;
  direct = record { inside = held 0 7 top (omega arith) (omega arith); not_given = All-from_recursion (λ (x : ℕ × Area). ¬ (Holds x.1 (7 ∷ []))) [] tt };
}
