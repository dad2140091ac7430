-- That the file without a posting is sound, page by page.
use Rattle.std.proofs.Common.{ℕ, inl, inr, ◌-◌, List, [], ◌∷◌, refl, arith}
use Rattle.hb_space.specs.Boxes.{Area, Holds}
use Rattle.hb_frag.specs.declared.pages.LivePage.{LivePage}
use Rattle.hb_frag.specs.Leaves.{leaves, leaves_of}
use Rattle.hb_frag.specs.Rules.{BelongsAt, IsInOrder}
use Rattle.hb_ops.specs.Sound.{FitsFile, IsSound, SiblingsMatch, ChildrenMatch, IsCovered}
use Rattle.hb_sound.specs.Examples.{small_left, lost_file, lost_last, lost_meta, lost_root, lost_second, lost_third}
use Rattle.hb_sound.specs.PointWalks.{IsResponsible, IsWholeWalk}
use Rattle.hb_sound.proofs.Facts.ExampleParts.{children_match, counted, each_page, first, in_order, is_covered, later, no_records, none_given, siblings_match}
use Rattle.hb_space.proofs.Facts.Intervals.{cuts, held, interval, not_whole, top, within}
use Rattle.std.proofs.lemmas.List.Elements.{All-from_recursion}

abbrev all_pages : List LivePage
all_pages = lost_root ∷ small_left ∷ lost_second ∷ lost_third ∷ lost_last ∷ []

root_fits : FitsFile lost_meta lost_root
root_fits = record {
  fits = record { level = omega arith; attributes = refl };
  well_cut = tt;
  filled = record { kinds = All-from_recursion (BelongsAt 1) (leaves lost_root.frag) (omega arith, tt); light = omega arith; own = λ none. none };
  in_order = All-from_recursion IsInOrder (leaves_of lost_root.frag lost_root.area) (no_records 2 _, tt);
  normal = tt;
}

first_fits : FitsFile lost_meta small_left
first_fits = record {
  fits = record { level = omega arith; attributes = refl };
  well_cut = (cuts 0 top 100 (omega arith) (omega arith), tt, tt);
  filled = record { kinds = All-from_recursion (BelongsAt 0) (leaves small_left.frag) (refl, (tt, tt)); light = omega arith; own = λ none. none };
  in_order = All-from_recursion IsInOrder (leaves_of small_left.frag small_left.area) (in_order _ (interval 0 99) (held 0 7 99 (omega arith) (omega arith), tt) (tt, tt), (none_given 3 _, tt));
  normal = (λ none. none, tt, tt);
}

second_fits : FitsFile lost_meta lost_second
second_fits = record {
  fits = record { level = omega arith; attributes = refl };
  well_cut = (cuts 100 top 200 (omega arith) (omega arith), tt, tt);
  filled = record { kinds = All-from_recursion (BelongsAt 0) (leaves lost_second.frag) (refl, (tt, tt)); light = omega arith; own = λ none. none };
  in_order = All-from_recursion IsInOrder (leaves_of lost_second.frag lost_second.area) (in_order _ (interval 100 199) (held 100 100 199 (omega arith) (omega arith), tt) (tt, tt), (none_given 4 _, tt));
  normal = (λ none. none, tt, tt);
}

third_fits : FitsFile lost_meta lost_third
third_fits = record {
  fits = record { level = omega arith; attributes = refl };
  well_cut = (cuts 200 top 300 (omega arith) (omega arith), tt, tt);
  filled = record { kinds = All-from_recursion (BelongsAt 0) (leaves lost_third.frag) (refl, (tt, tt)); light = omega arith; own = λ none. none };
  in_order = All-from_recursion IsInOrder (leaves_of lost_third.frag lost_third.area) (in_order [] (interval 200 299) tt tt, (none_given 5 _, tt));
  normal = (λ none. none, tt, tt);
}

last_fits : FitsFile lost_meta lost_last
last_fits = record {
  fits = record { level = omega arith; attributes = refl };
  well_cut = tt;
  filled = record { kinds = All-from_recursion (BelongsAt 0) (leaves lost_last.frag) (refl, tt); light = omega arith; own = λ none. none };
  in_order = All-from_recursion IsInOrder (leaves_of lost_last.frag lost_last.area) (in_order _ (interval 300 top) (held 300 300 top (omega arith) (omega arith), tt) (tt, tt), tt);
  normal = tt;
}

siblings : SiblingsMatch lost_file
siblings = siblings_match lost_meta all_pages (tt, (((lost_second, refl, refl, refl), tt), (((lost_third, refl, refl, refl), tt), (((lost_last, refl, refl, refl), tt), (tt, tt)))))

children : ChildrenMatch lost_file
children = children_match lost_meta all_pages (((small_left, refl, refl, within 0 top 0 top (omega arith) (omega arith)), tt), ((tt, (tt, tt)), ((tt, (tt, tt)), ((tt, (tt, tt)), ((tt, tt), tt)))))

covered : IsCovered lost_file
covered = is_covered lost_meta all_pages (λ level. 2 - level) (first refl refl refl, (first refl refl refl, (later (not_whole 100 top (omega arith)) refl, (later (not_whole 200 top (omega arith)) refl, (later (not_whole 300 top (omega arith)) refl, tt))))) ((1, lost_root, refl, refl, refl), ((2, small_left, refl, refl, refl), tt))

pub lost_is_sound : IsSound lost_file
lost_is_sound = record {
  rooted = record { numbered = refl; some = omega arith; high = omega arith; root = omega arith; free = omega arith; live = omega arith; top = (lost_root, refl, refl, refl) };
  counted = counted lost_meta all_pages refl refl;
  well_made = each_page lost_meta all_pages (λ id page. FitsFile lost_meta page) (root_fits, (first_fits, (second_fits, (third_fits, (last_fits, tt)))));
  siblings = siblings;
  children = children;
  covered = covered;
}

-- the walk of the record in the last page
pub lost_is_found : IsWholeWalk lost_file (300 ∷ []) 1 (2 ∷ 3 ∷ 4 ∷ 5 ∷ []) 5
lost_is_found = record {
  walk = (
    inl (record { page = lost_root; area = _; live = refl; there = refl }),
    (
      inr (record { page = small_left; area = _; live = refl; there = refl }),
      (
        inr (record { page = lost_second; area = _; live = refl; there = refl }),
        (
          inr (record { page = lost_third; area = _; live = refl; there = refl }),
          refl,
        ),
      ),
    ),
  );
  records = record { key = 300 ∷ []; body = [] } ∷ [];
  ends = record { page = lost_last; area = _; live = refl; there = refl };
}

pub last_is_responsible : IsResponsible lost_file (300 ∷ []) 5
last_is_responsible = record {
  page = lost_last;
  live = refl;
  on = refl;
  direct = record { inside = held 300 300 top (omega arith) (omega arith); not_given = All-from_recursion (λ (x : ℕ × Area). ¬ (Holds x.1 (300 ∷ []))) [] tt };
}
