-- That the file with late postings is sound, page by page.
use Rattle.std.proofs.Common.{◌*◌, ◌-◌, List, [], ◌∷◌, refl, arith}
use Rattle.hb_frag.specs.declared.pages.LivePage.{LivePage}
use Rattle.hb_frag.specs.Leaves.{leaves, leaves_of}
use Rattle.hb_frag.specs.Rules.{BelongsAt, IsInOrder}
use Rattle.hb_ops.specs.Sound.{AreWellMade, ChildrenMatch, FitsFile, IsCovered, IsSound, SiblingsMatch}
use Rattle.hb_sound.specs.LateFile.{late_aside, late_beside, late_file, late_highest, late_inner, late_lowest, late_meta, late_middle, late_root, late_shared}
use Rattle.hb_sound.proofs.Facts.ExampleParts.{HasChildren, children_match, counted, each_page, first, in_order, is_covered, later, no_records, none_given, siblings_match}
use Rattle.hb_space.proofs.Facts.Intervals.{cuts, held, interval, not_whole, top, within}
use Rattle.std.proofs.lemmas.List.Elements.{All-from_recursion}

abbrev all_pages : List LivePage
all_pages = late_root ∷ late_beside ∷ late_middle ∷ late_aside ∷ late_lowest ∷ late_shared ∷ late_highest ∷ late_inner ∷ []

-- each page is well made
root_fits : FitsFile late_meta late_root
root_fits = record {
  fits = record { level = omega arith; attributes = refl };
  well_cut = (cuts 0 top 500 (omega arith) (omega arith), tt, tt);
  filled = record { kinds = All-from_recursion (BelongsAt 2) (leaves late_root.frag) (omega arith, (tt, tt)); light = omega arith; own = λ none. none };
  in_order = All-from_recursion IsInOrder (leaves_of late_root.frag late_root.area) (no_records 3 _, (none_given 2 _, tt));
  normal = (λ none. none, tt, tt);
}

beside_fits : FitsFile late_meta late_beside
beside_fits = record {
  fits = record { level = omega arith; attributes = refl };
  well_cut = tt;
  filled = record { kinds = All-from_recursion (BelongsAt 2) (leaves late_beside.frag) (omega arith, tt); light = omega arith; own = λ none. none };
  in_order = All-from_recursion IsInOrder (leaves_of late_beside.frag late_beside.area) (no_records 3 _, tt);
  normal = tt;
}

middle_fits : FitsFile late_meta late_middle
middle_fits = record {
  fits = record { level = omega arith; attributes = refl };
  well_cut = (cuts 0 top 100 (omega arith) (omega arith), tt, (cuts 100 top 300 (omega arith) (omega arith), tt, tt));
  filled = record { kinds = All-from_recursion (BelongsAt 1) (leaves late_middle.frag) (omega arith, (omega arith, (tt, tt))); light = omega arith; own = λ none. none };
  in_order = All-from_recursion IsInOrder (leaves_of late_middle.frag late_middle.area) (no_records 5 _, (no_records 6 _, (none_given 4 _, tt)));
  normal = (λ none. none, tt, (λ none. none, tt, tt));
}

aside_fits : FitsFile late_meta late_aside
aside_fits = record {
  fits = record { level = omega arith; attributes = refl };
  well_cut = (cuts 300 top 400 (omega arith) (omega arith), tt, tt);
  filled = record { kinds = All-from_recursion (BelongsAt 1) (leaves late_aside.frag) (omega arith, (omega arith, tt)); light = omega arith; own = λ none. none };
  in_order = All-from_recursion IsInOrder (leaves_of late_aside.frag late_aside.area) (no_records 6 _, (no_records 7 _, tt));
  normal = (λ e. let no : ⊥ = cc in no, tt, tt);
}

lowest_fits : FitsFile late_meta late_lowest
lowest_fits = record {
  fits = record { level = omega arith; attributes = refl };
  well_cut = (cuts 0 top 100 (omega arith) (omega arith), tt, (cuts 100 top 400 (omega arith) (omega arith), tt, tt));
  filled = record { kinds = All-from_recursion (BelongsAt 0) (leaves late_lowest.frag) (refl, (tt, (tt, tt))); light = omega arith; own = λ none. none };
  in_order = All-from_recursion IsInOrder (leaves_of late_lowest.frag late_lowest.area) (in_order _ (interval 0 99) (held 0 7 99 (omega arith) (omega arith), (held 0 99 99 (omega arith) (omega arith), tt)) ((refl, tt), (tt, tt)), (none_given 6 _, (none_given 7 _, tt)));
  normal = (λ none. none, tt, (λ none. none, tt, tt));
}

shared_fits : FitsFile late_meta late_shared
shared_fits = record {
  fits = record { level = omega arith; attributes = refl };
  well_cut = tt;
  filled = record { kinds = All-from_recursion (BelongsAt 0) (leaves late_shared.frag) (refl, tt); light = omega arith; own = λ none. none };
  in_order = All-from_recursion IsInOrder (leaves_of late_shared.frag late_shared.area) (in_order _ (interval 100 399) (held 100 100 399 (omega arith) (omega arith), (held 100 299 399 (omega arith) (omega arith), (held 100 300 399 (omega arith) (omega arith), (held 100 399 399 (omega arith) (omega arith), tt)))) ((refl, (refl, (refl, tt))), ((refl, (refl, tt)), ((refl, tt), (tt, tt)))), tt);
  normal = tt;
}

highest_fits : FitsFile late_meta late_highest
highest_fits = record {
  fits = record { level = omega arith; attributes = refl };
  well_cut = (cuts 400 top 600 (omega arith) (omega arith), tt, (cuts 600 top 800 (omega arith) (omega arith), tt, tt));
  filled = record { kinds = All-from_recursion (BelongsAt 0) (leaves late_highest.frag) (refl, (tt, (refl, tt))); light = omega arith; own = λ none. none };
  in_order = All-from_recursion IsInOrder (leaves_of late_highest.frag late_highest.area) (in_order _ (interval 400 599) (held 400 450 599 (omega arith) (omega arith), tt) (tt, tt), (none_given 8 _, (in_order _ (interval 800 top) (held 800 top top (omega arith) (omega arith), tt) (tt, tt), tt)));
  normal = (λ none. none, tt, (λ none. none, tt, tt));
}

inner_fits : FitsFile late_meta late_inner
inner_fits = record {
  fits = record { level = omega arith; attributes = refl };
  well_cut = tt;
  filled = record { kinds = All-from_recursion (BelongsAt 0) (leaves late_inner.frag) (refl, tt); light = omega arith; own = λ none. none };
  in_order = All-from_recursion IsInOrder (leaves_of late_inner.frag late_inner.area) (in_order _ (interval 600 799) (held 600 600 799 (omega arith) (omega arith), (held 600 799 799 (omega arith) (omega arith), tt)) ((refl, tt), (tt, tt)), tt);
  normal = tt;
}

made : AreWellMade late_file
made = each_page late_meta all_pages (λ id page. FitsFile late_meta page)
    (root_fits, (beside_fits, (middle_fits, (aside_fits, (lowest_fits, (shared_fits, (highest_fits, (inner_fits, tt))))))))

-- the pages that leaves name
siblings : SiblingsMatch late_file
siblings = siblings_match late_meta all_pages
    (((late_beside, refl, refl, refl), tt), (tt, (((late_aside, refl, refl, refl), tt), (tt, (((late_shared, refl, refl, refl), ((late_highest, refl, refl, refl), tt)), (tt, (((late_inner, refl, refl, refl), tt), (tt, tt))))))))

root_children : HasChildren late_meta all_pages 1 late_root
root_children = ((late_middle, refl, refl, within 0 499 0 top (omega arith) (omega arith)), (tt, tt))

beside_children : HasChildren late_meta all_pages 2 late_beside
beside_children = ((late_middle, refl, refl, within 500 top 0 top (omega arith) (omega arith)), tt)

middle_children : HasChildren late_meta all_pages 3 late_middle
middle_children = ((late_lowest, refl, refl, within 0 99 0 top (omega arith) (omega arith)), ((late_shared, refl, refl, within 100 299 100 399 (omega arith) (omega arith)), (tt, tt)))

aside_children : HasChildren late_meta all_pages 4 late_aside
aside_children = ((late_shared, refl, refl, within 300 399 100 399 (omega arith) (omega arith)), ((late_highest, refl, refl, within 400 top 400 top (omega arith) (omega arith)), tt))

children : ChildrenMatch late_file
children = children_match late_meta all_pages
    (root_children, (beside_children, (middle_children, (aside_children, ((tt, (tt, (tt, tt))), ((tt, tt), ((tt, (tt, (tt, tt))), ((tt, tt), tt))))))))

-- the pages of the whole space are 1, 3 and 5, and the others are named once
covered : IsCovered late_file
covered = is_covered late_meta all_pages (λ level. 5 - level * 2)
    (first refl refl refl, (later (not_whole 500 top (omega arith)) refl, (first refl refl refl, (later (not_whole 300 top (omega arith)) refl, (first refl refl refl, (later (not_whole 100 399 (omega arith)) refl, (later (not_whole 400 top (omega arith)) refl, (later (not_whole 600 799 (omega arith)) refl, tt))))))))
    ((1, late_root, refl, refl, refl), ((3, late_middle, refl, refl, refl), ((5, late_lowest, refl, refl, refl), tt)))

pub late_is_sound : IsSound late_file
late_is_sound = record {
  rooted = record { numbered = refl; some = omega arith; high = omega arith; root = omega arith; free = omega arith; live = omega arith; top = (late_root, refl, refl, refl) };
  counted = counted late_meta all_pages refl refl;
  well_made = made;
  siblings = siblings;
  children = children;
  covered = covered;
}
