-- That the file of the example is sound, page by page.
use Rattle.std.proofs.Common.{ℕ, inl, inr, ◌-◌, List, [], ◌∷◌, refl, arith}
use Rattle.hb_space.specs.Boxes.{Area, Holds}
use Rattle.hb_space.specs.declared.records.Record.{Record}
use Rattle.hb_frag.specs.declared.leaves.Leaf.TheVariants.{Records}
use Rattle.hb_frag.specs.declared.pages.LivePage.{LivePage}
use Rattle.hb_frag.specs.Leaves.{leaves, leaves_of, siblings_of}
use Rattle.hb_frag.specs.Rules.{BelongsAt, IsInOrder}
use Rattle.hb_ops.specs.Sound.{AreWellMade, ChildrenMatch, FitsFile, IsCovered, IsSound, SiblingsMatch}
use Rattle.hb_sound.specs.Examples.{small_file, small_left, small_meta, small_right, small_root}
use Rattle.hb_sound.specs.PointWalks.{IsResponsible, IsWholeWalk, Sees}
use Rattle.hb_sound.proofs.Facts.ExampleParts.{HasChildren, children_match, counted, each_page, first, in_order, is_covered, later, no_records, none_given, siblings_match}
use Rattle.hb_space.proofs.Facts.Intervals.{below_all, cuts, held, interval, not_whole, top, within}
use Rattle.std.proofs.lemmas.List.Elements.{All-from_recursion}

abbrev all_pages : List LivePage
all_pages = small_root ∷ small_left ∷ small_right ∷ []

abbrev at_hundred : Record
at_hundred = record { key = 100 ∷ []; body = [] }

-- each page is well made
root_fits : FitsFile small_meta small_root
root_fits = record {
  fits = record { level = omega arith; attributes = refl };
  well_cut = (cuts 0 top 100 (omega arith) (omega arith), tt, tt);
  filled = record { kinds = All-from_recursion (BelongsAt 1) (leaves small_root.frag) (omega arith, (omega arith, tt)); light = omega arith; own = λ none. none };
  in_order = All-from_recursion IsInOrder (leaves_of small_root.frag small_root.area) (no_records 2 _, (no_records 3 _, tt));
  normal = (λ e. let no : ⊥ = cc in no, tt, tt);
}

left_fits : FitsFile small_meta small_left
left_fits = record {
  fits = record { level = omega arith; attributes = refl };
  well_cut = (cuts 0 top 100 (omega arith) (omega arith), tt, tt);
  filled = record { kinds = All-from_recursion (BelongsAt 0) (leaves small_left.frag) (refl, (tt, tt)); light = omega arith; own = λ none. none };
  in_order = All-from_recursion IsInOrder (leaves_of small_left.frag small_left.area) (in_order _ (interval 0 99) (held 0 7 99 (omega arith) (omega arith), tt) (tt, tt), (none_given 3 _, tt));
  normal = (λ none. none, tt, tt);
}

right_fits : FitsFile small_meta small_right
right_fits = record {
  fits = record { level = omega arith; attributes = refl };
  well_cut = tt;
  filled = record { kinds = All-from_recursion (BelongsAt 0) (leaves small_right.frag) (refl, tt); light = omega arith; own = λ none. none };
  in_order = All-from_recursion IsInOrder (leaves_of small_right.frag small_right.area) (in_order _ (interval 100 top) (held 100 100 top (omega arith) (omega arith), tt) (tt, tt), tt);
  normal = tt;
}

made : AreWellMade small_file
made = each_page small_meta all_pages (λ id page. FitsFile small_meta page) (root_fits, (left_fits, (right_fits, tt)))

-- the pages that leaves name
siblings : SiblingsMatch small_file
siblings = siblings_match small_meta all_pages (tt, (((small_right, refl, refl, refl), tt), (tt, tt)))

root_children : HasChildren small_meta all_pages 1 small_root
root_children = ((small_left, refl, refl, within 0 99 0 top (omega arith) (omega arith)), ((small_right, refl, refl, within 100 top 100 top (omega arith) (omega arith)), tt))

children : ChildrenMatch small_file
children = children_match small_meta all_pages (root_children, ((tt, (tt, tt)), ((tt, tt), tt)))

-- one page of each level has the whole space, and the one leaf names the other
covered : IsCovered small_file
covered = is_covered small_meta all_pages (λ level. 2 - level)
    (first refl refl refl, (first refl refl refl, (later (not_whole 100 top (omega arith)) refl, tt)))
    ((1, small_root, refl, refl, refl), ((2, small_left, refl, refl, refl), tt))

pub small_is_sound : IsSound small_file
small_is_sound = record {
  rooted = record { numbered = refl; some = omega arith; high = omega arith; root = omega arith; free = omega arith; live = omega arith; top = (small_root, refl, refl, refl) };
  counted = counted small_meta all_pages refl refl;
  well_made = made;
  siblings = siblings;
  children = children;
  covered = covered;
}

-- the pages that are responsible, and the walks
pub seven_left : IsResponsible small_file (7 ∷ []) 2
seven_left = record {
  page = small_left;
  live = refl;
  on = refl;
  direct = record {
    inside = held 0 7 top (omega arith) (omega arith);
    not_given = All-from_recursion (λ (x : ℕ × Area). ¬ (Holds x.1 (7 ∷ []))) (siblings_of small_left) (below_all 100 7 top (omega arith), tt);
  };
}

pub hundred_right : IsResponsible small_file (100 ∷ []) 3
hundred_right = record {
  page = small_right;
  live = refl;
  on = refl;
  direct = record { inside = held 100 100 top (omega arith) (omega arith); not_given = All-from_recursion (λ (x : ℕ × Area). ¬ (Holds x.1 (100 ∷ []))) [] tt };
}

ends_right : Sees small_file (100 ∷ []) 3 (Records (at_hundred ∷ []))
ends_right = record { page = small_right; area = _; live = refl; there = refl }

pub walks_down : IsWholeWalk small_file (100 ∷ []) 1 (3 ∷ []) 3
walks_down = record { walk = (inl (record { page = small_root; area = _; live = refl; there = refl }), refl); records = at_hundred ∷ []; ends = ends_right }

pub walks_across : IsWholeWalk small_file (100 ∷ []) 2 (3 ∷ []) 3
walks_across = record { walk = (inr (record { page = small_left; area = _; live = refl; there = refl }), refl); records = at_hundred ∷ []; ends = ends_right }
