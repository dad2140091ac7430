-- The walks of the file with late postings, step by step, and the pages where they end.
use Rattle.std.proofs.Common.{◌≡◌, ℕ, inl, inr, [], ◌∷◌, Some, refl, arith}
use Rattle.hb_space.specs.Boxes.{Area, Holds}
use Rattle.hb_frag.specs.declared.leaves.Leaf.TheVariants.{Child, Sibling}
use Rattle.hb_frag.specs.declared.pages.LivePage.{LivePage}
use Rattle.hb_frag.specs.Leaves.{leaf_at, siblings_of}
use Rattle.hb_ops.specs.Files.{live_page}
use Rattle.hb_sound.specs.LateFile.{LateResponsible, LateWalks, Way, late_aside, late_beside, late_file, late_highest, late_inner, late_lowest, late_middle, late_root, late_shared, late_walks}
use Rattle.hb_sound.specs.PointWalks.{IsResponsible, IsWholeWalk, LeadsOn}
use Rattle.hb_space.proofs.Facts.Intervals.{above_all, below_all, held, top}
use Rattle.std.proofs.lemmas.List.Elements.{All-from_recursion}

-- a step down, and one to the page beside
child : {value id next : ℕ} {area : Area} (page : LivePage) → live_page late_file id ≡ Some page → leaf_at page (value ∷ []) ≡ Some (record { leaf = Child next; area = area }) → LeadsOn late_file (value ∷ []) id next
child page live there = inl (record { page = page; area = _; live = live; there = there })

beside : {value id next : ℕ} {area : Area} (page : LivePage) → live_page late_file id ≡ Some page → leaf_at page (value ∷ []) ≡ Some (record { leaf = Sibling next; area = area }) → LeadsOn late_file (value ∷ []) id next
beside page live there = inr (record { page = page; area = _; live = live; there = there })

walk_0 : IsWholeWalk late_file (0 ∷ []) 1 (3 ∷ 5 ∷ []) 5
walk_0 = record { walk = (child late_root refl refl, (child late_middle refl refl, refl)); records = _; ends = record { page = late_lowest; area = _; live = refl; there = refl } }

walk_99 : IsWholeWalk late_file (99 ∷ []) 1 (3 ∷ 5 ∷ []) 5
walk_99 = record { walk = (child late_root refl refl, (child late_middle refl refl, refl)); records = _; ends = record { page = late_lowest; area = _; live = refl; there = refl } }

walk_100 : IsWholeWalk late_file (100 ∷ []) 1 (3 ∷ 6 ∷ []) 6
walk_100 = record { walk = (child late_root refl refl, (child late_middle refl refl, refl)); records = _; ends = record { page = late_shared; area = _; live = refl; there = refl } }

walk_299 : IsWholeWalk late_file (299 ∷ []) 1 (3 ∷ 6 ∷ []) 6
walk_299 = record { walk = (child late_root refl refl, (child late_middle refl refl, refl)); records = _; ends = record { page = late_shared; area = _; live = refl; there = refl } }

walk_300 : IsWholeWalk late_file (300 ∷ []) 1 (3 ∷ 4 ∷ 6 ∷ []) 6
walk_300 = record { walk = (child late_root refl refl, (beside late_middle refl refl, (child late_aside refl refl, refl))); records = _; ends = record { page = late_shared; area = _; live = refl; there = refl } }

walk_450 : IsWholeWalk late_file (450 ∷ []) 1 (3 ∷ 4 ∷ 7 ∷ []) 7
walk_450 = record { walk = (child late_root refl refl, (beside late_middle refl refl, (child late_aside refl refl, refl))); records = _; ends = record { page = late_highest; area = _; live = refl; there = refl } }

walk_500 : IsWholeWalk late_file (500 ∷ []) 1 (2 ∷ 3 ∷ 4 ∷ 7 ∷ []) 7
walk_500 = record { walk = (beside late_root refl refl, (child late_beside refl refl, (beside late_middle refl refl, (child late_aside refl refl, refl)))); records = _; ends = record { page = late_highest; area = _; live = refl; there = refl } }

walk_600 : IsWholeWalk late_file (600 ∷ []) 1 (2 ∷ 3 ∷ 4 ∷ 7 ∷ 8 ∷ []) 8
walk_600 = record { walk = (beside late_root refl refl, (child late_beside refl refl, (beside late_middle refl refl, (child late_aside refl refl, (beside late_highest refl refl, refl))))); records = _; ends = record { page = late_inner; area = _; live = refl; there = refl } }

walk_799 : IsWholeWalk late_file (799 ∷ []) 1 (2 ∷ 3 ∷ 4 ∷ 7 ∷ 8 ∷ []) 8
walk_799 = record { walk = (beside late_root refl refl, (child late_beside refl refl, (beside late_middle refl refl, (child late_aside refl refl, (beside late_highest refl refl, refl))))); records = _; ends = record { page = late_inner; area = _; live = refl; there = refl } }

walk_top : IsWholeWalk late_file (top ∷ []) 1 (2 ∷ 3 ∷ 4 ∷ 7 ∷ []) 7
walk_top = record { walk = (beside late_root refl refl, (child late_beside refl refl, (beside late_middle refl refl, (child late_aside refl refl, refl)))); records = _; ends = record { page = late_highest; area = _; live = refl; there = refl } }

pub late_walks_lead : LateWalks
late_walks_lead = All-from_recursion (λ (way : Way). IsWholeWalk late_file (way.point ∷ []) 1 way.pages way.last) late_walks
    (walk_0, (walk_99, (walk_100, (walk_299, (walk_300, (walk_450, (walk_500, (walk_600, (walk_799, (walk_top, tt))))))))))

-- a sibling leaf's box doesn't have the point
abbrev Misses : ℕ → ℕ × Area → Type 0
Misses value x = ¬ (Holds x.1 (value ∷ []))

home_0 : IsResponsible late_file (0 ∷ []) 5
home_0 = record { page = late_lowest; live = refl; on = refl; direct = record { inside = held 0 0 top (omega arith) (omega arith); not_given = All-from_recursion (Misses 0) (siblings_of late_lowest) (below_all 100 0 399 (omega arith), (below_all 400 0 top (omega arith), tt)) } }

home_99 : IsResponsible late_file (99 ∷ []) 5
home_99 = record { page = late_lowest; live = refl; on = refl; direct = record { inside = held 0 99 top (omega arith) (omega arith); not_given = All-from_recursion (Misses 99) (siblings_of late_lowest) (below_all 100 99 399 (omega arith), (below_all 400 99 top (omega arith), tt)) } }

home_100 : IsResponsible late_file (100 ∷ []) 6
home_100 = record { page = late_shared; live = refl; on = refl; direct = record { inside = held 100 100 399 (omega arith) (omega arith); not_given = All-from_recursion (Misses 100) (siblings_of late_shared) tt } }

home_299 : IsResponsible late_file (299 ∷ []) 6
home_299 = record { page = late_shared; live = refl; on = refl; direct = record { inside = held 100 299 399 (omega arith) (omega arith); not_given = All-from_recursion (Misses 299) (siblings_of late_shared) tt } }

home_300 : IsResponsible late_file (300 ∷ []) 6
home_300 = record { page = late_shared; live = refl; on = refl; direct = record { inside = held 100 300 399 (omega arith) (omega arith); not_given = All-from_recursion (Misses 300) (siblings_of late_shared) tt } }

home_450 : IsResponsible late_file (450 ∷ []) 7
home_450 = record { page = late_highest; live = refl; on = refl; direct = record { inside = held 400 450 top (omega arith) (omega arith); not_given = All-from_recursion (Misses 450) (siblings_of late_highest) (below_all 600 450 799 (omega arith), tt) } }

home_500 : IsResponsible late_file (500 ∷ []) 7
home_500 = record { page = late_highest; live = refl; on = refl; direct = record { inside = held 400 500 top (omega arith) (omega arith); not_given = All-from_recursion (Misses 500) (siblings_of late_highest) (below_all 600 500 799 (omega arith), tt) } }

home_600 : IsResponsible late_file (600 ∷ []) 8
home_600 = record { page = late_inner; live = refl; on = refl; direct = record { inside = held 600 600 799 (omega arith) (omega arith); not_given = All-from_recursion (Misses 600) (siblings_of late_inner) tt } }

home_799 : IsResponsible late_file (799 ∷ []) 8
home_799 = record { page = late_inner; live = refl; on = refl; direct = record { inside = held 600 799 799 (omega arith) (omega arith); not_given = All-from_recursion (Misses 799) (siblings_of late_inner) tt } }

home_top : IsResponsible late_file (top ∷ []) 7
home_top = record { page = late_highest; live = refl; on = refl; direct = record { inside = held 400 top top (omega arith) (omega arith); not_given = All-from_recursion (Misses top) (siblings_of late_highest) (above_all 600 top 799 (omega arith), tt) } }

pub late_walks_end : LateResponsible
late_walks_end = All-from_recursion (λ (way : Way). IsResponsible late_file (way.point ∷ []) way.last) late_walks
    (home_0, (home_99, (home_100, (home_299, (home_300, (home_450, (home_500, (home_600, (home_799, (home_top, tt))))))))))
