-- A file of three levels in which postings are late on each of them: the page above doesn't name yet what was split off.
use Rattle.std.specs.Prelude.{ℕ, ◌-◌, ◌^◌, List, [], ◌∷◌, All}
use Rattle.hb_space.specs.Boxes.{side_from, whole_area}
use Rattle.hb_space.specs.declared.records.Record.{Record}
use Rattle.hb_frag.specs.declared.leaves.Leaf.TheVariants.{Records, Child, Sibling}
use Rattle.hb_frag.specs.declared.pages.LivePage.{LivePage}
use Rattle.hb_frag.specs.declared.pages.Page.TheVariants.{Live}
use Rattle.hb_frag.specs.declared.paths.Side.TheVariants.{Right}
use Rattle.hb_frag.specs.Trees.{Tip, Cut}
use Rattle.hb_layout.specs.declared.meta.Meta.{Meta}
use Rattle.hb_ops.specs.declared.operations.Op.{Op}
use Rattle.hb_ops.specs.declared.operations.Op.TheVariants.{Post}
use Rattle.hb_ops.specs.Files.{FileState}
use Rattle.hb_sound.specs.PointWalks.{IsResponsible, IsWholeWalk}

abbrev pub late_meta : Meta
late_meta = record { k = 1; pages = 8; log = 4096; dcap = 6; icap = 6; root = 1; height = 3; high = 8; live = 8; free = 0 }

-- a record of one value, with an empty body
abbrev pub late_record : ℕ → Record
late_record value = record { key = value ∷ []; body = [] }

-- page 1, the root: below 500 page 3, and from 500 on page 2 beside it, which no page names from above, since there is none yet
abbrev pub late_root : LivePage
late_root = record { level = 2; area = whole_area 1; frag = Cut 0 500 (Tip (Child 3)) (Tip (Sibling 2)) }

-- page 2, from 500 on: it names page 3 too, and doesn't know of page 4, where all its points are by now
abbrev pub late_beside : LivePage
late_beside = record { level = 2; area = side_from (whole_area 1) 0 500; frag = Tip (Child 3) }

-- page 3: below 100 page 5, from 100 to 299 page 6, and from 300 on page 4 beside it, which no page of level 2 names
abbrev pub late_middle : LivePage
late_middle = record { level = 1; area = whole_area 1; frag = Cut 0 100 (Tip (Child 5)) (Cut 0 300 (Tip (Child 6)) (Tip (Sibling 4))) }

-- page 4, from 300 on: to 399 page 6, so that pages 3 and 4 have a part each of that page's box, and from 400 on page 7
abbrev pub late_aside : LivePage
late_aside = record { level = 1; area = side_from (whole_area 1) 0 300; frag = Cut 0 400 (Tip (Child 6)) (Tip (Child 7)) }

-- page 5: records at 7 and 99, from 100 to 399 page 6, and from 400 on page 7: it was split twice
abbrev pub late_lowest : LivePage
late_lowest = record { level = 0; area = whole_area 1; frag = Cut 0 100 (Tip (Records (late_record 7 ∷ late_record 99 ∷ []))) (Cut 0 400 (Tip (Sibling 6)) (Tip (Sibling 7))) }

-- page 6, from 100 to 399, with two parents: records at both its ends and on both sides of its parents' border
abbrev pub late_shared : LivePage
late_shared = record { level = 0; area = record { lo = 100 ∷ []; hi = 399 ∷ [] }; frag = Tip (Records (late_record 100 ∷ late_record 299 ∷ late_record 300 ∷ late_record 399 ∷ [])) }

-- page 7, from 400 on: a record at 450, from 600 to 799 page 8, and behind that a record at the greatest value
abbrev pub late_highest : LivePage
late_highest = record {
  level = 0;
  area = side_from (whole_area 1) 0 400;
  frag = Cut 0 600 (Tip (Records (late_record 450 ∷ []))) (Cut 0 800 (Tip (Sibling 8)) (Tip (Records (late_record (2 ^ 64 - 1) ∷ []))));
}

-- page 8, from 600 to 799, cut out of page 7: records at both its ends, and no page of level 1 names it
abbrev pub late_inner : LivePage
late_inner = record { level = 0; area = record { lo = 600 ∷ []; hi = 799 ∷ [] }; frag = Tip (Records (late_record 600 ∷ late_record 799 ∷ [])) }

abbrev pub late_file : FileState
late_file = record {
  meta = late_meta;
  pages =
      Live late_root ∷ Live late_beside ∷ Live late_middle ∷ Live late_aside ∷ Live late_lowest ∷ Live late_shared ∷ Live late_highest
      ∷ Live late_inner ∷ [];
}

-- a point, the pages that its walk goes through from the root, which isn't one of them, and the page where it ends
pub record Way : Type 0 where
  pub point : ℕ
  pub pages : List ℕ
  pub last : ℕ

-- worked out by hand: the least and the greatest point, the ends of boxes from both sides, and one point inside
abbrev pub late_walks : List Way
late_walks =
    record { point = 0; pages = 3 ∷ 5 ∷ []; last = 5 }
    ∷ record { point = 99; pages = 3 ∷ 5 ∷ []; last = 5 }
    ∷ record { point = 100; pages = 3 ∷ 6 ∷ []; last = 6 }
    ∷ record { point = 299; pages = 3 ∷ 6 ∷ []; last = 6 }
    ∷ record { point = 300; pages = 3 ∷ 4 ∷ 6 ∷ []; last = 6 }
    ∷ record { point = 450; pages = 3 ∷ 4 ∷ 7 ∷ []; last = 7 }
    ∷ record { point = 500; pages = 2 ∷ 3 ∷ 4 ∷ 7 ∷ []; last = 7 }
    ∷ record { point = 600; pages = 2 ∷ 3 ∷ 4 ∷ 7 ∷ 8 ∷ []; last = 8 }
    ∷ record { point = 799; pages = 2 ∷ 3 ∷ 4 ∷ 7 ∷ 8 ∷ []; last = 8 }
    ∷ record { point = 2 ^ 64 - 1; pages = 2 ∷ 3 ∷ 4 ∷ 7 ∷ []; last = 7 }
    ∷ []

-- each of them is the whole walk from the root, and the page where it ends is the responsible one
abbrev pub LateWalks : Type 0
LateWalks = All (λ way. IsWholeWalk late_file (way.point ∷ []) 1 way.pages way.last) late_walks

abbrev pub LateResponsible : Type 0
LateResponsible = All (λ way. IsResponsible late_file (way.point ∷ []) way.last) late_walks

-- The posting that is late on level 1: page 7 gave the values from 600 to 799 to page 8, and page 4 doesn't name that one yet.
abbrev pub late_posting : Op
late_posting = Post 4 (Right ∷ []) 8 (record { lo = 600 ∷ []; hi = 799 ∷ [] })

-- page 4 once it came
abbrev pub late_aside_posted : LivePage
late_aside_posted = record late_aside { frag = Cut 0 400 (Tip (Child 6)) (Cut 0 600 (Tip (Child 7)) (Cut 0 800 (Tip (Child 8)) (Tip (Child 7)))) }
