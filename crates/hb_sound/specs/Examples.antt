-- Files worked out by hand, each of one attribute.
use Rattle.std.specs.Prelude.{[], ◌∷◌, ℕ}
use Rattle.hb_space.specs.Boxes.{side_from, whole_area}
use Rattle.hb_frag.specs.declared.leaves.Leaf.TheVariants.{Records, Child, Sibling}
use Rattle.hb_frag.specs.declared.pages.LivePage.{LivePage}
use Rattle.hb_frag.specs.declared.pages.Page.TheVariants.{Live}
use Rattle.hb_frag.specs.Trees.{Tip, Cut}
use Rattle.hb_layout.specs.declared.meta.Meta.{Meta}
use Rattle.hb_ops.specs.Files.{FileState}

-- A file of two levels: a page above and two pages of records.
abbrev pub small_meta : Meta
small_meta = record { k = 1; pages = 3; log = 4096; dcap = 6; icap = 6; root = 1; height = 2; high = 3; live = 3; free = 0 }

-- page 1: below 100 the points are in page 2, and from 100 on in page 3
abbrev pub small_root : LivePage
small_root = record { level = 1; area = whole_area 1; frag = Cut 0 100 (Tip (Child 2)) (Tip (Child 3)) }

-- page 2: a record at 7, and from 100 on page 3
abbrev pub small_left : LivePage
small_left = record { level = 0; area = whole_area 1; frag = Cut 0 100 (Tip (Records (record { key = 7 ∷ []; body = [] } ∷ []))) (Tip (Sibling 3)) }

-- page 3: a record at 100
abbrev pub small_right : LivePage
small_right = record { level = 0; area = side_from (whole_area 1) 0 100; frag = Tip (Records (record { key = 100 ∷ []; body = [] } ∷ [])) }

abbrev pub small_file : FileState
small_file = record { meta = small_meta; pages = Live small_root ∷ Live small_left ∷ Live small_right ∷ [] }

-- A file that lost every posting: three pages of records stand one behind the other, and the root knows of none of them.
abbrev pub lost_meta : Meta
lost_meta = record { k = 1; pages = 5; log = 4096; dcap = 6; icap = 6; root = 1; height = 2; high = 5; live = 5; free = 0 }

-- page 1: for the root all points are still in page 2
abbrev pub lost_root : LivePage
lost_root = record { level = 1; area = whole_area 1; frag = Tip (Child 2) }

-- page 2 is `small_left`: a record at 7, and from 100 on page 3

-- page 3: a record at 100, and from 200 on page 4
abbrev pub lost_second : LivePage
lost_second = record { level = 0; area = side_from (whole_area 1) 0 100; frag = Cut 0 200 (Tip (Records (record { key = 100 ∷ []; body = [] } ∷ []))) (Tip (Sibling 4)) }

-- page 4: no record, and from 300 on page 5
abbrev pub lost_third : LivePage
lost_third = record { level = 0; area = side_from (whole_area 1) 0 200; frag = Cut 0 300 (Tip (Records [])) (Tip (Sibling 5)) }

-- page 5: a record at 300
abbrev pub lost_last : LivePage
lost_last = record { level = 0; area = side_from (whole_area 1) 0 300; frag = Tip (Records (record { key = 300 ∷ []; body = [] } ∷ [])) }

abbrev pub lost_file : FileState
lost_file = record { meta = lost_meta; pages = Live lost_root ∷ Live small_left ∷ Live lost_second ∷ Live lost_third ∷ Live lost_last ∷ [] }

-- A high file: twelve levels of one page each, so that a walk has eleven steps down and none aside.
abbrev pub tower_meta : Meta
tower_meta = record { k = 1; pages = 12; log = 4096; dcap = 6; icap = 6; root = 1; height = 12; high = 12; live = 12; free = 0 }

-- pages 1 to 11: all points are in the page of the next number, one level down
abbrev pub passing : ℕ → ℕ → LivePage
passing level child = record { level = level; area = whole_area 1; frag = Tip (Child child) }

-- page 12: a record at 7
abbrev pub tower_ground : LivePage
tower_ground = record { level = 0; area = whole_area 1; frag = Tip (Records (record { key = 7 ∷ []; body = [] } ∷ [])) }

abbrev pub tower_file : FileState
tower_file = record {
  meta = tower_meta;
  pages =
      Live (passing 11 2) ∷ Live (passing 10 3) ∷ Live (passing 9 4) ∷ Live (passing 8 5)
      ∷ Live (passing 7 6) ∷ Live (passing 6 7) ∷ Live (passing 5 8) ∷ Live (passing 4 9)
      ∷ Live (passing 3 10) ∷ Live (passing 2 11) ∷ Live (passing 1 12) ∷ Live tower_ground ∷ [];
}
