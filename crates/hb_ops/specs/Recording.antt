-- A record joins a page, or goes from one, and what a put and a delete find in it.
use Rattle.std.specs.Prelude.{◌≡◌, ◌≢◌, ℕ, ◌≤◌, List, ◌∷◌, ◌++◌, filter, All, Any, Some}
use Rattle.std.specs.Ordering.{is_lt, is_gt, is_ne}
use Rattle.hb_space.specs.Points.{point_cmp}
use Rattle.hb_space.specs.Boxes.{Area, Holds}
use Rattle.hb_space.specs.declared.records.Record.{Record}
use Rattle.hb_frag.specs.declared.leaves.Leaf.{Leaf}
use Rattle.hb_frag.specs.declared.leaves.Leaf.TheVariants.{Records}
use Rattle.hb_frag.specs.declared.pages.LivePage.{LivePage}
use Rattle.hb_frag.specs.Leaves.{leaf_at, with_leaf_at, weight_of}
use Rattle.hb_layout.specs.declared.meta.Meta.{Meta}
use Rattle.hb_ops.specs.Sound.{FitsFile}
use Rattle.hb_lemmas.specs.Places.{IsGapFor, IsPlaceOf}
use Rattle.hb_frag.specs.Rules.{point_of}

-- a record among the records of a leaf, in the order of their points
abbrev pub joined : Record → List Record → List Record
joined rec records = filter (λ r. is_lt (point_cmp r.key rec.key)) records ++ rec ∷ filter (λ r. is_gt (point_cmp r.key rec.key)) records

-- the records but that of the point
abbrev pub without : List ℕ → List Record → List Record
without point records = filter (λ r. is_ne (point_cmp r.key point)) records

-- a leaf with its records changed; one that names a page stays
abbrev pub on_records : (List Record → List Record) → Leaf → Leaf
on_records change (Records records) = Records (change records)
on_records change other = other

-- a page with the records changed that its leaf at the point has
abbrev pub page_with : List ℕ → (List Record → List Record) → LivePage → LivePage
page_with point change page = record { level = page.level; area = page.area; frag = with_leaf_at point (on_records change) page.frag page.area }

-- the page with the record, and the page without that of the point
abbrev pub put_page : Record → LivePage → LivePage
put_page rec page = page_with rec.key (joined rec) page

abbrev pub del_page : List ℕ → LivePage → LivePage
del_page point page = page_with point (without point) page

-- the page's leaf at the point is one of records, and they keep P
pub record HasRecordsAt (page : LivePage) (point : List ℕ) (P : List Record → Type 0) : Type 0 where
  pub records : List Record
  pub area : Area
  pub leaf : leaf_at page point ≡ Some (record { leaf = Records records; area = area })
  pub keeps : P records

-- A record may be put into a page of level 0 whose leaf at its point has records and not this point, where the page
-- has room: it is the weight after it that is at most the capacity.
pub record FitsPut (meta : Meta) (page : LivePage) (rec : Record) : Type 0 where
  pub made : FitsFile meta page
  pub level : page.level ≡ 0
  pub absent : HasRecordsAt page rec.key (All (λ r. r.key ≢ rec.key))
  pub room : weight_of (put_page rec page).frag ≤ meta.dcap

-- The record of a point may be taken from a page of level 0 whose leaf at the point has it.
pub record FitsDel (meta : Meta) (page : LivePage) (point : List ℕ) : Type 0 where
  pub made : FitsFile meta page
  pub level : page.level ≡ 0
  pub there : HasRecordsAt page point (Any (λ r. r.key ≡ point))

-- the page is well made and of level 0, and its leaf at the point has these records
pub record IsOpenAt (meta : Meta) (page : LivePage) (point : List ℕ) (records : List Record) : Type 0 where
  pub made : FitsFile meta page
  pub level : page.level ≡ 0
  pub inside : Holds page.area point
  pub area : Area
  pub leaf : leaf_at page point ≡ Some (record { leaf = Records records; area = area })

-- a put of the record is allowed, and these are its leaf's records with their gap for it
pub record HasGap (meta : Meta) (page : LivePage) (rec : Record) (records : List Record) (place : ℕ) : Type 0 where
  pub fits : FitsPut meta page rec
  pub opened : IsOpenAt meta page rec.key records
  pub gap : IsGapFor point_cmp point_of records rec.key place

-- a delete of the point is allowed, and these are its leaf's records with its place among them
pub record HasPlace (meta : Meta) (page : LivePage) (point : List ℕ) (records : List Record) (place : ℕ) : Type 0 where
  pub fits : FitsDel meta page point
  pub opened : IsOpenAt meta page point records
  pub found : IsPlaceOf point_of records point place
