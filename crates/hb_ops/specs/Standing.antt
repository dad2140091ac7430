-- What stands at a point of a page of level 0, and what that says of the contents.
use Rattle.std.specs.Prelude.{◌≡◌, ◌≢◌, ◌⊎◌, ℕ, List, All, Some, None}
use Rattle.std.specs.List.{slice_get}
use Rattle.std.specs.FinMap as finite
use Rattle.hb_space.specs.Boxes.{Area}
use Rattle.hb_space.specs.declared.records.Record.{Record}
use Rattle.hb_frag.specs.declared.leaves.Leaf.TheVariants.{Records, Child, Sibling}
use Rattle.hb_frag.specs.declared.pages.LivePage.{LivePage}
use Rattle.hb_frag.specs.Leaves.{leaf_at}
use Rattle.hb_ops.specs.Files.{FileState, live_page, contents_of}
use Rattle.hb_ops.specs.Sound.{FitsFile}
use Rattle.hb_ops.specs.LawsOfContents.{OthersLack}
use Rattle.hb_ops.specs.declared.looking.Standing.{Standing}
use Rattle.hb_ops.specs.declared.looking.Standing.TheVariants as standings

-- the leaf at the point has records, and this one is of the point
pub record StandsThere (page : LivePage) (p : List ℕ) (r : Record) : Type 0 where
  pub records : List Record
  pub area : Area
  pub leaf : leaf_at page p ≡ Some (record { leaf = Records records; area = area })
  pub place : ℕ
  pub among : slice_get records place ≡ Some r
  pub key : r.key ≡ p

-- the leaf at the point has records, and none of the point
pub record StandsNot (page : LivePage) (p : List ℕ) : Type 0 where
  pub records : List Record
  pub area : Area
  pub leaf : leaf_at page p ≡ Some (record { leaf = Records records; area = area })
  pub lack : All (λ r. r.key ≢ p) records

-- the leaf at the point names this page
pub record StandsElsewhere (page : LivePage) (p : List ℕ) (id : ℕ) : Type 0 where
  pub area : Area
  pub leaf : (leaf_at page p ≡ Some (record { leaf = Sibling id; area = area })) ⊎ (leaf_at page p ≡ Some (record { leaf = Child id; area = area }))

-- What a page of level 0 has at a point is what the contents of the file have there, where no other page has the point.
abbrev pub RecordsAreContents : Type 0
RecordsAreContents = (s : FileState) (id : ℕ) (page : LivePage) (p : List ℕ) (r : Record) → live_page s id ≡ Some page → FitsFile s.meta page → page.level ≡ 0 → OthersLack s id p →
    StandsThere page p r → finite.get (contents_of s) p ≡ Some r.body

abbrev pub AbsenceIsContents : Type 0
AbsenceIsContents = (s : FileState) (id : ℕ) (page : LivePage) (p : List ℕ) → live_page s id ≡ Some page → FitsFile s.meta page → page.level ≡ 0 → OthersLack s id p →
    StandsNot page p → finite.get (contents_of s) p ≡ None

abbrev pub Stands : LivePage → List ℕ → Standing → Type 0
Stands page p (standings.There r) = StandsThere page p r.now
Stands page p standings.Absent = StandsNot page p
Stands page p (standings.Elsewhere id) = StandsElsewhere page p id

-- the same among the records of one leaf
abbrev pub StandsAmong : List Record → List ℕ → Standing → Type 0
StandsAmong records p (standings.There r) = (place : ℕ) × (slice_get records place ≡ Some r.now) × (r.now.key ≡ p)
StandsAmong records p standings.Absent = All (λ r. r.key ≢ p) records
StandsAmong records p (standings.Elsewhere id) = ⊥
