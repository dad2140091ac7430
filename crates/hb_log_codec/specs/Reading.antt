-- Reading groups from left to right: what stands at the front of the bytes, and the bytes behind it.
use Rattle.std.specs.Prelude.{◌≡◌, ℕ, ◌<◌, List, ◌++◌, length, take, drop, flat_map, All, Option, Some, None, Result, Ok, Err}
use Rattle.hb_frag.specs.declared.pages.Page.{Page}
use Rattle.hb_page_codec.specs.declared.errors.PageError.{PageError}
use Rattle.hb_page_codec.specs.declared.errors.PageError.TheVariants as pages
use Rattle.hb_log_codec.specs.Groups.{Logged, FitsGroup, FitsPageImage, SpellsGroups, group_bytes, page_image_bytes}
use Rattle.hb_log_codec.specs.declared.groups.Group.{Group}
use Rattle.hb_log_codec.specs.declared.reading.GroupStop.{GroupStop}
use Rattle.hb_log_codec.specs.declared.reading.GroupStop.TheVariants as stops
use Rattle.hb_log_codec.specs.declared.reading.GroupsError.{GroupsError}
use Rattle.hb_log_codec.specs.declared.reading.GroupsError.TheVariants as ends

-- A thing that fits stands at the front of the bytes, and the rest behind it.
pub record Begins {A : Type 0} (Fits : A → Type 0) (spell : A → List ℕ) (bytes : List ℕ) (x : A) (rest : List ℕ) : Type 0 where
  pub fits : Fits x
  pub parts : bytes ≡ spell x ++ rest

-- no such thing does
abbrev pub BeginsNone : {A : Type 0} → (A → Type 0) → (A → List ℕ) → List ℕ → Type 0
BeginsNone {A = A} Fits spell bytes = (x : A) (rest : List ℕ) → Begins Fits spell bytes x rest → ⊥

-- the stop for a page that wasn't read, and the end for a group that wasn't
abbrev pub stop_of : PageError → GroupStop
stop_of pages.BadPage = stops.Bad
stop_of pages.NoMemory = stops.NoMemory

abbrev pub stop_at : ℕ → GroupStop → GroupsError
stop_at at stops.Bad = ends.BadBytes at
stop_at at stops.NoMemory = ends.NoMemory

-- Want of memory says nothing of the bytes.
abbrev pub StopsFor : Type 0 → GroupStop → Type 0
StopsFor none stops.Bad = none
StopsFor none stops.NoMemory = Unit {0}

-- what a reader gives, seen by view, stands at the front; where it gives nothing, nothing of its kind stands there
abbrev pub Finds : {A X : Type 0} → (A → Type 0) → (A → List ℕ) → List ℕ → (X → A × List ℕ) → Result X GroupStop → Type 0
Finds Fits spell bytes view (Ok x) = Begins Fits spell bytes (view x).0 (view x).1
Finds Fits spell bytes view (Err stop) = StopsFor (BeginsNone Fits spell bytes) stop

-- so many page images
abbrev pub page_images_bytes : List (ℕ × Page) → List ℕ
page_images_bytes images = flat_map page_image_bytes images

pub record FitPageImages (count : ℕ) (images : List (ℕ × Page)) : Type 0 where
  pub many : length images ≡ count
  pub each : All FitsPageImage images

-- a group in memory as contracts see it
abbrev pub logged : Group → Logged
logged group = record { images = group.images.items; op = group.op }

-- The bytes are no list of groups over k attributes: from this place on there is no group, and in front of it there are.
pub record IsBadAt (k : ℕ) (bytes : List ℕ) (at : ℕ) : Type 0 where
  pub before : List Logged
  pub spelled : SpellsGroups k (take at bytes) before
  pub inside : at < length bytes
  pub none : BeginsNone (FitsGroup k) group_bytes (drop at bytes)

-- Why no groups were read.
abbrev pub GroupsEnd : ℕ → List ℕ → GroupsError → Type 0
GroupsEnd k bytes (ends.BadBytes at) = IsBadAt k bytes at × ((groups : List Logged) → SpellsGroups k bytes groups → ⊥)
GroupsEnd k bytes ends.NoMemory = Unit {0}

-- What a reader gives, seen by view, is what reading gives; want of memory says nothing.
abbrev pub GivesOrStops : {X Y : Type 0} → (X → Y) → Result X GroupStop → Option Y → Type 0
GivesOrStops view (Ok x) read = read ≡ Some (view x)
GivesOrStops view (Err stop) read = StopsFor (read ≡ None) stop
