-- What a put and a delete make of a file, as laws.
use Rattle.std.specs.Prelude.{◌≡◌, ℕ, List, length, Option, Some, ◌≢◌, ◌≤◌, All, None}
use Rattle.hb_frag.specs.declared.pages.LivePage.{LivePage}
use Rattle.hb_frag.specs.declared.pages.Page.{Page}
use Rattle.hb_frag.specs.declared.pages.Page.TheVariants.{Live, Free}
use Rattle.hb_layout.specs.declared.meta.Meta.{Meta}
use Rattle.hb_ops.specs.declared.operations.Op.{Op}
use Rattle.hb_ops.specs.declared.operations.Op.TheVariants.{Put, Del}
use Rattle.hb_ops.specs.Files.{FileState, page_of, page_records, contents_of}
use Rattle.std.specs.FinMap as finite
use Rattle.hb_space.specs.declared.records.Record.{Record}
use Rattle.hb_ops.specs.Sound.{FitsFile, IsSound}
use Rattle.hb_ops.specs.Operations.{BoxesMatch, IsAllowedOn, change_of, IsAllowed, effect_of, OpHas}

-- no other page of level 0 has a record of the point
abbrev pub OthersLack : FileState → ℕ → List ℕ → Type 0
OthersLack s id point = (other : ℕ) (page : Page) → other ≢ id → page_of s other ≡ Some page → All (λ r. r.key ≢ point) (page_records page)

-- In a file of one page no other page has a record.
abbrev pub LonePage : Type 0
LonePage = (s : FileState) (point : List ℕ) → length s.pages ≡ 1 → OthersLack s 1 point

-- An allowed put adds exactly one record to the contents: its point wasn't there, and is now, with its body.
abbrev pub PutAddsOne : Type 0
PutAddsOne = (s : FileState) (id : ℕ) (rec : Record) → IsAllowed s (Put id rec) → length rec.key ≡ s.meta.k → OthersLack s id rec.key →
    (finite.get (contents_of s) rec.key ≡ None) × (contents_of (effect_of s (Put id rec)) ≡ finite.insert (contents_of s) rec.key rec.body)

-- An allowed delete takes exactly one record away: its point was there, and isn't now.
abbrev pub DelTakesOne : Type 0
DelTakesOne = (s : FileState) (id : ℕ) (point : List ℕ) → IsAllowed s (Del id point) → length point ≡ s.meta.k → OthersLack s id point →
    ((body : List ℕ) × (finite.get (contents_of s) point ≡ Some body)) × (contents_of (effect_of s (Del id point)) ≡ finite.remove (contents_of s) point)

-- An allowed put leaves a sound file sound, and so does an allowed delete.
abbrev pub PutStaysSound : Type 0
PutStaysSound = (s : FileState) (id : ℕ) (rec : Record) → IsSound s → length rec.key ≡ s.meta.k → IsAllowed s (Put id rec) → IsSound (effect_of s (Put id rec))

abbrev pub DelStaysSound : Type 0
DelStaysSound = (s : FileState) (id : ℕ) (point : List ℕ) → IsSound s → length point ≡ s.meta.k → IsAllowed s (Del id point) → IsSound (effect_of s (Del id point))

-- a page in use is well made for the file
abbrev pub IsWellIn : Meta → Page → Type 0
IsWellIn meta (Live page) = FitsFile meta page
IsWellIn meta (Free next) = Unit {0}

-- What an allowed operation makes of the pages that it reads, and the page that it makes, are well made for the file
-- afterwards, where their boxes match.
abbrev pub ChangesMakeWell : Type 0
ChangesMakeWell = (op : Op) (meta : Meta) (first second third : Option LivePage) → 1 ≤ meta.icap → 1 ≤ meta.height → OpHas meta.k op → IsAllowedOn op meta first second third → BoxesMatch op first second third →
    All (λ c. IsWellIn (change_of op meta first second third).meta c.1) (change_of op meta first second third).pages
