-- A split by its fields: the page that it splits, and the file that it makes.
use Rattle.std.proofs.Common.{◌≡◌, ℕ, List, Option, Some, None, refl, ap, ◌∙◌}
use Rattle.hb_space.specs.Boxes.{Area}
use Rattle.hb_layout.specs.declared.meta.Meta.{Meta}
use Rattle.hb_frag.specs.declared.pages.LivePage.{LivePage}
use Rattle.hb_frag.specs.declared.pages.Page.TheVariants.{Live}
use Rattle.hb_frag.specs.declared.paths.Side.{Side}
use Rattle.hb_frag.specs.Trees.{Tree}
use Rattle.hb_ops.specs.declared.leaf_cuts.LeafCut.{LeafCut}
use Rattle.hb_ops.specs.declared.operations.Op.{Op}
use Rattle.hb_ops.specs.declared.operations.Op.TheVariants.{Extract}
use Rattle.hb_ops.specs.Allocating.{Allocates, NamesNext, allocated}
use Rattle.hb_ops.specs.Extracting as ops
use Rattle.hb_ops.specs.Files.{FileState, live_page}
use Rattle.hb_ops.specs.Operations.{IsAllowed, IsAllowedOn, change_of, effect_of, with_page, with_changed_pages}
use Rattle.hb_ops.specs.Sound.{FitsFile}

-- the page that is split, the page that is made, the part that goes there, and the free head afterwards
pub record Extraction : Type 0 where
  pub source : ℕ
  pub fresh : ℕ
  pub path : List Side
  pub cuts : List LeafCut
  pub free_after : ℕ

abbrev pub with_fields : ℕ → ℕ → List Side → List LeafCut → ℕ → Extraction
with_fields source fresh path cuts free_after = record { source = source; fresh = fresh; path = path; cuts = cuts; free_after = free_after }

abbrev pub split_of : Extraction → Op
split_of x = Extract x.source x.fresh x.path x.cuts x.free_after

abbrev pub FitsPart : Extraction → LivePage → Tree × Area → Type 0
FitsPart x page part = ops.FitsPart x.path x.cuts page part

abbrev pub LicensesExtraction : FileState → Extraction → Type 0
LicensesExtraction s x = NamesNext s x.fresh x.free_after

abbrev pub fresh_page : Extraction → LivePage → Tree × Area → LivePage
fresh_page x page part = ops.fresh_page x.cuts page part

abbrev pub source_page : Extraction → LivePage → Tree × Area → LivePage
source_page x page part = ops.source_page x.fresh x.path x.cuts page part

-- what a split that is allowed has
pub record MayExtract (s : FileState) (x : Extraction) : Type 0 where
  pub allocates : Allocates s.meta x.fresh x.free_after
  pub page : LivePage
  pub live : live_page s x.source ≡ Some page
  pub made : FitsFile s.meta page
  pub part : Tree × Area
  pub fits : FitsPart x page part

split_on : (x : Extraction) (meta : Meta) (o second third : Option LivePage) → IsAllowedOn (split_of x) meta o second third → (page : LivePage) × (o ≡ Some page) × ops.FitsExtract meta page x.fresh x.path x.cuts x.free_after
split_on x meta None second third h = absurd h
split_on x meta (Some page) second third h = (page, refl, h)

pub may_extract : (s : FileState) (x : Extraction) → IsAllowed s (split_of x) → MayExtract s x
may_extract s x h =
    let w = split_on x s.meta (live_page s x.source) (live_page s 0) (live_page s 0) h in
    record { allocates = w.2.allocates; page = w.0; live = w.1; made = w.2.made; part = w.2.part; fits = w.2.fits }

-- the file afterwards
abbrev split_file : FileState → Extraction → Option LivePage → FileState
split_file s x o = let change = change_of (split_of x) s.meta o (live_page s 0) (live_page s 0) in record { meta = change.meta; pages = with_changed_pages change.pages s.pages }

abbrev part_file : FileState → Extraction → LivePage → Option (Tree × Area) → FileState
part_file s x page part = record { meta = allocated s.meta x.fresh x.free_after; pages = with_changed_pages (ops.split_pages x.source x.fresh x.path x.cuts page part) s.pages }

pub extracted_so : (s : FileState) (x : Extraction) (page : LivePage) (part : Tree × Area) → live_page s x.source ≡ Some page → FitsPart x page part →
    effect_of s (split_of x) ≡ record { meta = allocated s.meta x.fresh x.free_after; pages = with_page x.fresh (Live (fresh_page x page part)) (with_page x.source (Live (source_page x page part)) s.pages) }
extracted_so s x page part live fits = ap (split_file s x) live ∙ ap (part_file s x page) fits.there
