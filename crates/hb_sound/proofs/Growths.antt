-- A growth by its fields, and the file that it makes.
use Rattle.std.proofs.Common.{ℕ}
use Rattle.hb_frag.specs.declared.pages.Page.TheVariants.{Live}
use Rattle.hb_ops.specs.Allocating.{NamesNext, allocated, FitsGrow, new_root, raised}
use Rattle.hb_ops.specs.Files.{FileState}
use Rattle.hb_ops.specs.Operations.{with_page}

-- the page that becomes the root, and the free head afterwards
pub record Growth : Type 0 where
  pub fresh : ℕ
  pub free_after : ℕ

abbrev pub growth : ℕ → ℕ → Growth
growth fresh free_after = record { fresh = fresh; free_after = free_after }

abbrev pub MayGrow : FileState → Growth → Type 0
MayGrow s x = FitsGrow s.meta x.fresh x.free_after

abbrev pub LicensesGrowth : FileState → Growth → Type 0
LicensesGrowth s x = NamesNext s x.fresh x.free_after

abbrev pub grown : FileState → Growth → FileState
grown s x = record {
  meta = raised (allocated s.meta x.fresh x.free_after) x.fresh;
  pages = with_page x.fresh (Live (new_root s.meta)) s.pages;
}
