-- What a source of pages is seen as, and what a call that asks it for pages did.
use Rattle.std.specs.Prelude.{◌≡◌, ℕ, List, Option}
use Rattle.hb_frag.specs.declared.pages.Page.{Page}
use Rattle.hb_outside.specs.Calls.{Counts}

pub record PagesModel : Type 0 where
  -- a page for each number from 1 on, or none where the bytes in its place are no page: where the source tells
  pub told : Option (List (Option Page))
  -- how often the source has failed
  pub faults : ℕ

-- A call that asks a source for some of its pages, or for none, and may fail so.
pub record Asks {S : Type 0} (model : S → PagesModel) (may_become : S → S → Type 0) (failed : Type 0) (old new : S) : Type 0 where
  -- it tells of the same pages
  pub stays : (model new).told ≡ (model old).told
  -- a failed call of the source, and no other, raises its count
  pub counts : Counts failed (model old).faults (model new).faults
  -- it is what asking may make of it
  pub asked : may_become old new
