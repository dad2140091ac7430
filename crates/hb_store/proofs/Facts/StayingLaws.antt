-- What is in memory once pages may have left it.
use Rattle.std.proofs.Common.{◌≡◌, inl, inr, ℕ, Some, None, sym, ◌∙◌}
use Rattle.std.proofs.lemmas.Bool.{cases_Bool}
use Rattle.hb_frag.specs.declared.pages.Page.{Page}
use Rattle.hb_ops.specs.declared.operations.Op.{Op}
use Rattle.hb_store.specs.States.{StoreState, in_memory}
use Rattle.hb_ops.specs.SetPages.{set_pages, has_page}
use Rattle.hb_ops.proofs.Facts.SetPages.{set_not}
use Rattle.hb_store.specs.Calls.{Commits, change_here, NoneComes}

-- a page that is there where none came was there as it is
pub was_there : (old new : StoreState) (id : ℕ) → NoneComes old new id → (page : Page) → in_memory new id ≡ Some page → in_memory old id ≡ Some page
was_there old new id (inl same) page is = sym same ∙ is
was_there old new id (inr left) page is = let never : None ≡ Some page = sym left.0 ∙ is in cc never

module _ (op : Op) (mark : ℕ) (old new : StoreState) (commits : Commits op mark old new) where
  -- what is in memory after a commit was there, or was made
  pub Commits-there : (id : ℕ) (page : Page) → in_memory new id ≡ Some page → set_pages (change_here old op).pages (in_memory old) id ≡ Some page
  Commits-there id page is = elim (cases_Bool (has_page id (change_here old op).pages)) [
    | inl made ↦ sym (commits.made id made) ∙ is
    | inr off ↦ set_not (change_here old op).pages (in_memory old) id off ∙ was_there old new id (commits.others id off) page is
  ]
