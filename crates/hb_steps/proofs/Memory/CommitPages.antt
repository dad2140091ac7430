-- The pages in memory after an operation: each is as the operation made it, or as it was; or it was none of these and left.
use Rattle.hb_steps.proofs.Memory.Names.{◌≡◌, ◌⊎◌, inl, inr, ℕ, ◌==◌, false, Bool, IsTrue, List, ◌∷◌, None, IsSome, refl, sym, ap, ◌∙◌, subst, Option, Some, cases_Bool, not_there, Page, Op, change_here, read_here, set_pages, StoreState, in_memory, Area, LivePage, Line, Deed, Machine, sight, MayDo, change_of}
use Rattle.std.proofs.Common.{◌||◌}
use Rattle.std.proofs.lemmas.Bool.{eq-eqb}
use Rattle.hb_ops.specs.declared.operations.Op.TheVariants as ops
use Rattle.hb_store.specs.Calls.{Commits, NoneComes}
use Rattle.hb_ops.specs.SetPages.{has_page}
use Rattle.hb_ops.proofs.Facts.SetPages.{set_not}
use Rattle.hb_frag.specs.Trees.{Tree}
use Rattle.hb_point.specs.SplitRows.{Splits}
use Rattle.hb_steps.specs.Performing.{DoesOp}
use Rattle.hb_ops.specs.Extracting.{split_pages}

-- the memory is as the pages were set
abbrev pub IsSetBy : Op → StoreState → StoreState → ℕ → Type 0
IsSetBy op old new id = in_memory new id ≡ set_pages (change_here old op).pages (in_memory old) id

-- a page that the operation doesn't change left
abbrev pub HasLeft : Op → StoreState → StoreState → ℕ → Type 0
HasLeft op old new id = (has_page id (change_here old op).pages ≡ false) × (in_memory new id ≡ None)

pub commit_pages : (op : Op) (mark : ℕ) (old new : StoreState) → Commits op mark old new → (id : ℕ) → IsSetBy op old new id ⊎ HasLeft op old new id
commit_pages op mark old new commits id = elim (cases_Bool (has_page id (change_here old op).pages)) [
  | inl made ↦ inl (commits.made id made)
  | inr off ↦ by off (commits.others id off)
]
  where
    by : has_page id (change_here old op).pages ≡ false → NoneComes old new id → IsSetBy op old new id ⊎ HasLeft op old new id
    by off (inl same) = inl (same ∙ sym (set_not (change_here old op).pages (in_memory old) id off))
    by off (inr (gone, clean)) = inr (off, gone)

-- so a page that is there is as the pages were set
pub commit_here : (op : Op) (mark : ℕ) (old new : StoreState) → Commits op mark old new → (id : ℕ) → IsSome (in_memory new id) → IsSetBy op old new id
commit_here op mark old new commits id there = elim (commit_pages op mark old new commits id) [
  | inl set ↦ set
  | inr (off, gone) ↦ absurd (not_there (in_memory new id) gone there)
]

-- and so are the pages that were changed
pub made_pages : (op : Op) (mark : ℕ) (old new : StoreState) (changed : List (ℕ × Page)) → Commits op mark old new → (change_here old op).pages ≡ changed → (id : ℕ) → IsTrue (has_page id changed) → in_memory new id ≡ set_pages changed (in_memory old) id
made_pages op mark old new changed commits are id among =
    commits.made id (subst (λ (pages : List (ℕ × Page)). IsTrue (has_page id pages)) (sym are) among) ∙ ap (λ (pages : List (ℕ × Page)). set_pages pages (in_memory old) id) are

pub has_first : (id : ℕ) (page : Page) (rest : List (ℕ × Page)) → IsTrue (has_page id ((id, page) ∷ rest))
has_first id page rest = ap (λ (b : Bool). b || has_page id rest) (eq-eqb id id refl)

pub has_second : (first id : ℕ) (a b : Page) (rest : List (ℕ × Page)) → IsTrue (has_page id ((first, a) ∷ (id, b) ∷ rest))
has_second first id a b rest = elim (cases_Bool (id == first)) [
  | inl here ↦ ap (λ (c : Bool). c || has_page id ((id, b) ∷ rest)) here
  | inr off ↦ ap (λ (c : Bool). c || has_page id ((id, b) ∷ rest)) off ∙ has_first id b rest
]

-- ---- a split

module _ (m : Machine) (line : Line) (held : ℕ) (deed : Deed) (row : Splits (sight m) line held deed) where
  abbrev split : Op
  split = ops.Extract held row.leaves.fresh row.leaves.path row.leaves.cuts row.leaves.free_after

  abbrev changed : List (ℕ × Page)
  changed = split_pages held row.leaves.fresh row.leaves.path row.leaves.cuts row.page (Some row.leaves.part)

  changed_are : (change_here m.store split).pages ≡ changed
  changed_are =
      ap (λ (o : Option LivePage). (change_of split m.store.meta o (read_here m.store split 1) (read_here m.store split 2)).pages) row.live
      ∙ ap (λ (o : Option (Tree × Area)). split_pages held row.leaves.fresh row.leaves.path row.leaves.cuts row.page o) row.leaves.there

  pub split_done : (mark : ℕ) (new : StoreState) → MayDo deed.op mark m.store new → DoesOp split mark m.store new
  split_done mark new done = subst (λ (d : Deed). MayDo d.op mark m.store new) row.deed_is done

  -- it sets both its pages
  pub split_sets : (mark : ℕ) (new : StoreState) → MayDo deed.op mark m.store new → (id : ℕ) → IsTrue (has_page id changed) → in_memory new id ≡ set_pages changed (in_memory m.store) id
  split_sets mark new done = made_pages split mark m.store new changed (split_done mark new done).commits changed_are
