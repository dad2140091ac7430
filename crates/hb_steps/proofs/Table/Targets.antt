-- The pages that an operation changes, and that no other does.
use Rattle.hb_steps.proofs.Table.Names.{◌≡◌, ◌⊎◌, inl, inr, ℕ, ◌==◌, Bool, cond, List, [], ◌∷◌, Option, Some, None, refl, ap, ◌∙◌, cases_Bool, eqb-true, LivePage, Op, Area}
use Rattle.hb_frag.specs.declared.pages.Page.{Page}
use Rattle.hb_frag.specs.declared.paths.Side.{Side}
use Rattle.hb_layout.specs.declared.meta.Meta.{Meta}
use Rattle.hb_ops.specs.declared.leaf_cuts.LeafCut.{LeafCut}
use Rattle.hb_ops.specs.declared.operations.Op.TheVariants.{Put, Del, Extract, Post, Merge, Grow}
use Rattle.hb_frag.specs.Paths.{part_at}
use Rattle.hb_frag.specs.Trees.{Tree}
use Rattle.hb_ops.specs.Extracting.{split_pages}
use Rattle.hb_ops.specs.Operations.{change_of}
use Rattle.hb_ops.specs.SetPages.{set_pages}

-- one of the changed pages has the number
abbrev pub IsNumber : ℕ → List (ℕ × Page) → Type 0
IsNumber id [] = ⊥
IsNumber id (one ∷ rest) = (id ≡ one.0) ⊎ IsNumber id rest

-- a page that is in none of the places that are set stays
pub set_elsewhere : (pages : List (ℕ × Page)) (page_in : ℕ → Option Page) (id : ℕ) → (set_pages pages page_in id ≡ page_in id) ⊎ IsNumber id pages
set_elsewhere [] page_in id = inl refl
set_elsewhere (one ∷ rest) page_in id = by (set_elsewhere rest (λ q. cond (q == one.0) (Some one.1) (page_in q)) id)
  where
    by : (set_pages rest (λ q. cond (q == one.0) (Some one.1) (page_in q)) id ≡ cond (id == one.0) (Some one.1) (page_in id)) ⊎ IsNumber id rest → (set_pages (one ∷ rest) page_in id ≡ page_in id) ⊎ IsNumber id (one ∷ rest)
    by (inr later) = inr (inr later)
    by (inl same) = elim (cases_Bool (id == one.0)) [
      | inl here ↦ inr (inl (eqb-true id one.0 here))
      | inr off ↦ inl (same ∙ ap (λ (b : Bool). cond b (Some one.1) (page_in id)) off)
    ]

-- the pages that an operation changes or makes
abbrev pub IsTarget : Op → ℕ → Type 0
IsTarget (Put page rec) id = id ≡ page
IsTarget (Del page point) id = id ≡ page
IsTarget (Extract source fresh path cuts free_after) id = (id ≡ source) ⊎ (id ≡ fresh)
IsTarget (Post parent at inner area) id = id ≡ parent
IsTarget (Merge parent keep gone) id = (id ≡ parent) ⊎ (id ≡ keep) ⊎ (id ≡ gone)
IsTarget (Grow fresh free_after) id = id ≡ fresh

one_of_two : (id source fresh : ℕ) (path : List Side) (cuts : List LeafCut) (page : LivePage) (part : Option (Tree × Area)) → IsNumber id (split_pages source fresh path cuts page part) → (id ≡ source) ⊎ (id ≡ fresh)
one_of_two id source fresh path cuts page None never = absurd never
one_of_two id source fresh path cuts page (Some part) (inl is) = inl is
one_of_two id source fresh path cuts page (Some part) (inr (inl is)) = inr is
one_of_two id source fresh path cuts page (Some part) (inr (inr never)) = absurd never

pub numbers_are_targets : (op : Op) (meta : Meta) (first second third : Option LivePage) (id : ℕ) → IsNumber id (change_of op meta first second third).pages → IsTarget op id
numbers_are_targets (Put page rec) meta None second third id never = absurd never
numbers_are_targets (Put page rec) meta (Some first) second third id (inl is) = is
numbers_are_targets (Put page rec) meta (Some first) second third id (inr never) = absurd never
numbers_are_targets (Del page point) meta None second third id never = absurd never
numbers_are_targets (Del page point) meta (Some first) second third id (inl is) = is
numbers_are_targets (Del page point) meta (Some first) second third id (inr never) = absurd never
numbers_are_targets (Extract source fresh path cuts free_after) meta None second third id never = absurd never
numbers_are_targets (Extract source fresh path cuts free_after) meta (Some first) second third id is = one_of_two id source fresh path cuts first (part_at path first.frag first.area) is
numbers_are_targets (Post parent at inner area) meta None second third id never = absurd never
numbers_are_targets (Post parent at inner area) meta (Some first) second third id (inl is) = is
numbers_are_targets (Post parent at inner area) meta (Some first) second third id (inr never) = absurd never
numbers_are_targets (Merge parent keep gone) meta None second third id never = absurd never
numbers_are_targets (Merge parent keep gone) meta (Some above) None third id never = absurd never
numbers_are_targets (Merge parent keep gone) meta (Some above) (Some kept) None id never = absurd never
numbers_are_targets (Merge parent keep gone) meta (Some above) (Some kept) (Some going) id (inl is) = inl is
numbers_are_targets (Merge parent keep gone) meta (Some above) (Some kept) (Some going) id (inr (inl is)) = inr (inl is)
numbers_are_targets (Merge parent keep gone) meta (Some above) (Some kept) (Some going) id (inr (inr (inl is))) = inr (inr is)
numbers_are_targets (Merge parent keep gone) meta (Some above) (Some kept) (Some going) id (inr (inr (inr never))) = absurd never
numbers_are_targets (Grow fresh free_after) meta first second third id (inl is) = is
numbers_are_targets (Grow fresh free_after) meta first second third id (inr never) = absurd never
