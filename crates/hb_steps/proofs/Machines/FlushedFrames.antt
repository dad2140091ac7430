-- The frames fit a store that differs from the one before in nothing that they show, and one whose oldest dirty page was written home.
use Rattle.hb_steps.proofs.Machines.Names.{◌≡◌, ℕ, ◌==◌, false, not, List, Option, Some, None, refl, sym, ap, subst, ◌∙◌, find, option_map, option_map_or, eq-eqb, if_same, Use, clean, frame_of, in_place, oldest_dirty, StoreState, in_memory, same_Some}
use Rattle.std.proofs.Common.{◌&&◌}
use Rattle.std.specs.FinSet as set
use Rattle.std.specs.Option.{is_some}
use Rattle.std.proofs.lemmas.Bool.{ne_eqb}
use Rattle.std.specs.Cmp.{nat_cmp_total, unsigned_tied}
use Rattle.hb_lemmas.proofs.Options.{some_of_map}
use Rattle.hb_pool.proofs.Facts.Others.{place_changed, place_no_other}
use Rattle.hb_pool.proofs.Facts.Pooled.{dirty_there, frame_pins, in_place_pool}
use Rattle.hb_store.specs.Held.{IsTied, cleaned_state}
use Rattle.hb_store.specs.States.{is_dirty}

-- the frames of a store are those of another one with its pages and marks
pub tied_again : (old new : StoreState) (uses : List Use) → ((id : ℕ) → in_memory new id ≡ in_memory old id) → ((id : ℕ) → is_dirty new id ≡ is_dirty old id) → IsTied old uses → IsTied new uses
tied_again old new uses pages dirty tied = record {
  pool = tied.pool;
  there = λ id. ap (λ o. is_some o) (pages id) ∙ tied.there id;
  marks = λ id. dirty id ∙ tied.marks id;
}

-- a page of that number, or another one
either : (page id : ℕ) (P : ℕ → Type 0) → P page → ((id ≡ page → ⊥) → P id) → P id
either page id P here there = if_same id page (λ _. P id) (λ same. subst P (sym same) here) there

module _ (st : StoreState) (uses : List Use) (tied : IsTied st uses) (page : ℕ) (oldest : oldest_dirty uses ≡ Some page) where
  -- its frame
  pub dirty_frame : (u : Use) × (frame_of uses page ≡ Some u)
  dirty_frame =
      let first = some_of_map (λ (u : Use). u.id) (find (λ (u : Use). u.dirty) uses) page oldest in
      let its : first.0.id ≡ page = same_Some first.0.id page (sym (ap (option_map (λ (u : Use). u.id)) first.1) ∙ oldest) in
      (first.0, ap (frame_of uses) (sym its) ∙ dirty_there uses first.0 tied.pool first.1)

  frame_here : frame_of (in_place page clean uses) page ≡ option_map clean (frame_of uses page)
  frame_here = place_changed uses page clean tied.pool (λ u. refl)

  frame_there : (id : ℕ) → (id ≡ page → ⊥) → frame_of (in_place page clean uses) id ≡ frame_of uses id
  frame_there id apart = place_no_other uses page id clean apart (λ u. refl)

  cleaned_there : (o : Option Use) → is_some o ≡ is_some (option_map clean o)
  cleaned_there None = refl
  cleaned_there (Some u) = refl

  cleaned_marks : (o : Option Use) → false ≡ option_map_or (λ (u : Use). u.dirty) (option_map clean o) false
  cleaned_marks None = refl
  cleaned_marks (Some u) = refl

  -- its mark goes, and no other
  mark_of : (id : ℕ) → is_dirty (cleaned_state page st) id ≡ (not (id == page) && is_dirty st id)
  mark_of id = set.contains-remove nat_cmp_total st.dirty page id ∙ ap (λ b. not b && is_dirty st id) (unsigned_tied id page)

  pub cleaned_tied : IsTied (cleaned_state page st) (in_place page clean uses)
  cleaned_tied = record {
    pool = in_place_pool uses page clean dirty_frame.0 tied.pool dirty_frame.1 refl (frame_pins uses page dirty_frame.0 tied.pool dirty_frame.1);
    there = λ id. tied.there id ∙ either page id (λ n. is_some (frame_of uses n) ≡ is_some (frame_of (in_place page clean uses) n))
        (cleaned_there (frame_of uses page) ∙ ap (λ o. is_some o) (sym frame_here))
        (λ apart. ap (λ o. is_some o) (sym (frame_there id apart)));
    marks = λ id. mark_of id ∙ either page id (λ n. (not (n == page) && is_dirty st n) ≡ option_map_or (λ (u : Use). u.dirty) (frame_of (in_place page clean uses) n) false)
        (ap (λ b. not b && is_dirty st page) (eq-eqb page page refl) ∙ cleaned_marks (frame_of uses page) ∙ ap (λ o. option_map_or (λ (u : Use). u.dirty) o false) (sym frame_here))
        (λ apart. ap (λ b. not b && is_dirty st id) (ne_eqb id page apart) ∙ tied.marks id ∙ ap (λ o. option_map_or (λ (u : Use). u.dirty) o false) (sym (frame_there id apart)));
  }
