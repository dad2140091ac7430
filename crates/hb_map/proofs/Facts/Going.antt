-- Pages that may all go stay such pages where another one comes that may.
use Rattle.std.proofs.Common.{◌≡◌, ℕ, true, false, cond, List, [], ◌∷◌, Option, Some, refl, sym, ap, ◌∙◌, arith}
use Rattle.std.specs.List.{count_by, find}
use Rattle.std.specs.Option.{is_some}
use Rattle.std.proofs.lemmas.Bool.{eq-eqb, false≢true}
use Rattle.std.proofs.lemmas.List.Sums.{sum_by-append}
use Rattle.hb_pool.proofs.Facts.Pooled.{room_fewer}
use Rattle.hb_frag.specs.declared.pages.Page.{Page}
use Rattle.hb_layout.specs.declared.meta.Meta.{Meta}
use Rattle.hb_pool.specs.Frames.{Use, fresh, has_id, must_stay}
use Rattle.hb_pool.specs.Pools.{brought, frame_of, with_room}
use Rattle.hb_store.specs.Calls.{use_fetched}
use Rattle.hb_store.specs.Fetching.{IsCrowdedOut}
use Rattle.hb_store.specs.Held.{IsTied}
use Rattle.hb_store.specs.States.{IsNew, StoreState, in_memory}
use Rattle.hb_map.specs.Mapping.{MayAllGo}

pub still_go : (id : ℕ) (uses : List Use) → MayAllGo uses → MayAllGo (use_fetched id uses)
still_go id uses go =
    let both = sum_by-append (λ (u : Use). cond (must_stay u) 1 0) (with_room uses) (fresh id (tt {0}) false ∷ []) in
    let less = room_fewer must_stay uses in
    let new : count_by must_stay (brought id (tt {0}) false uses) ≡ 0 = omega (arith, both, less, go) in
    elim (is_some (frame_of uses id)) as (λ b. MayAllGo (cond b uses (brought id (tt {0}) false uses))) [ true ↦ go | false ↦ new ]

-- and then there is a place for each
pub not_crowded : (id : ℕ) (st : StoreState) (uses : List Use) → MayAllGo uses → IsCrowdedOut id st uses → ⊥
not_crowded id st uses go crowded = omega (arith, go, crowded.2)

-- a store without pages has none that must stay
pub new_may_go : (turn : ℕ) (meta : Meta) (st : StoreState) (uses : List Use) → IsNew turn meta st → IsTied st uses → MayAllGo uses
new_may_go turn meta st [] new tied = refl
new_may_go turn meta st (u ∷ rest) new tied =
    let none : is_some (in_memory st u.id) ≡ false = ap (λ (o : Option Page). is_some o) (new.no_page u.id) in
    let some : is_some (frame_of (u ∷ rest) u.id) ≡ true = ap (λ b. is_some (cond b (Some u) (find (has_id u.id) rest))) (eq-eqb u.id u.id refl) in
    absurd (false≢true (sym none ∙ tied.there u.id ∙ some))
