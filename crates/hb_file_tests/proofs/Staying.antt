-- What stays in memory, and how often it is pinned, once a page was fetched, pinned or changed.
use Rattle.std.proofs.Common.{◌≡◌, ℕ, ◌<◌, ◌==◌, nat_lt, Bool, true, false, cond, List, [], ◌∷◌, ◌++◌, length, map, All, Option, Some, None, IsSome, refl, sym, ap, subst, ◌∙◌, arith}
use Rattle.std.specs.Prelude.{IsSomeAnd}
use Rattle.std.specs.List.{find}
use Rattle.std.specs.Option.{is_some, option_map, option_or, option_to_list}
use Rattle.std.specs.Set.{remove_key}
use Rattle.std.proofs.lemmas.Bool.{eq-eqb}
use Rattle.std.proofs.lemmas.List.Elements.{All-append, All-head, All-nil, All-tail}
use Rattle.std.proofs.lemmas.List.Folds.{find-append}
use Rattle.std.proofs.lemmas.Map.Views.{All-remove_key}
use Rattle.hb_pool.proofs.Facts.Others.{absent_left}
use Rattle.hb_lemmas.proofs.Lists.{All-alone}
use Rattle.hb_lemmas.proofs.Options.{some_value, at_some_and, some_of_and}
use Rattle.hb_pool.specs.declared.pools.TheConstants.{FRAMES}
use Rattle.hb_pool.specs.Frames.{IsStaying, Use, filled, fresh, has_id, may_go, pinned}
use Rattle.hb_pool.specs.Pools.{IsPool, brought, frame_of, put_last, with_room}
use Rattle.hb_pool.proofs.Facts.Others.{came_in, last_changed, marked_pages_stay}
use Rattle.hb_pool.proofs.Facts.Pooled.{dirty_stays, pinned_stays}
use Rattle.hb_store.specs.Calls.{use_changed, use_fetched}
use Rattle.hb_file_tests.specs.Driven.{AllStay, IsPinned}

-- the frame of a page that came in clean
abbrev new_use : ℕ → Use
new_use id = fresh id (tt {0}) false

-- ---- what holds of each

module _ {X : Type 0} (P : X → Type 0) (p : X → Bool) where
  -- it holds of the one that is found
  pub found_all : (xs : List X) (x : X) → All P xs → find p xs ≡ Some x → P x
  found_all [] x all is = absurd cc
  found_all (y ∷ ys) x all is =
      elim (p y) as (λ b. cond b (Some y) (find p ys) ≡ Some x → P x) [
        | true ↦ λ here. let same : y ≡ x = cc in subst P same (All-head P y ys all)
        | false ↦ λ later. found_all ys x (All-tail P y ys all) later
      ] is

-- the last one goes where no other passes
without_last : {X : Type 0} (p : X → Bool) (xs : List X) (x : X) → find p xs ≡ None → p x ≡ true → remove_key p (xs ++ x ∷ []) ≡ xs
without_last {X = X} p [] x none on = ap (λ (b : Bool). cond b [] (x ∷ [])) on
without_last {X = X} p (y ∷ ys) x none on =
    elim (p y) as (λ b. cond b (Some y) (find p ys) ≡ None → cond b (ys ++ x ∷ []) (y ∷ remove_key p (ys ++ x ∷ [])) ≡ y ∷ ys) [
      | true ↦ λ here. absurd cc
      | false ↦ λ later. ap (λ (l : List X). y ∷ l) (without_last p ys x later on)
    ] none

module _ (P : Use → Type 0) (uses : List Use) (id : ℕ) (all : All P uses) where
  pub room_all : All P (with_room uses)
  room_all = elim (nat_lt (length uses) FRAMES) as (λ b. All P (cond b uses (remove_key may_go uses))) [
    | true ↦ all
    | false ↦ All-remove_key may_go P uses all
  ]

  pub brought_all : (dirty : Bool) → P (fresh id (tt {0}) dirty) → All P (brought id (tt {0}) dirty uses)
  brought_all dirty new = All-append P (with_room uses) (fresh id (tt {0}) dirty ∷ []) room_all (All-alone P (fresh id (tt {0}) dirty) new)

  pub fetched_all : P (new_use id) → All P (use_fetched id uses)
  fetched_all new = elim (is_some (frame_of uses id)) as (λ b. All P (cond b uses (brought id (tt {0}) false uses))) [
    | true ↦ all
    | false ↦ brought_all false new
  ]

  pub last_all : (change : Use → Use) → ((u : Use) → P (change u)) → All P (put_last id change uses)
  last_all change holds = All-append P (remove_key (has_id id) uses) (map change (option_to_list (frame_of uses id))) (All-remove_key (has_id id) P uses all)
      (elim (frame_of uses id) as (λ (o : Option Use). All P (map change (option_to_list o))) [
        | None ↦ All-nil P
        | Some u ↦ All-alone P (change u) (holds u)
      ])

-- ---- pages that are changed

changed_stays : (u : Use) → IsStaying (filled (tt {0}) u)
changed_stays u = dirty_stays (filled (tt {0}) u) refl

step_stays : (id : ℕ) (uses : List Use) → AllStay uses → AllStay (cond (is_some (frame_of uses id)) (put_last id (filled (tt {0})) uses) (brought id (tt {0}) true uses))
step_stays id uses stay = elim (is_some (frame_of uses id)) as (λ b. AllStay (cond b (put_last id (filled (tt {0})) uses) (brought id (tt {0}) true uses))) [
  | true ↦ last_all IsStaying uses id stay (filled (tt {0})) changed_stays
  | false ↦ brought_all IsStaying uses id stay true (dirty_stays (fresh id (tt {0}) true) refl)
]

pub changed_stay : (ids : List ℕ) (uses : List Use) → AllStay uses → AllStay (use_changed ids uses)
changed_stay [] uses stay = stay
changed_stay (id ∷ rest) uses stay = changed_stay rest (cond (is_some (frame_of uses id)) (put_last id (filled (tt {0})) uses) (brought id (tt {0}) true uses)) (step_stays id uses stay)

-- ---- a page that is fetched and pinned

module _ (uses : List Use) (id : ℕ) (absent : frame_of uses id ≡ None) where
  absent_room : frame_of (with_room uses) id ≡ None
  absent_room = elim (nat_lt (length uses) FRAMES) as (λ b. frame_of (cond b uses (remove_key may_go uses)) id ≡ None) [
    | true ↦ absent
    | false ↦ absent_left (has_id id) may_go uses absent
  ]

  pub fetched_new : use_fetched id uses ≡ brought id (tt {0}) false uses
  fetched_new = ap (λ (o : Option Use). cond (is_some o) uses (brought id (tt {0}) false uses)) absent

  pub fetched_frame : frame_of (use_fetched id uses) id ≡ Some (new_use id)
  fetched_frame = ap (λ (l : List Use). frame_of l id) fetched_new ∙ came_in uses id (tt {0}) false absent

  -- then it is last
  new_last : put_last id pinned (use_fetched id uses) ≡ with_room uses ++ pinned (new_use id) ∷ []
  new_last =
      ap (λ (l : List Use). put_last id pinned l) fetched_new
      ∙ ap (λ (l : List Use). l ++ map pinned (option_to_list (frame_of (brought id (tt {0}) false uses) id))) (without_last (has_id id) (with_room uses) (new_use id) absent_room (eq-eqb id id refl))
      ∙ ap (λ (o : Option Use). with_room uses ++ map pinned (option_to_list o)) (came_in uses id (tt {0}) false absent)

  pub pinned_stay : AllStay uses → AllStay (put_last id pinned (use_fetched id uses))
  pinned_stay stay =
      subst AllStay (sym new_last) (All-append IsStaying (with_room uses) (pinned (new_use id) ∷ []) (room_all IsStaying uses id stay) (All-alone IsStaying (pinned (new_use id)) (pinned_stays (pinned (new_use id)) (omega arith))))

  pub pinned_then : IsPinned (put_last id pinned (use_fetched id uses)) id
  pinned_then =
      let is : frame_of (with_room uses ++ pinned (new_use id) ∷ []) id ≡ Some (pinned (new_use id)) =
      find-append (has_id id) (with_room uses) (pinned (new_use id) ∷ [])
      ∙ ap (λ (o : Option Use). option_or o (cond (id == id) (Some (pinned (new_use id))) None)) absent_room
      ∙ ap (λ (b : Bool). cond b (Some (pinned (new_use id))) None) (eq-eqb id id refl) in
      let Q : Option Use → Type 0 = λ o. IsSomeAnd o (λ (u : Use). 0 < u.pins) in
      subst Q (sym (ap (λ (l : List Use). frame_of l id) new_last ∙ is)) (omega arith)

-- a pinned page is pinned still once another was fetched
pub pinned_on : (uses : List Use) (id other : ℕ) → IsPinned uses other → IsPinned (use_fetched id uses) other
pinned_on uses id other is = elim (is_some (frame_of uses id)) as (λ b. IsPinned (cond b uses (brought id (tt {0}) false uses)) other) [
  | true ↦ is
  | false ↦
      let Q : Option Use → Type 0 = λ o. IsSomeAnd o (λ (u : Use). 0 < u.pins) in
      let f = some_value (frame_of uses other) (some_of_and (frame_of uses other) (λ (u : Use). 0 < u.pins) is) in
      let some : 0 < f.0.pins = at_some_and (frame_of uses other) (λ (u : Use). 0 < u.pins) f.0 f.1 is in
      subst Q (sym (marked_pages_stay uses id other (tt {0}) false f.0 f.1 (pinned_stays f.0 some))) some
]

-- and once it was pinned
pub pinned_last : (uses : List Use) (id : ℕ) → IsPool uses → IsSome (frame_of uses id) → IsPinned (put_last id pinned uses) id
pinned_last uses id is some =
    let f = some_value (frame_of uses id) some in
    let Q : Option Use → Type 0 = λ o. IsSomeAnd o (λ (u : Use). 0 < u.pins) in
    subst Q (sym (last_changed uses id pinned is (λ g. refl) ∙ ap (option_map pinned) f.1)) (omega arith)
