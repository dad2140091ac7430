-- That page 1 stays in memory, pinned, through changes of it and flushes.
use Rattle.std.proofs.Common.{◌≡◌, ◌≢◌, inl, inr, ℕ, ◌<◌, ◌==◌, Bool, true, false, cond, List, [], ◌∷◌, map, All, Option, Some, None, IsSome, IsTrue, Ok, refl, sym, ap, ◌∙◌, subst, arith}
use Rattle.std.specs.Prelude.{IsSomeAnd, MatchOption}
use Rattle.std.specs.List.{find}
use Rattle.std.specs.Option.{is_some, option_or, option_to_list}
use Rattle.std.specs.Set.{remove_key}
use Rattle.std.proofs.lemmas.Bool.{cases_Bool, eq-eqb, eqb-true, or_cases}
use Rattle.std.proofs.lemmas.List.Elements.{All-append, All-cons, All-head, All-nil, All-tail}
use Rattle.std.proofs.lemmas.List.Folds.{find-append}
use Rattle.std.proofs.lemmas.Map.Views.{All-remove_key}
use Rattle.hb_lemmas.proofs.Lists.{All-alone}
use Rattle.hb_lemmas.proofs.Options.{some_value}
use Rattle.hb_disk.specs.Model.{DiskModel}
use Rattle.hb_wal.specs.Log.{IsMarkedTo, LogState, Waiting}
use Rattle.hb_ops.specs.declared.operations.Op.{Op}
use Rattle.hb_ops.specs.Operations.{reads_of}
use Rattle.hb_pool.specs.Frames.{IsStaying, Use, clean, filled, fresh, has_id, pinned}
use Rattle.hb_pool.specs.Pools.{brought, frame_of, in_place, put_last, with_room}
use Rattle.hb_pool.proofs.Facts.Firsts.{first_passes}
use Rattle.hb_pool.proofs.Facts.Others.{last_no_other, marked_pages_stay}
use Rattle.hb_pool.proofs.Facts.Pooled.{pinned_stays}
use Rattle.hb_store.specs.Calls.{Commits, Fetched, HasFrameFor, HasPlaces, StaysHere, numbers_changed, use_changed, use_fetched}
use Rattle.hb_store.specs.States.{StoreState}
use Rattle.hb_store.specs.Forced.{WritesGroups, forced_state}
use Rattle.hb_store.specs.Held.{StoreHeld, oldest_dirty}
use Rattle.hb_store.specs.Replay.{is_among}
use Rattle.hb_store.specs.WritingHome.{FlushesClean, FlushesHome, WritesHome}
use Rattle.hb_file_tests.specs.Driven.{HoldsFirst, IsDrivenHere, IsDrivenOnFirst}
use Rattle.hb_file_tests.proofs.Staying.{found_all, room_all}

-- a frame that is pinned if it is page 1's
abbrev IsFast : Use → Type 0
IsFast u = u.id ≡ 1 → 0 < u.pins

-- ---- the page is fetched into a store without pages

pub first_may_pin : (uses after : List Use) → uses ≡ [] → after ≡ use_fetched 1 uses → IsSomeAnd (frame_of after 1) (λ (u : Use). u.pins < 255)
first_may_pin uses after none order =
    let Q : List Use → Type 0 = λ l. IsSomeAnd (frame_of l 1) (λ (u : Use). u.pins < 255) in
    subst Q (sym (order ∙ ap (λ (l : List Use). use_fetched 1 l) none)) (omega arith)

pub first_held : (st mid new : StoreState) (uses after last : List Use) → uses ≡ [] → Fetched 1 st mid → new ≡ mid → after ≡ use_fetched 1 uses → last ≡ put_last 1 pinned after → IsDrivenHere st uses → IsDrivenOnFirst new last
first_held st mid new uses after last none fetched same order then driven =
    let is : last ≡ put_last 1 pinned (use_fetched 1 []) = then ∙ ap (λ (l : List Use). put_last 1 pinned l) (order ∙ ap (λ (l : List Use). use_fetched 1 l) none) in
    subst (λ (s : StoreState). IsDrivenOnFirst s last) (sym same) (record {
      running = ap (λ (s : StoreState). s.stopped) fetched.rest ∙ driven.running;
      marks = subst (λ (log : LogState). All (IsMarkedTo 7) log.groups) (sym (ap (λ (s : StoreState). s.log) fetched.rest)) driven.marks;
      first = subst HoldsFirst (sym is) (record { there = refl; pinned = All-alone IsFast (pinned (fresh 1 (tt {0}) false)) (λ _. omega arith) });
    })

-- ---- it is changed

module _ (uses : List Use) (held : HoldsFirst uses) where
  -- its frame is pinned
  first_pinned : (u : Use) → frame_of uses 1 ≡ Some u → 0 < u.pins
  first_pinned u is = found_all IsFast (has_id 1) uses u held.pinned is (eqb-true u.id 1 (first_passes (has_id 1) uses u is))

  first_stays : StaysHere uses 1
  first_stays =
      let f = some_value (frame_of uses 1) held.there in
      let Q : Option Use → Type 0 = λ o. IsSomeAnd o IsStaying in
      subst Q (sym f.1) (pinned_stays f.0 (first_pinned f.0 f.1))

  -- another page, or this one, was put last
  last_there : (id : ℕ) (change : Use → Use) → ((u : Use) → (change u).id ≡ u.id) → IsSome (frame_of (put_last id change uses) 1)
  last_there id change like = elim (cases_Bool (1 == id)) [
    | inl here ↦ subst (λ (n : ℕ). IsSome (frame_of (put_last n change uses) 1)) (eqb-true 1 id here) (own_there change like)
    | inr off ↦ ap (λ (o : Option Use). is_some o) (last_no_other uses id 1 change (λ same. let on : (1 == id) ≡ true = eq-eqb 1 id same in let never : true ≡ false = sym on ∙ off in absurd cc) like) ∙ held.there
  ]
    where
      own_there : (change : Use → Use) → ((u : Use) → (change u).id ≡ u.id) → IsSome (frame_of (put_last 1 change uses) 1)
      own_there change like =
          let f = some_value (frame_of uses 1) held.there in
          let on : has_id 1 (change f.0) ≡ true = ap (λ (n : ℕ). n == 1) (like f.0) ∙ first_passes (has_id 1) uses f.0 f.1 in
          let rest = remove_key (has_id 1) uses in
          let is : frame_of (put_last 1 change uses) 1 ≡ option_or (find (has_id 1) rest) (Some (change f.0)) =
          find-append (has_id 1) rest (map change (option_to_list (frame_of uses 1)))
          ∙ ap (λ (o : Option Use). option_or (find (has_id 1) rest) (find (has_id 1) (map change (option_to_list o)))) f.1
          ∙ ap (λ (b : Bool). option_or (find (has_id 1) rest) (cond b (Some (change f.0)) None)) on in
          ap (λ (o : Option Use). is_some o) is ∙ either (find (has_id 1) rest) (change f.0)
        where
          either : (o : Option Use) (u : Use) → is_some (option_or o (Some u)) ≡ true
          either None u = refl
          either (Some v) u = refl

  last_fast : (id : ℕ) (change : Use → Use) → ((u : Use) → IsFast u → IsFast (change u)) → All IsFast (put_last id change uses)
  last_fast id change holds = All-append IsFast (remove_key (has_id id) uses) (map change (option_to_list (frame_of uses id))) (All-remove_key (has_id id) IsFast uses held.pinned)
      (elim (frame_of uses id) as (λ (o : Option Use). frame_of uses id ≡ o → All IsFast (map change (option_to_list o))) [
        | None ↦ λ _. All-nil IsFast
        | Some u ↦ λ is. All-alone IsFast (change u) (holds u (found_all IsFast (has_id id) uses u held.pinned is))
      ] refl)

  -- another page came
  brought_first : (id : ℕ) → is_some (frame_of uses id) ≡ false → HoldsFirst (brought id (tt {0}) true uses)
  brought_first id absent =
      let f = some_value (frame_of uses 1) held.there in
      let apart : (same : id ≡ 1) → ⊥ = λ same.
      let there : is_some (frame_of uses id) ≡ true = ap (λ (n : ℕ). is_some (frame_of uses n)) same ∙ held.there in
      let never : true ≡ false = sym there ∙ absent in cc never in
      record {
        there = ap (λ (o : Option Use). is_some o) (marked_pages_stay uses id 1 (tt {0}) true f.0 f.1 (pinned_stays f.0 (first_pinned f.0 f.1)));
        pinned = All-append IsFast (with_room uses) (fresh id (tt {0}) true ∷ []) (room_all IsFast uses id held.pinned) (All-alone IsFast (fresh id (tt {0}) true) (λ same. absurd (apart same)));
      }

  step_first : (id : ℕ) → HoldsFirst (cond (is_some (frame_of uses id)) (put_last id (filled (tt {0})) uses) (brought id (tt {0}) true uses))
  step_first id = elim (is_some (frame_of uses id)) as (λ b. is_some (frame_of uses id) ≡ b → HoldsFirst (cond b (put_last id (filled (tt {0})) uses) (brought id (tt {0}) true uses))) [
    | true ↦ λ _. record { there = last_there id (filled (tt {0})) (λ u. refl); pinned = last_fast id (filled (tt {0})) (λ u fast. fast) }
    | false ↦ λ absent. brought_first id absent
  ] refl

changed_first : (ids : List ℕ) (uses : List Use) → HoldsFirst uses → HoldsFirst (use_changed ids uses)
changed_first [] uses held = held
changed_first (id ∷ rest) uses held = changed_first rest (cond (is_some (frame_of uses id)) (put_last id (filled (tt {0})) uses) (brought id (tt {0}) true uses)) (step_first uses held id)

pub first_has_place : (op : Op) (st : StoreState) (uses : List Use) → reads_of op ≡ 1 ∷ [] → IsDrivenOnFirst st uses → HasPlaces uses → HasFrameFor op st uses
first_has_place op st uses reads driven places = record {
  reads = λ id among.
      let here : IsTrue (is_among id (1 ∷ [])) = subst (λ (l : List ℕ). IsTrue (is_among id l)) reads among in
      elim (or_cases (id == 1) false here) [
        | inl one ↦ subst (StaysHere uses) (sym (eqb-true id 1 one)) (first_stays uses driven.first)
        | inr never ↦ absurd cc
      ];
  place = λ id made none. omega (arith, places);
}

pub first_changed : (op : Op) (st new : StoreState) (uses after : List Use) → Commits op 7 st new → after ≡ use_changed (numbers_changed st op) uses → IsDrivenOnFirst st uses → IsDrivenOnFirst new after
first_changed op st new uses after commits order driven = record {
  running = commits.stopped ∙ driven.running;
  marks = subst (All (IsMarkedTo 7)) (sym commits.groups) (All-append (IsMarkedTo 7) st.log.groups (record { bytes = commits.group; mark = 7 } ∷ []) driven.marks (All-alone (IsMarkedTo 7) (record { bytes = commits.group; mark = 7 }) (omega arith)));
  first = subst HoldsFirst (sym order) (changed_first (numbers_changed st op) uses driven.first);
}

-- ---- it is flushed

-- a page went home
clean_there : (id : ℕ) (uses : List Use) → is_some (frame_of (in_place id clean uses) 1) ≡ is_some (frame_of uses 1)
clean_there id [] = refl
clean_there id (u ∷ rest) = elim (u.id == id) as (λ b. is_some (frame_of (cond b (clean u ∷ rest) (u ∷ in_place id clean rest)) 1) ≡ is_some (frame_of (u ∷ rest) 1)) [
  | true ↦ elim (u.id == 1) as (λ b. is_some (cond b (Some (clean u)) (frame_of rest 1)) ≡ is_some (cond b (Some u) (frame_of rest 1))) [ true ↦ refl | false ↦ refl ]
  | false ↦ elim (u.id == 1) as (λ b. is_some (cond b (Some u) (frame_of (in_place id clean rest) 1)) ≡ is_some (cond b (Some u) (frame_of rest 1))) [ true ↦ refl | false ↦ clean_there id rest ]
]

clean_fast : (id : ℕ) (uses : List Use) → All IsFast uses → All IsFast (in_place id clean uses)
clean_fast id [] all = all
clean_fast id (u ∷ rest) all = elim (u.id == id) as (λ b. All IsFast (cond b (clean u ∷ rest) (u ∷ in_place id clean rest))) [
  | true ↦ All-cons IsFast (clean u) rest (All-head IsFast u rest all) (All-tail IsFast u rest all)
  | false ↦ All-cons IsFast u (in_place id clean rest) (All-head IsFast u rest all) (clean_fast id rest (All-tail IsFast u rest all))
]

clean_first : (id : ℕ) (uses : List Use) → HoldsFirst uses → HoldsFirst (in_place id clean uses)
clean_first id uses held = record { there = clean_there id uses ∙ held.there; pinned = clean_fast id uses held.pinned }

abbrev IsOn : StoreHeld → Type 0
IsOn held = IsDrivenOnFirst held.state held.uses

module _ (d e : DiskModel) (old new : StoreHeld) (driven : IsDrivenOnFirst old.state old.uses) where
  home_first : old.state.log.groups ≡ [] → FlushesHome (Ok tt) d e old new → IsOn new
  home_first none home = by (oldest_dirty old.uses) home
    where
      by : (o : Option ℕ) → MatchOption o (FlushesClean (Ok tt) d e old new) (λ id. WritesHome (Ok tt) id d e old new) → IsOn new
      by None (inl (some, switches)) = subst IsOn (sym switches.done) (record { running = driven.running; marks = All-nil (IsMarkedTo 7); first = driven.first })
      by None (inr (empty, ok, reads, same)) = subst IsOn (sym same) driven
      by (Some id) writes = subst IsOn (sym writes.done) (record { running = driven.running; marks = driven.marks; first = clean_first id old.uses driven.first })

  pub first_flushed : (old.state.log.groups ≢ [] → WritesGroups (Ok tt) d e old.state new.state × (new.uses ≡ old.uses)) → (old.state.log.groups ≡ [] → FlushesHome (Ok tt) d e old new) → IsDrivenOnFirst new.state new.uses
  first_flushed forces cleans = by old.state.log.groups refl
    where
      by : (groups : List Waiting) → old.state.log.groups ≡ groups → IsDrivenOnFirst new.state new.uses
      by [] none = home_first none (cleans none)
      by (g ∷ rest) some =
          let did = forces (λ none. let never : g ∷ rest ≡ [] = sym some ∙ none in cc never) in
          subst (λ (s : StoreState). IsDrivenOnFirst s new.uses) (sym did.0.forced) (subst (λ (l : List Use). IsDrivenOnFirst (forced_state old.state) l) (sym did.1) (record { running = driven.running; marks = All-nil (IsMarkedTo 7); first = driven.first }))
