-- What tests use of a store: over a disk that tells nothing no licence is owed, and each call leaves a driven store driven.
use Rattle.std.proofs.Common.{◌≡◌, ◌≢◌, inl, inr, ℕ, ◌<◌, ◌≤◌, ◌==◌, Bool, true, false, cond, List, [], ◌∷◌, All, Option, Some, None, IsSome, Ok, refl, sym, ap, ◌∙◌, subst, arith}
use Rattle.std.specs.Prelude.{IsSomeAnd, MatchOption}
use Rattle.std.proofs.lemmas.Bool.{eq-eqb, or_right}
use Rattle.std.proofs.lemmas.List.Elements.{All-append, All-nil}
use Rattle.hb_lemmas.proofs.Lists.{All-alone}
use Rattle.hb_lemmas.proofs.Options.{not_none, some_value}
use Rattle.hb_disk.specs.Model.{DiskModel}
use Rattle.hb_disk.specs.Untold.{untold_of}
use Rattle.hb_layout.specs.declared.meta.Meta.{Meta}
use Rattle.hb_wal.specs.Log.{IsMarkedTo, LogState, Waiting}
use Rattle.hb_ops.specs.declared.operations.Op.{Op}
use Rattle.hb_ops.specs.Files.{FileState, last_of}
use Rattle.hb_ops.specs.Operations.{IsLicensed, reads_of}
use Rattle.hb_ops.proofs.Facts.AllowedOps.{reads_some}
use Rattle.hb_pool.specs.Frames.{IsStaying, Use, has_id, pinned}
use Rattle.hb_pool.specs.Pools.{frame_of, put_last}
use Rattle.hb_store.specs.Calls.{Commits, Fetched, HasFrameFor, HasPlaces, IsAllowedHere, numbers_changed, use_changed, use_fetched}
use Rattle.hb_store.specs.States.{IsNew, StoreState, in_memory}
use Rattle.hb_store.specs.Keeps.{StoreKeeps}
use Rattle.hb_store.specs.Fetching.{MayFetch, use_numbered}
use Rattle.hb_store.specs.Forced.{WritesGroups, forced_state}
use Rattle.hb_store.specs.Held.{IsTied, StoreHeld, oldest_dirty}
use Rattle.hb_store.specs.WritingHome.{FlushesClean, FlushesHome, WritesHome}
use Rattle.hb_store.proofs.Facts.Fetched.{no_frame}
use Rattle.hb_store.proofs.Facts.Setting.{among_all}
use Rattle.hb_file_tests.specs.Driven.{AllStay, FewPins, IsDrivenHere, IsPinned}
use Rattle.hb_file_tests.proofs.Staying.{changed_stay, fetched_all, fetched_frame, found_all, pinned_last, pinned_on, pinned_stay, pinned_then}

pub licensed : (size reads writes : ℕ) (st : StoreState) (op : Op) (durable : FileState) (later : List FileState) → StoreKeeps (untold_of size reads writes) st durable later → IsLicensed (last_of durable later) op
licensed size reads writes st op durable later keeps = let told : false ≡ true = keeps.disk.told in absurd cc

-- ---- frames and pages

framed : (st : StoreState) (uses : List Use) (id : ℕ) → IsTied st uses → IsSome (in_memory st id) → IsSome (frame_of uses id)
framed st uses id tied some = sym (tied.there id) ∙ some

-- a store without pages
no_frames : (uses : List Use) → ((id : ℕ) → frame_of uses id ≡ None) → uses ≡ []
no_frames [] none = refl
no_frames (u ∷ rest) none =
    let here : frame_of (u ∷ rest) u.id ≡ Some u = ap (λ (b : Bool). cond b (Some u) (frame_of rest u.id)) (eq-eqb u.id u.id refl) in
    absurd (not_none (frame_of (u ∷ rest) u.id) u here (none u.id))

new_uses : (turn : ℕ) (meta : Meta) (st : StoreState) (uses : List Use) → IsNew turn meta st → IsTied st uses → uses ≡ []
new_uses turn meta st uses new tied = no_frames uses (λ id. no_frame st uses id tied (new.no_page id))

pub new_driven : (turn : ℕ) (meta : Meta) (st : StoreState) (uses : List Use) → IsNew turn meta st → IsTied st uses → IsDrivenHere st uses
new_driven turn meta st uses new tied = record {
  running = new.running;
  marks = subst (λ (log : LogState). All (IsMarkedTo 7) log.groups) (sym new.log_is) (All-nil (IsMarkedTo 7));
  stay = subst AllStay (sym (new_uses turn meta st uses new tied)) (All-nil IsStaying);
}

pub new_few : (uses : List Use) → uses ≡ [] → FewPins uses
new_few uses none = subst FewPins (sym none) (All-nil (λ (u : Use). u.pins ≤ 1))

-- ---- fetches and pins

pub same_driven : (st new : StoreState) (uses after : List Use) → new ≡ st → after ≡ uses → IsDrivenHere st uses → IsDrivenHere new after
same_driven st new uses after same order driven = subst (λ (s : StoreState). IsDrivenHere s after) (sym same) (subst (λ (l : List Use). IsDrivenHere st l) (sym order) driven)

fetched_driven : (id : ℕ) (st new : StoreState) (uses after : List Use) → Fetched id st new → AllStay after → IsDrivenHere st uses → IsDrivenHere new after
fetched_driven id st new uses after fetched stay driven = record {
  running = ap (λ (s : StoreState). s.stopped) fetched.rest ∙ driven.running;
  marks = subst (λ (log : LogState). All (IsMarkedTo 7) log.groups) (sym (ap (λ (s : StoreState). s.log) fetched.rest)) driven.marks;
  stay = stay;
}

-- a page that wasn't there may be pinned once it is
pub new_may_pin : (id : ℕ) (st : StoreState) (uses after : List Use) → IsTied st uses → in_memory st id ≡ None → after ≡ use_fetched id uses → IsSomeAnd (frame_of after id) (λ (u : Use). u.pins < 255)
new_may_pin id st uses after tied none order =
    let Q : Option Use → Type 0 = λ o. IsSomeAnd o (λ (u : Use). u.pins < 255) in
    subst Q (sym (ap (λ (l : List Use). frame_of l id) order ∙ fetched_frame uses id (no_frame st uses id tied none))) (omega arith)

pub held_driven : (id : ℕ) (st mid new : StoreState) (uses after last : List Use) → IsTied st uses → in_memory st id ≡ None → Fetched id st mid → new ≡ mid → after ≡ use_fetched id uses → last ≡ put_last id pinned after → IsDrivenHere st uses → IsDrivenHere new last
held_driven id st mid new uses after last tied none fetched same order then driven =
    let is : last ≡ put_last id pinned (use_fetched id uses) = then ∙ ap (λ (l : List Use). put_last id pinned l) order in
    subst (λ (s : StoreState). IsDrivenHere s last) (sym same) (fetched_driven id st mid uses last fetched (subst AllStay (sym is) (pinned_stay uses id (no_frame st uses id tied none) driven.stay)) driven)

pub held_pinned : (id : ℕ) (st : StoreState) (uses after last : List Use) → IsTied st uses → in_memory st id ≡ None → after ≡ use_fetched id uses → last ≡ put_last id pinned after → IsPinned last id
held_pinned id st uses after last tied none order then =
    let is : last ≡ put_last id pinned (use_fetched id uses) = then ∙ ap (λ (l : List Use). put_last id pinned l) order in
    subst (λ (l : List Use). IsPinned l id) (sym is) (pinned_then uses id (no_frame st uses id tied none))

pub fetched_few : (id : ℕ) (uses after : List Use) → after ≡ use_fetched id uses → FewPins uses → FewPins after
fetched_few id uses after order few = subst FewPins (sym order) (fetched_all (λ (u : Use). u.pins ≤ 1) uses id few (omega arith))

pub fetched_pinned : (id other : ℕ) (uses after : List Use) → after ≡ use_fetched id uses → IsPinned uses other → IsPinned after other
fetched_pinned id other uses after order is = subst (λ (l : List Use). IsPinned l other) (sym order) (pinned_on uses id other is)

-- a page in memory may be pinned, and unpinned then
pub few_may_pin : (id : ℕ) (st : StoreState) (uses : List Use) → IsTied st uses → IsSome (in_memory st id) → FewPins uses → IsSomeAnd (frame_of uses id) (λ (u : Use). u.pins < 255)
few_may_pin id st uses tied some few =
    let f = some_value (frame_of uses id) (framed st uses id tied some) in
    let Q : Option Use → Type 0 = λ o. IsSomeAnd o (λ (u : Use). u.pins < 255) in
    let one : f.0.pins ≤ 1 = found_all (λ (u : Use). u.pins ≤ 1) (has_id id) uses f.0 few f.1 in
    subst Q (sym f.1) (omega (arith, one))

pub pinned_may_go : (id : ℕ) (st : StoreState) (uses after : List Use) → IsTied st uses → IsSome (in_memory st id) → after ≡ put_last id pinned uses → IsSomeAnd (frame_of after id) (λ (u : Use). 0 < u.pins)
pinned_may_go id st uses after tied some order = subst (λ (l : List Use). IsPinned l id) (sym order) (pinned_last uses id tied.pool (framed st uses id tied some))

-- ---- operations

-- the pages that it reads stay, and there is a place
pub has_place : (op : Op) (st : StoreState) (uses : List Use) → IsTied st uses → IsDrivenHere st uses → IsAllowedHere st op → HasPlaces uses → HasFrameFor op st uses
has_place op st uses tied driven allowed places = record {
  reads = λ id among.
      let some = among_all (λ q. IsSome (in_memory st q)) (reads_of op) id (reads_some op st.meta (in_memory st) allowed) among in
      let f = some_value (frame_of uses id) (framed st uses id tied some) in
      let Q : Option Use → Type 0 = λ o. IsSomeAnd o IsStaying in
      subst Q (sym f.1) (found_all IsStaying (has_id id) uses f.0 driven.stay f.1);
  place = λ id made none. omega (arith, places);
}

pub committed : (op : Op) (st new : StoreState) (uses after : List Use) → Commits op 7 st new → after ≡ use_changed (numbers_changed st op) uses → IsDrivenHere st uses → IsDrivenHere new after
committed op st new uses after commits order driven = record {
  running = commits.stopped ∙ driven.running;
  marks = subst (All (IsMarkedTo 7)) (sym commits.groups) (All-append (IsMarkedTo 7) st.log.groups (record { bytes = commits.group; mark = 7 } ∷ []) driven.marks (All-alone (IsMarkedTo 7) (record { bytes = commits.group; mark = 7 }) (omega arith)));
  stay = subst AllStay (sym order) (changed_stay (numbers_changed st op) uses driven.stay);
}

-- ---- the number of a page that is made, where the free chain has none

pub numbered : (st new : StoreState) (uses after : List Use) → st.meta.free ≡ 0 → MayFetch st.meta.free st new → after ≡ use_numbered st.meta uses → IsDrivenHere st uses → IsDrivenHere new after
numbered st new uses after none may order driven =
    let same : after ≡ uses = order ∙ ap (λ (b : Bool). cond b uses (use_fetched st.meta.free uses)) (or_right (st.meta.live == st.meta.pages) (st.meta.free == 0) (eq-eqb st.meta.free 0 none)) in
    elim may [
      | inl is ↦ same_driven st new uses after is same driven
      | inr fetched ↦ fetched_driven st.meta.free st new uses after fetched (subst AllStay (sym same) driven.stay) driven
    ]

-- ---- forces and flushes

-- behind a force no group waits
pub forced : (st new : StoreState) (uses after : List Use) → new ≡ forced_state st → after ≡ uses → IsDrivenHere st uses → IsDrivenHere new after
forced st new uses after same order driven =
    subst (λ (s : StoreState). IsDrivenHere s after) (sym same) (subst (λ (l : List Use). IsDrivenHere (forced_state st) l) (sym order) (record {
      running = driven.running;
      marks = All-nil (IsMarkedTo 7);
      stay = driven.stay;
    }))

home_runs : (d e : DiskModel) (old new : StoreHeld) → FlushesHome (Ok tt) d e old new → old.state.stopped ≡ false → new.state.stopped ≡ false
home_runs d e old new home runs = by (oldest_dirty old.uses) home
  where
    by : (o : Option ℕ) → MatchOption o (FlushesClean (Ok tt) d e old new) (λ id. WritesHome (Ok tt) id d e old new) → new.state.stopped ≡ false
    by None (inl (some, switches)) = ap (λ (h : StoreHeld). h.state.stopped) switches.done ∙ runs
    by None (inr (empty, ok, reads, same)) = ap (λ (h : StoreHeld). h.state.stopped) same ∙ runs
    by (Some id) writes = ap (λ (h : StoreHeld). h.state.stopped) writes.done ∙ runs

pub flushed_runs : (d e : DiskModel) (old new : StoreHeld) → (old.state.log.groups ≢ [] → WritesGroups (Ok tt) d e old.state new.state × (new.uses ≡ old.uses)) → (old.state.log.groups ≡ [] → FlushesHome (Ok tt) d e old new)
    → old.state.stopped ≡ false → new.state.stopped ≡ false
flushed_runs d e old new forces cleans runs = by old.state.log.groups refl
  where
    by : (groups : List Waiting) → old.state.log.groups ≡ groups → new.state.stopped ≡ false
    by [] none = home_runs d e old new (cleans none) runs
    by (g ∷ rest) some = ap (λ (s : StoreState). s.stopped) ((forces (λ none. let never : g ∷ rest ≡ [] = sym some ∙ none in cc never)).0.forced) ∙ runs
