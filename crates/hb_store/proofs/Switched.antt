-- What a store has in memory, and what is seen of it, once the next turn has begun.
use Rattle.std.proofs.Common.{◌≡◌, ℕ, Bool, true, false, cond, List, [], ◌∷◌, map, Some, None, refl, sym, ap, ◌∙◌, arith}
use Rattle.std.specs.Prelude.{find}
use Rattle.std.specs.Option.{option_map_or}
use Rattle.std.specs.Ordering.{nat_cmp}
use Rattle.std.specs.FinMap as finite
use Rattle.std.specs.FinSet as set
use Rattle.hb_lemmas.proofs.Options.{none_mapped}
use Rattle.hb_layout.specs.Offsets.{log_start}
use Rattle.hb_layout.specs.declared.meta.Meta.{Meta}
use Rattle.hb_wal.specs.Log.{LogState}
use Rattle.hb_pool.specs.Frames.{Frame, Use, has_id, use_of}
use Rattle.hb_pool.specs.Pools.{frame_of}
use Rattle.hb_super.specs.Superblocks.{next_turn}
use Rattle.hb_store.specs.Held.{IsTied, StoreHeld, oldest_dirty}
use Rattle.hb_store.specs.Inside.{dirty_in, pages_in}
use Rattle.hb_store.specs.States.{IsMemory, IsStanding, StoreState, is_dirty}
use Rattle.hb_store.specs.Switching.{switched_state}
use Rattle.hb_store.proofs.Framed.{held_of}

-- where no frame is dirty, that of a page isn't
none_marked : (uses : List Use) → find (λ (u : Use). u.dirty) uses ≡ None → (id : ℕ) → option_map_or (λ (u : Use). u.dirty) (frame_of uses id) false ≡ false
none_marked [] none id = refl
none_marked (u ∷ us) none id =
    elim u.dirty as (λ d. u.dirty ≡ d → cond d (Some u) (find (λ (v : Use). v.dirty) us) ≡ None → option_map_or (λ (v : Use). v.dirty) (cond (has_id id u) (Some u) (frame_of us id)) false ≡ false) [
      | true ↦ λ on found. absurd (let never : Some u ≡ None = found in cc)
      | false ↦ λ off later. elim (has_id id u) as (λ b. option_map_or (λ (v : Use). v.dirty) (cond b (Some u) (frame_of us id)) false ≡ false) [
        | true ↦ off
        | false ↦ none_marked us later id
      ]
    ] refl none

pub none_dirty : (st : StoreState) (uses : List Use) → IsTied st uses → oldest_dirty uses ≡ None → (id : ℕ) → is_dirty st id ≡ false
none_dirty st uses tied none id = tied.marks id ∙ none_marked uses (none_mapped (λ (u : Use). u.id) (find (λ (u : Use). u.dirty) uses) none) id

next_stands : (turn : ℕ) (meta : Meta) → IsStanding turn meta → IsStanding (next_turn turn) meta
next_stands turn meta stands = record {
  turn_fits = omega arith;
  layout = stands.layout;
  some = stands.some;
  high = stands.high;
  live = stands.live;
  root_fits = stands.root_fits;
  free_fits = stands.free_fits;
}

-- so memory stays well
pub memory_switched : (st : StoreState) → IsMemory st → ((id : ℕ) → is_dirty st id ≡ false) → IsMemory (switched_state st)
memory_switched st is clean = record {
  stands = next_stands st.turn st.meta is.stands;
  area = refl;
  len = is.len;
  good = is.good;
  in_file = λ id on. let never : false ≡ true = sym (set.contains-empty nat_cmp id) ∙ on in cc never;
  logged = λ id on. let never : false ≡ true = sym (clean id) ∙ on in cc never;
}

-- what is seen then
pub switched_seen : (turn next : ℕ) (meta : Meta) (log moved : LogState) (pool : List (Frame (List ℕ))) (s emptied : set.FinSet nat_cmp) (stopped : Bool) → next ≡ next_turn turn
    → (area : ℕ) → area ≡ log_start next meta → moved ≡ record { area = area; len = log.len; written = 0; groups = [] } → emptied ≡ set.empty
    → ◌≡◌ {A = StoreHeld} (held_of next meta moved pool emptied stopped) (record { state = switched_state (held_of turn meta log pool s stopped).state; uses = map use_of pool })
switched_seen turn next meta log moved pool s emptied stopped is area area_is moved_is none =
    let here : area ≡ log_start (next_turn turn) meta = area_is ∙ ap (λ (n : ℕ). log_start n meta) is in
    let log_is : moved ≡ (switched_state (held_of turn meta log pool s stopped).state).log = moved_is ∙ ap (λ (n : ℕ). let l : LogState = record { area = n; len = log.len; written = 0; groups = [] } in l) here in
    λ i. record {
      state = record { turn = is i; meta = meta; log = log_is i; pages = finite.from_entries (pages_in pool); in_log = none i; dirty = set.from_list (dirty_in pool); stopped = stopped };
      uses = map use_of pool;
    }
