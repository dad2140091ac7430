-- The pages in memory with their order of use, and which one is the next to be written to its place.
use Rattle.std.specs.Prelude.{◌≡◌, ℕ, false, List, Option, is_some, find}
use Rattle.std.specs.FinSet as set
use Rattle.std.specs.Option.{option_map, option_map_or}
use Rattle.hb_pool.specs.Frames.{Use, clean}
use Rattle.hb_pool.specs.Pools.{IsPool, frame_of, in_place}
use Rattle.hb_store.specs.States.{StoreState, in_memory, is_dirty}

-- What a store holds in memory: its state, and of the pages that are there the order of use, the least recently used first,
-- with their marks and pins.
pub record StoreHeld : Type 0 where
  pub state : StoreState
  pub uses : List Use

-- The frames are those of the pages in memory, and have their marks.
pub record IsTied (st : StoreState) (uses : List Use) : Type 0 where
  pub pool : IsPool uses
  pub there : (id : ℕ) → is_some (in_memory st id) ≡ is_some (frame_of uses id)
  pub marks : (id : ℕ) → is_dirty st id ≡ option_map_or (λ (u : Use). u.dirty) (frame_of uses id) false

-- the least recently used page that is to be written to its place
abbrev pub oldest_dirty : List Use → Option ℕ
oldest_dirty uses = option_map (λ (u : Use). u.id) (find (λ (u : Use). u.dirty) uses)

-- a store once the page of this number was written to its place
abbrev pub cleaned_state : ℕ → StoreState → StoreState
cleaned_state id st = record st { dirty = set.remove st.dirty id }

abbrev pub cleaned_held : ℕ → StoreHeld → StoreHeld
cleaned_held id held = record { state = cleaned_state id held.state; uses = in_place id clean held.uses }
