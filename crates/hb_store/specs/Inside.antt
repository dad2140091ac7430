-- How what a store has in memory is held: pages as bytes in frames, and the numbers of those in the log as bits.
use Rattle.std.specs.Prelude.{ℕ, List, IfSome, map, filter}
use Rattle.std.specs.FinMap as finite
use Rattle.std.specs.FinSet as set
use Rattle.hb_frag.specs.declared.pages.Page.{Page}
use Rattle.hb_frag.specs.Grammar.{SpellsPage}
use Rattle.hb_pool.specs.Frames.{Frame, use_of}
use Rattle.hb_pool.specs.Pools.{IsPool, frame_of}
use Rattle.hb_view.specs.Spelled.{page_spelled}
use Rattle.hb_store.specs.Held.{StoreHeld}
use Rattle.hb_store.specs.States.{IsMemory}
use Rattle.hb_store.specs.declared.memory.Memory.TheInside.{Inside}

-- the pages that frames have, by their numbers, and the numbers of those that are dirty
abbrev pub pages_in : List (Frame (List ℕ)) → List (ℕ × Page)
pages_in frames = map (λ (f : Frame (List ℕ)). (f.id, page_spelled f.bytes)) frames

abbrev pub dirty_in : List (Frame (List ℕ)) → List ℕ
dirty_in frames = map (λ (f : Frame (List ℕ)). f.id) (filter (λ (f : Frame (List ℕ)). f.dirty) frames)

abbrev pub memory_seen : Inside → StoreHeld
memory_seen m = record {
  state = record {
    turn = m.turn;
    meta = m.meta;
    log = m.log;
    pages = finite.from_entries (pages_in m.pool);
    in_log = m.in_log;
    dirty = set.from_list (dirty_in m.pool);
    stopped = m.stopped;
  };
  uses = map use_of m.pool;
}

-- each frame's bytes spell a page
abbrev pub AreSpelled : List (Frame (List ℕ)) → Type 0
AreSpelled pool = (id : ℕ) → IfSome (frame_of pool id) (λ (f : Frame (List ℕ)). SpellsPage f.bytes (page_spelled f.bytes))

-- what is so of each store in memory
pub record KeepsMemory (m : Inside) : Type 0 where
  pub memory : IsMemory (memory_seen m).state
  pub pool : IsPool m.pool
  pub spelled : AreSpelled m.pool
