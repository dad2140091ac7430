-- What a pool keeps in memory, and how its parts go together.
use Rattle.std.specs.Prelude.{◌≡◌, ℕ, ◌+◌, ◌≤◌, List, length, count_by}
use Rattle.hb_pool.specs.declared.pools.TheConstants.{FRAMES}
use Rattle.hb_pool.specs.declared.order.TheConstants.{ROOM}
use Rattle.hb_pool.specs.Frames.{Frame, must_stay}
use Rattle.hb_pool.specs.Pools.{IsPool, HaveWholePages}
use Rattle.hb_pool.specs.Slots.{Content, HaveSlots, frames_in}

-- the entries of a map, how many in front are of pages that went, and for how many more there is room
pub record OrderKeeps (entries : List (ℕ × ℕ)) (gone spare : ℕ) : Type 0 where
  pub within : gone ≤ length entries
  pub few : length entries ≤ gone + FRAMES
  -- all that was taken is there still
  pub room : ROOM ≤ length entries + spare

-- frames in use, the room that was taken for them, the number of blocks to spare, and the count of those that must stay
pub record FramesKeep (used : List (Frame (List ℕ))) (room spare held : ℕ) : Type 0 where
  pub pool : IsPool used
  pub pages : HaveWholePages used
  -- each frame has its block, in use or to spare
  pub blocks : length used + spare ≡ FRAMES
  pub taken : room ≡ FRAMES
  pub counted : held ≡ count_by must_stay used

-- the same of the order of use, and of the slots that it tells of
pub record PoolKeeps (order : List (ℕ × ℕ)) (slots : List Content) (room spare held : ℕ) : Type 0 where
  pub frames : FramesKeep (frames_in order slots) room spare held
  pub each : HaveSlots order slots
