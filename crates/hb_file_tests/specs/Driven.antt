-- What the tests keep of a store that they drive.
use Rattle.std.specs.Prelude.{◌≡◌, ℕ, ◌<◌, ◌≤◌, false, All, IsSome, IsSomeAnd, List}
use Rattle.hb_wal.specs.Log.{IsMarkedTo}
use Rattle.hb_pool.specs.Frames.{IsStaying, Use}
use Rattle.hb_pool.specs.Pools.{frame_of}
use Rattle.hb_store.specs.States.{StoreState}

-- each page in memory is dirty or pinned
abbrev pub AllStay : List Use → Type 0
AllStay uses = All IsStaying uses

-- no page is pinned more than once
abbrev pub FewPins : List Use → Type 0
FewPins uses = All (λ (u : Use). u.pins ≤ 1) uses

-- the page is pinned
abbrev pub IsPinned : List Use → ℕ → Type 0
IsPinned uses id = IsSomeAnd (frame_of uses id) (λ (u : Use). 0 < u.pins)

-- The store runs, no group that waits has a later mark than 7, and each page in memory stays.
pub record IsDrivenHere (st : StoreState) (uses : List Use) : Type 0 where
  pub running : st.stopped ≡ false
  pub marks : All (IsMarkedTo 7) st.log.groups
  pub stay : AllStay uses

-- Page 1 is in memory, and pinned.
pub record HoldsFirst (uses : List Use) : Type 0 where
  pub there : IsSome (frame_of uses 1)
  pub pinned : All (λ (u : Use). u.id ≡ 1 → 0 < u.pins) uses

-- The store runs, no group that waits has a later mark than 7, and page 1 stays, dirty or not.
pub record IsDrivenOnFirst (st : StoreState) (uses : List Use) : Type 0 where
  pub running : st.stopped ≡ false
  pub marks : All (IsMarkedTo 7) st.log.groups
  pub first : HoldsFirst uses
