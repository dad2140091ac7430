-- What follows of pools from the definitions alone, whatever is told of the pages' bytes.
use Rattle.std.specs.Prelude.{◌≡◌, ◌≢◌, ℕ, ◌+◌, ◌<◌, ◌≤◌, Bool, cond, Some, None, option_map, List, [], ◌∷◌, ◌++◌, length, map, find}
use Rattle.hb_pool.specs.declared.pools.TheConstants.{FRAMES}
use Rattle.hb_pool.specs.Frames.{Frame, IsStaying, Use, must_stay, fresh, use_of}
use Rattle.hb_pool.specs.Pools.{IsPool, frame_of, places, brought}

-- a page that is dirty or pinned stays when another one comes in, whatever comes in
abbrev pub MarkedPagesStay : Type 0 → Type 0
MarkedPagesStay B = (pool : List (Frame B)) (id other : ℕ) (bytes : B) (dirty : Bool) (f : Frame B) → frame_of pool other ≡ Some f → IsStaying f → frame_of (brought id bytes dirty pool) other ≡ Some f

-- while a frame is empty no page goes
abbrev pub NoneGoesBeforeAllAreUsed : Type 0 → Type 0
NoneGoesBeforeAllAreUsed B = (pool : List (Frame B)) (id : ℕ) (bytes : B) (dirty : Bool) → length pool < FRAMES → brought id bytes dirty pool ≡ pool ++ fresh id bytes dirty ∷ []

-- a page that comes in is there, and changes no other
abbrev pub WhatCameInIsThere : Type 0 → Type 0
WhatCameInIsThere B = (pool : List (Frame B)) (id : ℕ) (bytes : B) (dirty : Bool) → frame_of pool id ≡ None → frame_of (brought id bytes dirty pool) id ≡ Some (fresh id bytes dirty)

abbrev pub ComingInChangesNoOther : Type 0 → Type 0
ComingInChangesNoOther B = (pool : List (Frame B)) (id other : ℕ) (bytes : B) (dirty : Bool) (f : Frame B) → IsPool pool → other ≢ id → frame_of (brought id bytes dirty pool) other ≡ Some f → frame_of pool other ≡ Some f

-- a call that changes the frame of a page
abbrev pub FrameCall : Type 0 → Type 0
FrameCall B = ℕ → (Frame B → Frame B) → List (Frame B) → List (Frame B)

-- a change of a page's frame, put last or in its place, is one of that frame alone
abbrev pub ChangesItsFrame : {B : Type 0} → FrameCall B → Type 0
ChangesItsFrame {B} call = (pool : List (Frame B)) (id : ℕ) (change : Frame B → Frame B) → IsPool pool → ((f : Frame B) → (change f).id ≡ f.id) → frame_of (call id change pool) id ≡ option_map change (frame_of pool id)

abbrev pub ChangesNoOther : {B : Type 0} → FrameCall B → Type 0
ChangesNoOther {B} call = (pool : List (Frame B)) (id other : ℕ) (change : Frame B → Frame B) → other ≢ id → ((f : Frame B) → (change f).id ≡ f.id) → frame_of (call id change pool) other ≡ frame_of pool other

-- and a pool stays one, with no page in two frames
abbrev pub StaysPool : {B : Type 0} → FrameCall B → Type 0
StaysPool {B} call = (pool : List (Frame B)) (id : ℕ) (change : Frame B → Frame B) (f : Frame B) → IsPool pool → frame_of pool id ≡ Some f → (change f).id ≡ f.id → (change f).pins ≤ 255 → IsPool (call id change pool)

abbrev pub StaysPoolWithAnother : Type 0 → Type 0
StaysPoolWithAnother B = (pool : List (Frame B)) (id : ℕ) (bytes : B) (dirty : Bool) → IsPool pool → frame_of pool id ≡ None → 0 < places pool → IsPool (brought id bytes dirty pool)

-- one place more or less by each frame that may go, and may not go then, or the other way
abbrev pub CountsPlaces : {B : Type 0} → FrameCall B → Type 0
CountsPlaces {B} call = (pool : List (Frame B)) (id : ℕ) (change : Frame B → Frame B) (f : Frame B) → IsPool pool → frame_of pool id ≡ Some f → places (call id change pool) + cond (must_stay (change f)) 1 0 ≡ places pool + cond (must_stay f) 1 0

-- a clean page that comes in takes no place, a dirty one takes one
abbrev pub CountsPlacesWithAnother : Type 0 → Type 0
CountsPlacesWithAnother B = (pool : List (Frame B)) (id : ℕ) (bytes : B) (dirty : Bool) → IsPool pool → 0 < places pool → places (brought id bytes dirty pool) + cond dirty 1 0 ≡ places pool

-- The order of use is told without the pages' bytes: each call does to it what it does to the frames.
abbrev pub OrderOfBrought : Type 0 → Type 0
OrderOfBrought B = (pool : List (Frame B)) (id : ℕ) (bytes : B) (dirty : Bool) → map use_of (brought id bytes dirty pool) ≡ brought id (tt {0}) dirty (map use_of pool)

abbrev pub OrderOfChanged : {B : Type 0} → FrameCall B → FrameCall (Unit {0}) → Type 0
OrderOfChanged {B} call told = (pool : List (Frame B)) (id : ℕ) (change : Frame B → Frame B) (same : Use → Use) → ((f : Frame B) → use_of (change f) ≡ same (use_of f)) → map use_of (call id change pool) ≡ told id same (map use_of pool)

-- and so are the frame of a page, the places, and the first dirty page
abbrev pub OrderTellsFrames : Type 0 → Type 0
OrderTellsFrames B = (pool : List (Frame B)) → ((id : ℕ) → frame_of (map use_of pool) id ≡ option_map use_of (frame_of pool id))
    × (places (map use_of pool) ≡ places pool)
    × (option_map (λ u. u.id) (find (λ u. u.dirty) (map use_of pool)) ≡ option_map (λ f. f.id) (find (λ f. f.dirty) pool))
    × (IsPool pool → IsPool (map use_of pool))
