-- A pool is its frames in the order of use, the least recently used first.
use Rattle.std.specs.Prelude.{◌≡◌, ℕ, ◌-◌, ◌≤◌, Bool, nat_lt, cond, Option, List, [], ◌∷◌, ◌++◌, length, map, count_by, find}
use Rattle.std.specs.List.{All}
use Rattle.std.specs.Option.{option_to_list}
use Rattle.std.specs.Set.{remove_key}
use Rattle.hb_space.specs.declared.form.TheConstants.{PAGE}
use Rattle.hb_pool.specs.declared.pools.TheConstants.{FRAMES}
use Rattle.hb_pool.specs.Frames.{Frame, has_id, must_stay, may_go, fresh}

-- the page's frame, where it is in one
abbrev pub frame_of : {B : Type 0} → List (Frame B) → ℕ → Option (Frame B)
frame_of pool id = find (has_id id) pool

-- how many frames are empty, or clean and not pinned
abbrev pub places : {B : Type 0} → List (Frame B) → ℕ
places pool = FRAMES - count_by must_stay pool

-- the page's frame is changed and stands last in the order; the others stay, in their order
abbrev pub put_last : {B : Type 0} → ℕ → (Frame B → Frame B) → List (Frame B) → List (Frame B)
put_last id change pool = remove_key (has_id id) pool ++ map change (option_to_list (frame_of pool id))

-- the first of a list that passes a test is changed; all else stays
abbrev pub change_first : {X : Type 0} → (X → Bool) → (X → X) → List X → List X
change_first test change [] = []
change_first test change (x ∷ xs) = cond (test x) (change x ∷ xs) (x ∷ change_first test change xs)

-- the page's frame is changed where it stands; all else stays
abbrev pub in_place : {B : Type 0} → ℕ → (Frame B → Frame B) → List (Frame B) → List (Frame B)
in_place id change pool = change_first (has_id id) change pool

-- the frames that stay where one is to be empty: all where one is, else all but the first one that is clean and not pinned
abbrev pub with_room : {B : Type 0} → List (Frame B) → List (Frame B)
with_room pool = cond (nat_lt (length pool) FRAMES) pool (remove_key may_go pool)

-- the page came in: its frame stands last in the order
abbrev pub brought : {B : Type 0} → ℕ → B → Bool → List (Frame B) → List (Frame B)
brought id bytes dirty pool = with_room pool ++ fresh id bytes dirty ∷ []

-- what is so of each pool
pub record IsPool {B : Type 0} (pool : List (Frame B)) : Type 0 where
  -- it has at most 128 frames
  pub few : length pool ≤ FRAMES
  -- no two have one page
  pub distinct : (id : ℕ) → count_by (has_id id) pool ≤ 1
  -- each is pinned at most 255 times
  pub pins : All (λ f. f.pins ≤ 255) pool

-- each frame has the bytes of a whole page
abbrev pub HaveWholePages : List (Frame (List ℕ)) → Type 0
HaveWholePages pool = All (λ f. length f.bytes ≡ PAGE) pool
