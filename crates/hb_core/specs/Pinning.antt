-- Whether the pins of an actor can go over from pages to others.
use Rattle.std.specs.Prelude.{ℕ, ◌<◌, List, [], ◌∷◌, IsSomeAnd}
use Rattle.hb_steps.specs.Using.{unpin_each}
use Rattle.hb_pool.specs.Frames.{Use, pinned, unpinned}
use Rattle.hb_pool.specs.Pools.{frame_of, in_place, put_last}

-- Pages can be unpinned one after the other, and pinned so: each is in a frame then, and is pinned, or not too often.
abbrev pub CanUnpin : List ℕ → List Use → Type 0
CanUnpin [] uses = Unit {0}
CanUnpin (id ∷ rest) uses = IsSomeAnd (frame_of uses id) (λ (u : Use). 0 < u.pins) × CanUnpin rest (in_place id unpinned uses)

abbrev pub CanPin : List ℕ → List Use → Type 0
CanPin [] uses = Unit {0}
CanPin (id ∷ rest) uses = IsSomeAnd (frame_of uses id) (λ (u : Use). u.pins < 255) × CanPin rest (put_last id pinned uses)

-- So the pins of an actor can go over from pages to others.
abbrev pub CanMovePins : List ℕ → List ℕ → List Use → Type 0
CanMovePins before after uses = CanUnpin before uses × CanPin after (unpin_each before uses)
