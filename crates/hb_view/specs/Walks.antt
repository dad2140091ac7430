-- Walks that look at all of a tree, and stop where something is wrong.
use Rattle.std.specs.Prelude.{◌≡◌, ℕ, List, [], ◌∷◌, Option, Some, None}
use Rattle.std.specs.declared.cmp.Ordering.TheVariants.{Less}
use Rattle.hb_space.specs.Points.{point_cmp}
use Rattle.hb_space.specs.Boxes.{Area, Holds}
use Rattle.hb_space.specs.declared.records.Record.{Record}

-- Where this holds, the walk hands on the bytes behind what it looked at. Where it doesn't, the walk stops.
abbrev pub WalksOver : Type 0 → List ℕ → Option (List ℕ) → Type 0
WalksOver P rest (Some r) = P × (r ≡ rest)
WalksOver P rest None = ¬ P

-- a point comes behind the last one, where there was one
abbrev pub ComesBehind : Option (List ℕ) → List ℕ → Type 0
ComesBehind None p = Unit {0}
ComesBehind (Some last) p = point_cmp last p ≡ Less

-- records whose points lie in the box and rise, the first from behind the last one
abbrev pub RiseFrom : Area → Option (List ℕ) → List Record → Type 0
RiseFrom area last [] = Unit {0}
RiseFrom area last (r ∷ rest) = Holds area r.key × ComesBehind last r.key × RiseFrom area (Some r.key) rest
