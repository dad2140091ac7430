-- What a table keeps: a place for each actor, from actor 1 on.
use Rattle.std.specs.Prelude.{ℕ, suc, List, [], ◌∷◌, Option, Some, None}
use Rattle.std.specs.FinMap as map
use Rattle.hb_boxlock.specs.declared.locks.BoxLock.{BoxLock}
use Rattle.hb_boxlock.specs.Locking.{LockTable}

-- the places as a table, where the first one is this actor's
abbrev pub table_from : ℕ → List (Option BoxLock) → LockTable
table_from actor [] = map.empty
table_from actor (None ∷ places) = table_from (suc actor) places
table_from actor (Some lock ∷ places) = map.insert (table_from (suc actor) places) actor lock
