-- How few latches an actor holds while it takes another one.
use Rattle.hb_core.proofs.Running.Names.{◌≡◌, ℕ, ◌<◌, ◌+◌, ◌==◌, cond, None, ap, ◌∙◌, arith, Mode, LatchTable, mode_at, at_itself}
use Rattle.std.specs.FinMap as map
use Rattle.hb_latch.specs.Tables.{latches_of}

pub few_again : (old released taken : LatchTable) (actor page : ℕ) (mode : Mode)
    → ((table : LatchTable) (actor page other : ℕ) (mode : Mode) → mode_at table actor page ≡ None → latches_of (map.insert table (actor, page) mode) other ≡ latches_of table other + cond (actor == other) 1 0)
    → ((other page : ℕ) → mode_at released other page ≡ cond (other == actor) None (mode_at old other page)) → latches_of released actor ≡ 0
    → taken ≡ map.insert released (actor, page) mode → latches_of taken actor < 3
few_again old released taken actor page mode counts left none is =
    let absent : mode_at released actor page ≡ None = left actor page ∙ at_itself actor None (mode_at old actor page) in
    let counted : latches_of taken actor ≡ latches_of released actor + cond (actor == actor) 1 0 = ap (λ (t : LatchTable). latches_of t actor) is ∙ counts released actor page actor mode absent in
    let one : ◌≡◌ {A = ℕ} (cond (actor == actor) 1 0) 1 = at_itself {A = ℕ} actor 1 0 in
    omega (arith, counted, one, none)
