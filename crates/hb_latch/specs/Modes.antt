-- Which modes go beside each other on one page.
use Rattle.std.specs.Prelude.{Bool, true, false}
use Rattle.hb_latch.specs.declared.modes.Mode.{Mode}
use Rattle.hb_latch.specs.declared.modes.Mode.TheVariants.{Shared, Update, Exclusive}

-- whether two actors may hold a page in these modes: both shared, or one of them for update
abbrev pub goes_beside : Mode → Mode → Bool
goes_beside Shared Shared = true
goes_beside Shared Update = true
goes_beside Shared Exclusive = false
goes_beside Update Shared = true
goes_beside Update Update = false
goes_beside Update Exclusive = false
goes_beside Exclusive other = false
