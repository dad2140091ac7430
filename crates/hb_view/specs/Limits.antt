-- What a file says of itself, as far as the rules of a single page read it.
use Rattle.std.specs.Prelude.{ℕ}
use Rattle.hb_layout.specs.declared.meta.Meta.{Meta}

-- the number of attributes, the number of levels and the two capacities; the rest is 0
abbrev pub meta_with : ℕ → ℕ → ℕ → ℕ → Meta
meta_with k height dcap icap = record { k = k; pages = 0; log = 0; dcap = dcap; icap = icap; root = 0; height = height; high = 0; live = 0; free = 0 }
