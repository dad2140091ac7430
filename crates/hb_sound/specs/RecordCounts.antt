-- How many records the pages have that the audit has seen.
use Rattle.std.specs.Prelude.{ℕ, ◌+◌, List, [], ◌∷◌, ◌^◌, ◌<◌}
use Rattle.hb_sound.specs.declared.page_facts.Fact.{Fact}
use Rattle.hb_sound.specs.declared.page_facts.Fact.TheVariants.{Live, Free}

-- how many records the page has, fewer than 2^32
abbrev pub records_seen : Fact → ℕ
records_seen (Live seen) = seen.records
records_seen (Free next) = 0

abbrev pub IsLightFact : Fact → Type 0
IsLightFact fact = records_seen fact < 2 ^ 32

-- how many records the pages have together
abbrev pub all_records : List Fact → ℕ
all_records [] = 0
all_records (fact ∷ rest) = records_seen fact + all_records rest
