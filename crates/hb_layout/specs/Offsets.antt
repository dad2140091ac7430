-- Where the parts of a file stand: two slots for superblocks, two log areas, and the pages.
use Rattle.std.specs.Prelude.{ℕ, ◌+◌, ◌-◌, ◌*◌, ◌%◌}
use Rattle.hb_space.specs.declared.form.TheConstants.{PAGE}
use Rattle.hb_layout.specs.declared.meta.Meta.{Meta}

-- the slot of a turn's superblock: the first or the second page of the file
abbrev pub slot_offset : ℕ → ℕ
slot_offset turn = PAGE * (turn % 2)

-- where the log area of a turn begins
abbrev pub log_start : ℕ → Meta → ℕ
log_start turn meta = 2 * PAGE + (turn % 2) * meta.log

-- the place of the page of a number, from 1
abbrev pub page_offset : Meta → ℕ → ℕ
page_offset meta id = 2 * PAGE + 2 * meta.log + PAGE * (id - 1)

-- how many bytes a file has
abbrev pub file_size : Meta → ℕ
file_size meta = 2 * PAGE + 2 * meta.log + PAGE * meta.pages
