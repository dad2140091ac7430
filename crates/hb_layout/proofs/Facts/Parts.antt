-- The parts of a file lie in it: in front of the pages the places of the superblocks and the log areas, then each page.
use Rattle.std.proofs.Common.{ℕ, zero, suc, ◌+◌, ◌*◌, ◌-◌, ◌%◌, ◌≤◌, arith}
use Rattle.hb_layout.specs.Offsets.{file_size, log_start, page_offset, slot_offset}
use Rattle.hb_layout.specs.declared.meta.Meta.{Meta}
use Rattle.hb_space.specs.declared.form.TheConstants.{PAGE}

-- the area of either turn
by_bit : (bit log rest : ℕ) → bit ≤ 1 → 8192 + bit * log + log ≤ 8192 + 2 * log + rest
by_bit zero log rest low = omega arith
by_bit (suc zero) log rest low = omega arith
by_bit (suc (suc n)) log rest low = absurd (omega (arith, low))

pub log_within : (turn id : ℕ) (meta : Meta) → log_start turn meta + meta.log ≤ page_offset meta id
log_within turn id meta = by_bit (turn % 2) meta.log (4096 * (id - 1)) (omega arith)

-- a superblock has 41 bytes
pub super_within : (turn : ℕ) (meta : Meta) → slot_offset turn + 41 ≤ page_offset meta 1
super_within turn meta = let low : turn % 2 ≤ 1 = omega arith in omega (arith, low)

pub front_within : (meta : Meta) → page_offset meta 1 ≤ file_size meta
front_within meta = omega arith

pub page_within : (id : ℕ) (meta : Meta) → 1 ≤ id → id ≤ meta.pages → page_offset meta id + PAGE ≤ file_size meta
page_within id meta some most = omega (arith, some, most)
