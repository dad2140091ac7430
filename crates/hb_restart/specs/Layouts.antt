-- The limits of a layout, how many bytes it has, and why no file of it is made.
use Rattle.std.specs.Prelude.{◌≡◌, ℕ, ◌+◌, ◌*◌, ◌&&◌, ◌<◌, ◌≤◌, nat_le, if◌then◌else◌, Option, Some, None, IsNone}
use Rattle.hb_space.specs.declared.form.TheConstants.{PAGE, KMAX, ICAP_MIN}
use Rattle.hb_restart.specs.declared.faults.Field.TheVariants as fields
use Rattle.hb_restart.specs.declared.faults.BadField.{BadField}
use Rattle.hb_restart.specs.declared.faults.CreateFault.{CreateFault}
use Rattle.hb_restart.specs.declared.faults.CreateFault.TheVariants.{BadLayout, Small}
use Rattle.hb_restart.specs.declared.layout.Layout.{Layout}

-- the first of these numbers that is out of its limits
abbrev pub first_fault : ℕ → ℕ → ℕ → ℕ → ℕ → Option BadField
first_fault k pages log dcap icap =
    if nat_le 1 k && nat_le k KMAX then
    (if nat_le 1 pages && nat_le pages 65536 then
    (if nat_le 65536 log && nat_le log 67108864 then
    (if nat_le 6 dcap && nat_le dcap 48 then
    (if nat_le ICAP_MIN icap && nat_le icap 256 then None
    else Some (record { field = fields.Icap; value = icap }))
    else Some (record { field = fields.Dcap; value = dcap }))
    else Some (record { field = fields.Log; value = log }))
    else Some (record { field = fields.Pages; value = pages }))
    else Some (record { field = fields.K; value = k })

-- its first field that is
abbrev pub layout_fault : Layout → Option BadField
layout_fault l = first_fault l.k l.pages l.log l.dcap l.icap

-- how many bytes a file of so many pages and log areas of so many bytes has
abbrev pub size_of : ℕ → ℕ → ℕ
size_of pages log = 2 * PAGE + 2 * log + PAGE * pages

-- and one of the layout
abbrev pub layout_size : Layout → ℕ
layout_size l = size_of l.pages l.log

-- Why no file of the layout is made on a disk of this size, in the order in which it is tested.
abbrev pub RefusesLayout : Layout → ℕ → CreateFault → Type 0
RefusesLayout l size (BadLayout bad) = layout_fault l ≡ Some bad
RefusesLayout l size (Small needed found) = IsNone (layout_fault l) × (needed ≡ layout_size l) × (found ≡ size) × (size < layout_size l)
RefusesLayout l size other = IsNone (layout_fault l) × (layout_size l ≤ size)
