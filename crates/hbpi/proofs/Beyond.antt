-- Runs that leave alone what lies behind the first bytes of a disk.
use Rattle.std.proofs.Common.{◌≡◌, ℕ, ◌+◌, ◌≤◌, IfSome, subst, arith}
use Rattle.hb_disk.specs.Model.{DiskModel}
use Rattle.hb_lemmas.proofs.Options.{at_value}
use Rattle.hb_super.specs.Superblocks.{IsNewest}
use Rattle.hb_layout.specs.declared.meta.Meta.{Meta}
use Rattle.hb_layout.specs.Offsets.{file_size, log_start}
use Rattle.hb_store.specs.States.{IsSameLayout}
use Rattle.hb_restart.specs.Beyond.{KeepsBeyond, KeepsBeyondFile}
use Rattle.hb_layout.proofs.Facts.Parts.{front_within, log_within}
use Rattle.hb_store.proofs.Facts.Changed.{same_size}
use Rattle.hb_restart.proofs.Facts.Beyond.{beyond_then}

-- a log area is a part of its file
pub log_inside : (turn at : ℕ) (meta : Meta) → at ≡ log_start turn meta → at + meta.log ≤ file_size meta
log_inside turn at meta is = let low = log_within turn 1 meta in let front = front_within meta in omega (arith, is, low, front)

-- a run over the file that was opened, seen from before the opening
pub beyond_driven : (d m e : DiskModel) (meta : Meta) → IfSome d.told (λ b. (turn : ℕ) (said : Meta) → IsNewest b turn said → IsSameLayout said meta) → KeepsBeyondFile d m → KeepsBeyond (file_size meta) m e → KeepsBeyondFile d e
beyond_driven d m e meta same opened run b turn said told newest =
    let K : ℕ → Type 0 = λ n. KeepsBeyond n m e in
    let is = same_size said meta (at_value d.told (λ b. (turn : ℕ) (said : Meta) → IsNewest b turn said → IsSameLayout said meta) b told same turn said newest) in
    beyond_then (file_size said) d m e (opened b turn said told newest) (subst K is run)
