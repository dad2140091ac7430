-- Runs that leave alone what lies behind the first bytes of a disk.
use Rattle.std.proofs.Common.{◌≡◌, ℕ, ◌+◌, ◌-◌, ◌≤◌, List, Option, Some, IfSome, sym, subst, arith}
use Rattle.hb_disk.specs.Model.{DiskModel, IsDisk, Torn}
use Rattle.hb_disk.specs.Calls.{Becomes, OnlyReads}
use Rattle.hb_disk.proofs.Facts.RunLaws.{OnlyReads-none}
use Rattle.hb_lemmas.proofs.Options.{at_value}
use Rattle.hb_disk.proofs.Facts.BecomesLaws.{Becomes-read, Becomes-torn, Becomes-weaker}
use Rattle.hb_disk.proofs.Facts.TornLaws.{Torn-itself, Torn-wider}
use Rattle.hb_frag.specs.declared.pages.Page.{Page}
use Rattle.hb_layout.specs.Offsets.{file_size}
use Rattle.hb_super.specs.Superblocks.{IsNewest}
use Rattle.hb_layout.specs.declared.meta.Meta.{Meta}
use Rattle.hb_store.specs.States.{IsSameLayout}
use Rattle.hb_restart.specs.Beyond.{KeepsBeyond, KeepsBeyondFile}
use Rattle.hb_restart.specs.Found.{IsFoundIn}
use Rattle.hb_store.proofs.Facts.Changed.{same_size}

-- reads alone
pub beyond_reads : (n : ℕ) (old new : DiskModel) → IsDisk old → OnlyReads old new → KeepsBeyond n old new
beyond_reads n old new is_old reads = Becomes-read (Torn 0 n) old new is_old (λ b fit. Torn-itself 0 n b fit) reads.stays

-- no call
pub beyond_none : (n : ℕ) (d : DiskModel) → IsDisk d → KeepsBeyond n d d
beyond_none n d is_d = beyond_reads n d d is_d (OnlyReads-none d)

-- one run after another
pub beyond_then : (n : ℕ) (old mid new : DiskModel) → KeepsBeyond n old mid → KeepsBeyond n mid new → KeepsBeyond n old new
beyond_then n old mid new first second = Becomes-torn 0 n old mid new first second

-- a range within the first bytes
pub beyond_wider : (at m n : ℕ) (old new : DiskModel) → at + m ≤ n → Becomes (Torn at m) old new → KeepsBeyond n old new
beyond_wider at m n old new within run = Becomes-weaker (Torn at m) (Torn 0 n) old new (λ b c torn. Torn-wider at m 0 n b c (omega arith) (omega (arith, within)) torn) run

-- A run behind the reads that found the file: it leaves alone what lies behind the file by the newest superblock.
pub found_said : (one : (bytes : List ℕ) (t s : ℕ) (m n : Meta) → IsNewest bytes t m → IsNewest bytes s n → m ≡ n) (told : Option (List ℕ)) (turn : ℕ) (meta : Meta) (touched : ℕ → Option Page) (count : ℕ)
    → IfSome told (λ b. IsFoundIn b turn meta touched count) → (b : List ℕ) (at : ℕ) (said : Meta) → told ≡ Some b → IsNewest b at said → IsSameLayout said meta
found_said one told turn meta touched count found b at said is newest =
    let here = at_value told (λ b. IsFoundIn b turn meta touched count) b is found in
    let S : Meta → Type 0 = λ x. IsSameLayout x meta in
    subst S (sym (one b at turn said here.said newest here.opens.by.newest)) here.opens.layout

pub beyond_found : (one : (bytes : List ℕ) (t s : ℕ) (m n : Meta) → IsNewest bytes t m → IsNewest bytes s n → m ≡ n) (d m e : DiskModel) (turn : ℕ) (meta : Meta) (touched : ℕ → Option Page) (count : ℕ)
    → IsDisk d → OnlyReads d m → IfSome d.told (λ b. IsFoundIn b turn meta touched count) → KeepsBeyond (file_size meta) m e → KeepsBeyondFile d e
beyond_found one d m e turn meta touched count is_d reads found run b at said told newest =
    let K : ℕ → Type 0 = λ n. KeepsBeyond n d e in
    subst K (same_size said meta (found_said one d.told turn meta touched count found b at said told newest))
    (beyond_then (file_size meta) d m e (beyond_reads (file_size meta) d m is_d reads) run)

-- no run behind them
pub beyond_looked : (d m : DiskModel) → IsDisk d → OnlyReads d m → KeepsBeyondFile d m
beyond_looked d m is_d reads b at said told newest = beyond_reads (file_size said) d m is_d reads
