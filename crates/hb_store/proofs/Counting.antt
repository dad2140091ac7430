-- A file has a page for each number up to its highest page, and so has the file after an operation.
use Rattle.std.proofs.Common.{◌≡◌, ℕ, length, get_or, All, ap, ◌∙◌, arith}
use Rattle.hb_ops.specs.declared.operations.Op.{Op}
use Rattle.hb_ops.specs.Files.{FileState, page_of}
use Rattle.hb_ops.specs.Operations.{IsAllowed, change_of, effect_of, nth_read, reads_of}
use Rattle.hb_store.specs.Replaying.{IsPageOf}
use Rattle.hb_ops.proofs.Facts.ReachedPages.{Reaches, greatest, pages_long}
use Rattle.hb_store.proofs.Facts.MadeMeta.{grown_high, made_numbered}
use Rattle.hb_ops.proofs.Facts.AllowedOps.{reads_some, high_next}
use Rattle.hb_ops.proofs.Facts.FilePages.{page_in_range}
use Rattle.hb_lemmas.proofs.Options.{some_value}

-- a page for each number up to the highest page
abbrev pub HasCount : FileState → Type 0
HasCount s = length s.pages ≡ s.meta.high

-- ---- a file after an operation

module _ (s : FileState) (op : Op) (counted : HasCount s) (allowed : IsAllowed s op) where
  read_inside : All (IsPageOf s.meta) (reads_of op)
  read_inside = λ i d lt.
      let there = some_value (page_of s (get_or (reads_of op) i d)) (reads_some op s.meta (page_of s) allowed i d lt) in
      let range = page_in_range s.pages (get_or (reads_of op) i d) there.0 there.1 in
      (range.0, omega (arith, range.1, counted))

  pub effect_reaches : All (Reaches (length s.pages)) (change_of op s.meta (nth_read s op 0) (nth_read s op 1) (nth_read s op 2)).pages
  effect_reaches = λ i d lt.
      let is = made_numbered op s.meta (nth_read s op 0) (nth_read s op 1) (nth_read s op 2) allowed read_inside i d lt in
      (is.0, omega (arith, is.1, counted, high_next op s.meta (nth_read s op 0) (nth_read s op 1) (nth_read s op 2) allowed))

  pub effect_count : HasCount (effect_of s op)
  effect_count =
      let pages = (change_of op s.meta (nth_read s op 0) (nth_read s op 1) (nth_read s op 2)).pages in
      pages_long pages s.pages effect_reaches ∙ ap (λ (n : ℕ). greatest n pages) counted
      ∙ grown_high op s.meta (nth_read s op 0) (nth_read s op 1) (nth_read s op 2) allowed read_inside
