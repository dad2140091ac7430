-- Bytes that open in two ways open in one: their logs touch the same pages.
use Rattle.std.proofs.Common.{◌≡◌, ℕ, ◌+◌, List, Option, IfSome, sym, ap, ◌∙◌, subst, arith}
use Rattle.hb_disk.specs.Model.{DiskModel}
use Rattle.hb_disk.specs.Calls.{OnlyReads}
use Rattle.hb_lemmas.proofs.Options.{at_value, if_value}
use Rattle.hb_frag.specs.declared.pages.Page.{Page}
use Rattle.hb_layout.specs.declared.meta.Meta.{Meta}
use Rattle.hb_log_codec.specs.Groups.{Logged}
use Rattle.hb_ops.specs.Files.{FileState}
use Rattle.hb_super.specs.Superblocks.{IsNewest}
use Rattle.hb_wal.specs.Frames.{ReadsOneWay}
use Rattle.hb_store.proofs.Facts.Spellings.{OneList, one_log}
use Rattle.hb_store.specs.Opening.{HasGroups}
use Rattle.hb_store.specs.Replay.{Replayed, untouched, replay}
use Rattle.hb_store.specs.Turning.{StillOpens}
use Rattle.hb_restart.specs.Found.{IsFoundIn}
use Rattle.hb_restart.specs.Renewing.{WritesEachOnce}
use Rattle.hb_restart.proofs.EachOnce.{none_written}

module _ (once : OneList) (turns : (bytes : List ℕ) (t s : ℕ) (m n : Meta) → IsNewest bytes t m → IsNewest bytes s n → t ≡ s) (saids : (bytes : List ℕ) (t s : ℕ) (m n : Meta) → IsNewest bytes t m → IsNewest bytes s n → m ≡ n)
    (one_way : ReadsOneWay) where
  -- two ways in which bytes open
  module _ (b : List ℕ) (t s : ℕ) (m n meta other : Meta) (touched pages : ℕ → Option Page) (f g : FileState) (x : StillOpens t m meta touched f b) (y : StillOpens s n other pages g b) where
    said_same : m ≡ n
    said_same = saids b t s m n x.by.newest y.by.newest

    groups_same : x.groups ≡ y.groups
    groups_same =
        let log : HasGroups b s n x.payloads x.groups =
        subst (λ (q : Meta). HasGroups b s q x.payloads x.groups) said_same (subst (λ (k : ℕ). HasGroups b k m x.payloads x.groups) (turns b t s m n x.by.newest y.by.newest) x.by.log) in
        (one_log once one_way b s n x.payloads y.payloads x.groups y.groups log y.by.log).1

    replay_same : replay (untouched m) x.groups ≡ replay (untouched n) y.groups
    replay_same = ap (λ (q : Meta). replay (untouched q) x.groups) said_same ∙ ap (λ (l : List Logged). replay (untouched n) l) groups_same

    pub pages_same : (id : ℕ) → touched id ≡ pages id
    pages_same id = sym (x.touched_is id) ∙ ap (λ (r : Replayed). r.page id) replay_same ∙ y.touched_is id

    pub meta_same : meta ≡ other
    meta_same = sym x.meta_is ∙ x.by.shows.meta ∙ ap (λ (r : Replayed). r.meta) replay_same ∙ sym y.by.shows.meta ∙ y.meta_is

  -- What is said of the pages that were found is said of those of each way in which the bytes open.
  module _ (W : ℕ → List ℕ → Meta → (ℕ → Option Page) → Type 0)
      (also : (from : ℕ) (b : List ℕ) (meta : Meta) (touched pages : ℕ → Option Page) → ((id : ℕ) → touched id ≡ pages id) → W from b meta touched → W from b meta pages)
      (old mid : DiskModel) (reads : OnlyReads old mid) (turn : ℕ) (meta : Meta) (touched : ℕ → Option Page) (count : ℕ)
      (found : IfSome old.told (λ b. IsFoundIn b turn meta touched count)) where
    pub each_way : IfSome mid.told (λ b. IsFoundIn b turn meta touched count → W (mid.clock + 1) b meta touched)
        → IfSome old.told (λ b. (t : ℕ) (said other : Meta) (pages : ℕ → Option Page) (s : FileState) → StillOpens t said other pages s b → W (old.clock + 1) b other pages)
    each_way run = if_value old.told (λ b. (t : ℕ) (said other : Meta) (pages : ℕ → Option Page) (s : FileState) → StillOpens t said other pages s b → W (old.clock + 1) b other pages)
        (λ b told t said other pages s opens.
        let here = at_value old.told (λ b. IsFoundIn b turn meta touched count) b told found in
        let had : W (mid.clock + 1) b meta touched =
        at_value mid.told (λ b. IsFoundIn b turn meta touched count → W (mid.clock + 1) b meta touched) b (reads.stays.told ∙ told) run here in
        let since : W (old.clock + 1) b meta touched = subst (λ (n : ℕ). W (n + 1) b meta touched) reads.stays.clock had in
        subst (λ (q : Meta). W (old.clock + 1) b q pages) (meta_same b turn t here.said said meta other touched pages here.file s here.opens opens)
        (also (old.clock + 1) b meta touched pages (pages_same b turn t here.said said meta other touched pages here.file s here.opens opens) since))

-- reads alone write none
pub reads_write_none : (old new : DiskModel) → OnlyReads old new
    → IfSome old.told (λ b. (turn : ℕ) (said meta : Meta) (touched : ℕ → Option Page) (s : FileState) → StillOpens turn said meta touched s b → WritesEachOnce (old.clock + 1) b meta touched new)
reads_write_none old new reads =
    if_value old.told (λ b. (turn : ℕ) (said meta : Meta) (touched : ℕ → Option Page) (s : FileState) → StillOpens turn said meta touched s b → WritesEachOnce (old.clock + 1) b meta touched new)
    (λ b told turn said meta touched s opens. none_written (old.clock + 1) b meta touched new (reads.stays.told ∙ told) (let same = reads.stays.clock in omega (arith, same)))
