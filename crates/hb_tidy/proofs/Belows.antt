-- Calls that look below a page: the errors by which they end before they look at anything, and what is said of the file then.
use Rattle.std.proofs.Common.{◌≡◌, ◌≢◌, inl, inr, ℕ, ◌<◌, List, [], Some, Result, Ok, Err, refl, sym, ap, ◌∙◌, subst}
use Rattle.hb_disk.specs.Model.{DiskModel, IsDisk}
use Rattle.hb_space.specs.Boxes.{Area}
use Rattle.hb_frag.specs.declared.pages.LivePage.{LivePage}
use Rattle.hb_frag.specs.Leaves.{siblings_of}
use Rattle.hb_layout.specs.declared.limits.TheConstants.{HEIGHT_MAX}
use Rattle.hb_layout.specs.declared.meta.Meta.{Meta}
use Rattle.hb_ops.specs.Files.{FileState, live_page}
use Rattle.hb_ops.specs.Owing.{LacksRoom}
use Rattle.hb_ops.specs.Settled.{HasChild}
use Rattle.hb_store.specs.States.{StoreState}
use Rattle.hb_core.specs.Showing.{RunningCore}
use Rattle.hb_tidy.proofs.CallsMade.{if_known, nothing_more, runs_all}
use Rattle.hb_tidy.proofs.Exits.{HandsOn}
use Rattle.hb_tidy.proofs.Facts.Joined.{over_then}
use Rattle.hb_tidy.proofs.KnownFiles.{IsFileOf, over_file}
use Rattle.hb_tidy.specs.declared.stops.TidyStop.{TidyStop}
use Rattle.hb_tidy.specs.declared.stops.TidyStop.TheVariants as stops
use Rattle.hb_tidy.specs.Finding.{BothLive, OwesGrowth, WantsPage}
use Rattle.hb_tidy.specs.Going.{MayTidy}
use Rattle.hb_tidy.specs.Looking.{LooksOver, NothingOf}
use Rattle.hb_tidy.specs.Placing.{IsNotOwed}
use Rattle.hb_tidy.specs.Tidying.{file_now}

-- ---- want of memory

pub over_refused : {U : Type 0} (knows : FileState → Type 0) (r : Result U TidyStop) (says : U → FileState → Type 0) (d : DiskModel) (c : RunningCore) → IsDisk d → MayTidy d c → HandsOn stops.NoMemory r → LooksOver knows r says d c d c
over_refused knows (Ok v) says d c disk may hands = absurd hands
over_refused {U = U} knows (Err e) says d c disk may hands =
    subst (λ (x : TidyStop). LooksOver {T = U} knows (Err x) says d c d c) (sym hands) (nothing_more d c disk may {T = U} knows says stops.NoMemory (λ same. cc) (λ m shows known. tt))

-- and behind a look
pub refused_then : {T U : Type 0} (knows : FileState → Type 0) (v : T) (before : T → FileState → Type 0) (r : Result U TidyStop) (says : U → FileState → Type 0) (d e : DiskModel) (old new : RunningCore) → IsDisk e → MayTidy e new → LooksOver knows (Ok v) before d old e new → HandsOn stops.NoMemory r → LooksOver knows r says d old e new
refused_then knows v before (Ok w) says d e old new disk may one hands = absurd hands
refused_then {U = U} knows v before (Err stop) says d e old new disk may one hands =
    over_then knows v before NothingOf (Err stop) says says d e e old new new one (λ s known said. tt) (over_refused {U = U} NothingOf (Err stop) says e new disk may hands) (λ s w known said more. more)

-- ---- no page is free

wants_split : (c : RunningCore) (s : FileState) (parent child : ℕ) (above below : LivePage) (area : Area) (point : List ℕ) → IsFileOf c s → BothLive parent above child below s → HasChild above child area → c.store.meta.live ≡ c.store.meta.pages → LacksRoom above below point c.store.meta.icap → WantsPage s
wants_split c s parent child above below area point file both leaf full lacks = record {
  none_free = ap (λ (x : Meta). x.live) file.meta ∙ full ∙ sym (ap (λ (x : Meta). x.pages) file.meta);
  owed = inr (record {
    parent = parent;
    child = child;
    area = area;
    above = above;
    below = below;
    above_live = both.0;
    below_live = both.1;
    leaf = leaf;
    point = point;
    lacks = subst (λ (meta : Meta). LacksRoom above below point meta.icap) (sym file.meta) lacks;
  });
}

pub wants_growth : (c : RunningCore) (s : FileState) (root : LivePage) → IsFileOf c s → live_page s s.meta.root ≡ Some root → (siblings_of root ≡ [] → ⊥) → c.store.meta.height < HEIGHT_MAX → c.store.meta.live ≡ c.store.meta.pages → WantsPage s
wants_growth c s root file live given low full = record {
  none_free = ap (λ (x : Meta). x.live) file.meta ∙ full ∙ sym (ap (λ (x : Meta). x.pages) file.meta);
  owed = inl (record { low = subst (λ (meta : Meta). meta.height < HEIGHT_MAX) (sym file.meta) low; root = root; live = live; given = given });
}

-- the growth is owed, and a page is free for it
pub owes_growth : (c : RunningCore) (s : FileState) (root : LivePage) → IsFileOf c s → live_page s s.meta.root ≡ Some root → (siblings_of root ≡ [] → ⊥) → c.store.meta.height < HEIGHT_MAX → (c.store.meta.live ≡ c.store.meta.pages → ⊥) → OwesGrowth s × (s.meta.live ≢ s.meta.pages)
owes_growth c s root file live given low free = (
  record { low = subst (λ (meta : Meta). meta.height < HEIGHT_MAX) (sym file.meta) low; root = root; live = live; given = given },
  λ full. free (sym (ap (λ (x : Meta). x.live) file.meta) ∙ full ∙ ap (λ (x : Meta). x.pages) file.meta),
)

-- a call that ends since a page is wanted, and none is free
pub over_full : {U : Type 0} (knows : FileState → Type 0) (says : U → FileState → Type 0) (d : DiskModel) (c : RunningCore) → IsDisk d → MayTidy d c → c.store.meta.live ≡ c.store.meta.pages → ((s : FileState) → IsFileOf c s → knows s → WantsPage s) → LooksOver {T = U} knows (Err stops.Full) says d c d c
over_full {U = U} knows says d c disk may none wants =
    over_file knows (Err stops.Full) says d d c c
    (nothing_more d c disk may {T = U} (λ s. IsFileOf c s × knows s) says stops.Full (λ same. cc) (λ m shows known. (runs_all d c m may shows, subst (λ (st : StoreState). st.meta.live ≡ st.meta.pages) (sym shows.shows.store) none, if_known (file_now m) (λ s. IsFileOf c s × knows s) WantsPage (λ s k. wants s k.0 k.1) known)))

pub over_not_owed : {U : Type 0} (parent child : ℕ) (above below : LivePage) (area : Area) (stop : TidyStop) (r : Result U TidyStop) (says : U → FileState → Type 0) (d : DiskModel) (c : RunningCore) → IsDisk d → MayTidy d c → HasChild above child area → IsNotOwed c.store.meta above below stop → HandsOn stop r
    → LooksOver (BothLive parent above child below) r says d c d c
over_not_owed parent child above below area stop (Ok v) says d c disk may leaf owed hands = absurd hands
over_not_owed {U = U} parent child above below area stop (Err e) says d c disk may leaf owed hands =
    subst (λ (x : TidyStop). LooksOver {T = U} (BothLive parent above child below) (Err x) says d c d c) (sym hands) (by stop owed)
  where
    by : (x : TidyStop) → IsNotOwed c.store.meta above below x → LooksOver {T = U} (BothLive parent above child below) (Err x) says d c d c
    by stops.Full owed = over_full {U = U} (BothLive parent above child below) says d c disk may owed.0 (λ s file both. wants_split c s parent child above below area owed.1 file both leaf owed.0 owed.2)
    by stops.NoMemory owed = over_refused {U = U} (BothLive parent above child below) (Err stops.NoMemory) says d c disk may refl
    by stops.ReadFault owed = absurd owed
    by stops.WriteFault owed = absurd owed
    by (stops.Damaged page why) owed = absurd owed
    by stops.Spent owed = absurd owed
