-- Touched pages that groups are replayed on, what such a replay and the reading of a log give, and why they give nothing.
use Rattle.std.specs.Prelude.{◌≡◌, ℕ, ◌<◌, ◌≤◌, ◌^◌, List, Some, ◌++◌, ◌∷◌, length}
use Rattle.std.specs.Ordering.{nat_cmp}
use Rattle.std.specs.BTreeMap.{get}
use Rattle.hb_layout.specs.Limits.{IsLayout}
use Rattle.hb_frag.specs.declared.pages.Page.{Page}
use Rattle.hb_frag.specs.Grammar.{HasSpelling}
use Rattle.hb_layout.specs.declared.meta.Meta.{Meta}
use Rattle.hb_ops.specs.declared.changes.ChangeError.{ChangeError}
use Rattle.hb_ops.specs.declared.changes.ChangeError.TheVariants as changes
use Rattle.hb_log_codec.specs.Groups.{Logged, SpellsGroups}
use Rattle.hb_store.specs.Replay.{Replayed, replay, MayReplay, untouched}
use Rattle.hb_ops.specs.SetPages.{set_pages}
use Rattle.hb_store.specs.States.{IsSameLayout}
use Rattle.hb_store.specs.declared.touched.Touched.{Touched}
use Rattle.hb_store.specs.declared.touched.ReplayStop.{ReplayStop}
use Rattle.hb_store.specs.declared.touched.ReplayStop.TheVariants as replays
use Rattle.hb_log_codec.specs.declared.reading.GroupsError.{GroupsError}
use Rattle.hb_log_codec.specs.declared.reading.GroupsError.TheVariants as groups
use Rattle.hb_store.specs.Opening.{IsBadPayload, SpellAll}

-- what touched pages are seen as
abbrev pub replayed_of : Touched → Replayed
replayed_of t = record { meta = t.meta; page = λ id. get nat_cmp t.pages id }

abbrev pub with_pages : List (ℕ × Page) → Replayed → Replayed
with_pages pages t = record { meta = t.meta; page = set_pages pages t.page }

-- the number is of a page of the file
abbrev pub IsPageOf : Meta → ℕ → Type 0
IsPageOf meta id = (1 ≤ id) × (id ≤ meta.high)

-- The pages that were touched are the file's, and each can be written.
abbrev pub AreItsPages : Replayed → Type 0
AreItsPages t = (id : ℕ) (page : Page) → t.page id ≡ Some page → IsPageOf t.meta id × HasSpelling page

-- the limits of a file that replays rest on
pub record HasLimits (meta : Meta) : Type 0 where
  pub layout : IsLayout meta
  pub root_fits : meta.root < 2 ^ 32
  pub free_fits : meta.free < 2 ^ 32

-- What a file says of itself once operations were applied: it was laid down as before, it is within its limits, the
-- height and the highest page don't fall, and what the file says of itself stays within its limits.
pub record ComesAfter (old new : Meta) : Type 0 where
  pub layout : IsSameLayout old new
  pub limits : HasLimits new
  pub grows : old.height ≤ new.height
  pub rises : old.high ≤ new.high
  pub high : old.high ≤ old.pages → new.high ≤ new.pages
  pub live : old.live ≤ old.pages → new.live ≤ new.pages

-- what a replay goes on from: a file within its limits, and touched pages of it that can be written
pub record IsReplayable (t : Replayed) : Type 0 where
  pub limits : HasLimits t.meta
  pub pages : AreItsPages t

-- what groups that were replayed lead to
pub record ReplaysOn (old new : Replayed) : Type 0 where
  pub meta : ComesAfter old.meta new.meta
  pub pages : AreItsPages new

-- the stop of a replay, by that of a change and that of reading groups
abbrev pub change_stop : ChangeError → ReplayStop
change_stop changes.Unfit = replays.Unfit
change_stop changes.NoMemory = replays.NoMemory

abbrev pub groups_stop : GroupsError → ReplayStop
groups_stop (groups.BadBytes at) = replays.Unfit
groups_stop groups.NoMemory = replays.NoMemory

-- The groups of a payload lead from some touched pages to others.
pub record Follows (k : ℕ) (old : Replayed) (payload : List ℕ) (new : Replayed) : Type 0 where
  pub groups : List Logged
  pub spelled : SpellsGroups k payload groups
  pub may : MayReplay old groups
  pub leads : new ≡ replay old groups
  pub goes_on : ReplaysOn old new

-- Payloads were replayed from an untouched file, and led here.
pub record HasReplayed (said : Meta) (payloads : List (List ℕ)) (t : Replayed) : Type 0 where
  pub groups : List Logged
  pub spelled : SpellAll said.k payloads groups
  pub may : MayReplay (untouched said) groups
  pub leads : t ≡ replay (untouched said) groups

-- The payload of this number, counted from 0, is the first that isn't a list of groups that may be replayed there.
pub record IsFirstBad (said : Meta) (payloads : List (List ℕ)) (frame : ℕ) : Type 0 where
  pub before : List (List ℕ)
  pub payload : List ℕ
  pub behind : List (List ℕ)
  pub parts : payloads ≡ before ++ payload ∷ behind
  pub counted : frame ≡ length before
  pub reached : Replayed
  pub replayed : HasReplayed said before reached
  pub bad : IsBadPayload said.k reached payload
