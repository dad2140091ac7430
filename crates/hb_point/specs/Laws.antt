-- What follows of these rows.
use Rattle.std.specs.Prelude.{◌≡◌, ℕ, ◌≤◌, Some}
use Rattle.hb_space.specs.declared.records.Record.{Record}
use Rattle.hb_frag.specs.declared.pages.LivePage.{LivePage}
use Rattle.hb_set.specs.declared.commands.Command.{Command}
use Rattle.hb_set.specs.declared.scripts.Line.{Line}
use Rattle.hb_activity.specs.Deeds.{Deed}
use Rattle.hb_activity.specs.Sights.{Sight}
use Rattle.hb_frag.specs.Leaves.{weight_of}
use Rattle.hb_ops.specs.Recording.{put_page}
use Rattle.hb_ops.specs.Standing.{StandsNot}
use Rattle.hb_ops.specs.declared.operations.Op.{Op}
use Rattle.hb_activity.specs.OneDeed.{IsAllowedAlone, NumbersAreGiven}
use Rattle.hb_ops.specs.Sound.{FitsFile}
use Rattle.hb_point.specs.SessionRows.{FindsNoRoom, DoesThere}
use Rattle.hb_point.specs.SplitRows.{Splits, PutsInHalf}

-- A command on a point that has an operation may do it, where the page keeps the rules of a page alone.
abbrev pub CommandsAreAllowed : Type 0
CommandsAreAllowed = (s : Sight) (line : Line) (command : Command) (id : ℕ) (page : LivePage) (deed : Deed) (op : Op) → FitsFile s.meta page →
    DoesThere s line command id page deed → deed.op ≡ Some op → IsAllowedAlone s id page op

-- A page that has no room for a record weighs 6 or more.
abbrev pub FullPagesAreHeavy : Type 0
FullPagesAreHeavy = (s : Sight) (line : Line) (rec : Record) (id : ℕ) (page : LivePage) (deed : Deed) → FitsFile s.meta page → 6 ≤ s.meta.dcap →
    FindsNoRoom s line rec id page deed → 6 ≤ weight_of page.frag

-- Such a page may be split as the row says.
abbrev pub SplitsAreAllowed : Type 0
SplitsAreAllowed = (s : Sight) (line : Line) (held : ℕ) (deed : Deed) (op : Op) (row : Splits s line held deed) → NumbersAreGiven s → FitsFile s.meta row.page →
    6 ≤ weight_of row.page.frag → deed.op ≡ Some op → IsAllowedAlone s held row.page op

-- The record may be put into its half, where it isn't there and the half has room for it.
abbrev pub PutsAreAllowed : Type 0
PutsAreAllowed = (s : Sight) (line : Line) (source fresh : ℕ) (deed : Deed) (op : Op) (row : PutsInHalf s line source fresh deed) → FitsFile s.meta row.page →
    StandsNot row.page row.rec.key → weight_of (put_page row.rec row.page).frag ≤ s.meta.dcap → deed.op ≡ Some op → IsAllowedAlone s row.half row.page op

-- A command on a point has one deed at a page.
abbrev pub CommandsHaveOneDeed : Type 0
CommandsHaveOneDeed = (s : Sight) (line : Line) (command : Command) (id : ℕ) (page : LivePage) (deed other : Deed) → FitsFile s.meta page →
    DoesThere s line command id page deed → DoesThere s line command id page other → deed ≡ other
