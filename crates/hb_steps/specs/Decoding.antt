-- Which steps decode pages, or copy records.
use Rattle.std.specs.Prelude.{◌<◌, Option, Some, None}
use Rattle.hb_frag.specs.declared.pages.LivePage.{LivePage}
use Rattle.hb_activity.specs.declared.activities.Activity.{Activity}
use Rattle.hb_activity.specs.declared.activities.Activity.TheVariants as at
use Rattle.hb_activity.specs.declared.wanting.Wanted.{Wanted}
use Rattle.hb_steps.specs.Machines.{Machine}
use Rattle.hb_steps.specs.Rows.{IsAtHand}
use Rattle.hb_point.specs.SessionRows.{WantsBoxes}
use Rattle.hb_search.specs.Searching.{GathersNow}

-- A search at a leaf of records copies those that it finds; and a step decodes pages where a split has a page free, and where a worker
-- looks at a child, scans one, tries or decides a pair, or may grow the file: that takes memory. A walk reads its pages where they lie,
-- and so does a put into one of the halves, a promotion, and the step that takes the page to keep.
abbrev pub GathersThere : Option Wanted → Machine → Activity → Type 0
GathersThere None m activity = ⊥
GathersThere (Some wanted) m activity = (page : LivePage) × IsAtHand m activity wanted page × GathersNow activity page

abbrev pub Decodes : Option Wanted → Machine → Activity → Type 0
Decodes wanted m (at.SessionWalk line held rest found) = WantsBoxes line.command × GathersThere wanted m (at.SessionWalk line held rest found)
Decodes wanted m (at.SessionSplit line held) = m.store.meta.live < m.store.meta.pages
Decodes wanted m (at.SessionPut line source fresh) = ⊥
Decodes wanted m at.SessionIdle = ⊥
Decodes wanted m (at.SessionAwait number reply place) = ⊥
Decodes wanted m at.PosterIdle = ⊥
Decodes wanted m at.ConsolidatorIdle = ⊥
Decodes wanted m at.Flusher = ⊥
Decodes wanted m (at.PosterWalk job held) = ⊥
Decodes wanted m (at.PosterPromote job parent) = ⊥
Decodes wanted m (at.ConsolidatorWalk job held) = ⊥
Decodes wanted m (at.ConsolidatorPromote job parent keep gone) = ⊥
Decodes wanted m (at.ConsolidatorKeep job parent keep gone) = ⊥
Decodes wanted m worker = Unit {0}
