-- A worker that only moves on takes no memory: it decodes no page, and its row does nothing to the file.
use Rattle.hb_steps.proofs.Table.Names.{◌≡◌, inl, inr, ℕ, Option, Some, None, IsSomeAnd, subst, Wanted, Activity, Deed, wanted_by, Machine, with_disk, Row, StoreState}
use Rattle.hb_activity.specs.declared.activities.Activity.TheVariants as at
use Rattle.hb_activity.specs.declared.dropping.DropWhy.TheVariants as drops
use Rattle.hb_activity.specs.declared.jobs.Job.{Job}
use Rattle.hb_consol.specs.Asks.{OnlyMovesToMerge}
use Rattle.hb_consol.specs.ConsolidatorRows.{children_of, first_one, scans}
use Rattle.hb_consol.specs.MergeRows.{after_keep}
use Rattle.hb_frag.specs.Leaves.{first_named, siblings_of}
use Rattle.hb_poster.specs.Asks.{OnlyMovesOn}
use Rattle.hb_space.specs.Boxes.{Area}
use Rattle.hb_store.specs.Making.{TakesMemory}
use Rattle.hb_steps.specs.Acting.{Decodes, GivesUpFor}
use Rattle.hb_steps.specs.JobLaws.{MoversLackNoMemory}
use Rattle.hb_steps.proofs.Table.Causes.{drops_by_cause}

abbrev Takes : Deed → Type 0
Takes deed = IsSomeAnd deed.op TakesMemory

-- what a deed is that takes memory
takes_as : (deed other : Deed) → deed ≡ other → Takes deed → Takes other
takes_as deed other is takes = subst Takes is takes

scans_take : (job : Job) (id : ℕ) (child : Option ℕ) → Takes (scans job id child) → ⊥
scans_take job id None takes = takes
scans_take job id (Some child) takes = takes

keep_takes : (job : Job) (parent keep gone : ℕ) (gave : Option Area) → Takes (after_keep job parent keep gone gave) → ⊥
keep_takes job parent keep gone None takes = takes
keep_takes job parent keep gone (Some area) takes = takes

module _ (here : Machine) (deed : Deed) where
  post_row : (activity : Activity) (wanted : Option Wanted) → OnlyMovesOn activity → Row activity wanted here deed → Takes deed → ⊥
  post_row (at.PosterWalk job held) (Some wanted) moves (page, hand, inl row) takes = takes_as deed _ row.deed_is takes
  post_row (at.PosterWalk job held) (Some wanted) moves (page, hand, inr row) takes = takes_as deed _ row.passes.deed_is takes
  post_row (at.PosterWalk job held) None moves row takes = row
  post_row (at.PosterPromote job parent) (Some wanted) moves (page, hand, row) takes = takes_as deed _ row takes
  post_row (at.PosterPromote job parent) None moves row takes = row
  post_row activity wanted moves row takes = moves

  merge_row : (activity : Activity) (wanted : Option Wanted) → OnlyMovesToMerge activity → Row activity wanted here deed → Takes deed → ⊥
  merge_row (at.ConsolidatorWalk job held) (Some wanted) moves (page, hand, inl row) takes = scans_take job wanted.page (first_one (children_of page)) (takes_as deed _ row.deed_is takes)
  merge_row (at.ConsolidatorWalk job held) (Some wanted) moves (page, hand, inr row) takes = takes_as deed _ row.passes.deed_is takes
  merge_row (at.ConsolidatorWalk job held) None moves row takes = row
  merge_row (at.ConsolidatorPromote job parent keep gone) (Some wanted) moves (page, hand, row) takes = takes_as deed _ row takes
  merge_row (at.ConsolidatorPromote job parent keep gone) None moves row takes = row
  merge_row (at.ConsolidatorKeep job parent keep gone) (Some wanted) moves (page, hand, row) takes = keep_takes job parent keep gone (first_named gone (siblings_of page)) (takes_as deed _ row takes)
  merge_row (at.ConsolidatorKeep job parent keep gone) None moves row takes = row
  merge_row activity wanted moves row takes = moves

module _ (here : Machine) (wanted : Option Wanted) where
  post_decodes : (activity : Activity) → OnlyMovesOn activity → Decodes wanted here activity → ⊥
  post_decodes (at.PosterWalk job held) moves decodes = decodes
  post_decodes (at.PosterPromote job parent) moves decodes = decodes
  post_decodes activity moves decodes = moves

  merge_decodes : (activity : Activity) → OnlyMovesToMerge activity → Decodes wanted here activity → ⊥
  merge_decodes (at.ConsolidatorWalk job held) moves decodes = decodes
  merge_decodes (at.ConsolidatorPromote job parent keep gone) moves decodes = decodes
  merge_decodes (at.ConsolidatorKeep job parent keep gone) moves decodes = decodes
  merge_decodes activity moves decodes = moves

module _ (m : Machine) (actor : ℕ) (fetched : StoreState) where
  never_posts : GivesUpFor drops.NoMemory m actor fetched → OnlyMovesOn (m.activity actor) → ⊥
  never_posts (inl decodes) moves = post_decodes (with_disk fetched m.files m.clock m) (wanted_by m actor) (m.activity actor) moves decodes
  never_posts (inr (deed, row, takes)) moves = post_row (with_disk fetched m.files m.clock m) deed (m.activity actor) (wanted_by m actor) moves row takes

  never_merges : GivesUpFor drops.NoMemory m actor fetched → OnlyMovesToMerge (m.activity actor) → ⊥
  never_merges (inl decodes) moves = merge_decodes (with_disk fetched m.files m.clock m) (wanted_by m actor) (m.activity actor) moves decodes
  never_merges (inr (deed, row, takes)) moves = merge_row (with_disk fetched m.files m.clock m) deed (m.activity actor) (wanted_by m actor) moves row takes

pub movers_lack_no_memory : MoversLackNoMemory
movers_lack_no_memory m actor new step =
    let why = drops_by_cause m actor drops.NoMemory new step in
    (never_posts m actor why.fetched why.cause, never_merges m actor why.fetched why.cause)
