use Rattle.std.proofs.Common.{[], ◌∷◌, ap, subst, sym, ◌∙◌}
use Rattle.hb_activity.specs.declared.jobs.Job.{Job}
use Rattle.hb_activity.specs.Walks.{goal_of}
use Rattle.hb_frag.specs.declared.leaves.Leaf.TheVariants.{Records, Child, Sibling}
use Rattle.hb_search.proofs.AskedSearches.{found_so, gathers_if, leaf_here, meets_records, passes_on, stays_so}
use Rattle.hb_search.proofs.LeafAhead.{keys, leaf_area, leaf_behind}
use Rattle.hb_search.proofs.walking.search.Goals as goal
use Rattle.hb_space.specs.Boxes.{Holds}

pub take_held-requires : goal.take_held-requires
take_held-requires c =
    let corner = c.copy-corner.ensures ∙ c.lo.ensures.value in
    let there = leaf_here c.args.latched.page.now c.copy-corner.result c.last_of-at_hand.result.now.lo _ (Records c.in-Records-default.records) c.leaf_at.result.1 corner c.leaf_at.ensures.value c.in-Records-default.is-0 in
    keys c.args.latched.page.now c.args.rest c.args.found c.in-Records-default.records c.leaf_at.result.1 c.last_of-at_hand.result.now c.args.latched.fits.in_order c.requires.gathering c.last_of-at_hand.ensures.last c.lo.ensures.area (leaf_area c.args.latched.page.now _ _ c.leaf_at.ensures.area c.args.latched.fits.well_cut there) there (subst (Holds c.leaf_at.result.1) corner c.leaf_at.ensures.inside) _ c.as_slice.ensures

pub go_behind-requires : goal.go_behind-requires
go_behind-requires c =
    let corner = c.copy-corner.ensures ∙ c.lo.ensures.value in
    let there = leaf_here c.args.latched.page.now c.copy-corner.result c.last_of-at_hand.result.now.lo _ (Records c.in-Records-default.records) c.leaf_at.result.1 corner c.leaf_at.ensures.value c.in-Records-default.is-0 in
    leaf_behind c.args.latched.page.now c.args.rest c.args.found c.in-Records-default.records c.leaf_at.result.1 c.last_of-at_hand.result.now c.args.latched.fits.in_order c.requires.gathering c.last_of-at_hand.ensures.last c.lo.ensures.area (leaf_area c.args.latched.page.now _ _ c.leaf_at.ensures.area c.args.latched.fits.well_cut there) there (subst (Holds c.leaf_at.result.1) corner c.leaf_at.ensures.inside) _ (found_so c.args.found _ _ c.in-Records-default.records _ c.last_of-at_hand.result.now c.into_vec-found.ensures c.as_slice.ensures c.in_ok-take_held-in-Records-default.ensures)

pub returns-in_ok-take_held-in-Records-default-clause-row : goal.returns-in_ok-take_held-in-Records-default-clause-row
returns-in_ok-take_held-in-Records-default-clause-row c =
    let corner = c.copy-corner.ensures ∙ c.lo.ensures.value in
    let there = leaf_here c.args.latched.page.now c.copy-corner.result c.last_of-at_hand.result.now.lo _ (Records c.in-Records-default.records) c.leaf_at.result.1 corner c.leaf_at.ensures.value c.in-Records-default.is-0 in
    gathers_if c.go_behind.result c.args.latched.meta.now c.args.line c.args.rest c.args.found _ c.in-Records-default.records c.args.latched.id c.args.latched.page.now c.last_of-at_hand.result.now.lo c.last_of-at_hand.result.now c.leaf_at.result.1 c.last_of-at_hand.ensures.goal there c.last_of-at_hand.ensures.last (found_so c.args.found _ _ c.in-Records-default.records _ c.last_of-at_hand.result.now c.into_vec-found.ensures c.as_slice.ensures c.in_ok-take_held-in-Records-default.ensures) c.go_behind.ensures.row

pub returns-in_ok-take_held-in-Records-default-clause-memory : goal.returns-in_ok-take_held-in-Records-default-clause-memory
returns-in_ok-take_held-in-Records-default-clause-memory c =
    let corner = c.copy-corner.ensures ∙ c.lo.ensures.value in
    let there = leaf_here c.args.latched.page.now c.copy-corner.result c.last_of-at_hand.result.now.lo _ (Records c.in-Records-default.records) c.leaf_at.result.1 corner c.leaf_at.ensures.value c.in-Records-default.is-0 in
    meets_records c.go_behind.result c.args.latched.page.now (goal_of c.args.line.command c.args.rest) c.last_of-at_hand.result.now.lo c.in-Records-default.records c.leaf_at.result.1 c.last_of-at_hand.ensures.goal there

pub returns-in_err-take_held-in-Records-default-clause-memory : goal.returns-in_err-take_held-in-Records-default-clause-memory
returns-in_err-take_held-in-Records-default-clause-memory c =
    let corner = c.copy-corner.ensures ∙ c.lo.ensures.value in
    let there = leaf_here c.args.latched.page.now c.copy-corner.result c.last_of-at_hand.result.now.lo _ (Records c.in-Records-default.records) c.leaf_at.result.1 corner c.leaf_at.ensures.value c.in-Records-default.is-0 in
    meets_records _ c.args.latched.page.now (goal_of c.args.line.command c.args.rest) c.last_of-at_hand.result.now.lo c.in-Records-default.records c.leaf_at.result.1 c.last_of-at_hand.ensures.goal there

pub returns-in-Child-default-clause-row : goal.returns-in-Child-default-clause-row
returns-in-Child-default-clause-row c =
    let corner = c.copy-corner.ensures ∙ c.lo.ensures.value in
    let there = leaf_here c.args.latched.page.now c.copy-corner.result c.last_of-at_hand.result.now.lo _ (Child c.in-Child-default.field-0-0) c.leaf_at.result.1 corner c.leaf_at.ensures.value c.in-Child-default.is-0 in
    passes_on c.args.latched.meta.now c.args.line c.args.rest c.args.found c.args.latched.id c.args.latched.page.now c.moves.result c.last_of-at_hand.result.now.lo (Child c.in-Child-default.field-0-0) c.leaf_at.result.1 c.last_of-at_hand.ensures.goal there tt (c.moves.ensures.stands ∙ c.onward.ensures) c.moves.ensures.op c.moves.ensures.jobs c.moves.ensures.fate

pub returns-in-Sibling-default-clause-row : goal.returns-in-Sibling-default-clause-row
returns-in-Sibling-default-clause-row c =
    let corner = c.copy-corner.ensures ∙ c.lo.ensures.value in
    let there = leaf_here c.args.latched.page.now c.copy-corner.result c.last_of-at_hand.result.now.lo _ (Sibling c.in-Sibling-default.field-0-0) c.leaf_at.result.1 corner c.leaf_at.ensures.value c.in-Sibling-default.is-0 in
    passes_on c.args.latched.meta.now c.args.line c.args.rest c.args.found c.args.latched.id c.args.latched.page.now c.adds.result c.last_of-at_hand.result.now.lo (Sibling c.in-Sibling-default.field-0-0) c.leaf_at.result.1 c.last_of-at_hand.ensures.goal there tt (c.adds.ensures.stands ∙ c.onward-in-Sibling-default.ensures) c.adds.ensures.op (rw (sym corner) (c.adds.ensures.jobs ∙ ap (λ (job : Job). job ∷ []) c.owed-owed.ensures)) c.adds.ensures.fate

pub returns-in-Child-default-clause-kept : goal.returns-in-Child-default-clause-kept
returns-in-Child-default-clause-kept c = stays_so _ _ (c.moves.ensures.stands ∙ c.onward.ensures) c.requires.gathering

pub returns-in-Sibling-default-clause-kept : goal.returns-in-Sibling-default-clause-kept
returns-in-Sibling-default-clause-kept c = stays_so _ _ (c.adds.ensures.stands ∙ c.onward-in-Sibling-default.ensures) c.requires.gathering
