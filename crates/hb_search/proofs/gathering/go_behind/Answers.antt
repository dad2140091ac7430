use Rattle.std.proofs.Common.{List, subst, sym}
use Rattle.hb_search.proofs.AskedSearches.{boxes_so, taken_last}
use Rattle.hb_search.proofs.gathering.go_behind.Goals as goal
use Rattle.hb_search.specs.Gathering.{GoesOnBy}
use Rattle.hb_search.specs.Searching.{IsGathering}
use Rattle.hb_space.specs.Boxes.{Area}

pub go_on-requires : goal.go_on-requires
go_on-requires c =
    let same = taken_last c.args.rest _ c.requires.front _ c.requires.at_hand c.in-Some.at_hand c.into_vec-boxes.ensures c.in-Some.ensures.items c.requires.boxes in
    let boxes = boxes_so c.requires.front _ _ c.requires.at_hand c.in-Some.at_hand c.args.area.now same c.in_ok-put_pieces.ensures in
    subst (λ (l : List Area). IsGathering l c.args.found.items) (sym boxes) c.requires.stays

pub returns-clause-row : goal.returns-clause-row
returns-clause-row c meta front at_hand boxes =
    let same = taken_last c.args.rest _ front _ at_hand c.in-Some.at_hand c.into_vec-boxes.ensures c.in-Some.ensures.items boxes in
    subst (λ (l : List Area). GoesOnBy meta c.args.line l c.args.found.items c.go_on.result) (boxes_so front _ _ at_hand c.in-Some.at_hand c.args.area.now same c.in_ok-put_pieces.ensures) (c.go_on.ensures.row meta)
