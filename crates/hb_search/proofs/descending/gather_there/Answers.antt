use Rattle.hb_search.proofs.SeenSearches.{goes_behind, searches_if}
use Rattle.hb_search.proofs.descending.gather_there.Goals as goal

pub go_behind-requires : goal.go_behind-requires
go_behind-requires c =
    goes_behind c.args.view.now c.args.line c.args.rest c.args.found _ c.records_in.new.found.items c.last_box-at_hand.result.now c.in-Some.area _ c.in_ok-area.field-0 c.requires c.last_box-at_hand.ensures c.lo.ensures.value c.into_vec-found.ensures c.in_ok-area.ensures.takes c.in-Some.is
    c.lo.ensures.area c.in_ok-area.ensures.area

pub returns-clause-row : goal.returns-clause-row
returns-clause-row c =
    searches_if c.args.view.now c.args.line c.args.rest c.args.found _ c.records_in.new.found.items c.last_box-at_hand.result.now c.in-Some.area _ c.in_ok-area.field-0 c.requires c.last_box-at_hand.ensures c.lo.ensures.value c.into_vec-found.ensures c.in_ok-area.ensures.takes c.in-Some.is
    c.go_behind.result c.go_behind.ensures.row
