use Rattle.hb_search.proofs.AskedSearches.{asked_search}
use Rattle.hb_search.proofs.deciding.next.Goals as goal

pub returns-clause-row : goal.returns-clause-row
returns-clause-row c = asked_search c.search.result c.args.state c.args.latched.meta.now c.args.latched.id c.args.latched.page.now c.in-SessionWalk.line c.in-SessionWalk.held c.in-SessionWalk.rest c.in-SessionWalk.found c.in-SessionWalk.is c.search.ensures.row
