use Rattle.std.proofs.Common.{subst}
use Rattle.hb_activity.specs.declared.activities.Activity.{Activity}
use Rattle.hb_search.proofs.SeenSearches.{asked_row}
use Rattle.hb_search.specs.Gathering.{MayGather}
use Rattle.hb_view.specs.Views.{IsLiveAnd}
use Rattle.hb_search.proofs.descending.gather.Goals as goal

pub gather_there-requires : goal.gather_there-requires
gather_there-requires c = subst (λ (a : Activity). IsLiveAnd c.args.view.now (MayGather a)) c.in-SessionWalk.is c.requires

pub returns-clause-row : goal.returns-clause-row
returns-clause-row c = asked_row c.args.view.now c.args.state c.in-SessionWalk.line _ _ _ c.gather_there.result c.in-SessionWalk.is c.gather_there.ensures.row
