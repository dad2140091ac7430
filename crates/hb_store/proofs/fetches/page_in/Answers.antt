use Rattle.std.proofs.Common.{arith}
use Rattle.std.proofs.lemmas.Result.{on_ok_weaker}
use Rattle.hb_store.proofs.Checked.{breaks_holds, can_be_written, good_read, no_page_holds, well_made_good}
use Rattle.hb_store.proofs.fetches.page_in.Goals as goal

pub returns-then-well_made-clause-good : goal.returns-then-well_made-clause-good
returns-then-well_made-clause-good c = well_made_good c.args.meta.now c.args.bytes.now (λ i. omega (arith, c.type_inv.bytes i)) (c.well_made.ensures.0 c.if-well_made.true)

pub good_page-requires : goal.good_page-requires
good_page-requires c = record { spelled = can_be_written c.args.bytes.now c.in-Some.view (λ i. omega (arith, c.type_inv.bytes i)) c.in-Some.ensures }

pub returns-in-Some-clause-good : goal.returns-in-Some-clause-good
returns-in-Some-clause-good c = on_ok_weaker c.good_page.result (good_read c.args.meta.now c.args.bytes.now c.in-Some.view (λ i. omega (arith, c.type_inv.bytes i)) c.in-Some.ensures) c.good_page.ensures.good

pub returns-in-Some-clause-why : goal.returns-in-Some-clause-why
returns-in-Some-clause-why c = breaks_holds c.good_page.result c.args.meta.now c.args.bytes.now c.args.id c.in-Some.view (λ i. omega (arith, c.type_inv.bytes i)) c.in-Some.ensures c.good_page.ensures.broken

pub returns-in-None-clause-why : goal.returns-in-None-clause-why
returns-in-None-clause-why c = no_page_holds c.args.meta.now c.args.bytes.now c.args.id c.damaged.result c.damaged.ensures c.in-None.ensures
