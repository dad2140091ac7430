use Rattle.std.proofs.Common.{arith}
use Rattle.hb_view.proofs.Facts.Decoded.{is_decoded, never_bad}
use Rattle.hb_view.proofs.heads.page_of.Goals as goal

pub returns-in-Ok-clause-value : goal.returns-in-Ok-clause-value
returns-in-Ok-clause-value c = is_decoded c.args.bytes.now c.in-Ok.page c.in-Ok.ensures.found

pub unreachable-requires : goal.unreachable-requires
unreachable-requires c = never_bad c.args.bytes.now c.in-Err-BadPage.field-0 (λ i. omega (arith, c.type_inv.bytes i)) c.requires c.in-Err-BadPage.field-0-is c.in-Err-BadPage.ensures.only
