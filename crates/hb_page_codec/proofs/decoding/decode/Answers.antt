use Rattle.std.proofs.Common.{arith}
use Rattle.hb_page_codec.proofs.Decoded.{is_found, is_only, is_light_page, is_writable}
use Rattle.hb_page_codec.proofs.decoding.decode.Goals as goal

pub returns-clause-found : goal.returns-clause-found
returns-clause-found c = is_found c.args.bytes.now c.page_of.result (λ i. omega (arith, c.type_inv.bytes i)) c.page_of.ensures.gives

pub returns-clause-only : goal.returns-clause-only
returns-clause-only c = λ page s. is_only c.args.bytes.now c.page_of.result page c.page_of.ensures.gives s

pub returns-clause-light : goal.returns-clause-light
returns-clause-light c = is_light_page c.args.bytes.now c.page_of.result (λ i. omega (arith, c.type_inv.bytes i)) c.page_of.ensures.gives

pub returns-clause-writable : goal.returns-clause-writable
returns-clause-writable c = is_writable c.args.bytes.now c.page_of.result (λ i. omega (arith, c.type_inv.bytes i)) c.page_of.ensures.gives
