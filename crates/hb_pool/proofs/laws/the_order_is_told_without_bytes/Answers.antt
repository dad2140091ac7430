use Rattle.hb_pool.proofs.Facts.Told.{brought_told, last_told, place_told, frames_told}
use Rattle.hb_pool.proofs.laws.the_order_is_told_without_bytes.Goals as goal

pub returns-clause-brought : goal.returns-clause-brought
returns-clause-brought c = brought_told

pub returns-clause-last : goal.returns-clause-last
returns-clause-last c = last_told

pub returns-clause-place : goal.returns-clause-place
returns-clause-place c = place_told

pub returns-clause-tells : goal.returns-clause-tells
returns-clause-tells c = frames_told
