use Rattle.hb_pool.proofs.Facts.Others.{last_changed, last_no_other, place_changed, place_no_other}
use Rattle.hb_pool.proofs.laws.each_call_changes_one_frame.Goals as goal

pub returns-clause-last : goal.returns-clause-last
returns-clause-last c = last_changed

pub returns-clause-last_uses : goal.returns-clause-last_uses
returns-clause-last_uses c = last_changed

pub returns-clause-last_others : goal.returns-clause-last_others
returns-clause-last_others c = last_no_other

pub returns-clause-last_other_uses : goal.returns-clause-last_other_uses
returns-clause-last_other_uses c = last_no_other

pub returns-clause-place : goal.returns-clause-place
returns-clause-place c = place_changed

pub returns-clause-place_uses : goal.returns-clause-place_uses
returns-clause-place_uses c = place_changed

pub returns-clause-place_others : goal.returns-clause-place_others
returns-clause-place_others c = place_no_other

pub returns-clause-place_other_uses : goal.returns-clause-place_other_uses
returns-clause-place_other_uses c = place_no_other
