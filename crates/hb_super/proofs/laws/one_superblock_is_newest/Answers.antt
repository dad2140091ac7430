use Rattle.hb_super.proofs.Newest.{some_newest, newest_parity}
use Rattle.hb_super.proofs.laws.one_superblock_is_newest.Goals as goal

pub returns-clause-some : goal.returns-clause-some
returns-clause-some c = some_newest

pub returns-clause-turn : goal.returns-clause-turn
returns-clause-turn c = λ bytes t s m n first second.
    c.a_place_has_one_superblock.ensures.turn bytes t s m n (newest_parity bytes t s m n first second) first.there second.there

pub returns-clause-said : goal.returns-clause-said
returns-clause-said c = λ bytes t s m n first second.
    c.a_place_has_one_superblock.ensures.said bytes t s m n (newest_parity bytes t s m n first second) first.there second.there
