-- What a type of the project is to other threads.
use denote.RattleType.{RattleType}
use Rattle.std.specs.Thread.{IsSend, IsSync}

-- values of the type may go to another thread, and be read by several
pub record CrossesThreads (row : RattleType) : Type 0 where
  pub sent : IsSend row
  pub read_by_several : IsSync row
