-- A call that has done nothing yet.
use Rattle.std.proofs.Common.{Ok}
use Rattle.hb_disk.specs.Model.{DiskModel, IsDisk}
use Rattle.hb_core.specs.Showing.{RunningCore}
use Rattle.hb_tidy.proofs.CallsMade.{nothing_looked}
use Rattle.hb_tidy.proofs.Facts.Joined.{over_goes}
use Rattle.hb_tidy.specs.Going.{Goes, MayTidy}
use Rattle.hb_tidy.specs.Looking.{LooksOver, NothingOf}

pub over_none : (d : DiskModel) (c : RunningCore) → IsDisk d → MayTidy d c → LooksOver {T = Unit {0}} NothingOf (Ok (tt {0})) (λ v. NothingOf) d c d c
over_none d c disk may = nothing_looked d c disk may (tt {0}) NothingOf (λ v. NothingOf) (λ s known. tt)

pub goes_none : (d : DiskModel) (c : RunningCore) → IsDisk d → MayTidy d c → Goes {T = Unit {0}} (Ok (tt {0})) d c d c
goes_none d c disk may = over_goes (Ok (tt {0})) (λ v. NothingOf) d d c c (over_none d c disk may)
