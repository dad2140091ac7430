-- Each point has one responsible page in every file that a crash may leave.
use Rattle.hb_steps.proofs.Walks.Names.{◌∷◌, All-cons, All-contains, IsSound}
use Rattle.hb_steps.specs.Laws.{PointsHaveOnePage}
use Rattle.hb_sound.specs.Laws.{NoPointIsHeldTwice, RootHasWalks}

pub one_page : RootHasWalks → NoPointIsHeldTwice → PointsHaveOnePage
one_page walks alone m files s p keeps among point =
    let sound : IsSound s = All-contains IsSound (files.durable ∷ files.later) s (All-cons IsSound files.durable files.later keeps.durable keeps.later) among in
    record {
      walk = walks s p sound point;
      alone = λ id other a b. alone s 0 p id other sound point a b;
    }
