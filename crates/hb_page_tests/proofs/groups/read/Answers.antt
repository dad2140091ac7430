use Rattle.std.proofs.Common.{List, [], ◌∷◌, map}
use Rattle.std.specs.List.{AllByRecursion}
use Rattle.std.proofs.lemmas.List.Elements.{All-from_recursion, recursion_from_All}
use Rattle.hb_log_codec.specs.declared.groups.Group.{Group}
use Rattle.hb_log_codec.specs.Groups.{FitsGroup}
use Rattle.hb_log_codec.specs.Reading.{logged}
use Rattle.hb_page_tests.proofs.groups.read.Goals as goal

each_fits : (groups : List Group) → AllByRecursion (FitsGroup 1) (map logged groups) → AllByRecursion (λ g. FitsGroup 1 (logged g)) groups
each_fits [] all = tt
each_fits (g ∷ rest) all = (all.0, each_fits rest all.1)

pub written-again-requires : goal.written-again-requires
written-again-requires c =
    let groups = c.in-Ok.groups.items in
    rw (c.deref.ensures.value) (All-from_recursion (λ g. FitsGroup 1 (logged g)) groups (each_fits groups (recursion_from_All (FitsGroup 1) (map logged groups) c.in-Ok.ensures.read.fits)))
