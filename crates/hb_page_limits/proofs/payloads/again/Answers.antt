use Rattle.std.proofs.Common.{ℕ, List, [], ◌∷◌, map}
use Rattle.std.specs.List.{AllByRecursion}
use Rattle.std.proofs.lemmas.List.Elements.{All-from_recursion, recursion_from_All}
use Rattle.hb_log_codec.specs.declared.groups.Group.{Group}
use Rattle.hb_log_codec.specs.Groups.{FitsGroup}
use Rattle.hb_log_codec.specs.Reading.{logged}
use Rattle.hb_page_limits.proofs.payloads.again.Goals as goal

each_fits : (k : ℕ) → (groups : List Group) → AllByRecursion (FitsGroup k) (map logged groups) → AllByRecursion (λ g. FitsGroup k (logged g)) groups
each_fits k [] all = tt
each_fits k (g ∷ rest) all = (all.0, each_fits k rest all.1)

pub written-requires : goal.written-requires
written-requires c =
    let groups = c.in-Ok.groups.items in
    rw (c.deref.ensures.value) (All-from_recursion (λ g. FitsGroup c.args.k.number (logged g)) groups (each_fits c.args.k.number groups (recursion_from_All (FitsGroup c.args.k.number) (map logged groups) c.in-Ok.ensures.read.fits)))
