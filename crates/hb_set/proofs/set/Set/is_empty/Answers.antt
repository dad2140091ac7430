use Rattle.std.proofs.Common.{◌≡◌, ◌∙◌, vec_len, nat_eq, ap, arith}
use Rattle.std.specs.FinMap as map
use Rattle.hb_set.proofs.Views.{len_is}
use Rattle.hb_set.proofs.set.Set.is_empty.Goals as goal

pub returns : goal.returns
returns c =
    let same : vec_len c.self.inside.records ≡ map.len c.args.self.now = omega (arith, c.self.inside.records.ok.0, len_is c.self.inside.records.items c.self.invariant, ap map.len c.self.view_is) in
    c.is_empty.ensures ∙ ap (λ n. nat_eq n 0) same
