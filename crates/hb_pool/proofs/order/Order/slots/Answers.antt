use Rattle.std.proofs.Common.{ℕ, drop, map, ap, ◌∙◌}
use Rattle.std.proofs.lemmas.List.{drop-map, take_rest}
use Rattle.hb_pool.proofs.order.Order.slots.Goals as goal

pub returns : goal.returns
returns c =
    let g = c.self.inside.gone in
    take_rest c.as_slice-slots.result.now g
    ∙ ap (drop g) (c.as_slice-slots.ensures ∙ c.values.ensures.rest)
    ∙ drop-map (λ (e : ℕ × ℕ). e.1) g c.self.inside.pages.entries
    ∙ ap (map (λ (e : ℕ × ℕ). e.1)) c.self.view_is
