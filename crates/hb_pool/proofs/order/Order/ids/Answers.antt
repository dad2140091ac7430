use Rattle.std.proofs.Common.{ℕ, ◌≤◌, List, drop, map, count_by, ap, subst, ◌∙◌}
use Rattle.std.proofs.lemmas.List.{drop-map, take_rest}
use Rattle.hb_pool.specs.Slots.{is_page}
use Rattle.hb_pool.proofs.Facts.Front.{once_behind}
use Rattle.hb_pool.proofs.order.Order.ids.Goals as goal

pub returns-clause-value : goal.returns-clause-value
returns-clause-value c =
    let g = c.self.inside.gone in
    take_rest c.as_slice-ids.result.now g
    ∙ ap (drop g) (c.as_slice-ids.ensures ∙ c.keys.ensures.rest)
    ∙ drop-map (λ (e : ℕ × ℕ). e.0) g c.self.inside.pages.entries
    ∙ ap (map (λ (e : ℕ × ℕ). e.0)) c.self.view_is

pub returns-clause-once : goal.returns-clause-once
returns-clause-once c id = subst (λ (o : List (ℕ × ℕ)). count_by (is_page id) o ≤ 1) c.self.view_is (once_behind id c.self.inside.gone c.self.inside.pages.entries c.keys.ensures.unique)
