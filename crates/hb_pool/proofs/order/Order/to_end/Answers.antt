use Rattle.std.proofs.Common.{◌≡◌, ◌-◌, ℕ, List, ◌∷◌, [], ◌++◌, length, drop, remove, slice_get, ap, ◌∙◌, arith}
use Rattle.std.proofs.lemmas.List.{length-drop}
use Rattle.hb_pool.proofs.Facts.Moves.{last_behind}
use Rattle.hb_pool.proofs.order.Order.to_end.Goals as goal

pub overflow_add-from : goal.overflow_add-from
overflow_add-from c =
    let long = length-drop c.self.inside.gone c.self.inside.pages.entries in
    let same = ap length c.self.view_is in
    omega (arith, long, same, c.len-last.ensures.len)

pub returns-then-from-last : goal.returns-then-from-last
returns-then-from-last c e at =
    let there : slice_get (drop c.self.inside.gone c.self.inside.pages.entries) c.args.place ≡ _ = ap (λ (o : List (ℕ × ℕ)). slice_get o c.args.place) c.self.view_is ∙ at in
    ap (drop c.self.inside.gone) c.move_index.ensures.entries
    ∙ last_behind c.self.inside.gone c.args.place (c.len-last.result - 1) c.self.inside.pages.entries e there (omega (arith, c.len-last.ensures.len))
    ∙ ap (λ (o : List (ℕ × ℕ)). remove o c.args.place ++ e ∷ []) c.self.view_is

pub returns-else-from-last : goal.returns-else-from-last
returns-else-from-last c e at =
    let there : slice_get (drop c.self.inside.gone c.self.inside.pages.entries) c.args.place ≡ _ = ap (λ (o : List (ℕ × ℕ)). slice_get o c.args.place) c.self.view_is ∙ at in
    ap (drop c.self.inside.gone) c.climb.ensures.entries
    ∙ last_behind c.self.inside.gone c.args.place (c.len-last.result - 1) c.self.inside.pages.entries e there (omega (arith, c.len-last.ensures.len))
    ∙ ap (λ (o : List (ℕ × ℕ)). remove o c.args.place ++ e ∷ []) c.self.view_is
