use Rattle.std.proofs.Common.{◌+◌, ◌<◌, ℕ, List, Some, length, drop, map, remove, get_or, sym, ap, subst, ◌∙◌, arith}
use Rattle.std.proofs.lemmas.List.{length-map}
use Rattle.std.proofs.lemmas.Option.{slice_get-get_or}
use Rattle.hb_lemmas.proofs.Lists.{place_within}
use Rattle.hb_pool.proofs.Facts.Moves.{gone_behind}
use Rattle.hb_pool.proofs.order.Order.let_go.Goals as goal

pub returns-clause-left : goal.returns-clause-left
returns-clause-left c =
    let g = c.self.inside.gone in
    let e = place_within (drop g c.self.inside.pages.entries) c.args.place (subst (λ (o : List (ℕ × ℕ)). c.args.place < length o) (sym c.self.view_is) c.requires) in
    ap (drop (g + 1)) c.move_index.ensures.entries
    ∙ gone_behind g c.args.place c.self.inside.pages.entries e.0 e.1
    ∙ ap (λ (o : List (ℕ × ℕ)). remove o c.args.place) c.self.view_is

pub returns-clause-slot : goal.returns-clause-slot
returns-clause-slot c =
    let long = length-map c.args.self.now (λ (e : ℕ × ℕ). e.1) in
    slice_get-get_or (map (λ (e : ℕ × ℕ). e.1) c.args.self.now) c.args.place 0 (omega (arith, long, c.requires))
    ∙ ap (λ (ns : List ℕ). Some (get_or ns c.args.place 0)) (sym c.slots.ensures)
