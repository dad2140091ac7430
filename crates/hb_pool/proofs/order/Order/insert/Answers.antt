use Rattle.std.proofs.Common.{◌≡◌, ◌-◌, nat_eq, ℕ, List, None, ◌∷◌, ◌++◌, [], sym, ap, subst, ◌∙◌, arith}
use Rattle.std.specs.Map.{lookup}
use Rattle.hb_lemmas.proofs.Options.{none_so}
use Rattle.hb_pool.specs.Slots.{entry_of}
use Rattle.hb_pool.proofs.Facts.Front.{absent_behind, entry_at, was_in_front}
use Rattle.hb_pool.proofs.Facts.Moves.{back_behind}
use Rattle.hb_pool.proofs.order.Order.insert.Goals as goal

pub overflow_sub-self : goal.overflow_sub-self
overflow_sub-self c =
    let lt = was_in_front c.args.id c.self.inside.gone c.self.inside.pages.entries c.in-Some.place c.get_index_of.ensures.unique c.in-Some.ensures.index
    (subst (λ (o : List (ℕ × ℕ)). entry_of o c.args.id ≡ None) (sym c.self.view_is) c.requires.absent) in
    omega (arith, lt)

pub returns-in-Some : goal.returns-in-Some
returns-in-Some c =
    let lt = was_in_front c.args.id c.self.inside.gone c.self.inside.pages.entries c.in-Some.place c.get_index_of.ensures.unique c.in-Some.ensures.index
    (subst (λ (o : List (ℕ × ℕ)). entry_of o c.args.id ≡ None) (sym c.self.view_is) c.requires.absent) in
    let old = entry_at c.args.id c.self.inside.pages.entries c.in-Some.place c.in-Some.ensures.index in
    back_behind c.self.inside.gone c.in-Some.place c.self.inside.pages.entries _ (c.args.id, c.args.slot) lt c.self.invariant.within (c.come_back.ensures.entries c.args.id old.0 old.1)
    ∙ ap (λ (o : List (ℕ × ℕ)). o ++ (c.args.id, c.args.slot) ∷ []) c.self.view_is

pub add-requires-clause-absent : goal.add-requires-clause-absent
add-requires-clause-absent c =
    ap (lookup (nat_eq c.args.id)) c.make_room-self-inside.ensures.entries
    ∙ absent_behind c.args.id (c.self.inside.gone - c.make_room-self-inside.result) c.self.inside.pages.entries (none_so (lookup (nat_eq c.args.id) c.self.inside.pages.entries) (sym c.in_default.ensures.found))
