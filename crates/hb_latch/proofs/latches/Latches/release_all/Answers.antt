use Rattle.std.proofs.Common.{rules, ℕ, not, ◌==◌, ap, ◌∙◌}
use Rattle.arrayvec.proofs.ArrayVecLemmas.{filter-from_retain}
use Rattle.hb_latch.specs.declared.entries.Held.{Held}
use Rattle.hb_latch.specs.Tables.{LatchTable, mode_at}
use Rattle.hb_latch.proofs.Retained.{kept_left, modes_left, none_left, rise_left, table_left}
use Rattle.hb_latch.proofs.TableViews.{count_is}
use Rattle.hb_latch.proofs.latches.Latches.release_all.Goals as goal

pub invariant_of-self : goal.invariant_of-self
invariant_of-self c =
    let left = filter-from_retain _ (λ (h : Held). not (h.actor == c.args.actor)) _ (λ x b f' y k. search rules) _ _ c.retain.ensures.filtered in
    rw left (kept_left (λ (actor : ℕ). not (actor == c.args.actor)) c.self.inside.held.items c.self.invariant)

pub returns-clause-left : goal.returns-clause-left
returns-clause-left c =
    let left = filter-from_retain _ (λ (h : Held). not (h.actor == c.args.actor)) _ (λ x b f' y k. search rules) _ _ c.retain.ensures.filtered in
    let table = table_left (λ (actor : ℕ). not (actor == c.args.actor)) c.self.inside.held.items c.self.invariant.rising in
    rw (left, ← c.self.view_is) (λ other page. ap (λ (t : LatchTable). mode_at t other page) table ∙ modes_left _ c.args.actor other page)

pub returns-clause-none : goal.returns-clause-none
returns-clause-none c =
    let left = filter-from_retain _ (λ (h : Held). not (h.actor == c.args.actor)) _ (λ x b f' y k. search rules) _ _ c.retain.ensures.filtered in
    rw left (count_is _ c.args.actor (rise_left (λ (actor : ℕ). not (actor == c.args.actor)) c.self.inside.held.items c.self.invariant.rising) ∙ none_left c.args.actor c.self.inside.held.items)
