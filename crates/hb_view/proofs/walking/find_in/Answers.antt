use Rattle.std.proofs.Common.{option_map, subst, sym}
use Rattle.hb_view.specs.Lists.{records_there}
use Rattle.hb_view.specs.Roots.{tree_there}
use Rattle.hb_view.specs.Views.{FindsAmong}
use Rattle.hb_view.proofs.Walked.{FindsWithin, finds, finds_none}
use Rattle.hb_view.proofs.walking.find_in.Goals as goal

pub returns-clause-found : goal.returns-clause-found
returns-clause-found c =
    let list = c.in_ok-list.list in
    finds (tree_there c.args.tree.now.k.number c.args.tree.now.bytes.now) c.args.p.now (records_there c.args.tree.now.k.number list.count list.first.now) (option_map (λ b. b.now) c.body_among.result) c.in_ok-list.ensures.leads.leaf
    (subst (λ k. FindsAmong c.args.p.now (records_there k list.count list.first.now) (option_map (λ b. b.now) c.body_among.result)) c.in_ok-list.ensures.same c.body_among.ensures.found)

pub returns-in_err-list-clause-found : goal.returns-in_err-list-clause-found
returns-in_err-list-clause-found c =
    let t = tree_there c.args.tree.now.k.number c.args.tree.now.bytes.now in
    subst (λ body. FindsWithin t c.args.p.now (option_map (λ b. b.now) body)) (sym c.from_residual.ensures) (finds_none t c.args.p.now c.in_err-list.ensures.leads)
