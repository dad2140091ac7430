use Rattle.std.proofs.Common.{All, option_map}
use Rattle.hb_lemmas.proofs.Lists.{All-parts}
use Rattle.hb_frag.specs.Leaves.{leaves}
use Rattle.hb_frag.specs.Rules.{BelongsAt}
use Rattle.hb_frag.specs.Trees.{Tree}
use Rattle.hb_view.specs.Roots.{tree_there, rest_there}
use Rattle.hb_view.proofs.Passing.{cut_goes_on, cut_stops}
use Rattle.hb_view.proofs.rules.+behind_kinds.Goals as goal

pub returns-in_err-right-in-Cut : goal.returns-in_err-right-in-Cut
returns-in_err-right-in-Cut t c =
    let k = c.args.tree.now.k.number in
    let left = c.in-Cut.left.now in
    let W : Tree → Type 0 = λ t. All (BelongsAt c.args.level) (leaves t) in
    rw c.from_residual.ensures (cut_stops k c.args.tree.now.bytes.now left c.in-Cut.axis c.in-Cut.value W (W (tree_there k left)) c.in-Cut.ensures
    (λ w. ((All-parts (BelongsAt c.args.level) (leaves (tree_there k left)) (leaves (tree_there k (rest_there k left)))).0 w).0) c.in_err-right-in-Cut.ensures)

pub returns-in_ok-right-in-Cut : goal.returns-in_ok-right-in-Cut
returns-in_ok-right-in-Cut t c =
    let k = c.args.tree.now.k.number in
    let left = c.in-Cut.left.now in
    let right = c.in_ok-right-in-Cut.right.now in
    let W : Tree → Type 0 = λ t. All (BelongsAt c.args.level) (leaves t) in
    cut_goes_on k c.args.tree.now.bytes.now left right c.in-Cut.axis c.in-Cut.value W W W (option_map (λ b. b.now) c.behind_kinds-in-Cut.result) c.in-Cut.ensures c.in_ok-right-in-Cut.ensures
    (All-parts (BelongsAt c.args.level) (leaves (tree_there k left)) (leaves (tree_there k right))) c.behind_kinds-in-Cut.ensures
