use Rattle.std.proofs.Common.{All, refl, sym, subst}
use Rattle.std.proofs.lemmas.Bool.{false≢true}
use Rattle.hb_space.specs.Boxes.{Area}
use Rattle.hb_frag.specs.Leaves.{leaves_of}
use Rattle.hb_frag.specs.Rules.{IsInOrder}
use Rattle.hb_view.specs.Seen.{tree_seen}
use Rattle.hb_view.proofs.broken.is_in_order.Goals as goal

pub returns-in-Some : goal.returns-in-Some
returns-in-Some c =
    let W : Area → Type 0 = λ a. All IsInOrder (leaves_of (tree_seen c.args.inside.now.tree) a) in
    (λ t. subst W c.of-bounds.ensures c.in-Some.ensures.passes.0, λ all. refl)

pub returns-in-None : goal.returns-in-None
returns-in-None c =
    let W : Area → Type 0 = λ a. All IsInOrder (leaves_of (tree_seen c.args.inside.now.tree) a) in
    (λ t. absurd (false≢true t), λ all. absurd (c.in-None.ensures.passes (subst W (sym c.of-bounds.ensures) all)))
