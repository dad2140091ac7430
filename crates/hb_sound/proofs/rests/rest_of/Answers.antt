use Rattle.std.proofs.Common.{[], refl, subst}
use Rattle.std.proofs.lemmas.List.Elements.{All-nil}
use Rattle.hb_space.specs.Boxes.{Area}
use Rattle.hb_frag.specs.Leaves.{leaves_of}
use Rattle.hb_sound.specs.Facts.{FindsBelow}
use Rattle.hb_sound.specs.Links.{IsRestOf}
use Rattle.hb_sound.proofs.rests.rest_of.Goals as goal

pub returns : goal.returns
returns c =
    let Q : Area → Type 0 = λ area. IsRestOf c.args.facts.now c.args.page.now.level (leaves_of c.args.page.now.frag area) c.add_leaves.new.rest in
    subst Q c.of-corners.ensures (c.add_leaves.ensures.rest [] (refl, All-nil (FindsBelow c.args.facts.now c.args.page.now.level)))
