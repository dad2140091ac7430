use Rattle.std.proofs.Common.{Some, ap, ◌∙◌}
use Rattle.hb_sound.specs.declared.page_facts.Fact.{Fact}
use Rattle.hb_sound.specs.Facts.{if_seen}
use Rattle.hb_sound.proofs.covers.is_loose_fact.Goals as goal

pub returns-in-Live : goal.returns-in-Live
returns-in-Live c facts are below at =
    let e = ap if_seen (at ∙ ap (λ (f : Fact). Some f) c.in-Live.is) in
    rw c.in-Live.is (c.is_loose.ensures facts are (below c.args.id c.in-Live.seen e) e)
