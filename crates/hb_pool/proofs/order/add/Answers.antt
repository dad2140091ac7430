use Rattle.std.proofs.Common.{◌≡◌, nat_eq, subst, ◌∙◌}
use Rattle.std.specs.Result.{OnOk}
use Rattle.indexmap.specs.IndexMap.{insert_entry}
use Rattle.indexmap.proofs.CallerLemmas.{insert_entry-new}
use Rattle.hb_pool.proofs.order.add.Goals as goal

pub returns-clause-entries : goal.returns-clause-entries
returns-clause-entries c =
    subst (λ r. OnOk r (c.insert.new.self.entries ≡ insert_entry nat_eq c.args.pages.now.entries c.args.id c.args.slot)) c.unwrap.ensures c.insert.ensures.entries
    ∙ insert_entry-new nat_eq c.args.pages.now c.args.id c.args.slot c.requires.absent
