use Rattle.std.proofs.Common.{Some, ap, sym, ◌∙◌}
use Rattle.hb_store.specs.Seen.{seen_as}
use Rattle.hb_map.proofs.Readings.{good_printed}
use Rattle.hb_map.proofs.pages.copy_page.Goals as goal

pub returns-clause-printed : goal.returns-clause-printed
returns-clause-printed g c =
    let memory = c.get.ensures.store.memory in
    let there = sym c.in-Some.ensures.page ∙ ap Some (sym c.in_ok-page-in-Some.ensures.value) in
    good_printed (seen_as c.args.store.now).meta c.in_ok-page-in-Some.field-0 memory.stands.layout (memory.good c.args.id c.in_ok-page-in-Some.field-0 there).2
