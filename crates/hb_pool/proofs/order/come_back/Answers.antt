use Rattle.std.proofs.Common.{◌-◌, remove, ap, ◌∙◌, arith}
use Rattle.std.proofs.lemmas.List.Edits.{length-remove}
use Rattle.indexmap.specs.IndexMap.{set_value_at}
use Rattle.indexmap.proofs.CallerLemmas.{index_map_len-with_value_at}
use Rattle.hb_pool.proofs.Facts.Front.{last_written}
use Rattle.hb_pool.proofs.Facts.Moves.{put_last_there}
use Rattle.hb_pool.proofs.order.come_back.Goals as goal

pub returns-clause-entries : goal.returns-clause-entries
returns-clause-entries c id old at =
    let long = length-remove c.args.pages.now.entries c.args.place c.requires in
    ap (λ es. set_value_at es (c.len-last.result - 1) c.args.slot)
    (c.move_index.ensures.entries ∙ put_last_there c.args.pages.now.entries c.args.place (c.len-last.result - 1) (id, old) at (omega (arith, c.len-last.ensures.len)))
    ∙ last_written (remove c.args.pages.now.entries c.args.place) (c.len-last.result - 1) id old c.args.slot (omega (arith, long, c.len-last.ensures.len))

pub returns-clause-len : goal.returns-clause-len
returns-clause-len c = index_map_len-with_value_at c.move_index.new.self (c.len-last.result - 1) c.args.slot ∙ c.move_index.ensures.reordered.1
