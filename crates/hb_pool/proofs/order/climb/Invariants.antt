use Rattle.std.proofs.Common.{◌≡◌, ◌≤◌}
use Rattle.indexmap.specs.IndexMap.{index_map_len, move_index, spare}
use Rattle.hb_pool.proofs.order.climb.Given as goal

abbrev pub invariant-loop-at : goal.invariant-loop-at
invariant-loop-at l = record {
  entries : l.pages.entries ≡ move_index l.initial.pages.entries l.place l.at;
  len : index_map_len l.pages ≡ index_map_len l.initial.pages;
  room : spare l.initial.pages ≤ spare l.pages;
}
