use Rattle.std.proofs.Common.{◌≡◌, ℕ, drop, map, take}
use Rattle.std.specs.Prelude.{◌||◌}
use Rattle.std.specs.FinSet as set
use Rattle.hb_pool.specs.Frames.{use_of}
use Rattle.hb_store.specs.Filling.{HaveRoom, PutsAll}
use Rattle.hb_ops.specs.SetPages.{has_page}
use Rattle.hb_store.proofs.pages.put_all.Given as goal

-- the pages so far were put, and there is a place for each of the others
abbrev pub invariant-loop-number : goal.invariant-loop-number
invariant-loop-number l = record {
  puts : PutsAll (take l.number-index l.pages) l.fn.pool l.pool;
  room : HaveRoom (map use_of l.pool) (drop l.number-index l.pages);
  added : (q : ℕ) → set.contains l.in_log q ≡ (has_page q (take l.number-index l.pages) || set.contains l.fn.in_log q);
}
