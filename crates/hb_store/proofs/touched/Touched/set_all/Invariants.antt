use Rattle.std.proofs.Common.{◌≡◌, length}
use Rattle.hb_store.specs.Replaying.{replayed_of, with_pages}
use Rattle.hb_store.proofs.touched.Touched.set_all.Given as goal

-- what the pages that are left make of the pages so far is what all of them make of the first ones
abbrev pub invariant-loop-rest : goal.invariant-loop-rest
invariant-loop-rest l = with_pages l.rest.items (replayed_of l.self) ≡ with_pages l.fn.pages.items (replayed_of l.fn.self)

abbrev pub decreases-loop-rest : goal.decreases-loop-rest
decreases-loop-rest l = length l.rest.items
