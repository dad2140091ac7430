use Rattle.std.proofs.Common.{rules}
use Rattle.std.proofs.lemmas.Fn.{always_returns_same}
use Rattle.hb_latch.specs.Tables.{latch_cmp}
use Rattle.hb_latch.specs.Entries.{key_of}
use Rattle.hb_latch.proofs.latches.search.Goals as goal
use Rattle.hb_lemmas.proofs.SortedEntries.{rise_at}
use Rattle.hb_latch.proofs.Facts.KeyOrder.{latch_order, exact_keys}
use Rattle.hb_latch.proofs.TableViews.{mode_of}
use Rattle.hb_lemmas.proofs.Places.{found_at, gap_at}

-- the closure compares a latch's key
pub returns-clause-found : goal.returns-clause-found
returns-clause-found c =
    let facts = c.binary_search_by.ensures in
    found_at key_of exact_keys c.args.latches.now (c.args.actor, c.args.page) c.binary_search_by.result facts.bound (facts.position (λ h. latch_cmp (key_of h) (c.args.actor, c.args.page)) (always_returns_same _ _ _ (λ a r g called. search rules)))

pub returns-clause-absent : goal.returns-clause-absent
returns-clause-absent c =
    let facts = c.binary_search_by.ensures in
    gap_at key_of latch_order c.args.latches.now (c.args.actor, c.args.page) (rise_at latch_order key_of mode_of c.args.latches.now c.requires.rising) c.binary_search_by.result facts.bound (facts.position (λ h. latch_cmp (key_of h) (c.args.actor, c.args.page)) (always_returns_same _ _ _ (λ a r g called. search rules)))
