use Rattle.std.proofs.Common.{rules}
use Rattle.hb_search.proofs.Sorted.{sorted_by_keys}
use Rattle.hb_search.proofs.gathering.put_in_order.Goals as goal

pub returns-clause-rising : goal.returns-clause-rising
returns-clause-rising c = sorted_by_keys c.args.found.now.items c.sort_unstable_by.new.self.items c.requires c.sort_unstable_by.ensures.permutation c.sort_unstable_by.ensures.sorted (λ f a r f' k. search rules)
