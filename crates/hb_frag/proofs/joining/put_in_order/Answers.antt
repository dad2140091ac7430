-- A stable sort by the points.
use Rattle.std.proofs.Common.{rules}
use Rattle.std.proofs.lemmas.Result.{on_ok_weaker}
use Rattle.hb_frag.proofs.Facts.PointOrder.{sorted_by_points}
use Rattle.hb_frag.proofs.joining.put_in_order.Goals as goal

pub returns : goal.returns
returns c = on_ok_weaker c.sort_by.result (λ s. sorted_by_points c.args.records.now.items c.sort_by.new.self.items s c.sort_by.ensures.stable (λ f a r f' k. search rules)) c.sort_by.ensures.sorted
