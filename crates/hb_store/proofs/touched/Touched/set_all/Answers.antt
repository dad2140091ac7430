use Rattle.std.proofs.Common.{rules}
use Rattle.hb_store.specs.Replaying.{replayed_of, with_pages}
use Rattle.hb_store.proofs.Touches.{set_next}
use Rattle.hb_store.proofs.touched.Touched.set_all.Goals as goal

pub loop-rest-preserved : goal.loop-rest-preserved
loop-rest-preserved c =
    set_next c.loop-rest.rest.items c.remove-id.result c.remove-id.new.self.items (replayed_of c.loop-rest.self) (replayed_of c.set.new.self) (with_pages c.args.pages.items (replayed_of c.args.self.now))
    (search rules) c.remove-id.ensures.value c.remove-id.ensures.items c.in_ok-set.ensures c.loop-rest.invariant
