use Rattle.std.proofs.Common.{sym, ap, ◌∙◌}
use Rattle.hb_pool.specs.Pools.{places}
use Rattle.hb_pool.proofs.Facts.Told.{frames_told}
use Rattle.hb_store.specs.Held.{StoreHeld}
use Rattle.hb_store.proofs.memory.Memory.places.Goals as goal

pub returns : goal.returns
returns c = c.places.ensures.value ∙ sym (frames_told c.self.inside.pool).1 ∙ ap (λ (h : StoreHeld). places h.uses) c.self.view_is
