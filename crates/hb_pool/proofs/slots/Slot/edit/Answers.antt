use Rattle.std.proofs.Common.{refl, ap, subst, ◌∙◌}
use Rattle.hb_pool.specs.Frames.{filled}
use Rattle.hb_pool.specs.Editing.{AreWhole}
use Rattle.hb_pool.specs.Slots.{Content, framed}
use Rattle.hb_pool.proofs.slots.Slot.edit.Goals as goal

pub returns : goal.returns
returns g c id = record {
  bytes = c.edit.new.arg2;
  changed = record { shown = _; shows = c.deref_mut.ensures.value ∙ ap (λ (s : Content). s.bytes) c.self.view_is; left = _; met = c.edit.ensures; leaves = refl };
  whole = subst AreWhole c.deref.ensures c.are_whole.ensures;
  left = ap (λ (s : Content). filled c.edit.new.arg2 (framed id s)) c.self.view_is;
}
