use Rattle.hb_latch.proofs.latches.Latches.new.Goals as goal
use Rattle.hb_lemmas.proofs.SortedEntries.{map_empty}
use Rattle.hb_latch.proofs.Facts.KeyOrder.{latch_order}
use Rattle.hb_latch.specs.Entries.{key_of}
use Rattle.hb_latch.proofs.TableViews.{mode_of}

pub returns : goal.returns
returns c = map_empty latch_order key_of mode_of _ c.new.ensures
