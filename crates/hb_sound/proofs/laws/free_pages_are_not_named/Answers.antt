use Rattle.hb_sound.proofs.UnnamedPages.{free_pages_are_not_named}
use Rattle.hb_sound.proofs.laws.free_pages_are_not_named.Goals as goal

pub returns : goal.returns
returns c = free_pages_are_not_named
