-- The pages that a caller gives to an operation.
use Rattle.std.specs.Prelude.{Option, option_map}
use denote.Bor.{Bor}
use Rattle.hb_frag.specs.declared.pages.LivePage.{LivePage}

-- the page behind a reference, where one is given
abbrev pub given : Option (Bor LivePage) → Option LivePage
given page = option_map (λ p. p.now) page
