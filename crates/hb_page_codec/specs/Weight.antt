-- What a page that has a spelling may weigh.
use Rattle.std.specs.Prelude.{◌≤◌}
use Rattle.hb_space.specs.declared.form.TheConstants.{PAGE}
use Rattle.hb_frag.specs.declared.pages.Page.{Page}
use Rattle.hb_frag.specs.declared.pages.Page.TheVariants.{Live, Free}
use Rattle.hb_frag.specs.Leaves.{weight_of}

-- a live page weighs no more than a page has bytes
abbrev pub IsLight : Page → Type 0
IsLight (Live page) = weight_of page.frag ≤ PAGE
IsLight (Free next) = Unit {0}
