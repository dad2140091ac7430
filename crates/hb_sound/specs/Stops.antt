-- Why an audit stopped.
use Rattle.std.specs.Prelude.{ℕ}
use Rattle.hb_sound.specs.declared.pages.PageStop.{PageStop}
use Rattle.hb_sound.specs.declared.pages.PageStop.TheVariants as pages
use Rattle.hb_sound.specs.declared.pages.AuditStop.{AuditStop}
use Rattle.hb_sound.specs.declared.pages.AuditStop.TheVariants as stops

-- what holds of the page and the rule, where it stopped at a broken one
abbrev pub OnBroken : (ℕ → ℕ → Type 0) → AuditStop → Type 0
OnBroken p (stops.Broken page rule) = p page rule
OnBroken p other = Unit {0}

abbrev pub page_stop : PageStop → AuditStop
page_stop pages.Failed = stops.Failed
page_stop pages.NoMemory = stops.NoMemory
