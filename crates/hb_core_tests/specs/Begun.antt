-- What the tests keep of a script that they read, and of a core that they begin.
use Rattle.std.specs.Prelude.{◌≡◌, ◌≤◌, ◌<◌, ◌^◌, ℕ, List, All, length}
use Rattle.hb_disk.specs.Model.{DiskModel}
use Rattle.hb_core.specs.Counting.{CountsWithin}
use Rattle.hb_steps.specs.KeptFits.{LineFits}
use Rattle.hb_steps.specs.KeptLines.{HasLineBody}
use Rattle.hb_core.specs.Showing.{RunningCore}
use Rattle.hb_core.specs.Taking.{all_idle}
use Rattle.hb_core.specs.Relied.{MayRun}
use Rattle.hb_set.specs.Order.{AreRising}
use Rattle.hb_set.specs.declared.scripts.Line.{Line}
use Rattle.hb_space.specs.Actors.{IsActor}

-- A line over one attribute that a core may take, and what it would store can be stored.
pub record IsFitLine (line : Line) : Type 0 where
  pub fits : LineFits 1 line
  pub body : HasLineBody line

-- Such lines, whose numbers rise, and steps of actors.
pub record IsFitScript (lines : List Line) (steps : List ℕ) : Type 0 where
  pub few : length lines < 2 ^ 32
  pub rising : AreRising lines
  pub fit : All IsFitLine lines
  pub actors : All IsActor steps

-- Steps may be taken of it, it isn't stopped, nobody has anything in hand, and its file has one attribute and some page.
pub record IsBegunCore (d : DiskModel) (c : RunningCore) : Type 0 where
  pub may : MayRun d c
  pub idle : c.activities ≡ all_idle
  pub counts : CountsWithin c
  pub actors : All IsActor c.steps
  pub attributes : c.store.meta.k ≡ 1
  pub some : 1 ≤ c.store.meta.high
