-- What holds of every script of a text.
use Rattle.std.specs.Prelude.{◌≡◌, ℕ, ◌≤◌, List}
use Rattle.std.specs.List.{AllByRecursion}
use Rattle.hb_space.specs.declared.actors.TheConstants.{SESSIONS}
use Rattle.hb_set.specs.declared.scripts.Line.{Line}
use Rattle.hb_set.specs.Machine.{attributes}
use Rattle.hb_set.specs.Order.{AreRising}

-- a line of a script over k attributes
pub record IsLineFor (k : ℕ) (l : Line) : Type 0 where
  pub number_from : 1 ≤ l.number
  pub number_to : l.number ≤ 1000000
  pub session_from : 1 ≤ l.session
  pub session_to : l.session ≤ SESSIONS
  pub attributes_are : attributes l.command ≡ k

-- the command lines of a script over k attributes: their numbers rise
pub record IsScriptFor (k : ℕ) (ls : List Line) : Type 0 where
  pub lines : AllByRecursion (IsLineFor k) ls
  pub rising : AreRising ls
