-- A run leaves the lines of its script as they were.
use Rattle.hb_core.proofs.Facts.Names.{◌≡◌, ℕ, List, sym, ◌∙◌, steps_go_on, Machine, HasRun, RunningCore, ShowsMachine, DiskModel, Answered}

pub run_keeps_lines : (d e : DiskModel) (m : Machine) (actors : List ℕ) (answers : List Answered) (first c : RunningCore) → ShowsMachine d first m → HasRun d m actors answers e c → c.lines ≡ first.lines
run_keeps_lines d e m actors answers first c shows run = sym run.shows.lines ∙ (steps_go_on actors m run.new run.steps).lines ∙ shows.lines
