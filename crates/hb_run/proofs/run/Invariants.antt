use Rattle.hb_core.specs.CoreSeen.{core_seen, core_disk}
use Rattle.hb_run.proofs.run.Given as goal

-- the run that begins here
abbrev pub ghosts-run_whole : goal.ghosts-run_whole
ghosts-run_whole g a = record { beginning = record { disk = g.D.Device.model (core_disk a.course.core); core = core_seen a.course.core; sink = g.K.Sink.model a.course.sink } }
