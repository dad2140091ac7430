use Rattle.std.specs.Io.KnownBytes.{Keeps}
use Rattle.hb_outside.proofs.read_source.read_once.Given as goal

-- the reads so far took nothing
abbrev pub invariant-loop : goal.invariant-loop
invariant-loop g l = Keeps (g.R.Read.remaining l.fn.reader) (g.R.Read.remaining l.reader)
