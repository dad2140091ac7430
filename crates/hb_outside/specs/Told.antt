-- The bytes of readers and writers, as sources and sinks tell them.
use Rattle.std.specs.Prelude.{ℕ, Bool, true, false, List, Option, None}
use Rattle.std.specs.Io.KnownBytes.{Appends}
use Rattle.hb_outside.specs.Calls.{SourceModel, SinkModel}
use Rattle.hb_outside.specs.Streams.{IsFront}

-- the known bytes, where they are told
abbrev pub told_bytes : Bool → Option (List ℕ) → Option (List ℕ)
told_bytes true known = known
told_bytes false known = None

-- a source and a sink of known bytes that tell them or not, with their counts of faults
abbrev pub told_source : Bool → Option (List ℕ) → ℕ → SourceModel
told_source tells known faults = record { left = told_bytes tells known; faults = faults }

abbrev pub told_sink : Bool → Option (List ℕ) → ℕ → SinkModel
told_sink tells known faults = record { written = told_bytes tells known; faults = faults }

-- a front of the piece was appended to the known bytes
abbrev pub AppendsSome : Option (List ℕ) → Option (List ℕ) → List ℕ → Type 0
AppendsSome old new piece = (front : List ℕ) × IsFront front piece × Appends old new front
