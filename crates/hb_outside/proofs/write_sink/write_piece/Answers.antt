use Rattle.std.proofs.Common.{length, take, drop, ◌+◌, ◌-◌, arith, rules}
use Rattle.std.proofs.lemmas.List.{length-take, length-drop}
use Rattle.std.specs.Io.KnownBytes.{Appends}
use Rattle.hb_outside.proofs.KnownLemmas.{AppendsSome-front, Appends-Keeps, Appends-more}
use Rattle.hb_outside.proofs.write_sink.write_piece.Goals as goal
use Rattle.hb_outside.proofs.write_sink.write_piece.Goals.{in-Ok, in-Err}

pub returns-in-Ok-eq0-clause-failed : goal.returns-in-Ok-eq0-clause-failed
returns-in-Ok-eq0-clause-failed g c =
    let contents = g.W.Write.contents in
    let piece = c.args.piece.now in
    let n = c.in-Ok-eq0.field-0 in
    let wrote : Appends (contents c.loop.writer) (contents c.write.new.self) (take n (take (length piece - c.loop.at) (drop c.loop.at piece))) = search rules in
    AppendsSome-front _ _ piece (c.loop.at + n) (Appends-more (contents c.args.writer.now) (contents c.loop.writer) _ piece c.loop.at n c.loop.invariant.written wrote)

pub returns-in-Err-2-clause-failed : goal.returns-in-Err-2-clause-failed
returns-in-Err-2-clause-failed g c =
    AppendsSome-front _ _ c.args.piece.now c.loop.at
    (Appends-Keeps _ (g.W.Write.contents c.loop.writer) _ _ c.loop.invariant.written c.in-Err-2.ensures.bytes)

pub loop-preserved : goal.loop-preserved
loop-preserved g c =
    let contents = g.W.Write.contents in
    let piece = c.args.piece.now in
    elim c.match-write.branch [
      | in-Ok w ↦ rw w.at-is (record {
        within = omega (arith, simp (length-take, length-drop) at w.in-Ok.ensures.bound);
        written = Appends-more (contents c.args.writer.now) (contents c.loop.writer) (contents c.write.new.self) piece c.loop.at w.in-Ok.n c.loop.invariant.written w.in-Ok.ensures.bytes;
      })
      | in-Err w ↦ rw w.at-is (record {
        within = c.loop.invariant.within;
        written = Appends-Keeps (contents c.args.writer.now) (contents c.loop.writer) (contents c.write.new.self) _ c.loop.invariant.written w.in-Err.ensures.bytes;
      })
    ]

pub returns-clause-failed : goal.returns-clause-failed
returns-clause-failed g c = AppendsSome-front _ _ c.args.piece.now c.loop.at c.loop.invariant.written
