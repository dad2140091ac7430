use Rattle.std.proofs.Common.{length, ap, subst, arith}
use Rattle.std.proofs.lemmas.List.Folds.{length-flat_map-take}
use Rattle.hb_space.specs.declared.records.Record.{Record}
use Rattle.hb_frag.specs.Grammar.{record_bytes}
use Rattle.hb_page_codec.specs.Writing.{Wrote}
use Rattle.hb_page_codec.proofs.Writes.{Wrote-next, Wrote-nothing, wrote_all}
use Rattle.hb_page_codec.proofs.encoding.put_records.Goals as goal

pub put_record-end-requires : goal.put_record-end-requires
put_record-end-requires c =
    let xs = c.args.records.now in
    let r = c.entry-item.result in
    let room = length-flat_map-take record_bytes xs c.loop-entry.entry-index r c.loop-entry-test.true in
    let size = ap (λ (e : Record). length (record_bytes e)) c.entry-item.is in
    omega (arith, room, size, c.requires, c.loop-entry.invariant.behind, c.loop-entry.auto.into)

pub loop-entry-preserved : goal.loop-entry-preserved
loop-entry-preserved c =
    let xs = c.args.records.now in
    let r = c.entry-item.result in
    let next = subst (λ (e : Record). Wrote c.loop-entry.into c.loop-entry.end (record_bytes e) c.put_record-end.new.into c.put_record-end.result) c.entry-item.is c.put_record-end.ensures in
    Wrote-next record_bytes xs c.loop-entry.entry-index r c.args.into.now c.args.at c.loop-entry.into c.loop-entry.end c.put_record-end.new.into c.put_record-end.result c.loop-entry-test.true c.loop-entry.invariant next

pub loop-entry-init : goal.loop-entry-init
loop-entry-init c = Wrote-nothing c.args.into.now c.args.at

pub returns : goal.returns
returns c = wrote_all record_bytes c.args.records.now c.loop-entry.entry-index c.args.into.now c.args.at c.loop-entry.into c.loop-entry.end c.loop-entry-test.false c.loop-entry.invariant
