use Rattle.hb_frag.specs.Grammar.{record_bytes}
use Rattle.hb_view.proofs.Replaced.{wrote_over}
use Rattle.hb_view.proofs.splicing.fill_record.Goals as goal

pub returns : goal.returns
returns c =
    wrote_over c.args.part.now (record_bytes (record { key = c.args.point.now; body = c.args.body.now })) c.put_record.new.into c.put_record.result c.requires c.put_record.auto.into c.put_record.ensures
