use Rattle.std.proofs.Common.{Err, ap, sym}
use Rattle.std.proofs.lemmas.Result.{err_from_is_err_and}
use Rattle.hb_store.specs.Seen.{seen_as}
use Rattle.hb_store.proofs.Facts.LookLaws.{LooksUp-stop}
use Rattle.hb_store.proofs.Heads.{free_is_page}
use Rattle.hb_store.proofs.store.Store.free_head.Goals as goal

pub returns-in_err-fetch-clause-sound : goal.returns-in_err-fetch-clause-sound
returns-in_err-fetch-clause-sound g c =
    let self = c.args.self.now in
    let p = err_from_is_err_and c.from_residual.result c.from_residual.ensures.1 in
    λ durable later keeps sound next is. rw (p.1, p.2) (λ fault memory. free_is_page (g.D.Device.model self.disk) (seen_as self) durable later keeps (g.met.D.Device.is_disk self.disk) c.args.head next is
    (c.in_err-fetch.ensures.sound durable later keeps sound fault memory))

pub returns-in_err-fetch-clause-looks : goal.returns-in_err-fetch-clause-looks
returns-in_err-fetch-clause-looks g c =
    let p = err_from_is_err_and c.from_residual.result c.from_residual.ensures.1 in
    LooksUp-stop _ c.from_residual.result p.0 (ap Err (sym p.2)) p.1 (g.D.Device.model c.args.self.now.disk) (g.D.Device.model c.fetch.new.self.disk) (seen_as c.args.self.now) (seen_as c.fetch.new.self) c.in_err-fetch.ensures.looks
