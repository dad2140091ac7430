use Rattle.std.proofs.Common.{[], arith}
use Rattle.hb_disk_tests.proofs.logs.put.Goals as goal

pub force-requires : goal.force-requires
force-requires g c =
    let log = c.in-Ok.ensures.log in
    rw (c.append.ensures, c.in-Ok-new.ensures) (record {
      inside = omega (arith, c.requires, c.zero_area.ensures.wrote.run.became.size);
      has = λ _. ([], record { synced = log.synced; payloads_fit = log.payloads_fit; count = log.count; reads = log.reads });
    })
