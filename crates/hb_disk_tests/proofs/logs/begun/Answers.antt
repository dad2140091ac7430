use Rattle.std.proofs.Common.{[], arith}
use Rattle.hb_disk_tests.proofs.logs.begun.Goals as goal

pub returns : goal.returns
returns g c =
    let empty = c.in-Ok.ensures.log in
    let waits = c.wait.ensures in
    record {
      ready = record {
        inside = omega (arith, waits.area, waits.len, c.requires, c.zero_area.ensures.wrote.run.became.size);
        has = λ _. (
          [],
          record {
            synced = rw (waits.area, waits.len) empty.synced;
            payloads_fit = empty.payloads_fit;
            count = rw waits.written empty.count;
            reads = rw (waits.area, waits.len, waits.written) empty.reads;
          },
        );
      };
    }
