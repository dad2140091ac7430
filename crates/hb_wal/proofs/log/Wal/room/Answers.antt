use Rattle.std.proofs.Common.{◌≡◌, ◌+◌, ◌*◌, ◌≤◌, length, ap, arith}
use Rattle.hb_wal.specs.Log.{LogState, pending_bytes, framed_bytes}
use Rattle.hb_wal.specs.Kept.{total_of}
use Rattle.hb_wal.proofs.Kept.{pending-seen, total_fits, count_fits, framed-seen}
use Rattle.hb_wal.proofs.log.Wal.room.Goals as goal

module _ (c : goal.After-len) where
  count : length c.self.inside.groups.items ≡ c.len.result
  count = omega (arith, c.len.ensures, c.self.inside.groups.ok.0)

  waiting : c.pending.result ≡ total_of c.self.inside.groups.items
  waiting = omega (arith, c.pending.ensures.bytes, ap (λ (s : LogState). pending_bytes s.groups) c.self.view_is, pending-seen c.self.inside c.self.invariant)

  few : c.len.result ≤ total_of c.self.inside.groups.items
  few = omega (arith, count, count_fits c.self.inside c.self.invariant)

pub overflow_cast-framed : goal.overflow_cast-framed
overflow_cast-framed c = omega (arith, few c, total_fits c.self.inside c.self.invariant)

pub overflow_mul-framed : goal.overflow_mul-framed
overflow_mul-framed c = omega (arith, few c, total_fits c.self.inside c.self.invariant)

pub overflow_add-framed : goal.overflow_add-framed
overflow_add-framed c = omega (arith, few c, waiting c, total_fits c.self.inside c.self.invariant)

pub overflow_sub-self-inside-2 : goal.overflow_sub-self-inside-2
overflow_sub-self-inside-2 c = omega (arith, waiting c, count c, framed-seen c.self.inside c.self.invariant, c.self.invariant.log.fits)

pub returns : goal.returns
returns c =
    let count : length c.self.inside.groups.items ≡ c.len.result = omega (arith, c.len.ensures, c.self.inside.groups.ok.0) in
    let waiting : c.pending.result ≡ total_of c.self.inside.groups.items = omega (arith, c.pending.ensures.bytes, ap (λ (s : LogState). pending_bytes s.groups) c.self.view_is, pending-seen c.self.inside c.self.invariant) in
    let framed : framed_bytes c.args.self.now.groups ≡ c.pending.result + 5 * c.len.result = omega (arith, waiting, count, framed-seen c.self.inside c.self.invariant, ap (λ (s : LogState). framed_bytes s.groups) c.self.view_is) in
    omega (arith, c.saturating_sub.ensures, framed, ap (λ (s : LogState). s.len) c.self.view_is, ap (λ (s : LogState). s.written) c.self.view_is)
