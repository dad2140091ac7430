use Rattle.std.proofs.Common.{◌≡◌, ◌≤◌, length, subst, ap, arith}
use Rattle.std.proofs.lemmas.List.{nil_from_length}
use Rattle.hb_wal.specs.Log.{LogState, pending_bytes}
use Rattle.hb_wal.specs.Kept.{log_seen}
use Rattle.hb_wal.proofs.Kept.{pending-seen, total_fits}
use Rattle.hb_wal.proofs.Waiting.{count-pending}
use Rattle.hb_wal.proofs.log.Wal.pending.Goals as goal

pub overflow_cast-result : goal.overflow_cast-result
overflow_cast-result c = omega (arith, c.len.ensures, c.self.inside.bytes.ok.0, c.self.invariant.bytes_len, total_fits c.self.inside c.self.invariant)

pub returns : goal.returns
returns c =
    let same : pending_bytes (log_seen c.self.inside).groups ≡ pending_bytes c.args.self.now.groups = ap (λ (s : LogState). pending_bytes s.groups) c.self.view_is in
    let few : length c.args.self.now.groups ≤ pending_bytes c.args.self.now.groups =
    subst (λ (s : LogState). length s.groups ≤ pending_bytes s.groups) c.self.view_is (count-pending (log_seen c.self.inside).groups c.self.invariant.log.groups) in
    record {
      bytes = omega (arith, c.len.ensures, c.self.inside.bytes.ok.0, c.self.invariant.bytes_len, pending-seen c.self.inside c.self.invariant, same);
      none = (
        λ zero. nil_from_length c.args.self.now.groups (omega (arith, zero, few, c.len.ensures, c.self.inside.bytes.ok.0, c.self.invariant.bytes_len, pending-seen c.self.inside c.self.invariant, same)),
        λ none. omega (arith, ap pending_bytes none, c.len.ensures, c.self.inside.bytes.ok.0, c.self.invariant.bytes_len, pending-seen c.self.inside c.self.invariant, same),
      );
    }
