use Rattle.std.proofs.Common.{◌≡◌, ◌+◌, List, ℕ, length, drop, sym, ap, subst, arith, length-take}
use Rattle.hb_wal.specs.declared.groups.Group.{Group}
use Rattle.hb_wal.specs.Log.{LogState, IsLog, after_force}
use Rattle.hb_wal.specs.Kept.{log_seen, total_of, waiting_of}
use Rattle.hb_wal.proofs.Kept.{frame_fits, length-forced, log-forced}
use Rattle.hb_wal.proofs.log.Wal.forget.Goals as goal

pub overflow_add-self-2 : goal.overflow_add-self-2
overflow_add-self-2 c =
    let log = subst IsLog c.self.view_is c.self.invariant.log in
    let fits = frame_fits c.args.self.now c.requires log in
    omega (arith, fits, c.pending.ensures.bytes, ap (λ (s : LogState). s.written) c.self.view_is, ap (λ (s : LogState). s.len) c.self.view_is)

module _ (c : goal.After-truncate) where
  is_log : IsLog c.args.self.now
  is_log = subst IsLog c.self.view_is c.self.invariant.log

  written_is : c.self.inside.written + (5 + c.pending.result) ≡ (after_force c.args.self.now).written
  written_is = omega (arith, c.pending.ensures.bytes, length-forced c.args.self.now.groups c.requires, ap (λ (s : LogState). s.written) c.self.view_is)

  pub seen : log_seen (record { area = c.self.inside.area; len = c.self.inside.len; written = c.self.inside.written + (5 + c.pending.result); bytes = c.truncate.new.self; groups = c.clear.new.self }) ≡ after_force c.args.self.now
  seen = λ i. record {
    area = ap (λ (s : LogState). s.area) c.self.view_is i;
    len = ap (λ (s : LogState). s.len) c.self.view_is i;
    written = written_is i;
    groups = ap (λ (l : List Group). waiting_of (drop 4 c.truncate.new.self.items) l) c.clear.ensures.items i;
  }

  pub left : length c.truncate.new.self.items ≡ 4
  left = omega (arith, ap (λ (l : List ℕ). length l) c.truncate.ensures.items, length-take 4 c.self.inside.bytes.items, c.self.invariant.bytes_len)

pub invariant_of-self : goal.invariant_of-self
invariant_of-self c = record {
  bytes_len = omega (arith, left c, ap total_of c.clear.ensures.items);
  front = λ some. absurd (some c.clear.ensures.items);
  bytes_room = omega (arith, c.truncate.ensures.capacity, c.self.invariant.bytes_room);
  groups_room = omega (arith, c.clear.ensures.capacity, c.self.invariant.groups_room);
  log = subst IsLog (sym (seen c)) (log-forced c.args.self.now c.requires (is_log c));
}

pub returns : goal.returns
returns c = seen c
