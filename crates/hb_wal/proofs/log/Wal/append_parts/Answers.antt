use Rattle.std.proofs.Common.{◌≡◌, ◌+◌, [], ◌∷◌, ◌++◌, List, ℕ, length, drop, take, arith, sym, ap, ◌∙◌, is_ok, refl, append_assoc}
use Rattle.std.proofs.lemmas.Bool.{cond-true}
use Rattle.std.proofs.lemmas.List.{take_at}
use Rattle.hb_lemmas.specs.Numbers.{big_endian}
use Rattle.hb_wal.specs.declared.groups.Group.{Group}
use Rattle.hb_wal.specs.Log.{LogState, pending_bytes, with_group}
use Rattle.hb_wal.specs.Kept.{log_seen, total_of}
use Rattle.hb_wal.proofs.Kept.{pending-seen, count_fits, seen-push, log-push, joined_rest, joined_length, joined_front, length-parts}
use Rattle.hb_wal.proofs.log.Wal.append_parts.Goals as goal

pub add-requires : goal.add-requires
add-requires c =
    let same : pending_bytes (log_seen c.self.inside).groups ≡ pending_bytes c.args.self.now.groups = ap (λ (s : LogState). pending_bytes s.groups) c.self.view_is in
    omega (arith, c.self.inside.bytes.ok.0, c.self.invariant.bytes_len, c.self.invariant.bytes_room, pending-seen c.self.inside c.self.invariant, same, c.requires.reserved, length-parts c.args.head.now c.args.image.now c.args.operation.now)

pub add-requires-2 : goal.add-requires-2
add-requires-2 c =
    let same : pending_bytes (log_seen c.self.inside).groups ≡ pending_bytes c.args.self.now.groups = ap (λ (s : LogState). pending_bytes s.groups) c.self.view_is in
    omega (arith, c.add.ensures.len, c.add.ensures.capacity, c.self.inside.bytes.ok.0, c.self.invariant.bytes_len, c.self.invariant.bytes_room, pending-seen c.self.inside c.self.invariant, same, c.requires.reserved, length-parts c.args.head.now c.args.image.now c.args.operation.now)

pub add-requires-3 : goal.add-requires-3
add-requires-3 c =
    let same : pending_bytes (log_seen c.self.inside).groups ≡ pending_bytes c.args.self.now.groups = ap (λ (s : LogState). pending_bytes s.groups) c.self.view_is in
    omega (arith, c.add-2.ensures.len, c.add-2.ensures.capacity, c.add.ensures.len, c.add.ensures.capacity, c.self.inside.bytes.ok.0, c.self.invariant.bytes_len, c.self.invariant.bytes_room, pending-seen c.self.inside c.self.invariant, same, c.requires.reserved, length-parts c.args.head.now c.args.image.now c.args.operation.now)

pub unwrap-requires : goal.unwrap-requires
unwrap-requires c =
    let same : pending_bytes (log_seen c.self.inside).groups ≡ pending_bytes c.args.self.now.groups = ap (λ (s : LogState). pending_bytes s.groups) c.self.view_is in
    let total = pending-seen c.self.inside c.self.invariant in
    c.push.ensures.succeeds (omega (arith, c.self.inside.groups.ok.0, c.self.invariant.groups_room, count_fits c.self.inside c.self.invariant, total, same, c.requires.reserved, c.requires.some))

module _ (c : goal.After-unwrap) where
  abbrev group : List ℕ
  group = c.args.head.now ++ c.args.image.now ++ c.args.operation.now

  abbrev joining : Group
  joining = record { len = length c.args.head.now + length c.args.image.now + length c.args.operation.now; mark = c.args.mark }

  long : length group ≡ joining.len
  long = length-parts c.args.head.now c.args.image.now c.args.operation.now

  abbrev all : ℕ
  all = c.pending.result + joining.len

  -- the bytes once the length is given
  abbrev given : List ℕ
  given = c.give_u32.new.into

  given_is : take c.self.inside.bytes.len (given ++ drop (length given) c.self.inside.bytes.items) ≡ big_endian 4 all ++ drop 4 c.self.inside.bytes.items
  given_is =
      take_at given (drop (length given) c.self.inside.bytes.items) c.self.inside.bytes.len (c.give_u32.auto.into ∙ c.deref_mut.ensures.len)
      ∙ c.give_u32.ensures ∙ ap (λ (l : List ℕ). big_endian 4 all ++ drop 4 l) c.deref_mut.ensures.value

  bytes_after : c.add-3.new.bytes.items ≡ (big_endian 4 all ++ drop 4 c.self.inside.bytes.items) ++ group
  bytes_after =
      let front = big_endian 4 all ++ drop 4 c.self.inside.bytes.items in
      c.add-3.ensures.items ∙ ap (λ (l : List ℕ). l ++ c.args.operation.now) (c.add-2.ensures.items ∙ ap (λ (l : List ℕ). l ++ c.args.image.now) (c.add.ensures.items ∙ ap (λ (l : List ℕ). l ++ c.args.head.now) given_is))
      ∙ ap (λ (l : List ℕ). l ++ c.args.operation.now) (append_assoc front c.args.head.now c.args.image.now) ∙ append_assoc front (c.args.head.now ++ c.args.image.now) c.args.operation.now

  groups_after : c.push.new.self.items ≡ c.self.inside.groups.items ++ joining ∷ []
  groups_after = c.push.ensures.items ∙ cond-true _ _ _ (ap is_ok c.unwrap.ensures)

  all_is : all ≡ total_of c.self.inside.groups.items + joining.len
  all_is = omega (arith, c.pending.ensures.bytes, pending-seen c.self.inside c.self.invariant, ap (λ (s : LogState). pending_bytes s.groups) c.self.view_is)

  seen_after : log_seen (record { area = c.self.inside.area; len = c.self.inside.len; written = c.self.inside.written; bytes = c.add-3.new.bytes; groups = c.push.new.self }) ≡ with_group group c.args.mark c.args.self.now
  seen_after =
      let behind = joined_rest c.self.inside c.self.invariant group joining long all c.add-3.new.bytes.items bytes_after in
      rw (← c.self.view_is, groups_after, seen-push c.self.inside c.self.invariant c.add-3.new.bytes.items group joining behind long) refl

pub invariant_of-self : goal.invariant_of-self
invariant_of-self c = record {
  bytes_len = joined_length c.self.inside c.self.invariant (group c) (joining c) (long c) (all c) c.add-3.new.bytes.items (bytes_after c) ∙ ap (λ (l : List Group). 4 + total_of l) (sym (groups_after c));
  front = λ some. joined_front c.self.inside c.self.invariant (group c) (joining c) (long c) (all c) c.add-3.new.bytes.items (bytes_after c) (all_is c) ∙ ap (λ (l : List Group). big_endian 4 (total_of l)) (sym (groups_after c));
  bytes_room = omega (arith, c.add-3.ensures.capacity, c.add-2.ensures.capacity, c.add.ensures.capacity, c.self.invariant.bytes_room);
  groups_room = omega (arith, c.push.ensures.capacity, c.self.invariant.groups_room);
  log = rw (seen_after c) (log-push c.args.self.now (group c) c.args.mark (rw c.self.view_is at c.self.invariant.log) c.requires.some c.requires.room c.requires.reserved c.requires.marks);
}

pub returns : goal.returns
returns c = seen_after c
