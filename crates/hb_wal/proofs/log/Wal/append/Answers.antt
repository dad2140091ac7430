use Rattle.std.proofs.Common.{ℕ, List, sym, subst, ap, ◌∙◌}
use Rattle.hb_wal.specs.Log.{MayJoin, with_group}
use Rattle.hb_wal.proofs.Kept.{alone}
use Rattle.hb_wal.proofs.log.Wal.append.Goals as goal

pub append_parts-requires : goal.append_parts-requires
append_parts-requires c =
    subst (λ (l : List ℕ). MayJoin l c.args.mark c.args.self.now) (sym (alone c.args.group.now))
    (record { some = c.requires.some; room = c.requires.room; reserved = c.requires.reserved; marks = c.requires.marks })

pub returns : goal.returns
returns c = c.append_parts.ensures ∙ ap (λ (l : List ℕ). with_group l c.args.mark c.args.self.now) (alone c.args.group.now)
