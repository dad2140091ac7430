use Rattle.std.proofs.Common.{ℕ, ◌∙◌, ap, sym, option_map}
use Rattle.hb_frag.specs.Leaves.{leaves}
use Rattle.hb_sound.specs.Facts.{more, names_in}
use Rattle.hb_sound.specs.Told.{item_at}
use Rattle.hb_sound.proofs.Counts.{more_map, names_append}
use Rattle.hb_sound.proofs.names.+count_names.Goals as goal

pub returns-in-Cut : goal.returns-in-Cut
returns-in-Cut t c =
    rw (← c.frag.view_is, c.in-Cut.is)
    (record {
      same = c.count_names-in-Cut.ensures.same ∙ c.count_names.ensures.same;
      counted = λ id.
          let first = rw c.deref.ensures at (c.count_names.ensures.counted id) in
          let second = rw c.deref-in-Cut.ensures at (c.count_names-in-Cut.ensures.counted id) in
          second
          ∙ ap (option_map (more (names_in id (leaves c.in-Cut.right.value)))) first
          ∙ more_map (names_in id (leaves c.in-Cut.right.value)) (names_in id (leaves c.in-Cut.left.value)) (item_at c.args.named.now id)
          ∙ ap (λ (n : ℕ). option_map (more n) (item_at c.args.named.now id)) (sym (names_append id (leaves c.in-Cut.left.value) (leaves c.in-Cut.right.value)));
    })
