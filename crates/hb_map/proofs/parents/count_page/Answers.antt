use Rattle.std.proofs.Common.{◌≡◌, ◌+◌, cond, get_or, arith, ap, subst, sym, ◌∙◌}
use Rattle.hb_frag.specs.declared.pages.Page.{Page}
use Rattle.hb_frag.specs.Leaves.{child_names, leaves}
use Rattle.hb_map.specs.Map.{is_parent}
use Rattle.hb_map.proofs.Namings.{all_named, room_left}
use Rattle.hb_map.proofs.parents.count_page.Goals as goal

pub count_one-requires : goal.count_one-requires
count_one-requires c =
    room_left (child_names (leaves c.in-Live.page.frag)) c.as_slice-child-items.result.now _ c.loop-child.child-index _ _ (c.as_slice-child-items.ensures ∙ c.in_ok-children.ensures) (c.loop-child.invariant.room _) (c.requires _)

pub returns-clause-counted : goal.returns-clause-counted
returns-clause-counted c place lt =
    subst (λ (p : Page). get_or c.loop-child.parents place 0 ≡ get_or c.args.parents.now place 0 + cond (is_parent (place + 1) p) 1 0) (sym c.in-Live.is)
    (c.loop-child.invariant.counted place lt ∙ ap (λ n. get_or c.args.parents.now place 0 + n)
    (all_named (child_names (leaves c.in-Live.page.frag)) c.as_slice-child-items.result.now (place + 1) c.loop-child.child-index (c.as_slice-child-items.ensures ∙ c.in_ok-children.ensures) (omega arith)))
