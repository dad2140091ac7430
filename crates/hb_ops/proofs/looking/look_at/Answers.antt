use Rattle.std.proofs.Common.{◌∙◌, ap, Some, inl, inr}
use Rattle.hb_frag.specs.declared.leaves.Leaf.{Leaf}
use Rattle.hb_ops.proofs.Facts.Opened.{rising_at}
use Rattle.hb_ops.proofs.looking.look_at.Goals as goal

pub among-requires : goal.among-requires
among-requires c =
    rw c.as_slice.ensures (rising_at c.args.page.now c.args.point.now c.in-Records.records c.leaf_at.result.1 c.requires.made.in_order (c.leaf_at.ensures.value ∙ ap (λ (l : Leaf). Some (record { leaf = l; area = c.leaf_at.result.1 })) c.in-Records.is))

pub returns-in-Child : goal.returns-in-Child
returns-in-Child c = elim c.in-Child.is [
  | inl child ↦ record { area = c.leaf_at.result.1; leaf = inr (c.leaf_at.ensures.value ∙ ap (λ (l : Leaf). Some (record { leaf = l; area = c.leaf_at.result.1 })) child) }
  | inr sibling ↦ record { area = c.leaf_at.result.1; leaf = inl (c.leaf_at.ensures.value ∙ ap (λ (l : Leaf). Some (record { leaf = l; area = c.leaf_at.result.1 })) sibling) }
]
