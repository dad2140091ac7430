-- A leaf with records names no child.
use Rattle.std.proofs.Common.{◌≡◌, ℕ, List, Contains, ap}
use Rattle.hb_space.specs.Boxes.{Area}
use Rattle.hb_space.specs.declared.records.Record.{Record}
use Rattle.hb_frag.specs.declared.leaves.Leaf.TheVariants.{Records, Child}
use Rattle.hb_frag.specs.Leaves.{Placed, leaves_of}
use Rattle.hb_frag.specs.Trees.{Tip}
use Rattle.hb_lemmas.proofs.Lists.{only_one}

-- a leaf with records names no child
pub no_child : (records : List Record) (box : Area) (name : ℕ) (area : Area) → Contains (leaves_of (Tip (Records records)) box) (record { leaf = Child name; area = area }) → ⊥
no_child records box name area there =
    let same = only_one {X = Placed} (record { leaf = Records records; area = box }) (record { leaf = Child name; area = area }) there in
    let never : Records records ≡ Child name = ap (λ (p : Placed). p.leaf) same in
    cc (never)
