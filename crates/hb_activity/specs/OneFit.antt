-- That a page fits a file is a fact: it has one proof at most, so a struct may keep it.
use Rattle.std.specs.Prelude.{ℕ}
use Rattle.std.specs.Coded.{Unit-prop}
use Rattle.std.proofs.Props.{props}
use Rattle.hb_frag.specs.Leaves.{IsWellCut}
use Rattle.hb_frag.specs.Rules.{AreAlike, BelongsAt, IsNormal}
use Rattle.hb_frag.specs.Trees.{Tree, Tip, Cut}
use Rattle.hb_frag.specs.declared.leaves.Leaf.{Leaf}
use Rattle.hb_frag.specs.declared.leaves.Leaf.TheVariants.{Records, Child, Sibling}
use Rattle.hb_frag.specs.declared.pages.LivePage.{LivePage}
use Rattle.hb_layout.specs.declared.meta.Meta.{Meta}
use Rattle.hb_ops.specs.Sound.{FitsFile}
use Rattle.hb_space.specs.Boxes.{Area, Cuts, side_below, side_from}

IsWellCut-prop : (t : Tree) (area : Area) → IsProp (IsWellCut t area)
IsWellCut-prop (Tip leaf) area = Unit-prop
IsWellCut-prop (Cut axis value left right) area =
    let below = IsWellCut-prop left (side_below area axis value) in
    let from = IsWellCut-prop right (side_from area axis value) in
    let all : IsProp (Cuts area axis value × IsWellCut left (side_below area axis value) × IsWellCut right (side_from area axis value)) = hlevel (props, below, from) in
    all

IsNormal-prop : (t : Tree) → IsProp (IsNormal t)
IsNormal-prop (Tip leaf) = Unit-prop
IsNormal-prop (Cut axis value left right) =
    let below = IsNormal-prop left in
    let from = IsNormal-prop right in
    let all : IsProp ((¬ (AreAlike left right)) × IsNormal left × IsNormal right) = hlevel (props, below, from) in
    all

BelongsAt-prop : (level : ℕ) (leaf : Leaf) → IsProp (BelongsAt level leaf)
BelongsAt-prop level (Records records) = hlevel props
BelongsAt-prop level (Child page) = hlevel props
BelongsAt-prop level (Sibling page) = Unit-prop

ruleset page_props = (props, IsWellCut-prop, IsNormal-prop, BelongsAt-prop)

pub FitsFile-prop : (meta : Meta) (page : LivePage) → IsProp (FitsFile meta page)
FitsFile-prop meta page = hlevel page_props
