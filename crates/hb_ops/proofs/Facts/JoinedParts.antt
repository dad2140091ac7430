-- A tree with another part in it, and with its leaves joined: what holds of its leaves, and that it is no lone sibling leaf.
use Rattle.std.proofs.Common.{ℕ, ◌==◌, true, false, cond, List, [], ◌∷◌, All}
use Rattle.std.proofs.lemmas.List.Elements.{All-append}
use Rattle.hb_space.specs.declared.records.Record.{Record}
use Rattle.hb_frag.specs.declared.leaves.Leaf.{Leaf}
use Rattle.hb_frag.specs.declared.leaves.Leaf.TheVariants.{Records, Child, Sibling}
use Rattle.hb_frag.specs.declared.paths.Side.{Side}
use Rattle.hb_frag.specs.declared.paths.Side.TheVariants.{Left, Right}
use Rattle.hb_frag.specs.Leaves.{leaves}
use Rattle.hb_frag.specs.Normal.{normal, one_leaf_or_cut}
use Rattle.hb_frag.specs.Paths.{with_part}
use Rattle.hb_frag.specs.Rules.{IsSiblingTip}
use Rattle.hb_frag.specs.Trees.{Tree, Tip, Cut}
use Rattle.hb_lemmas.proofs.Lists.{All-parts}

-- what holds of the leaves of a tree and of another one holds where the one stands in the other
pub with_leaves : (P : Leaf → Type 0) (path : List Side) (t other : Tree) → All P (leaves t) → All P (leaves other) → All P (leaves (with_part path t other))
with_leaves P [] t other old new = new
with_leaves P (Left ∷ path) (Tip leaf) other old new = old
with_leaves P (Right ∷ path) (Tip leaf) other old new = old
with_leaves P (Left ∷ path) (Cut axis value left right) other old new =
    let both = (All-parts P (leaves left) (leaves right)).0 old in
    All-append P (leaves (with_part path left other)) (leaves right) (with_leaves P path left other both.0 new) both.1
with_leaves P (Right ∷ path) (Cut axis value left right) other old new =
    let both = (All-parts P (leaves left) (leaves right)).0 old in
    All-append P (leaves left) (leaves (with_part path right other)) both.0 (with_leaves P path right other both.1 new)

-- what holds of a cut, and of each leaf that has records or names a child, holds where two sides are joined
pub joined_so : (P : Tree → Type 0) → ((records : List Record) → P (Tip (Records records))) → ((page : ℕ) → P (Tip (Child page))) → (axis value : ℕ) (left right : Tree) → P (Cut axis value left right) → P (one_leaf_or_cut axis value left right)
joined_so P records_so child_so axis value (Tip (Records xs)) (Tip (Records ys)) h = records_so _
joined_so P records_so child_so axis value (Tip (Records xs)) (Tip (Child other)) h = h
joined_so P records_so child_so axis value (Tip (Records xs)) (Tip (Sibling other)) h = h
joined_so P records_so child_so axis value (Tip (Records xs)) (Cut a v t u) h = h
joined_so P records_so child_so axis value (Tip (Child page)) (Tip (Records ys)) h = h
joined_so P records_so child_so axis value (Tip (Child page)) (Tip (Child other)) h =
    elim (page == other) as (λ b. P (cond b (Tip (Child page)) (Cut axis value (Tip (Child page)) (Tip (Child other))))) [ true ↦ child_so page | false ↦ h ]
joined_so P records_so child_so axis value (Tip (Child page)) (Tip (Sibling other)) h = h
joined_so P records_so child_so axis value (Tip (Child page)) (Cut a v t u) h = h
joined_so P records_so child_so axis value (Tip (Sibling page)) right h = h
joined_so P records_so child_so axis value (Cut a v t u) right h = h

-- so joining makes no lone sibling leaf
pub normal_own : (t : Tree) → IsSiblingTip (normal t) → IsSiblingTip t
normal_own (Tip leaf) lone = lone
normal_own (Cut axis value left right) lone =
    absurd (joined_so (λ t. ¬ (IsSiblingTip t)) (λ records l. l) (λ page l. l) axis value (normal left) (normal right) (λ l. l) lone)
