-- Lists of leaves that name pages, part by part.
use Rattle.std.proofs.Common.{◌≡◌, List, ◌++◌, append-nil, append_assoc}
use Rattle.hb_frag.specs.Leaves.{Placed}
use Rattle.hb_frag.proofs.Facts.NamesListed.{siblings-append, children-append}
use Rattle.hb_tidy.specs.declared.listing.Names.{Names}
use Rattle.hb_tidy.specs.declared.listing.Names.TheVariants.{Children, Siblings}
use Rattle.hb_tidy.specs.Placing.{named_leaves}

pub named_leaves-append : (names : Names) (xs ys : List Placed) → named_leaves names (xs ++ ys) ≡ named_leaves names xs ++ named_leaves names ys
named_leaves-append Children xs ys = children-append xs ys
named_leaves-append Siblings xs ys = siblings-append xs ys

pub ruleset leaf_lists = (named_leaves-append, append_assoc)

pub ruleset one_leaf = (append-nil)
