use Rattle.std.proofs.Common.{◌≡◌, ◌≤◌, List, [], ◌∷◌, length, get_or, drop, filter, ap, ◌∙◌, arith}
use Rattle.std.proofs.lemmas.List.{take_rest}
use Rattle.hb_space.specs.Boxes.{Area}
use Rattle.hb_space.specs.declared.records.Record.{Record}
use Rattle.hb_frag.specs.declared.leaves.Leaf.TheVariants.{Records}
use Rattle.hb_frag.specs.declared.paths.Side.{Side}
use Rattle.hb_frag.specs.declared.paths.Side.TheVariants.{Left}
use Rattle.hb_frag.specs.Trees.{Tree, Tip}
use Rattle.hb_ops.specs.declared.leaf_cuts.LeafCut.{LeafCut}
use Rattle.hb_ops.specs.Cutting.{cut_through, cut_with, half_area, is_on, other_side, reached, records_in}
use Rattle.hb_ops.proofs.extracting.+cut_through.Goals as goal

abbrev first : List LeafCut → LeafCut
first cuts = get_or cuts 0 (record { axis = 0; value = 0; side = Left })

-- the records on a side of the first cut, as a leaf
abbrev half : Side → List LeafCut → List Record → Tree
half side cuts records = Tip (Records (filter (is_on side (first cuts).axis (first cuts).value) records))

-- the first cut is made around what the others make
one_more_opened : (cuts after : List LeafCut) (part end going staying on opened : Tree) (records : List Record) → 1 ≤ length cuts → records ≡ records_in part → going ≡ half (first cuts).side cuts records → staying ≡ half (other_side (first cuts).side) cuts records
    → after ≡ drop 1 cuts → on ≡ cut_through after going end → opened ≡ cut_with (first cuts).side (first cuts).axis (first cuts).value on staying → opened ≡ cut_through cuts part end
one_more_opened [] after part end going staying on opened records some rs g s is o w = absurd (omega (arith, some))
one_more_opened (cut ∷ rest) after part end going staying on opened records some rs g s is o w =
    let inner = o ∙ ap (λ (cuts : List LeafCut). cut_through cuts going end) is ∙ ap (λ (t : Tree). cut_through rest t end) (g ∙ ap (half cut.side (cut ∷ rest)) rs) in
    let outer = s ∙ ap (half (other_side cut.side) (cut ∷ rest)) rs in
    w ∙ (λ i. cut_with cut.side cut.axis cut.value (inner i) (outer i))

-- and they reach what the others reach
one_more_reached : (cuts after : List LeafCut) (part going end : Tree) (records : List Record) → 1 ≤ length cuts → records ≡ records_in part → going ≡ half (first cuts).side cuts records
    → after ≡ drop 1 cuts → ((area : Area) → end ≡ (reached after going area).0) → (area : Area) → end ≡ (reached cuts part area).0
one_more_reached [] after part going end records some rs g is told area = absurd (omega (arith, some))
one_more_reached (cut ∷ rest) after part going end records some rs g is told area =
    told (half_area cut area) ∙ ap (λ (cuts : List LeafCut). (reached cuts going (half_area cut area)).0) is ∙ ap (λ (t : Tree). (reached rest t (half_area cut area)).0) (g ∙ ap (half cut.side (cut ∷ rest)) rs)

pub returns-in_ok-opened-in-len1-up-clause-opened : goal.returns-in_ok-opened-in-len1-up-clause-opened
returns-in_ok-opened-in-len1-up-clause-opened t c =
    let sides = c.in_ok-sides-in-len1-up.ensures in
    one_more_opened c.args.cuts.now _ c.args.part _ _ _ _ _ c.records_in.result c.in-len1-up.len_at_least c.records_in.ensures sides.going sides.staying (take_rest c.args.cuts.now 1) c.in_ok-parted-in-len1-up.ensures.opened c.in_ok-opened-in-len1-up.ensures

pub returns-in_ok-opened-in-len1-up-clause-reached : goal.returns-in_ok-opened-in-len1-up-clause-reached
returns-in_ok-opened-in-len1-up-clause-reached t c =
    one_more_reached c.args.cuts.now _ c.args.part _ _ c.records_in.result c.in-len1-up.len_at_least c.records_in.ensures c.in_ok-sides-in-len1-up.ensures.going (take_rest c.args.cuts.now 1) c.in_ok-parted-in-len1-up.ensures.reached
