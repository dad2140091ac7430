use Rattle.std.proofs.Common.{ℕ, List, length, ap, subst, sym, refl, ◌∙◌, arith}
use Rattle.hb_frag.specs.Leaves.{IsPointer}
use Rattle.hb_view.specs.Roots.{tree_there}
use Rattle.hb_view.specs.Seen.{list_seen}
use Rattle.hb_view.specs.Spots.{IsPlaceAmong, LeadsToList}
use Rattle.hb_view.specs.Splicing.{IsOrderedAt}
use Rattle.hb_view.specs.Views.{LeafWithin}
use Rattle.hb_view.proofs.Spotted.{first_inside, has_as_many, is_spot, list_fits, list_rises, live_so, names_none}
use Rattle.hb_view.proofs.splicing.spot_of.Goals as goal

pub inside_of-requires : goal.inside_of-requires
inside_of-requires c = live_so _ (IsOrderedAt c.args.point.now) c.requires

pub list_in-requires : goal.list_in-requires
list_in-requires c =
    ap (λ (p : List ℕ). length p) c.values-p.ensures.value
    ∙ has_as_many c.args.bytes.now c.args.point.now c.inside_of.result (λ i. omega (arith, c.type_inv.bytes i)) c.requires c.inside_of.ensures.parts c.inside_of.ensures.begins

pub place_among-place-requires-clause-attributes : goal.place_among-place-requires-clause-attributes
place_among-place-requires-clause-attributes c =
    ap (λ (p : List ℕ). length p) c.values-p.ensures.value
    ∙ has_as_many c.args.bytes.now c.args.point.now c.inside_of.result (λ i. omega (arith, c.type_inv.bytes i)) c.requires c.inside_of.ensures.parts c.inside_of.ensures.begins
    ∙ sym c.in-Some.ensures.same

pub place_among-place-requires-clause-bytes : goal.place_among-place-requires-clause-bytes
place_among-place-requires-clause-bytes c =
    let tree = c.inside_of.result.tree in
    let list = c.in-Some.list in
    let leads = subst (λ (p : List ℕ). LeadsToList tree.k.number tree.bytes.now p list.count list.first.now) c.values-p.ensures.value c.in-Some.ensures.leads in
    list_fits c.args.bytes.now c.args.point.now c.inside_of.result (λ i. omega (arith, c.type_inv.bytes i)) c.requires c.inside_of.ensures.parts c.inside_of.ensures.begins list c.in-Some.ensures.same leads

pub place_among-place-requires-clause-rising : goal.place_among-place-requires-clause-rising
place_among-place-requires-clause-rising c =
    let tree = c.inside_of.result.tree in
    let list = c.in-Some.list in
    let leads = subst (λ (p : List ℕ). LeadsToList tree.k.number tree.bytes.now p list.count list.first.now) c.values-p.ensures.value c.in-Some.ensures.leads in
    list_rises c.args.bytes.now c.args.point.now c.inside_of.result (λ i. omega (arith, c.type_inv.bytes i)) c.requires c.inside_of.ensures.parts c.inside_of.ensures.begins list c.in-Some.ensures.same leads

pub overflow_sub-result-in-Some : goal.overflow_sub-result-in-Some
overflow_sub-result-in-Some c =
    let tree = c.inside_of.result.tree in
    let list = c.in-Some.list in
    let leads = subst (λ (p : List ℕ). LeadsToList tree.k.number tree.bytes.now p list.count list.first.now) c.values-p.ensures.value c.in-Some.ensures.leads in
    first_inside c.args.bytes.now c.args.point.now c.inside_of.result (λ i. omega (arith, c.type_inv.bytes i)) c.requires c.inside_of.ensures.parts c.inside_of.ensures.begins list c.in-Some.ensures.same leads

pub unreachable-requires : goal.unreachable-requires
unreachable-requires c =
    let tree = c.inside_of.result.tree in
    names_none c.args.bytes.now c.args.point.now c.inside_of.result (λ i. omega (arith, c.type_inv.bytes i)) c.requires c.inside_of.ensures.parts c.inside_of.ensures.begins
    (subst (λ (p : List ℕ). LeafWithin IsPointer (tree_there tree.k.number tree.bytes.now) p) c.values-p.ensures.value c.in-None.ensures.leads)

pub returns : goal.returns
returns c =
    let tree = c.inside_of.result.tree in
    let list = c.in-Some.list in
    let place = c.place_among-place.result in
    let leads = subst (λ (p : List ℕ). LeadsToList tree.k.number tree.bytes.now p list.count list.first.now) c.values-p.ensures.value c.in-Some.ensures.leads in
    let among = subst (λ (p : List ℕ). IsPlaceAmong p (list_seen list) list.first.now place.from.now place.behind.now place.held) c.values-p.ensures.value c.place_among-place.ensures in
    is_spot c.args.bytes.now c.args.point.now c.inside_of.result (λ i. omega (arith, c.type_inv.bytes i)) c.requires c.inside_of.ensures.parts c.inside_of.ensures.begins list c.in-Some.ensures.same leads place.from.now place.behind.now place.held _ _ _
    among refl refl refl
