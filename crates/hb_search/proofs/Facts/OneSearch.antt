-- A search has one deed at a page: the box at hand, the leaf and the order of what was found are one each.
use Rattle.std.proofs.Common.{◌≡◌, ◌++◌, List, [], ◌∷◌, filter, None, sym, ap, ◌∙◌, subst}
use Rattle.std.proofs.lemmas.List.{same_from_push}
use Rattle.hb_space.specs.declared.records.Record.{Record}
use Rattle.hb_frag.specs.declared.leaves.Leaf.TheVariants.{Records}
use Rattle.hb_set.specs.declared.commands.Reply.TheVariants as replies
use Rattle.hb_set.specs.declared.scripts.Line.{Line}
use Rattle.hb_activity.specs.Deeds.{Deed, takes_effect}
use Rattle.hb_activity.specs.Sights.{Sight}
use Rattle.hb_frag.specs.Leaves.{Placed, leaf_at, records_of}
use Rattle.hb_search.proofs.Facts.OneOrder.{one_order}
use Rattle.hb_search.specs.Laws.{SearchesChangeNothing, SearchesHaveOneDeed}
use Rattle.hb_search.specs.SearchRows.{SearchGoesOn}
use Rattle.hb_space.specs.Boxes.{Area, common_area, holds, pieces_outside}
use Rattle.hb_lemmas.proofs.Options.{one_value}

search_on : (s : Sight) (line : Line) (boxes : List Area) (found : List Record) (d e : Deed) → SearchGoesOn s line boxes found d → SearchGoesOn s line boxes found e → d ≡ e
search_on s line [] found d e (xs, one, up, is) (ys, two, rising, same) =
    is ∙ ap (λ (l : List Record). takes_effect s.place line (replies.Within l) None []) (one_order found xs ys one two up rising) ∙ sym same
search_on s line (area ∷ rest) found d e is same = is ∙ sym same

pub searches_have_one_deed : SearchesHaveOneDeed
searches_have_one_deed s line rest found page p d e first second =
    let boxes = same_from_push second.front first.front second.at_hand first.at_hand (sym second.boxes ∙ first.boxes) in
    let same = one_value (leaf_at page p) (record { leaf = Records second.records; area = second.area }) (record { leaf = Records first.records; area = first.area }) second.leaf first.leaf in
    let records = ap (λ (x : Placed). records_of x.leaf) same in
    let a1 = subst (λ (l : List Area). SearchGoesOn s line (l ++ pieces_outside second.at_hand (common_area second.at_hand second.area)) (found ++ filter (λ r. holds second.at_hand r.key) second.records) e) boxes.0 second.goes in
    let a2 = subst (λ (b : Area). SearchGoesOn s line (first.front ++ pieces_outside b (common_area b second.area)) (found ++ filter (λ r. holds b r.key) second.records) e) boxes.1 a1 in
    let a3 = subst (λ (b : Area). SearchGoesOn s line (first.front ++ pieces_outside first.at_hand (common_area first.at_hand b)) (found ++ filter (λ r. holds first.at_hand r.key) second.records) e) (ap (λ (x : Placed). x.area) same) a2 in
    let a4 = subst (λ (l : List Record). SearchGoesOn s line (first.front ++ pieces_outside first.at_hand (common_area first.at_hand first.area)) (found ++ filter (λ r. holds first.at_hand r.key) l) e) records a3 in
    search_on s line _ _ d e first.goes a4

on_nothing : (s : Sight) (line : Line) (boxes : List Area) (found : List Record) (d : Deed) → SearchGoesOn s line boxes found d → (d.op ≡ None) × (d.adds ≡ [])
on_nothing s line [] found d (xs, one, up, is) = (ap (λ (d : Deed). d.op) is, ap (λ (d : Deed). d.adds) is)
on_nothing s line (area ∷ rest) found d is = (ap (λ (d : Deed). d.op) is, ap (λ (d : Deed). d.adds) is)

pub searches_change_nothing : SearchesChangeNothing
searches_change_nothing s line rest found page p d row = on_nothing s line _ _ d row.goes
