-- A page has one leaf at a point, so rows that read it agree; above the records it is none of records.
use Rattle.std.proofs.Common.{◌≡◌, ℕ, ◌≤◌, List, All, Some, refl, sym, ap, subst, ◌∙◌, arith}
use Rattle.std.specs.List.{Contains, slice_get}
use Rattle.std.proofs.lemmas.List.Elements.{All-contains, All-contains_itself}
use Rattle.hb_space.specs.Boxes.{Area}
use Rattle.hb_space.specs.declared.records.Record.{Record}
use Rattle.hb_frag.specs.declared.leaves.Leaf.{Leaf}
use Rattle.hb_frag.specs.declared.leaves.Leaf.TheVariants.{Records}
use Rattle.hb_frag.specs.declared.pages.LivePage.{LivePage}
use Rattle.hb_activity.specs.declared.activities.Activity.{Activity}
use Rattle.hb_activity.specs.Deeds.{Deed, moves_to}
use Rattle.hb_activity.specs.Passing.{PassesOn, posts_owed}
use Rattle.hb_frag.specs.Leaves.{Placed, leaf_at, leaves, leaves_of}
use Rattle.hb_frag.specs.Rules.{BelongsAt}
use Rattle.hb_ops.proofs.Facts.Opened.{first_has, same_records}
use Rattle.hb_ops.proofs.Facts.PlacedLaws.{placed, placed_is_leaf}
use Rattle.hb_ops.specs.Standing.{StandsNot, StandsThere}
use Rattle.hb_activity.specs.OneDeed.{IsOnly}
use Rattle.hb_lemmas.proofs.Lists.{place_member}
use Rattle.hb_lemmas.proofs.Options.{one_value}

not_lacking : (xs : List Record) (i : ℕ) (r : Record) (p : List ℕ) → slice_get xs i ≡ Some r → r.key ≡ p → All (λ r. r.key ≡ p → ⊥) xs → ⊥
not_lacking xs i r p is key lack = All-contains (λ r. r.key ≡ p → ⊥) xs r lack (place_member xs i r is) key

-- a point doesn't both stand in a page and not
pub never_both : (page : LivePage) (p : List ℕ) (r : Record) → StandsThere page p r → StandsNot page p → ⊥
never_both page p r there absent =
    let records = same_records page p there.records absent.records there.area absent.area there.leaf absent.leaf in
    not_lacking absent.records there.place r p (ap (λ (l : List Record). slice_get l there.place) (sym records) ∙ there.among) there.key absent.lack

-- two walks at a page pass on alike
pub one_pass : (page : LivePage) (p : List ℕ) (next : Activity) (d e : Deed) → PassesOn page p next d → PassesOn page p next e → d ≡ e
one_pass page p next d e first second =
    let same = one_value (leaf_at page p) (record { leaf = first.leaf; area = first.area }) (record { leaf = second.leaf; area = second.area }) first.at_point second.at_point in
    first.deed_is ∙ ap (λ (x : Placed). moves_to next (posts_owed page p x.leaf)) same ∙ sym second.deed_is

-- a page above the records has none at any point
pub no_records : (page : LivePage) (p : List ℕ) (leaf : Leaf) (area : Area) (records : List Record) → All (BelongsAt page.level) (leaves page.frag) → 1 ≤ page.level
    → leaf_at page p ≡ Some (record { leaf = leaf; area = area }) → leaf ≡ Records records → ⊥
no_records page p leaf area records kinds above is has =
    let there = first_has (Contains (leaves_of page.frag page.area)) p (leaves_of page.frag page.area) (placed leaf area) is (All-contains_itself (leaves_of page.frag page.area)) in
    let kind = All-contains (BelongsAt page.level) (leaves page.frag) leaf kinds (placed_is_leaf page.frag page.area (placed leaf area) there) in
    let bottom : page.level ≡ 0 = subst (BelongsAt page.level) has kind in
    omega (arith, bottom, above)

-- a deed by itself
pub exactly : (deed : Deed) → IsOnly (λ (other : Deed). other ≡ deed) deed
exactly deed = record { done = refl; only = λ other is. is }
