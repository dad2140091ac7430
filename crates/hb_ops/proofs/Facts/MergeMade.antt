-- Where two pages become one, the page that is kept and the parent are well made again.
use Rattle.std.proofs.Common.{◌≡◌, ℕ, List, [], ◌++◌, All, Option, Some, None, refl, sym, subst, ◌∙◌, arith}
use Rattle.std.proofs.lemmas.List.Elements.{All-append, All-cons, All-head, All-nil}
use Rattle.std.proofs.lemmas.Option.{same_Some}
use Rattle.hb_space.specs.Boxes.{Area}
use Rattle.hb_frag.specs.declared.leaves.Leaf.{Leaf}
use Rattle.hb_frag.specs.declared.leaves.Leaf.TheVariants.{Records, Child, Sibling}
use Rattle.hb_frag.specs.declared.pages.LivePage.{LivePage}
use Rattle.hb_frag.specs.declared.paths.Side.{Side}
use Rattle.hb_frag.specs.Leaves.{Placed, first_named, leaves, leaves_of, siblings_of, weight_of}
use Rattle.hb_frag.specs.Normal.{normal}
use Rattle.hb_frag.specs.Paths.{part_at, sibling_way, with_part}
use Rattle.hb_frag.specs.Renaming.{renamed, renamed_leaf}
use Rattle.hb_frag.specs.Rules.{BelongsAt, IsInOrder, IsSiblingTip}
use Rattle.hb_frag.specs.Trees.{Tree, Tip, Cut}
use Rattle.hb_frag.proofs.Facts.OrderKept.{order_kept}
use Rattle.hb_frag.proofs.Facts.Renamed.{renames}
use Rattle.hb_frag.proofs.Facts.SiblingWays.{no_way, way_leads}
use Rattle.hb_layout.specs.declared.meta.Meta.{Meta}
use Rattle.hb_lemmas.proofs.Lists.{All-parts}
use Rattle.hb_ops.specs.Merging.{FitsMerge, kept_page, parent_page, taken_over}
use Rattle.hb_ops.specs.Sound.{FitsFile}
use Rattle.hb_ops.proofs.Facts.PathLaws.{well_cut_again, with_own}
use Rattle.hb_ops.proofs.Facts.StemLaws.{PartLaws}
use Rattle.hb_ops.proofs.PostMade.{JoinLaws, order_above}
use Rattle.hb_ops.proofs.Facts.JoinedParts.{normal_own, with_leaves}

-- what holds of the placed leaves of a tree and of a part holds where the part stands in the tree
with_places : PartLaws → (P : Placed → Type 0) (path : List Side) (t : Tree) (area : Area) (w : Tree × Area) (other : Tree) → part_at path t area ≡ Some w → All P (leaves_of t area) → All P (leaves_of other w.1) → All P (leaves_of (with_part path t other) area)
with_places laws P path t area w other there old new =
    let stretch = laws.leaves path t area w there in
    let outer = (All-parts P (stretch.front ++ leaves_of w.0 w.1) stretch.behind).0 (subst (λ (xs : List Placed). All P xs) stretch.whole old) in
    let front = ((All-parts P stretch.front (leaves_of w.0 w.1)).0 outer.0).0 in
    subst (λ (xs : List Placed). All P xs) (sym (stretch.other other))
    (All-append P (stretch.front ++ leaves_of other w.1) stretch.behind (All-append P stretch.front (leaves_of other w.1) front new) outer.1)

-- a leaf with another name stands at the same level
pub renamed_kind : (old new level : ℕ) (leaf : Leaf) → BelongsAt level leaf → BelongsAt level (renamed_leaf old new leaf)
renamed_kind old new level (Records records) h = h
renamed_kind old new level (Child page) h = h
renamed_kind old new level (Sibling page) h = h

pub renamed_kinds : (old new level : ℕ) (t : Tree) → All (BelongsAt level) (leaves t) → All (BelongsAt level) (leaves (renamed old new t))
renamed_kinds old new level (Tip leaf) h = All-cons (BelongsAt level) (renamed_leaf old new leaf) [] (renamed_kind old new level leaf (All-head (BelongsAt level) leaf [] h)) (All-nil (BelongsAt level))
renamed_kinds old new level (Cut axis value left right) h =
    let both = (All-parts (BelongsAt level) (leaves left) (leaves right)).0 h in
    All-append (BelongsAt level) (leaves (renamed old new left)) (leaves (renamed old new right)) (renamed_kinds old new level left both.0) (renamed_kinds old new level right both.1)

-- and is a sibling leaf only where it was one
pub renamed_own : (old new : ℕ) (t : Tree) → IsSiblingTip (renamed old new t) → IsSiblingTip t
renamed_own old new (Tip (Records records)) lone = lone
renamed_own old new (Tip (Child page)) lone = lone
renamed_own old new (Tip (Sibling page)) lone = lone
renamed_own old new (Cut axis value left right) lone = lone

module _ (parts : PartLaws) (joins : JoinLaws) (meta : Meta) (parent keep gone : ℕ) (above kept going : LivePage) (fits : FitsMerge meta parent keep gone above kept going) where
  -- the parent
  pub parent_made : FitsFile meta (parent_page keep gone above)
  parent_made =
      let made = fits.pages.above_made in
      let t = renamed gone keep above.frag in
      let same = joins.same t in
      let again = renames gone keep above.frag in
      let kinds = same.kinds above.level (renamed_kinds gone keep above.level above.frag made.filled.kinds) in
      record {
        fits = record { level = made.fits.level; attributes = made.fits.attributes };
        well_cut = same.cuts above.area ((again.cuts above.area).1 made.well_cut);
        filled = record {
          kinds = kinds;
          light = omega (arith, same.weight, again.weight, made.filled.light);
          own = λ lone. made.filled.own (renamed_own gone keep above.frag (normal_own t lone));
        };
        in_order = order_above above.level (normal t) above.area (omega (arith, fits.pages.kept_level)) kinds;
        normal = joins.no_alike t;
      }

  same_level : going.level ≡ kept.level
  same_level = omega (arith, fits.pages.kept_level, fits.pages.gone_level)

  abbrev joined : List Side → Tree
  joined way = with_part way kept.frag going.frag

  -- the page to keep, where the way leads to a leaf of the box of the page that goes
  made_by : (way : List Side) → part_at way kept.frag kept.area ≡ Some (Tip (Sibling gone), going.area) → FitsFile meta (record { level = kept.level; area = kept.area; frag = normal (joined way) })
  made_by way there =
      let made = fits.pages.kept_made in
      let other = fits.pages.gone_made in
      let t = joined way in
      let same = joins.same t in
      let place : Tree × Area = (Tip (Sibling gone), going.area) in
      let cut = well_cut_again way kept.frag kept.area place going.frag there made.well_cut other.well_cut in
      let weighs = parts.weight way kept.frag kept.area place going.frag there in
      let one : weight_of (Tip (Sibling gone)) ≡ 1 = refl in
      let kinds : All (BelongsAt kept.level) (leaves going.frag) = subst (λ (level : ℕ). All (BelongsAt level) (leaves going.frag)) same_level other.filled.kinds in
      record {
        fits = record { level = made.fits.level; attributes = made.fits.attributes };
        well_cut = same.cuts kept.area cut;
        filled = record {
          kinds = same.kinds kept.level (with_leaves (BelongsAt kept.level) way kept.frag going.frag made.filled.kinds kinds);
          light = let light = fits.may.light in omega (arith, same.weight, weighs, one, light);
          own = λ lone. with_own way kept.frag kept.area place going.frag there other.filled.own (normal_own t lone);
        };
        in_order = order_kept t kept.area cut (with_places parts IsInOrder way kept.frag kept.area place going.frag there made.in_order other.in_order);
        normal = joins.no_alike t;
      }

  pub kept_made : first_named gone (siblings_of kept) ≡ Some going.area → FitsFile meta (kept_page gone kept going)
  kept_made match =
      elim (sibling_way gone kept.frag) as (λ (o : Option (List Side)). sibling_way gone kept.frag ≡ o → FitsFile meta (record { level = kept.level; area = kept.area; frag = taken_over kept going o })) [
        | None ↦ λ none. absurd (let no : None ≡ Some going.area = sym (no_way gone kept.frag kept.area none) ∙ match in cc)
        | Some way ↦ λ is.
            let leads = way_leads gone kept.frag kept.area way is in
            let same : leads.box ≡ going.area = same_Some leads.box going.area (sym leads.first ∙ match) in
            made_by way (subst (λ (b : Area). part_at way kept.frag kept.area ≡ Some (Tip (Sibling gone), b)) same leads.part)
      ] refl
