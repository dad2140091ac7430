-- A page in which another one is named is well made again.
use Rattle.std.proofs.Common.{◌≡◌, ℕ, ◌<◌, ◌≤◌, Bool, cond, List, [], length, All, refl, sym, subst, ◌∙◌, arith, ne_eqb}
use Rattle.std.proofs.lemmas.List.Elements.{All-append, All-cons, All-head, All-nil}
use Rattle.hb_space.specs.Boxes.{Area, Holds, side_below, side_from}
use Rattle.hb_frag.specs.declared.leaves.Leaf.TheVariants.{Records, Child, Sibling}
use Rattle.hb_frag.specs.declared.pages.LivePage.{LivePage}
use Rattle.hb_frag.specs.declared.paths.Side.{Side}
use Rattle.hb_frag.specs.Carving.{carved}
use Rattle.hb_frag.specs.Leaves.{leaves, leaves_of, weight_of}
use Rattle.hb_frag.specs.Normal.{normal}
use Rattle.hb_frag.specs.NormalLaws.{SaysTheSame}
use Rattle.hb_frag.specs.Paths.{with_part}
use Rattle.hb_frag.specs.Rules.{BelongsAt, IsInOrder, IsNormal}
use Rattle.hb_frag.specs.Trees.{Tree, Tip, Cut}
use Rattle.hb_layout.specs.declared.meta.Meta.{Meta}
use Rattle.hb_ops.specs.Posting.{FitsPost, post_page}
use Rattle.hb_ops.specs.Sound.{FitsFile}
use Rattle.hb_ops.proofs.CarvedCuts.{carved_below, carved_own, carved_well_cut}
use Rattle.hb_lemmas.proofs.Lists.{All-parts}
use Rattle.hb_ops.proofs.Facts.PathLaws.{with_own, well_cut_again}
use Rattle.hb_ops.proofs.PostTests.{leaf_attributes, page_named, the_tree}
use Rattle.hb_ops.proofs.Facts.PlacedLaws.{placed}
use Rattle.hb_ops.proofs.Facts.JoinedParts.{normal_own, with_leaves}

-- what the laws of joined leaves say
pub record JoinLaws : Type 0 where
  pub no_alike : (t : Tree) → IsNormal (normal t)
  pub same : (t : Tree) → SaysTheSame t (normal t)

-- above level 0 there are no records to be in order
pub order_above : (level : ℕ) (t : Tree) (area : Area) → 0 < level → All (BelongsAt level) (leaves t) → All IsInOrder (leaves_of t area)
order_above level (Tip (Records records)) area above kinds = absurd (let e = All-head (BelongsAt level) (Records records) [] kinds in omega (arith, e, above))
order_above level (Tip (Child page)) area above kinds = All-cons IsInOrder (placed (Child page) area) [] (record { inside = All-nil (λ r. Holds area r.key); rising = λ i j d lt in_range. absurd (omega arith) }) (All-nil IsInOrder)
order_above level (Tip (Sibling page)) area above kinds = All-cons IsInOrder (placed (Sibling page) area) [] (record { inside = All-nil (λ r. Holds area r.key); rising = λ i j d lt in_range. absurd (omega arith) }) (All-nil IsInOrder)
order_above level (Cut axis value left right) area above kinds =
    let both = (All-parts (BelongsAt level) (leaves left) (leaves right)).0 kinds in
    let below = side_below area axis value in
    let from = side_from area axis value in
    All-append IsInOrder (leaves_of left below) (leaves_of right from) (order_above level left below above both.0) (order_above level right from above both.1)

pub post_made : JoinLaws → (meta : Meta) (page : LivePage) (at : List Side) (inner : ℕ) (area : Area) → length area.lo ≡ meta.k → FitsPost meta page at inner area → FitsFile meta (post_page at inner area page)
post_made laws meta page at inner area attributes fits =
    let made = fits.made in
    let outer = fits.outer in
    let box = fits.box in
    let new = carved box area outer inner in
    let t = with_part at page.frag new in
    let same = laws.same t in
    let box_has = leaf_attributes meta page at inner area outer box fits.leaf made in
    let cut = carved_well_cut box area outer inner (attributes ∙ sym box_has) fits.meets in
    let kinds = same.kinds page.level (with_leaves (BelongsAt page.level) at page.frag new made.filled.kinds (carved_below page.level box area outer inner fits.above)) in
    let light = subst (λ (t : Tree). weight_of t ≤ meta.icap) (the_tree meta page at inner area outer box fits.leaf) fits.room in
    subst (FitsFile meta) (page_named meta page at inner area outer box fits.leaf (normal t) refl) (record {
      fits = record { level = made.fits.level; attributes = made.fits.attributes };
      well_cut = same.cuts page.area (well_cut_again at page.frag page.area (Tip (Child outer), box) new fits.leaf made.well_cut cut);
      filled = record {
        kinds = kinds;
        light = subst (λ (b : Bool). weight_of (normal t) ≤ cond b meta.dcap meta.icap) (sym (ne_eqb page.level 0 (λ e. let above = fits.above in omega arith))) light;
        own = λ lone. with_own at page.frag page.area (Tip (Child outer), box) new fits.leaf (carved_own box area outer inner) (normal_own t lone);
      };
      in_order = order_above page.level (normal t) page.area fits.above kinds;
      normal = laws.no_alike t;
    })
