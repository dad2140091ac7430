-- When a page may be named in another one, and what that makes.
use Rattle.std.proofs.Common.{◌≡◌, ◌≢◌, ◌↔◌, Bool, cond, arith, ne_eqb, ℕ, ◌+◌, ◌<◌, ◌≤◌, List, length, Option, Some, None, sym, ap, subst, ◌∙◌}
use Rattle.hb_space.specs.Boxes.{Area, Meets}
use Rattle.hb_frag.specs.declared.leaves.Leaf.TheVariants.{Child}
use Rattle.hb_frag.specs.declared.pages.LivePage.{LivePage}
use Rattle.hb_frag.specs.declared.paths.Side.{Side}
use Rattle.hb_frag.specs.Carving.{carved}
use Rattle.hb_frag.specs.Leaves.{weight_of}
use Rattle.hb_frag.specs.Normal.{normal}
use Rattle.hb_frag.specs.Paths.{StaysInside, with_part}
use Rattle.hb_frag.specs.Trees.{Tree, Tip}
use Rattle.hb_layout.specs.declared.meta.Meta.{Meta}
use Rattle.hb_ops.specs.Posting.{FitsPost, IsChildAt, post_page, posted, PostsAt}
use Rattle.hb_ops.specs.Sound.{FitsFile}
use Rattle.hb_ops.proofs.CutTests.{stays_inside}
use Rattle.hb_ops.proofs.Facts.PathLaws.{part_has}

-- there is one part at a path
abbrev name_in : Option (Tree × Area) → ℕ
name_in (Some (Tip (Child page), box)) = page
name_in _ = 0

abbrev box_in : Area → Option (Tree × Area) → Area
box_in other None = other
box_in other (Some part) = part.1

module _ (meta : Meta) (page : LivePage) (at : List Side) (inner : ℕ) (area : Area) (outer : ℕ) (box : Area) (leaf : IsChildAt at page outer box) where
  the_name : (fits : FitsPost meta page at inner area) → outer ≡ fits.outer
  the_name fits = ap name_in (sym leaf ∙ fits.leaf)

  the_box : (fits : FitsPost meta page at inner area) → fits.box ≡ box
  the_box fits = ap (box_in box) (sym fits.leaf ∙ leaf)

  abbrev pub joined_tree : Tree
  joined_tree = normal (with_part at page.frag (carved box area outer inner))

  pub the_tree : (post_page at inner area page).frag ≡ joined_tree
  the_tree = ap (posted at inner area page.frag) leaf

  -- no page is named beside itself, nor where the boxes don't meet
  pub not_itself : outer ≡ inner → ¬ (FitsPost meta page at inner area)
  not_itself same fits = fits.other (sym (the_name fits) ∙ same)

  pub not_apart : ¬ (Meets box area) → ¬ (FitsPost meta page at inner area)
  not_apart apart fits = apart (subst (λ (b : Area). Meets b area) (the_box fits) fits.meets)

  -- elsewhere it is where there is room
  pub with_room : ((weight_of joined_tree ≤ meta.icap) ↔ (weight_of page.frag + weight_of (carved box area outer inner) ≤ meta.icap + 1)) → FitsFile meta page → 0 < page.level → outer ≢ inner → Meets box area →
      (weight_of page.frag + weight_of (carved box area outer inner) ≤ meta.icap + 1) ↔ FitsPost meta page at inner area
  with_room room made above other meets = (
    λ le. record {
      made = made;
      above = above;
      outer = outer;
      box = box;
      leaf = leaf;
      other = other;
      meets = meets;
      room = subst (λ (t : Tree). weight_of t ≤ meta.icap) (sym the_tree) (room.1 le);
    },
    λ fits. room.0 (subst (λ (t : Tree). weight_of t ≤ meta.icap) the_tree fits.room),
  )

  -- the leaf's box has the file's attributes
  pub leaf_attributes : FitsFile meta page → length box.lo ≡ meta.k
  leaf_attributes made = (part_has at page.frag page.area (Tip (Child outer), box) leaf made.well_cut made.normal).attributes ∙ made.fits.attributes

  pub posts_at : FitsFile meta page → length area.lo ≡ meta.k → FitsPost meta page at inner area → PostsAt meta page at inner area outer box
  posts_at made attributes fits = record {
    allowed = fits;
    leaf = leaf;
    meets = subst (λ (b : Area). Meets b area) (the_box fits) fits.meets;
    attributes = attributes ∙ sym (leaf_attributes made);
  }

  pub leaf_inside : StaysInside at page.frag
  leaf_inside = stays_inside at page.frag page.area (Tip (Child outer), box) leaf

  -- the page that is made
  pub page_named : (frag : Tree) → frag ≡ joined_tree → (record { level = page.level; area = page.area; frag = frag }) ≡ post_page at inner area page
  page_named frag is = ap (λ (t : Tree). record { level = page.level; area = page.area; frag = t }) (is ∙ sym the_tree)

-- what a page above level 0 weighs
pub light_above : (meta : Meta) (page : LivePage) → FitsFile meta page → 0 < page.level → weight_of page.frag ≤ meta.icap
light_above meta page made above = subst (λ (b : Bool). weight_of page.frag ≤ cond b meta.dcap meta.icap) (ne_eqb page.level 0 (λ e. omega arith)) made.filled.light

-- where the path leads to no child leaf
pub no_child : (meta : Meta) (page : LivePage) (at : List Side) (inner : ℕ) (area : Area) → ((outer : ℕ) (box : Area) → ¬ (IsChildAt at page outer box)) → ¬ (FitsPost meta page at inner area)
no_child meta page at inner area none fits = none fits.outer fits.box fits.leaf
