-- The page that is split and the page that is made: whom they name, and how large the new one is.
use Rattle.std.proofs.Common.{◌≡◌, ℕ, ◌+◌, ◌<◌, inl, inr, List, [], ◌∷◌, ◌++◌, refl, sym, ap, ◌∙◌, arith}
use Rattle.std.specs.List.{Contains}
use Rattle.hb_space.specs.Boxes.{Area, volume}
use Rattle.hb_frag.specs.declared.leaves.Leaf.TheVariants.{Child, Sibling}
use Rattle.hb_frag.specs.declared.pages.LivePage.{LivePage}
use Rattle.hb_frag.specs.declared.paths.Side.{Side}
use Rattle.hb_frag.specs.Trees.{Tree, Tip}
use Rattle.hb_frag.specs.Leaves.{Placed, leaves_of, IsWellCut}
use Rattle.hb_frag.specs.Paths.{part_at}
use Rattle.hb_sound.proofs.Extractions.{Extraction, FitsPart, fresh_page, source_page}
use Rattle.hb_ops.specs.Cutting.{cut_through}
use Rattle.hb_sound.proofs.CutVolumes.{reached_smaller, reached_no_larger, part_smaller}
use Rattle.hb_ops.proofs.Facts.CutLeafLaws.{StemsFrom}
use Rattle.hb_sound.proofs.CutNames.{named, named-append, once, through_names}
use Rattle.hb_ops.proofs.Facts.PlacedLaws.{placed}
use Rattle.hb_ops.proofs.Facts.StemLaws.{PartLaws, stretch as stretch_of}
use Rattle.std.proofs.lemmas.Option.{same_Some}

-- a leaf that names a page and comes from old ones is one of them
pub stems_child : (old : List Placed) (name : ℕ) (area : Area) → StemsFrom old (placed (Child name) area) → Contains old (placed (Child name) area)
stems_child old name area stems = elim stems [ inl has ↦ has | inr w ↦ absurd (let e = w.leaf in let no : ⊥ = cc in no) ]

pub stems_sibling : (old : List Placed) (name : ℕ) (area : Area) → StemsFrom old (placed (Sibling name) area) → Contains old (placed (Sibling name) area)
stems_sibling old name area stems = elim stems [ inl has ↦ has | inr w ↦ absurd (let e = w.leaf in let no : ⊥ = cc in no) ]

module _ (laws : PartLaws) (x : Extraction) (page : LivePage) (part : Tree × Area) (well_cut : IsWellCut page.frag page.area) (fits : FitsPart x page part) where
  abbrev pub old : List Placed
  old = leaves_of page.frag page.area

  abbrev pub fresh : LivePage
  fresh = fresh_page x page part

  abbrev pub source : LivePage
  source = source_page x page part

  abbrev pub opened : Tree
  opened = cut_through x.cuts part.0 (Tip (Sibling x.fresh))

  -- the names of both pages are those of the page before, and the new one's
  named_three : (id : ℕ) (f m b : List Placed) → named id ((f ++ m) ++ b) ≡ (named id f + named id m) + named id b
  named_three id f m b = let one = named-append id (f ++ m) b in let two = named-append id f m in omega (arith, one, two)

  pub names_parted : (id : ℕ) → named id (leaves_of source.frag source.area) + named id (leaves_of fresh.frag fresh.area) ≡ named id old + once id x.fresh
  names_parted id =
      let through = through_names x.fresh id x.cuts part.0 part.1 fits.parted in
      let stretch = stretch_of laws x.fresh x.path x.cuts page part fits in
      let before = ap (named id) stretch.whole in
      let after = ap (named id) (stretch.other opened) in
      let three = named_three id stretch.front (leaves_of part.0 part.1) stretch.behind in
      let again = named_three id stretch.front (leaves_of opened part.1) stretch.behind in
      omega (arith, through, before, after, three, again)

  -- the new page's box is smaller
  pub fresh_smaller : volume fresh.area < volume page.area
  fresh_smaller = by_path x.path refl
    where
      by_path : (path : List Side) → x.path ≡ path → volume fresh.area < volume page.area
      by_path [] is =
          let root : (page.frag, page.area) ≡ part = same_Some (page.frag, page.area) part (ap (λ (p : List Side). part_at p page.frag page.area) (sym is) ∙ fits.there) in
          let same = ap (λ (w : Tree × Area). volume w.1) root in
          let less = reached_smaller x.cuts part.0 part.1 (fits.less is) fits.parted in
          omega (arith, same, less)
      by_path (side ∷ path) is =
          let less = part_smaller x.path page.frag page.area part (λ e. let both = sym is ∙ e in let no : ⊥ = cc in no) fits.there well_cut in
          let rest = reached_no_larger x.cuts part.0 part.1 fits.parted in
          omega (arith, less, rest)
