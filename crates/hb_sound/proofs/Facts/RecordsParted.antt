-- The records of a page that is split are those of the two pages afterwards.
use Rattle.std.proofs.Common.{◌≡◌, ℕ, zero, ◌⊎◌, inl, inr, Bool, true, false, List, [], ◌∷◌, ◌++◌, filter, refl, sym, subst, arith}
use Rattle.std.specs.List.{Contains}
use Rattle.std.proofs.lemmas.Bool.{not-false, not_from_false}
use Rattle.std.proofs.lemmas.List.Elements.{Contains-append_cases, Contains-append_left, Contains-append_right}
use Rattle.hb_space.specs.Boxes.{Area, side_below, side_from}
use Rattle.hb_space.specs.declared.records.Record.{Record}
use Rattle.hb_frag.specs.declared.leaves.Leaf.TheVariants.{Records, Sibling}
use Rattle.hb_frag.specs.declared.pages.LivePage.{LivePage}
use Rattle.hb_frag.specs.declared.paths.Side.{Side}
use Rattle.hb_frag.specs.declared.paths.Side.TheVariants.{Left, Right}
use Rattle.hb_frag.specs.Trees.{Tree, Tip}
use Rattle.hb_frag.specs.Laws.{IsStretch}
use Rattle.hb_frag.specs.Leaves.{Placed, leaves_of, records_of}
use Rattle.hb_layout.specs.declared.meta.Meta.{Meta}
use Rattle.hb_ops.specs.Sound.{FitsFile}
use Rattle.hb_sound.proofs.Extractions.{Extraction, FitsPart, fresh_page, source_page}
use Rattle.hb_ops.specs.declared.leaf_cuts.LeafCut.{LeafCut}
use Rattle.hb_ops.specs.Cutting.{PartLeaves, PartsLeaf, area_on, cut_through, cut_with, going, half_area, half_on, is_on, other_side, reached, records_in, staying}
use Rattle.hb_lemmas.proofs.Lists.{filter_keeps, only_one}
use Rattle.hb_ops.proofs.Facts.CutLeafLaws.{StemsFrom}
use Rattle.hb_ops.proofs.Facts.StemLaws.{PartLaws, fresh_stems, source_stems, stretch as stretch_of}
use Rattle.hb_ops.proofs.Facts.PlacedLaws.{placed}

-- a leaf of these has the record
pub record AmongLeaves (ls : List Placed) (r : Record) : Type 0 where
  pub leaf : Placed
  pub there : Contains ls leaf
  pub among : Contains (records_of leaf.leaf) r

among_more : (r : Record) (ls others : List Placed) → ((x : Placed) → Contains ls x → Contains others x) → AmongLeaves ls r → AmongLeaves others r
among_more r ls others more w = record { leaf = w.leaf; there = more w.leaf w.there; among = w.among }

-- a leaf that comes from old ones has only records of theirs
stems_among : (old : List Placed) (y : Placed) (r : Record) → StemsFrom old y → Contains (records_of y.leaf) r → AmongLeaves old r
stems_among old y r stems has = elim stems [
  | inl there ↦ record { leaf = y; there = there; among = has }
  | inr w ↦ record { leaf = placed (Records w.all) w.area; there = w.there; among = w.some r (subst (λ leaf. Contains (records_of leaf) r) w.leaf has) }
]

-- a record of a leaf that is cut stays or goes on
other_passes : (side : Side) (axis value : ℕ) (r : Record) → is_on side axis value r ≡ false → is_on (other_side side) axis value r ≡ true
other_passes Left axis value r f = not_from_false (is_on Left axis value r) f
other_passes Right axis value r f = not-false (is_on Left axis value r) f

pub cut_has_on : (side : Side) (axis value : ℕ) (on off : Tree) (area : Area) (x : Placed) → Contains (leaves_of on (area_on side axis value area)) x → Contains (leaves_of (cut_with side axis value on off) area) x
cut_has_on Left axis value on off area x has = Contains-append_left (leaves_of on (side_below area axis value)) (leaves_of off (side_from area axis value)) x has
cut_has_on Right axis value on off area x has = Contains-append_right (leaves_of off (side_below area axis value)) (leaves_of on (side_from area axis value)) x has

cut_has_off : (side : Side) (axis value : ℕ) (on off : Tree) (area : Area) (x : Placed) → Contains (leaves_of off (area_on (other_side side) axis value area)) x → Contains (leaves_of (cut_with side axis value on off) area) x
cut_has_off Left axis value on off area x has = Contains-append_right (leaves_of on (side_below area axis value)) (leaves_of off (side_from area axis value)) x has
cut_has_off Right axis value on off area x has = Contains-append_left (leaves_of off (side_below area axis value)) (leaves_of on (side_from area axis value)) x has

lone_records : (area : Area) (records : List Record) (r : Record) → AmongLeaves (placed (Records records) area ∷ []) r → Contains records r
lone_records area records r w = subst (λ (l : Placed). Contains (records_of l.leaf) r) (sym (only_one (placed (Records records) area) w.leaf w.there)) w.among

in_records : (cut : LeafCut) (tree : Tree) (area : Area) → PartsLeaf cut tree area → (r : Record) → AmongLeaves (leaves_of tree area) r → Contains (records_in tree) r
in_records cut tree area h r w = subst (λ (t : Tree). AmongLeaves (leaves_of t area) r → Contains (records_in t) r) (sym h.leaf) (lone_records area h.records r) w

in_half : (side : Side) (cut : LeafCut) (tree : Tree) (area : Area) (r : Record) → Contains (records_in tree) r → is_on side cut.axis cut.value r ≡ true → AmongLeaves (leaves_of (half_on side cut tree) area) r
in_half side cut tree area r has passes = record {
  leaf = placed (Records (filter (is_on side cut.axis cut.value) (records_in tree))) area;
  there = (zero, omega arith, refl);
  among = filter_keeps (is_on side cut.axis cut.value) (records_in tree) r has passes;
}

abbrev InEither : List Placed → List Placed → Record → Type 0
InEither stay gone r = AmongLeaves stay r ⊎ AmongLeaves gone r

one_cut : (fresh : ℕ) (cut : LeafCut) (cuts : List LeafCut) (tree : Tree) (area : Area) (r : Record) (gone : List Placed) →
    (AmongLeaves (leaves_of (going cut tree) (half_area cut area)) r → InEither (leaves_of (cut_through cuts (going cut tree) (Tip (Sibling fresh))) (half_area cut area)) gone r) →
    Contains (records_in tree) r → (b : Bool) → is_on cut.side cut.axis cut.value r ≡ b → InEither (leaves_of (cut_through (cut ∷ cuts) tree (Tip (Sibling fresh))) area) gone r
one_cut fresh cut cuts tree area r gone rest has true is =
    let inner = cut_through cuts (going cut tree) (Tip (Sibling fresh)) in
    elim (rest (in_half cut.side cut tree (half_area cut area) r has is)) [
      | inl w ↦ inl (among_more r (leaves_of inner (half_area cut area)) (leaves_of (cut_through (cut ∷ cuts) tree (Tip (Sibling fresh))) area) (cut_has_on cut.side cut.axis cut.value inner (staying cut tree) area) w)
      | inr w ↦ inr w
    ]
one_cut fresh cut cuts tree area r gone rest has false is =
    let inner = cut_through cuts (going cut tree) (Tip (Sibling fresh)) in
    let off = area_on (other_side cut.side) cut.axis cut.value area in
    let w = in_half (other_side cut.side) cut tree off r has (other_passes cut.side cut.axis cut.value r is) in
    inl (among_more r (leaves_of (staying cut tree) off) (leaves_of (cut_through (cut ∷ cuts) tree (Tip (Sibling fresh))) area) (cut_has_off cut.side cut.axis cut.value inner (staying cut tree) area) w)

kept_through : (fresh : ℕ) (cuts : List LeafCut) (tree : Tree) (area : Area) → PartLeaves cuts tree area → (r : Record) → AmongLeaves (leaves_of tree area) r → InEither (leaves_of (cut_through cuts tree (Tip (Sibling fresh))) area) (leaves_of (reached cuts tree area).0 (reached cuts tree area).1) r
kept_through fresh [] tree area h r w = inr w
kept_through fresh (cut ∷ cuts) tree area h r w =
    one_cut fresh cut cuts tree area r (leaves_of (reached (cut ∷ cuts) tree area).0 (reached (cut ∷ cuts) tree area).1) (kept_through fresh cuts (going cut tree) (half_area cut area) h.1 r) (in_records cut tree area h.0 r w) (is_on cut.side cut.axis cut.value r) refl

-- the records of two pages are those of a third
pub record ShareRecords (page source fresh : LivePage) : Type 0 where
  pub forth : (r : Record) → AmongLeaves (leaves_of page.frag page.area) r → InEither (leaves_of source.frag source.area) (leaves_of fresh.frag fresh.area) r
  pub from_source : (r : Record) → AmongLeaves (leaves_of source.frag source.area) r → AmongLeaves (leaves_of page.frag page.area) r
  pub from_fresh : (r : Record) → AmongLeaves (leaves_of fresh.frag fresh.area) r → AmongLeaves (leaves_of page.frag page.area) r

module _ (laws : PartLaws) (meta : Meta) (x : Extraction) (page : LivePage) (part : Tree × Area) (made : FitsFile meta page) (fits : FitsPart x page part) where
  abbrev source : LivePage
  source = source_page x page part

  abbrev fresh : LivePage
  fresh = fresh_page x page part

  abbrev old : List Placed
  old = leaves_of page.frag page.area

  abbrev stretch : IsStretch x.path page.frag page.area part
  stretch = stretch_of laws x.fresh x.path x.cuts page part fits

  abbrev opened : List Placed
  opened = leaves_of (cut_through x.cuts part.0 (Tip (Sibling x.fresh))) part.1

  source_has : (y : Placed) → Contains ((stretch.front ++ opened) ++ stretch.behind) y → Contains (leaves_of source.frag source.area) y
  source_has y has = subst (λ (ls : List Placed). Contains ls y) (sym (stretch.other (cut_through x.cuts part.0 (Tip (Sibling x.fresh))))) has

  forth : (r : Record) → AmongLeaves old r → InEither (leaves_of source.frag source.area) (leaves_of fresh.frag fresh.area) r
  forth r w =
      elim (Contains-append_cases (stretch.front ++ leaves_of part.0 part.1) stretch.behind w.leaf (subst (λ (ls : List Placed). Contains ls w.leaf) stretch.whole w.there)) [
        | inl l ↦ elim (Contains-append_cases stretch.front (leaves_of part.0 part.1) w.leaf l) [
          | inl f ↦ inl (record { leaf = w.leaf; there = source_has w.leaf (Contains-append_left (stretch.front ++ opened) stretch.behind w.leaf (Contains-append_left stretch.front opened w.leaf f)); among = w.among })
          | inr m ↦ elim (kept_through x.fresh x.cuts part.0 part.1 fits.parted r (record { leaf = w.leaf; there = m; among = w.among })) [
            | inl k ↦ inl (record { leaf = k.leaf; there = source_has k.leaf (Contains-append_left (stretch.front ++ opened) stretch.behind k.leaf (Contains-append_right stretch.front opened k.leaf k.there)); among = k.among })
            | inr k ↦ inr k
          ]
        ]
        | inr b ↦ inl (record { leaf = w.leaf; there = source_has w.leaf (Contains-append_right (stretch.front ++ opened) stretch.behind w.leaf b); among = w.among })
      ]

  from_source : (r : Record) → AmongLeaves (leaves_of source.frag source.area) r → AmongLeaves old r
  from_source r w = elim (source_stems laws x.fresh x.path x.cuts page part fits w.leaf w.there) [
    | inl is ↦ let none : Contains [] r = subst (λ (l : Placed). Contains (records_of l.leaf) r) (sym is) w.among in absurd (omega (arith, none.1))
    | inr stems ↦ stems_among old w.leaf r stems w.among
  ]

  pub share_records : ShareRecords page source fresh
  share_records = record {
    forth = forth;
    from_source = from_source;
    from_fresh = λ r w. stems_among old w.leaf r (fresh_stems laws x.fresh x.path x.cuts page part fits w.leaf w.there) w.among;
  }
