-- What the leaves of the two pages say that a merge makes: the page to keep says what the two pages said, and the parent what
-- it said but for the name.
use Rattle.std.proofs.Common.{◌≡◌, ◌≢◌, ℕ, ◌+◌, ◌⊎◌, inl, inr, Bool, cond, List, [], ◌∷◌, ◌++◌, map, Option, Some, None, IsSome, refl, sym, ap, subst, ◌∙◌, arith, eqb, eq-eqb, ne_eqb}
use Rattle.std.specs.List.{Contains}
use Rattle.std.proofs.lemmas.Bool.{cases_eq}
use Rattle.std.proofs.lemmas.List.Elements.{Contains-append_cases, Contains-append_left, Contains-append_right}
use Rattle.std.proofs.lemmas.Option.{same_Some}
use Rattle.hb_lemmas.proofs.Lists.{first_member, later_member, member_cases}
use Rattle.hb_space.specs.Boxes.{Area, IsArea, Holds}
use Rattle.hb_frag.specs.declared.leaves.Leaf.{Leaf}
use Rattle.hb_frag.specs.declared.leaves.Leaf.TheVariants.{Records, Child, Sibling}
use Rattle.hb_frag.specs.declared.pages.LivePage.{LivePage}
use Rattle.hb_frag.specs.declared.paths.Side.{Side}
use Rattle.hb_frag.specs.Laws.{IsStretch, IsWayToSibling}
use Rattle.hb_frag.specs.Leaves.{IsWellCut, Placed, first_at, first_named, leaves_of, siblings, siblings_of}
use Rattle.hb_frag.specs.Normal.{normal}
use Rattle.hb_frag.specs.NormalLaws.{KeepsLeaf, SaysTheSame}
use Rattle.hb_frag.specs.Paths.{part_at, sibling_way, with_part}
use Rattle.hb_frag.specs.Renaming.{Renames, renamed, renamed_leaf, renamed_place}
use Rattle.hb_frag.specs.Trees.{Tree, Tip}
use Rattle.hb_ops.specs.LawsOfContents.{ChangesMakeWell}
use Rattle.hb_ops.specs.Merging.{kept_page, parent_page, taken_over}
use Rattle.hb_ops.specs.Sound.{count_name}
use Rattle.hb_ops.proofs.Facts.PathLaws.{well_cut_again}
use Rattle.hb_ops.proofs.Facts.PlacedLaws.{leaf_is_sibling, placed, sibling_is_leaf}
use Rattle.hb_sound.specs.Laws.{TreeLaws}
use Rattle.hb_sound.proofs.CutNames.{named, named-append, once}

-- what the laws of parts, of ways, of names and of joined leaves say, and that an operation makes well-made pages
pub record MergeLaws : Type 0 where
  pub parts : (path : List Side) (t : Tree) (a : Area) (part : Tree × Area) → part_at path t a ≡ Some part → IsStretch path t a part
  pub leads : (id : ℕ) (t : Tree) (a : Area) (way : List Side) → sibling_way id t ≡ Some way → IsWayToSibling id t a way
  pub none : (id : ℕ) (t : Tree) (a : Area) → sibling_way id t ≡ None → first_named id (siblings (leaves_of t a)) ≡ None
  pub renames : (old new : ℕ) (t : Tree) → Renames old new t
  pub same : (t : Tree) → SaysTheSame t (normal t)
  pub well : ChangesMakeWell

-- a page has a child leaf to that page whose box has the point
pub record NamesChild (page : LivePage) (name : ℕ) (p : List ℕ) : Type 0 where
  pub area : Area
  pub has : Contains (leaves_of page.frag page.area) (placed (Child name) area)
  pub held : Holds area p

-- what keeps a child leaf's name is that child leaf
child_kept : (leaf : Leaf) (n : ℕ) → KeepsLeaf leaf (Child n) → leaf ≡ Child n
child_kept (Records records) n kept = absurd kept
child_kept (Child page) n kept = ap Child kept
child_kept (Sibling page) n kept = absurd kept

-- what a tree with joined leaves names at a point, the tree named there before
module _ (trees : TreeLaws) (t : Tree) (area : Area) (same : SaysTheSame t (normal t)) (box : IsArea area) (cut : IsWellCut t area) where
  named_before : (n : ℕ) (a : Area) (p : List ℕ) → Contains (leaves_of (normal t) area) (placed (Child n) a) → Holds a p → (b : Area) × Contains (leaves_of t area) (placed (Child n) b) × Holds b p
  named_before n a p has held =
      let again : IsWellCut (normal t) area = same.cuts area cut in
      let first : first_at p (leaves_of (normal t) area) ≡ Some (placed (Child n) a) = (trees.only (normal t) area p (placed (Child n) a) box again).1 (has, held) in
      let inside : Holds area p = (trees.some (normal t) area p box again).0 (subst (λ (o : Option Placed). IsSome o) (sym first) refl) in
      let k = same.points area p box cut inside in
      let after : k.after ≡ placed (Child n) a = same_Some k.after (placed (Child n) a) (sym k.new_leaf ∙ first) in
      let kept : KeepsLeaf k.before.leaf (Child n) = subst (λ (l : Placed). KeepsLeaf k.before.leaf l.leaf) after k.kept in
      let there = (trees.only t area p k.before box cut).0 k.old_leaf in
      (k.before.area, subst (λ (l : Leaf). Contains (leaves_of t area) (placed l k.before.area)) (child_kept k.before.leaf n kept) there.0, there.1)

-- ---- the page to keep

module _ (trees : TreeLaws) (laws : MergeLaws) (gone : ℕ) (kept going : LivePage) (found : first_named gone (siblings_of kept) ≡ Some going.area) where
  -- the path to the leaf that names the page to go
  pub record HasWay : Type 0 where
    pub way : List Side
    pub there : sibling_way gone kept.frag ≡ Some way
    pub part : part_at way kept.frag kept.area ≡ Some (Tip (Sibling gone), going.area)

  way_from : (o : Option (List Side)) → sibling_way gone kept.frag ≡ o → HasWay
  way_from None e = let never : None ≡ Some going.area = sym (laws.none gone kept.frag kept.area e) ∙ found in absurd (let no : ⊥ = cc in no)
  way_from (Some way) e =
      let leads = laws.leads gone kept.frag kept.area way e in
      let same : leads.box ≡ going.area = same_Some leads.box going.area (sym leads.first ∙ found) in
      record { way = way; there = e; part = leads.part ∙ ap (λ (a : Area). Some (Tip (Sibling gone), a)) same }

  pub has_way : HasWay
  has_way = way_from (sibling_way gone kept.frag) refl

  -- the tree before alike leaves are joined
  abbrev opened : Tree
  opened = with_part has_way.way kept.frag going.frag

  abbrev pub new : LivePage
  new = record { level = kept.level; area = kept.area; frag = normal opened }

  pub kept_so : kept_page gone kept going ≡ new
  kept_so = ap (λ (o : Option (List Side)). record { level = kept.level; area = kept.area; frag = taken_over kept going o }) has_way.there

  abbrev old : List Placed
  old = leaves_of kept.frag kept.area

  abbrev given : List Placed
  given = leaves_of going.frag going.area

  abbrev between : List Placed
  between = leaves_of opened kept.area

  abbrev one : List Placed
  one = placed (Sibling gone) going.area ∷ []

  stretch : IsStretch has_way.way kept.frag kept.area (Tip (Sibling gone), going.area)
  stretch = laws.parts has_way.way kept.frag kept.area (Tip (Sibling gone), going.area) has_way.part

  -- a leaf of it stood in one of the two pages
  comes_from : (y : Placed) → Contains between y → Contains old y ⊎ Contains given y
  comes_from y has = elim (Contains-append_cases (stretch.front ++ given) stretch.behind y (subst (λ (ls : List Placed). Contains ls y) (stretch.other going.frag) has)) [
    | inl l ↦ elim (Contains-append_cases stretch.front given y l) [
      | inl f ↦ inl (subst (λ (ls : List Placed). Contains ls y) (sym stretch.whole) (Contains-append_left (stretch.front ++ one) stretch.behind y (Contains-append_left stretch.front one y f)))
      | inr g ↦ inr g
    ]
    | inr b ↦ inl (subst (λ (ls : List Placed). Contains ls y) (sym stretch.whole) (Contains-append_right (stretch.front ++ one) stretch.behind y b))
  ]

  same_siblings : siblings_of new ≡ siblings between
  same_siblings = (laws.same opened).siblings kept.area

  -- so did each sibling leaf
  pub siblings_from : (name : ℕ) (a : Area) → Contains (siblings_of new) (name, a) → Contains (siblings_of kept) (name, a) ⊎ Contains (siblings_of going) (name, a)
  siblings_from name a has =
      let there : Contains (siblings between) (name, a) = subst (λ (ss : List (ℕ × Area)). Contains ss (name, a)) same_siblings has in
      elim (comes_from (placed (Sibling name) a) (sibling_is_leaf between name a there)) [
        | inl o ↦ inl (leaf_is_sibling old name a o)
        | inr g ↦ inr (leaf_is_sibling given name a g)
      ]

  -- no name is lost but one of the page to go
  pub names_again : (n : ℕ) → count_name n (siblings_of new) + once n gone ≡ count_name n (siblings_of kept) + count_name n (siblings_of going)
  names_again n =
      let now : count_name n (siblings_of new) ≡ named n between = ap (count_name n) same_siblings in
      let opens : named n between ≡ named n ((stretch.front ++ given) ++ stretch.behind) = ap (named n) (stretch.other going.frag) in
      let in_three = named-append n (stretch.front ++ given) stretch.behind in
      let in_two = named-append n stretch.front given in
      let was : named n old ≡ named n ((stretch.front ++ one) ++ stretch.behind) = ap (named n) stretch.whole in
      let of_three = named-append n (stretch.front ++ one) stretch.behind in
      let of_two = named-append n stretch.front one in
      let alone : named n one ≡ once n gone = omega arith in
      omega (arith, now, opens, in_three, in_two, was, of_three, of_two, alone)

  module _ (box : IsArea kept.area) (kept_cut : IsWellCut kept.frag kept.area) (going_cut : IsWellCut going.frag going.area) where
    opened_cut : IsWellCut opened kept.area
    opened_cut = well_cut_again has_way.way kept.frag kept.area (Tip (Sibling gone), going.area) going.frag has_way.part kept_cut going_cut

    -- at each point of a child leaf one of the two pages named the child
    pub child_from : (name : ℕ) (a : Area) (p : List ℕ) → Contains (leaves_of new.frag new.area) (placed (Child name) a) → Holds a p → NamesChild kept name p ⊎ NamesChild going name p
    child_from name a p has held =
        let w = named_before trees opened kept.area (laws.same opened) box opened_cut name a p has held in
        elim (comes_from (placed (Child name) w.0) w.1) [
          | inl o ↦ inl (record { area = w.0; has = o; held = w.2 })
          | inr g ↦ inr (record { area = w.0; has = g; held = w.2 })
        ]

-- ---- the parent

-- a member of a list with a change made to each comes from one
mapped_from : {X Y : Type 0} (f : X → Y) (xs : List X) (y : Y) → Contains (map f xs) y → (x : X) × Contains xs x × (f x ≡ y)
mapped_from {X} {Y} f [] y h = absurd (omega (arith, h.1))
mapped_from {X} {Y} f (x ∷ xs) y h = elim (member_cases (f x) (map f xs) y h) [
  | inl is ↦ (x, first_member x xs, is)
  | inr rest ↦ let w = mapped_from f xs y rest in (w.0, later_member x xs w.0 w.1, w.2)
]

-- the name that a child leaf had before
abbrev IsOldName : ℕ → ℕ → ℕ → ℕ → Type 0
IsOldName gone keep name was = ((was ≡ gone) × (name ≡ keep)) ⊎ ((was ≢ gone) × (name ≡ was))

old_name : (gone keep name : ℕ) (leaf : Leaf) → renamed_leaf gone keep leaf ≡ Child name → (was : ℕ) × (leaf ≡ Child was) × IsOldName gone keep name was
old_name gone keep name (Records records) e = absurd (let no : ⊥ = cc in no)
old_name gone keep name (Sibling page) e = absurd (let no : ⊥ = cc in no)
old_name gone keep name (Child page) e =
    let now : cond (eqb page gone) keep page ≡ name = cc in (
      page,
      refl,
      elim (cases_eq page gone) [
        | inl is ↦ inl (is, sym now ∙ ap (λ (b : Bool). cond b keep page) (eq-eqb page gone is))
        | inr ne ↦ inr (ne, sym now ∙ ap (λ (b : Bool). cond b keep page) (ne_eqb page gone ne))
      ],
    )

module _ (trees : TreeLaws) (laws : MergeLaws) (keep gone : ℕ) (above : LivePage) where
  -- no sibling leaf of the parent changes
  pub siblings_stay : siblings_of (parent_page keep gone above) ≡ siblings_of above
  siblings_stay = (laws.same (renamed gone keep above.frag)).siblings above.area ∙ (laws.renames gone keep above.frag).siblings above.area

  -- at each point of a child leaf of the new parent the old one named that child, or the page to go where it is the page to keep
  pub parent_child_from : IsArea above.area → IsWellCut above.frag above.area → (name : ℕ) (a : Area) (p : List ℕ) → Contains (leaves_of (parent_page keep gone above).frag above.area) (placed (Child name) a) → Holds a p
      → (was : ℕ) × NamesChild above was p × IsOldName gone keep name was
  parent_child_from box cut name a p has held =
      let names = laws.renames gone keep above.frag in
      let w = named_before trees (renamed gone keep above.frag) above.area (laws.same (renamed gone keep above.frag)) box ((names.cuts above.area).1 cut) name a p has held in
      let m = mapped_from (renamed_place gone keep) (leaves_of above.frag above.area) (placed (Child name) w.0) (subst (λ (ls : List Placed). Contains ls (placed (Child name) w.0)) (names.leaves above.area) w.1) in
      let o = old_name gone keep name m.0.leaf (ap (λ (l : Placed). l.leaf) m.2) in
      let area : m.0.area ≡ w.0 = ap (λ (l : Placed). l.area) m.2 in (
        o.0,
        record {
          area = m.0.area;
          has = subst (λ (l : Leaf). Contains (leaves_of above.frag above.area) (placed l m.0.area)) o.1 m.1;
          held = subst (λ (b : Area). Holds b p) (sym area) w.2;
        },
        o.2,
      )
