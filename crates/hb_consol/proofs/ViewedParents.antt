-- What a consolidator comes to at a page that is read from its bytes is its row there.
use Rattle.std.proofs.Common.{◌≡◌, inl, inr, ℕ, zero, suc, ◌+◌, ◌<◌, ◌≤◌, List, [], ◌∷◌, length, map, drop, Option, Some, None, refl, sym, ap, ◌∙◌, subst, arith}
use Rattle.std.specs.List.{slice_get}
use Rattle.std.proofs.Math.ListN.{drop_of_length-le}
use Rattle.std.proofs.Math.Seq.{drop-cons}
use Rattle.std.proofs.lemmas.List.{length-map}
use Rattle.std.proofs.lemmas.Option.{get_or_from_slice_get, same_Some, slice_get_within}
use Rattle.hb_activity.proofs.Facts.OneLeaf.{no_records}
use Rattle.hb_activity.proofs.PassedOn.{passes_child, passes_sibling, stays_at_records}
use Rattle.hb_activity.specs.Deciding.{NextIs, deed_of}
use Rattle.hb_activity.specs.Passing.{LeadsBelow}
use Rattle.hb_activity.specs.Sights.{Sight}
use Rattle.hb_activity.specs.declared.activities.Activity.{Activity}
use Rattle.hb_activity.specs.declared.activities.Activity.TheVariants as at
use Rattle.hb_activity.specs.declared.deciding.Fate.TheVariants as fates
use Rattle.hb_activity.specs.declared.deciding.Next.{Next}
use Rattle.hb_activity.specs.declared.jobs.Job.{Job}
use Rattle.hb_activity.specs.declared.jobs.JobKind.TheVariants.{Post}
use Rattle.hb_consol.proofs.ChildrenBehind.{first_in_front, first_in_rest, first_of_firsts}
use Rattle.hb_consol.proofs.MadeRows.{few_leaves}
use Rattle.hb_consol.specs.Asks.{IsAskedToMerge}
use Rattle.hb_consol.specs.ConsolidatorRows.{children_of, first_one, scans}
use Rattle.hb_consol.specs.MergeRows.{ConsolidatorRow}
use Rattle.hb_frag.proofs.Facts.Tiles.{leaves_placed}
use Rattle.hb_frag.specs.Leaves.{Placed, child_names, leaf_at, leaves, leaves_of}
use Rattle.hb_frag.specs.declared.leaves.Leaf.{Leaf}
use Rattle.hb_frag.specs.declared.leaves.Leaf.TheVariants as leaf
use Rattle.hb_frag.specs.declared.pages.LivePage.{LivePage}
use Rattle.hb_frag.specs.declared.pages.Page.{Page}
use Rattle.hb_frag.specs.declared.pages.Page.TheVariants.{Live, Free}
use Rattle.hb_space.specs.Boxes.{Area}
use Rattle.hb_view.specs.Views.{IsLiveAnd, ShowsLeaf, leaf_view}
use Rattle.hb_view.specs.declared.leaves.LeafView.{LeafView}
use Rattle.hb_view.specs.declared.leaves.LeafView.TheVariants as views

-- ---- the first child, leaf by leaf

abbrev placed_in : LivePage → List Placed
placed_in page = leaves_of page.frag page.area

abbrev from_place : ℕ → LivePage → List Leaf
from_place place page = map (λ (l : Placed). l.leaf) (drop place (placed_in page))

-- the leaves from a place on have the same first child as all
abbrev pub HaveFirst : ℕ → LivePage → Type 0
HaveFirst place page = first_one (child_names (leaves page.frag)) ≡ first_one (child_names (from_place place page))

abbrev pub Shows : ℕ → LeafView → Area → LivePage → Type 0
Shows place view area page = ShowsLeaf (slice_get (placed_in page) place) view area

drops : (xs : List Placed) (place : ℕ) (x : Placed) → slice_get xs place ≡ Some x → drop place xs ≡ x ∷ drop (suc place) xs
drops xs place x is = drop-cons xs place x (slice_get_within xs place x is) ∙ ap (λ (y : Placed). y ∷ drop (suc place) xs) (get_or_from_slice_get xs place x x is)

one_first : (page : LivePage) (place : ℕ) (x : Placed) → slice_get (placed_in page) place ≡ Some x → from_place place page ≡ x.leaf ∷ from_place (suc place) page
one_first page place x is = ap (map (λ (l : Placed). l.leaf)) (drops (placed_in page) place x is)

pub from_start : (v : Page) → IsLiveAnd v (λ page. length (leaves page.frag) < 4294967296) → IsLiveAnd v (HaveFirst 0)
from_start (Live page) few = ap (λ (ls : List Leaf). first_one (child_names ls)) (sym (leaves_placed page.frag page.area))
from_start (Free other) few = absurd few

-- what a leaf that is seen names
abbrev pub NamesIn : LeafView → Option ℕ → Type 0
NamesIn view name = (own : Leaf) → view ≡ leaf_view own → name ≡ first_one (child_names (own ∷ []))

is_first : (page : LivePage) → (name : Option ℕ) → name ≡ first_one (child_names (leaves page.frag)) → name ≡ first_one (children_of page)
is_first page name is = is ∙ first_of_firsts (child_names (leaves page.frag))

pub found_there : (v : Page) (place name : ℕ) (view : LeafView) (area : Area) (given : Option ℕ) → given ≡ Some name → NamesIn view given → IsLiveAnd v (HaveFirst place) → IsLiveAnd v (Shows place view area) → IsLiveAnd v (λ page. Some name ≡ first_one (children_of page))
found_there (Live page) place name view area given is names have shows =
    let one : Some name ≡ first_one (child_names (shows.placed.leaf ∷ [])) = sym is ∙ names shows.placed.leaf shows.leaf in
    let more = first_in_front (shows.placed.leaf ∷ []) (from_place (suc place) page) name one in
    is_first page (Some name) (more ∙ ap (λ (ls : List Leaf). first_one (child_names ls)) (sym (one_first page place shows.placed shows.found)) ∙ sym have)
found_there (Free other) place name view area given is names have shows = absurd have

pub passed_there : (v : Page) (place : ℕ) (view : LeafView) (area : Area) (given : Option ℕ) → given ≡ None → NamesIn view given → IsLiveAnd v (HaveFirst place) → IsLiveAnd v (Shows place view area) → IsLiveAnd v (HaveFirst (place + 1))
passed_there (Live page) place view area given is names have shows =
    let none : None ≡ first_one (child_names (shows.placed.leaf ∷ [])) = sym is ∙ names shows.placed.leaf shows.leaf in
    let next : suc place ≡ place + 1 = omega arith in
    subst (λ (n : ℕ). HaveFirst n page) next
    (have ∙ ap (λ (ls : List Leaf). first_one (child_names ls)) (one_first page place shows.placed shows.found) ∙ sym (first_in_rest (shows.placed.leaf ∷ []) (from_place (suc place) page) none))
passed_there (Free other) place view area given is names have shows = absurd have

past_all : (page : LivePage) (place : ℕ) → length (placed_in page) ≤ place → HaveFirst place page → None ≡ first_one (children_of page)
past_all page place past have =
    is_first page None (ap (λ (xs : List Placed). first_one (child_names (map (λ (l : Placed). l.leaf) xs))) (sym (drop_of_length-le (placed_in page) past)) ∙ sym have)

none_within : (xs : List Placed) (place : ℕ) → slice_get xs place ≡ None → length xs ≤ place
none_within [] place is = omega arith
none_within (x ∷ xs) zero is = absurd (none_some is)
  where
    none_some : Some x ≡ None → ⊥
    none_some is = cc
none_within (x ∷ xs) (suc place) is = let rest = none_within xs place is in omega (arith, rest)

pub none_behind : (v : Page) (place : ℕ) → IsLiveAnd v (HaveFirst place) → IsLiveAnd v (λ page. slice_get (placed_in page) place ≡ None) → IsLiveAnd v (λ page. None ≡ first_one (children_of page))
none_behind (Live page) place have none = past_all page place (none_within (placed_in page) place none) have
none_behind (Free other) place have none = absurd have

pub none_at_all : (v : Page) (place : ℕ) → 4294967295 ≤ place → IsLiveAnd v (λ page. length (leaves page.frag) < 4294967296) → IsLiveAnd v (HaveFirst place) → IsLiveAnd v (λ page. None ≡ first_one (children_of page))
none_at_all (Live page) place past few have =
    let same : length (placed_in page) ≡ length (leaves page.frag) = sym (length-map (placed_in page) (λ (l : Placed). l.leaf)) ∙ ap (λ (ls : List Leaf). length ls) (leaves_placed page.frag page.area) in
    past_all page place (omega (arith, past, few, same)) have
none_at_all (Free other) place past few have = absurd have

-- ---- the walk

child_leaf : (own : Leaf) (name : ℕ) → views.Child name ≡ leaf_view own → own ≡ leaf.Child name
child_leaf (leaf.Records records) name is = cc
child_leaf (leaf.Child page) name is = cc
child_leaf (leaf.Sibling page) name is = cc

-- a page that shows a sibling leaf at the point doesn't lead below
no_child : (page : LivePage) (job : Job) (name : ℕ) (area : Area) → ShowsLeaf (leaf_at page job.point) (views.Sibling name) area → LeadsBelow page job → ⊥
no_child page job name area shows (child, box, leads) =
    let same : shows.placed ≡ record { leaf = leaf.Child child; area = box } = same_Some shows.placed (record { leaf = leaf.Child child; area = box }) (sym shows.found ∙ leads) in
    let view : views.Sibling name ≡ views.Child child = shows.leaf ∙ ap (λ (p : Placed). leaf_view p.leaf) same in
    never view
  where
    never : views.Sibling name ≡ views.Child child → ⊥
    never is = cc

module _ (job : Job) (id level name : ℕ) (area : Area) (next : Next) where
  abbrev pub IsRow : LivePage → Type 0
  IsRow page = (held : Option ℕ) (s : Sight) → ConsolidatorRow (at.ConsolidatorWalk job held) s id page (deed_of (at.ConsolidatorWalk job held) next)

  -- the walk is over, or goes on
  pub scans_first : (v : Page) (view : LeafView) (first : Option ℕ) → view ≡ views.Child name → level ≡ job.level → IsLiveAnd v (λ page. level ≡ page.level) → IsLiveAnd v (λ page. ShowsLeaf (leaf_at page job.point) view area) → IsLiveAnd v (λ page. first ≡ first_one (children_of page))
      → ((state : Activity) → deed_of state next ≡ scans job id first) → IsLiveAnd v IsRow
  scans_first (Live page) view first is on same shows child does = λ held s.
      let seen = subst (λ (l : LeafView). ShowsLeaf (leaf_at page job.point) l area) is shows in
      let own = child_leaf seen.placed.leaf name seen.leaf in
      inl (record {
        level = sym same ∙ on;
        leads = (name, seen.placed.area, seen.found ∙ ap (λ (l : Leaf). Some (record { leaf = l; area = seen.placed.area })) own);
        deed_is = does (at.ConsolidatorWalk job held) ∙ ap (scans job id) child;
      })
  scans_first (Free other) view first is on same shows child does = absurd shows

  pub goes_below : (v : Page) (view : LeafView) → view ≡ views.Child name → ¬ (level ≡ job.level) → IsLiveAnd v (λ page. level ≡ page.level) → IsLiveAnd v (λ page. ShowsLeaf (leaf_at page job.point) view area) → NextIs next (at.ConsolidatorWalk job (Some id)) None [] fates.GoesOn
      → IsLiveAnd v IsRow
  goes_below (Live page) view is off same shows so = λ held s. inr (record {
    farther = λ at_level leads. off (same ∙ at_level);
    passes = passes_child (Live page) (at.ConsolidatorWalk job held) (at.ConsolidatorWalk job (Some id)) (Some job.point) name next (area, subst (λ (l : LeafView). ShowsLeaf (leaf_at page job.point) l area) is shows) so;
  })
  goes_below (Free other) view is off same shows so = absurd shows

  pub goes_beside : (v : Page) (view : LeafView) → view ≡ views.Sibling name → IsLiveAnd v (λ page. level ≡ page.level) → IsLiveAnd v (λ page. ShowsLeaf (leaf_at page job.point) view area)
      → NextIs next (at.ConsolidatorWalk job (Some id)) None (record { kind = Post; level = level + 1; point = job.point } ∷ []) fates.GoesOn → IsLiveAnd v IsRow
  goes_beside (Live page) view is same shows so = λ held s.
      let seen = subst (λ (l : LeafView). ShowsLeaf (leaf_at page job.point) l area) is shows in
      inr (record {
        farther = λ at_level leads. no_child page job name area seen leads;
        passes = passes_sibling (Live page) (at.ConsolidatorWalk job held) (at.ConsolidatorWalk job (Some id)) (Some job.point) name level (record { kind = Post; level = level + 1; point = job.point }) next (area, seen) same refl so;
      })
  goes_beside (Free other) view is same shows so = absurd shows

-- above the records no leaf has some
pub no_records_seen : (v : Page) (job : Job) (view : LeafView) (area : Area) → IsAskedToMerge (at.ConsolidatorWalk job None) v → view ≡ views.Records → IsLiveAnd v (λ page. ShowsLeaf (leaf_at page job.point) view area) → ⊥
no_records_seen (Live page) job view area (meta, layout, both) is shows =
    let there = stays_at_records (Live page) (Some job.point) (area, subst (λ (l : LeafView). ShowsLeaf (leaf_at page job.point) l area) is shows) in
    no_records page job.point (leaf.Records there.0) there.1 there.0 both.0.filled.kinds both.1.above there.2 refl
no_records_seen (Free other) job view area asked is shows = absurd shows

pub has_few_leaves : (v : Page) (activity : Activity) → IsAskedToMerge activity v → IsLiveAnd v (λ page. length (leaves page.frag) < 4294967296)
has_few_leaves (Live page) activity (meta, layout, both) = few_leaves meta page layout both.0
has_few_leaves (Free other) activity (meta, layout, none) = absurd none

-- of the activity that walks, and of one that takes the page to keep
pub walk_row : (v : Page) (state : Activity) (job : Job) (held : Option ℕ) (id : ℕ) (next : Next) → state ≡ at.ConsolidatorWalk job held → IsLiveAnd v (λ page. (held : Option ℕ) (s : Sight) → ConsolidatorRow (at.ConsolidatorWalk job held) s id page (deed_of (at.ConsolidatorWalk job held) next))
    → IsLiveAnd v (λ page. (s : Sight) → ConsolidatorRow state s id page (deed_of state next))
walk_row (Live page) state job held id next is row = subst (λ (a : Activity). (s : Sight) → ConsolidatorRow a s id page (deed_of a next)) (sym is) (row held)
walk_row (Free other) state job held id next is row = absurd row
