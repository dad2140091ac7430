-- What a walk comes to at a page that is read from its bytes is its row there.
use Rattle.std.proofs.Common.{◌≡◌, inl, inr, ℕ, ◌+◌, ◌==◌, [], ◌∷◌, Option, Some, None, refl, sym, ap, ◌∙◌, subst}
use Rattle.std.proofs.lemmas.Bool.{cases_Bool, eqb-false, eqb-true}
use Rattle.std.proofs.lemmas.Option.{same_Some}
use Rattle.hb_activity.proofs.Facts.OneLeaf.{no_records}
use Rattle.hb_activity.proofs.PassedOn.{passes_child, passes_sibling, stays_at_records}
use Rattle.hb_activity.specs.Deciding.{NextIs, deed_of}
use Rattle.hb_activity.specs.Passing.{LeadsBelow}
use Rattle.hb_activity.specs.Sights.{Sight}
use Rattle.hb_activity.specs.declared.activities.Activity.{Activity}
use Rattle.hb_activity.specs.declared.activities.Activity.TheVariants as at
use Rattle.hb_activity.specs.declared.deciding.Fate.TheVariants as fates
use Rattle.hb_activity.specs.declared.deciding.Next.{Next}
use Rattle.hb_activity.specs.declared.jobs.Job.{Job}
use Rattle.hb_activity.specs.declared.jobs.JobKind.TheVariants.{Post}
use Rattle.hb_frag.specs.Leaves.{Placed, leaf_at}
use Rattle.hb_frag.specs.declared.leaves.Leaf.{Leaf}
use Rattle.hb_frag.specs.declared.leaves.Leaf.TheVariants as leaves
use Rattle.hb_frag.specs.declared.pages.LivePage.{LivePage}
use Rattle.hb_frag.specs.declared.pages.Page.{Page}
use Rattle.hb_frag.specs.declared.pages.Page.TheVariants.{Live, Free}
use Rattle.hb_poster.specs.Asks.{IsAskedOf}
use Rattle.hb_poster.specs.PosterRows.{PosterRow}
use Rattle.hb_space.specs.Boxes.{Area}
use Rattle.hb_view.specs.Views.{IsLiveAnd, ShowsLeaf, leaf_view}
use Rattle.hb_view.specs.declared.leaves.LeafView.{LeafView}
use Rattle.hb_view.specs.declared.leaves.LeafView.TheVariants as views

child_leaf : (leaf : Leaf) (name : ℕ) → views.Child name ≡ leaf_view leaf → leaf ≡ leaves.Child name
child_leaf (leaves.Records records) name is = cc
child_leaf (leaves.Child page) name is = cc
child_leaf (leaves.Sibling page) name is = cc

-- a page that shows a sibling leaf at the point doesn't lead below
no_child : (page : LivePage) (job : Job) (name : ℕ) (area : Area) → ShowsLeaf (leaf_at page job.point) (views.Sibling name) area → LeadsBelow page job → ⊥
no_child page job name area shows (child, box, leads) =
    let same : shows.placed ≡ record { leaf = leaves.Child child; area = box } = same_Some shows.placed (record { leaf = leaves.Child child; area = box }) (sym shows.found ∙ leads) in
    let view : views.Sibling name ≡ views.Child child = shows.leaf ∙ ap (λ (p : Placed). leaf_view p.leaf) same in
    never view
  where
    never : views.Sibling name ≡ views.Child child → ⊥
    never is = cc

module _ (job : Job) (id level name : ℕ) (area : Area) (next : Next) where
  abbrev pub IsRow : LivePage → Type 0
  IsRow page = (held : Option ℕ) (s : Sight) → PosterRow (at.PosterWalk job held) s id page (deed_of (at.PosterWalk job held) next)

  child_there : (page : LivePage) → level ≡ page.level → ShowsLeaf (leaf_at page job.point) (views.Child name) area → (level ≡ job.level → NextIs next (at.PosterChild job id) None [] fates.GoesOn) → (¬ (level ≡ job.level) → NextIs next (at.PosterWalk job (Some id)) None [] fates.GoesOn) → IsRow page
  child_there page same shows over onward held s = elim (cases_Bool (level == job.level)) [
    | inl on ↦
        let at_level = eqb-true level job.level on in
        let is = over at_level in
        let leaf = child_leaf shows.placed.leaf name shows.leaf in
        inl (record {
          level = sym same ∙ at_level;
          child = name;
          area = shows.placed.area;
          leaf = shows.found ∙ ap (λ (l : Leaf). Some (record { leaf = l; area = shows.placed.area })) leaf;
          deed_is = λ i. deed_of (at.PosterWalk job held) (record { then = is.stands i; op = is.op i; jobs = record { items = is.jobs i }; fate = is.fate i });
        })
    | inr other ↦
        let off = eqb-false level job.level other in
        inr (record {
          farther = λ at_level leads. off (same ∙ at_level);
          passes = passes_child (Live page) (at.PosterWalk job held) (at.PosterWalk job (Some id)) (Some job.point) name next (area, shows) (onward off);
        })
  ]

  sibling_there : (page : LivePage) → level ≡ page.level → ShowsLeaf (leaf_at page job.point) (views.Sibling name) area → NextIs next (at.PosterWalk job (Some id)) None (record { kind = Post; level = level + 1; point = job.point } ∷ []) fates.GoesOn → IsRow page
  sibling_there page same shows is held s = inr (record {
    farther = λ at_level leads. no_child page job name area shows leads;
    passes = passes_sibling (Live page) (at.PosterWalk job held) (at.PosterWalk job (Some id)) (Some job.point) name level (record { kind = Post; level = level + 1; point = job.point }) next (area, shows) same refl is;
  })

  -- of a view
  pub viewed_child : (v : Page) (leaf : LeafView) → leaf ≡ views.Child name → IsLiveAnd v (λ page. level ≡ page.level) → IsLiveAnd v (λ page. ShowsLeaf (leaf_at page job.point) leaf area) → (level ≡ job.level → NextIs next (at.PosterChild job id) None [] fates.GoesOn)
      → (¬ (level ≡ job.level) → NextIs next (at.PosterWalk job (Some id)) None [] fates.GoesOn) → IsLiveAnd v IsRow
  viewed_child (Live page) leaf is same shows over onward = child_there page same (subst (λ (l : LeafView). ShowsLeaf (leaf_at page job.point) l area) is shows) over onward
  viewed_child (Free other) leaf is same shows over onward = absurd shows

  pub viewed_sibling : (v : Page) (leaf : LeafView) → leaf ≡ views.Sibling name → IsLiveAnd v (λ page. level ≡ page.level) → IsLiveAnd v (λ page. ShowsLeaf (leaf_at page job.point) leaf area)
      → NextIs next (at.PosterWalk job (Some id)) None (record { kind = Post; level = level + 1; point = job.point } ∷ []) fates.GoesOn → IsLiveAnd v IsRow
  viewed_sibling (Live page) leaf is same shows so = sibling_there page same (subst (λ (l : LeafView). ShowsLeaf (leaf_at page job.point) l area) is shows) so
  viewed_sibling (Free other) leaf is same shows so = absurd shows

-- above the records no leaf has some
pub no_records_seen : (v : Page) (job : Job) (leaf : LeafView) (area : Area) → IsAskedOf (at.PosterWalk job None) v → leaf ≡ views.Records → IsLiveAnd v (λ page. ShowsLeaf (leaf_at page job.point) leaf area) → ⊥
no_records_seen (Live page) job leaf area (meta, layout, both) is shows =
    let there = stays_at_records (Live page) (Some job.point) (area, subst (λ (l : LeafView). ShowsLeaf (leaf_at page job.point) l area) is shows) in
    no_records page job.point (leaves.Records there.0) there.1 there.0 both.0.filled.kinds both.1.above there.2 refl
no_records_seen (Free other) job leaf area asked is shows = absurd shows

-- of the activity that walks
pub walk_row : (v : Page) (state : Activity) (job : Job) (held : Option ℕ) (id : ℕ) (next : Next) → state ≡ at.PosterWalk job held → IsLiveAnd v (λ page. (held : Option ℕ) (s : Sight) → PosterRow (at.PosterWalk job held) s id page (deed_of (at.PosterWalk job held) next))
    → IsLiveAnd v (λ page. (s : Sight) → PosterRow state s id page (deed_of state next))
walk_row (Live page) state job held id next is row = subst (λ (a : Activity). (s : Sight) → PosterRow a s id page (deed_of a next)) (sym is) (row held)
walk_row (Free other) state job held id next is row = absurd row
