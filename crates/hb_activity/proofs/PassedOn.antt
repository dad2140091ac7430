-- A session's walk passes on at the leaf that it saw.
use Rattle.std.proofs.Common.{◌≡◌, ℕ, ◌+◌, List, [], ◌∷◌, Option, Some, None, refl, ap, ◌∙◌}
use Rattle.std.specs.Option.{MatchOption}
use Rattle.hb_space.specs.Boxes.{Area}
use Rattle.hb_space.specs.declared.records.Record.{Record}
use Rattle.hb_frag.specs.declared.leaves.Leaf.{Leaf}
use Rattle.hb_frag.specs.declared.leaves.Leaf.TheVariants as leaves
use Rattle.hb_frag.specs.declared.pages.LivePage.{LivePage}
use Rattle.hb_frag.specs.declared.pages.Page.{Page}
use Rattle.hb_frag.specs.declared.pages.Page.TheVariants.{Live, Free}
use Rattle.hb_frag.specs.Leaves.{IsPointer, leaf_at}
use Rattle.hb_view.specs.declared.leaves.LeafView.TheVariants as views
use Rattle.hb_view.specs.Views.{IsLiveAnd, leaf_view}
use Rattle.hb_activity.specs.declared.activities.Activity.{Activity}
use Rattle.hb_activity.specs.declared.deciding.Fate.TheVariants as fates
use Rattle.hb_activity.specs.declared.deciding.Next.{Next}
use Rattle.hb_activity.specs.declared.jobs.Job.{Job}
use Rattle.hb_activity.specs.declared.jobs.JobKind.TheVariants.{Post}
use Rattle.hb_activity.specs.Deciding.{NextIs, deed_of}
use Rattle.hb_activity.specs.Deeds.{moves_to}
use Rattle.hb_activity.specs.Passing.{PassesOn, posts_owed}
use Rattle.hb_activity.specs.Seen.{IsAhead}

-- ---- the leaf that was seen

child_leaf : (leaf : Leaf) (name : ℕ) → views.Child name ≡ leaf_view leaf → leaf ≡ leaves.Child name
child_leaf (leaves.Records records) name is = cc
child_leaf (leaves.Child page) name is = cc
child_leaf (leaves.Sibling page) name is = cc

sibling_leaf : (leaf : Leaf) (name : ℕ) → views.Sibling name ≡ leaf_view leaf → leaf ≡ leaves.Sibling name
sibling_leaf (leaves.Records records) name is = cc
sibling_leaf (leaves.Child page) name is = cc
sibling_leaf (leaves.Sibling page) name is = cc

records_leaf : (leaf : Leaf) → views.Records ≡ leaf_view leaf → (records : List Record) × (leaf ≡ leaves.Records records)
records_leaf (leaves.Records records) is = (records, refl)
records_leaf (leaves.Child page) is = absurd (never is)
  where
    never : views.Records ≡ views.Child page → ⊥
    never is = cc
records_leaf (leaves.Sibling page) is = absurd (never is)
  where
    never : views.Records ≡ views.Sibling page → ⊥
    never is = cc

-- at a leaf that is known
passes_at : (live : LivePage) (p : List ℕ) (self after : Activity) (next : Next) (jobs : List Job) (leaf : Leaf) (area : Area) → leaf_at live p ≡ Some (record { leaf = leaf; area = area }) → IsPointer leaf → NextIs next after None jobs fates.GoesOn → jobs ≡ posts_owed live p leaf
    → PassesOn live p after (deed_of self next)
passes_at live p self after next jobs leaf area there names is owed = record {
  leaf = leaf;
  area = area;
  at_point = there;
  names = names;
  deed_is = (λ i. deed_of self (record { then = is.stands i; op = is.op i; jobs = record { items = is.jobs i }; fate = is.fate i })) ∙ ap (moves_to after) owed;
}

pub passes_child : (v : Page) (self after : Activity) (goal : Option (List ℕ)) (name : ℕ) (next : Next) → IsAhead v goal (views.Child name) → NextIs next after None [] fates.GoesOn → IsLiveAnd v (λ live. MatchOption goal ⊥ (λ p. PassesOn live p after (deed_of self next)))
passes_child (Live live) self after (Some p) name next ahead is =
    let leaf = child_leaf ahead.1.placed.leaf name ahead.1.leaf in
    passes_at live p self after next [] (leaves.Child name) ahead.1.placed.area (ahead.1.found ∙ ap (λ (l : Leaf). Some (record { leaf = l; area = ahead.1.placed.area })) leaf) tt is refl
passes_child (Live live) self after None name next ahead is = absurd ahead
passes_child (Free other) self after goal name next ahead is = absurd ahead

pub passes_sibling : (v : Page) (self after : Activity) (goal : Option (List ℕ)) (name level : ℕ) (job : Job) (next : Next) → IsAhead v goal (views.Sibling name) → IsLiveAnd v (λ live. level ≡ live.level) → MatchOption goal ⊥ (λ p. job ≡ record { kind = Post; level = level + 1; point = p }) →
    NextIs next after None (job ∷ []) fates.GoesOn → IsLiveAnd v (λ live. MatchOption goal ⊥ (λ p. PassesOn live p after (deed_of self next)))
passes_sibling (Live live) self after (Some p) name level job next ahead same owed is =
    let leaf = sibling_leaf ahead.1.placed.leaf name ahead.1.leaf in
    let owes : job ≡ record { kind = Post; level = live.level + 1; point = p } = owed ∙ ap (λ (n : ℕ). record { kind = Post; level = n + 1; point = p }) same in
    passes_at live p self after next (job ∷ []) (leaves.Sibling name) ahead.1.placed.area (ahead.1.found ∙ ap (λ (l : Leaf). Some (record { leaf = l; area = ahead.1.placed.area })) leaf) tt is (ap (λ (j : Job). j ∷ []) owes)
passes_sibling (Live live) self after None name level job next ahead same owed is = absurd ahead
passes_sibling (Free other) self after goal name level job next ahead same owed is = absurd ahead

pub stays_at_records : (v : Page) (goal : Option (List ℕ)) → IsAhead v goal views.Records → IsLiveAnd v (λ live. MatchOption goal ⊥ (λ p. (records : List Record) × (area : Area) × (leaf_at live p ≡ Some (record { leaf = leaves.Records records; area = area }))))
stays_at_records (Live live) (Some p) ahead =
    let leaf = records_leaf ahead.1.placed.leaf ahead.1.leaf in
    (leaf.0, ahead.1.placed.area, ahead.1.found ∙ ap (λ (l : Leaf). Some (record { leaf = l; area = ahead.1.placed.area })) leaf.1)
stays_at_records (Live live) None ahead = absurd ahead
stays_at_records (Free other) goal ahead = absurd ahead
