-- A worker walks on from a page, or walks no more; and the page that its walk wants is of its job's level or above it.
use Rattle.hb_steps.proofs.Walks.Names.{◌≡◌, ◌⊎◌, inl, inr, ℕ, ◌-◌, ◌≤◌, ◌==◌, Option, Some, None, refl, sym, ap, ◌∙◌, subst, arith, option_and_then, cases_Bool, eqb-true, eqb-false, Leaf, Records, Child, Sibling, LivePage, Mode, Job, Wanted, Activity, Deed, LeadsBelow, job_mode, in_mode, named_page, walk_next, wanted_of, wanted_page, looked_live, wanted_by, GaveAwayAt, StandsAbove, walking_job, Machine, live_here, IsPointer, Placed, leaf_at, Area, StoreState}
use Rattle.hb_activity.specs.declared.activities.Activity.TheVariants as at
use Rattle.hb_activity.specs.Classes.{Empty, hand_of}
use Rattle.hb_steps.specs.Rows.{Row}
use Rattle.hb_steps.proofs.Facts.EachRow.{PassesAt, each_row}

-- a walking worker, with its job and the page that it holds
abbrev pub WalksAsWorker : Activity → Job → Option ℕ → Type 0
WalksAsWorker activity job held = (activity ≡ at.PosterWalk job held) ⊎ (activity ≡ at.ConsolidatorWalk job held)

-- It goes on to the page at hand, which doesn't end its walk.
pub record GoesFarther (activity : Activity) (id : ℕ) (page : LivePage) (deed : Deed) : Type 0 where
  pub job : Job
  pub held : Option ℕ
  pub before : WalksAsWorker activity job held
  pub after : WalksAsWorker deed.next job (Some id)
  pub nothing : deed.op ≡ None
  pub leaf : Leaf
  pub area : Area
  pub at_point : leaf_at page job.point ≡ Some (record { leaf = leaf; area = area })
  pub names : IsPointer leaf
  pub farther : page.level ≡ job.level → ¬ (LeadsBelow page job)

-- ---- who has no job to walk for

pub empty_has_none : (activity : Activity) → hand_of activity ≡ Empty → walking_job activity ≡ None
empty_has_none (at.PosterWalk job held) is = cc
empty_has_none (at.ConsolidatorWalk job held) is = cc
empty_has_none activity is = refl

-- ---- the rows

-- a row leads to a walk of a worker only at a page that was latched for it
pub record WalksOn (m : Machine) (actor : ℕ) (now : Machine) (deed : Deed) : Type 0 where
  pub wanted : Wanted
  pub wants : wanted_by m actor ≡ Some wanted
  pub page : LivePage
  pub live : live_here now.store wanted.page ≡ Some page
  pub level : page.level ≡ wanted.level
  pub goes : GoesFarther (m.activity actor) wanted.page page deed

walks_on : (m : Machine) (actor : ℕ) (now : Machine) (its : Wanted) (page : LivePage) (deed : Deed) (job : Job) (held : Option ℕ) (leaf : Leaf) → wanted_by m actor ≡ Some its → live_here now.store its.page ≡ Some page → page.level ≡ its.level
    → WalksAsWorker (m.activity actor) job held → WalksAsWorker deed.next job (Some its.page) → deed.op ≡ None → (page.level ≡ job.level → ¬ (LeadsBelow page job)) → PassesAt page job.point leaf → WalksOn m actor now deed
walks_on m actor now its page deed job held leaf wants live level before after nothing farther row = record {
  wanted = its;
  wants = wants;
  page = page;
  live = live;
  level = level;
  goes = record {
    job = job;
    held = held;
    before = before;
    after = after;
    nothing = nothing;
    leaf = leaf;
    area = row.area;
    at_point = row.at_point;
    names = row.names;
    farther = farther;
  };
}

pub walk_after : (m : Machine) (actor : ℕ) (now : Machine) (wanted : Option Wanted) (deed : Deed) → wanted_by m actor ≡ wanted → Row (m.activity actor) wanted now deed → (walking_job deed.next ≡ None) ⊎ WalksOn m actor now deed
walk_after m actor now wanted deed wants row = each_row now (λ activity deed. m.activity actor ≡ activity → (walking_job deed.next ≡ None) ⊎ WalksOn m actor now deed) (m.activity actor) wanted deed
    (record {
      full = λ line held none is. inl refl;
      splits = λ line held page live leaves is. inl refl;
      puts = λ line source fresh rec command half either page live is. inl refl;
    })
    (λ its page at_hand hand. record {
      passes = λ line held rest found p goal leaf row is. inl refl;
      only_replies = λ line held rest found reply alone is. inl refl;
      inserts = λ line held rest found rec command absent room is. inl refl;
      lacks_room = λ line held rest found rec command level absent full is. inl refl;
      deletes = λ line held rest found p there command stands is. inl refl;
      searches = λ line held rest found area others more row is. inl refl;
      grows = λ job fresh free_after may free next is. inl refl;
      ends = λ activity job kind hand is. inl refl;
      arrives = λ job held child area level leaf is. inl refl;
      walks = λ job held leaf farther row is. inr (walks_on m actor now its page _ job held leaf (wants ∙ at_hand) hand.live hand.level (inl is) (inl refl) refl farther row);
      looks = λ job parent is. inl refl;
      promotes = λ job parent is. inl refl;
      posts = λ job parent above path inner area live plan is. inl refl;
      parts = λ job parent above live plan leaves is. inl refl;
      walks_to_merge = λ job held leaf farther row is. inr (walks_on m actor now its page _ job held leaf (wants ∙ at_hand) hand.live hand.level (inr is) (inr refl) refl farther row);
      merges = λ activity deed kind row stays is. inl (ap (λ (d : Deed). walking_job d.next) stays.is ∙ stays.after.goal);
      merges_two = λ job parent keep gone pair is. inl refl;
    }) row refl

-- ---- the level of the page that a walk wants

-- A page that is held is of the job's level or above; at that level a sibling leaf leads on, and a child leaf leads one level down.
module _ (job : Job) (mode : ℕ → Mode) (wanted : Wanted) (page : LivePage) (above : job.level ≤ page.level) (gave : page.level ≡ job.level → GaveAwayAt page job.point) where
  no_child : (name : ℕ) (area : Area) → leaf_at page job.point ≡ Some (record { leaf = Child name; area = area }) → GaveAwayAt page job.point → ⊥
  no_child name area there (other, box, is) = by (record { leaf = Child name; area = area }) (record { leaf = Sibling other; area = box }) refl refl (sym there ∙ is)
    where
      leaves_differ : Child name ≡ Sibling other → ⊥
      leaves_differ same = cc

      by : (a b : Placed) → a.leaf ≡ Child name → b.leaf ≡ Sibling other → Some a ≡ Some b → ⊥
      by a b first second same = let one : a ≡ b = cc in leaves_differ (sym first ∙ ap (λ (l : Placed). l.leaf) one ∙ second)

  by_leaf : (leaf : Leaf) (area : Area) → leaf_at page job.point ≡ Some (record { leaf = leaf; area = area }) → in_mode mode (named_page page.level leaf) ≡ Some wanted → job.level ≤ wanted.level
  by_leaf (Records records) area there wants = cc
  by_leaf (Sibling name) area there wants =
      let same : wanted_page name page.level (mode page.level) ≡ wanted = cc in
      omega (arith, above, ap (λ (w : Wanted). w.level) same)
  by_leaf (Child name) area there wants =
      let same : wanted_page name (page.level - 1) (mode (page.level - 1)) ≡ wanted = cc in
      elim (cases_Bool (page.level == job.level)) [
        | inl here ↦ absurd (no_child name area there (gave (eqb-true page.level job.level here)))
        | inr off ↦ omega (arith, above, eqb-false page.level job.level off, ap (λ (w : Wanted). w.level) same)
      ]

  by_placed : (o : Option Placed) → leaf_at page job.point ≡ o → in_mode mode (option_and_then (λ (l : Placed). named_page page.level l.leaf) o) ≡ Some wanted → job.level ≤ wanted.level
  by_placed None there wants = cc
  by_placed (Some l) there wants = by_leaf l.leaf l.area there wants

wanted_above : (st : StoreState) (job : Job) (held : Option ℕ) (mode : ℕ → Mode) (wanted : Wanted) → StandsAbove st held job → in_mode mode (walk_next (Some job.point) held st.meta (option_and_then (live_here st) held)) ≡ Some wanted → job.level ≤ wanted.level
wanted_above st job None mode wanted stands wants =
    let same : wanted_page st.meta.root (st.meta.height - 1) (mode (st.meta.height - 1)) ≡ wanted = cc in
    omega (arith, stands.below_height, ap (λ (w : Wanted). w.level) same)
wanted_above st job (Some id) mode wanted stands wants = by (live_here st id) refl wants
  where
    by : (looked : Option LivePage) → live_here st id ≡ looked → in_mode mode (walk_next (Some job.point) (Some id) st.meta looked) ≡ Some wanted → job.level ≤ wanted.level
    by None is none = cc
    by (Some page) is some = by_placed job mode wanted page (stands.level id page refl is) (stands.gave id page refl is) (leaf_at page job.point) refl some

pub walk_wants_above : (m : Machine) (actor : ℕ) (job : Job) (held : Option ℕ) (wanted : Wanted) → WalksAsWorker (m.activity actor) job held → StandsAbove m.store held job → wanted_by m actor ≡ Some wanted → job.level ≤ wanted.level
walk_wants_above m actor job held wanted (inl is) stands wants = wanted_above m.store job held (job_mode job) wanted stands (subst (λ (a : Activity). wanted_of a m.store.meta (looked_live m.store a) ≡ Some wanted) is wants)
walk_wants_above m actor job held wanted (inr is) stands wants = wanted_above m.store job held (job_mode job) wanted stands (subst (λ (a : Activity). wanted_of a m.store.meta (looked_live m.store a) ≡ Some wanted) is wants)
