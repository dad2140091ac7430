-- After a step the page that a walk holds has the walk's point in its box, and the parent that a poster holds a child leaf there.
use Rattle.hb_steps.proofs.Walks.Names.{◌≡◌, ◌⊎◌, inl, inr, ℕ, List, [], Option, Some, None, IfSome, IsSome, refl, sym, ap, ◌∙◌, subst, walk_stays, HasHeld, live_held, LivePage, Line, Mode, Update, Exclusive, Job, Activity, Deed, latch_on, LeadsBelow, named_page, IsPointer, Placed, leaf_at, option_and_then, one_value, Leaf, Records, Child, Sibling, walk_held, walk_point, own_there, held_come, HoldsNothing, MergesOn, now, fetched_good, nothing_done, Brings, LatchesFit, WalksInSpace, AtParent, NamesKnown, merging_at, Machine, live_here, latches_held, mode_among, IsActor, first_held, if_live, Holds, StoreState, none-some, at_itself}
use Rattle.std.proofs.Common.{length}
use Rattle.hb_steps.proofs.Latches.HeldKept.{each_held}
use Rattle.hb_activity.specs.declared.activities.Activity.TheVariants as at
use Rattle.hb_activity.specs.Wanting.{onward_at}
use Rattle.hb_lemmas.proofs.Options.{not_none}
use Rattle.hb_steps.proofs.Walks.MergesKept.{HasMergePlace, PlaceStays, merged_place, named_again, none_named, known_at, place_stays}
use Rattle.hb_steps.proofs.Table.NextPlaces.{HasPlace, KeepsParent, TakesParent, WalksTo, place_after}
use Rattle.hb_steps.specs.KeepingLaws.{WalksStayInSpace}
use Rattle.hb_steps.specs.Keeps.{HoldsPagesOfFile}
use Rattle.hb_steps.specs.Performing.{MayDo}
use Rattle.hb_lemmas.proofs.Lists.{not_empty}

abbrev pub IsAtParent : Activity → Job → ℕ → Type 0
IsAtParent activity job parent = (activity ≡ at.PosterChild job parent) ⊎ (activity ≡ at.PosterPromote job parent) ⊎ (activity ≡ at.PosterAgain job parent)

abbrev pub HasParentOf : StoreState → Job → ℕ → Type 0
HasParentOf st job parent = (page : LivePage) × (live_here st parent ≡ Some page) × (page.level ≡ job.level) × LeadsBelow page job

-- what one activity has of it
pub record StandsInSpace (st : StoreState) (activity : Activity) : Type 0 where
  pub held : (held : ℕ) (page : LivePage) → walk_held activity ≡ Some held → live_here st held ≡ Some page → IfSome (walk_point activity) (Holds page.area)
  pub leads : (held : ℕ) (page : LivePage) → walk_held activity ≡ Some held → live_here st held ≡ Some page → IfSome (walk_point activity) (λ p. IsSome (onward_at page p))
  pub parents : (job : Job) (parent : ℕ) → IsAtParent activity job parent → HasParentOf st job parent
  pub merging : IfSome (merging_at activity) (NamesKnown st)

pub each_stands : (m : Machine) → WalksInSpace m → (actor : ℕ) → StandsInSpace m.store (m.activity actor)
each_stands m walks actor = record { held = walks.held actor; leads = walks.leads actor; parents = walks.parents actor; merging = walks.merging actor }

pub all_stand : (m : Machine) → ((actor : ℕ) → StandsInSpace m.store (m.activity actor)) → WalksInSpace m
all_stand m each = record { held = λ actor. (each actor).held; leads = λ actor. (each actor).leads; parents = λ actor. (each actor).parents; merging = λ actor. (each actor).merging }

moved_parent : (old new : StoreState) (job : Job) (parent : ℕ) → ((page : LivePage) → live_here old parent ≡ Some page → live_here new parent ≡ Some page) → HasParentOf old job parent → HasParentOf new job parent
moved_parent old new job parent moves (page, live, level, leads) = (page, moves page live, level, leads)

-- the same activity, in a memory that has its pages
pub stands_again : (activity : Activity) (old new : StoreState) → StandsInSpace old activity → ((held : ℕ) (page : LivePage) → walk_held activity ≡ Some held → live_here new held ≡ Some page → live_here old held ≡ Some page)
    → ((job : Job) (parent : ℕ) (page : LivePage) → IsAtParent activity job parent → live_here old parent ≡ Some page → live_here new parent ≡ Some page)
    → ((place : AtParent) → merging_at activity ≡ Some place → PlaceStays old new place) → StandsInSpace new activity
stands_again activity old new stands walk parent merges = record {
  held = λ held page walks live. stands.held held page walks (walk held page walks live);
  leads = λ held page walks live. stands.leads held page walks (walk held page walks live);
  parents = λ job at_id is. moved_parent old new job at_id (λ page live. parent job at_id page is live) (stands.parents job at_id is);
  merging = named_again old new (merging_at activity) merges stands.merging;
}

-- ---- an activity that holds no page of a walk, and no parent

no_parent : (st : StoreState) (activity : Activity) (job : Job) (parent : ℕ) → latches_held st activity ≡ [] → IsAtParent activity job parent → ⊥
no_parent st activity job parent none (inl is) = not_empty (latch_on parent Update) [] (sym (ap (latches_held st) is) ∙ none)
no_parent st activity job parent none (inr (inl is)) = not_empty (latch_on parent Update) [] (sym (ap (latches_held st) is) ∙ none)
no_parent st activity job parent none (inr (inr is)) = not_empty (latch_on parent Exclusive) [] (sym (ap (latches_held st) is) ∙ none)

pub free_stands : (st : StoreState) (activity : Activity) → HoldsNothing activity → StandsInSpace st activity
free_stands st activity free = record {
  held = λ held page walks live. absurd (not_none (walk_held activity) held walks free.walk);
  leads = λ held page walks live. absurd (not_none (walk_held activity) held walks free.walk);
  parents = λ job parent is. absurd (no_parent st activity job parent (free.latches st) is);
  merging = none_named st (merging_at activity) free.merging;
}

-- a walk has no parent
walks_have_none : (activity : Activity) (id : ℕ) (job : Job) (parent : ℕ) → walk_held activity ≡ Some id → IsAtParent activity job parent → ⊥
walks_have_none activity id job parent walks (inl is) = not_none (walk_held activity) id walks (ap walk_held is)
walks_have_none activity id job parent walks (inr (inl is)) = not_none (walk_held activity) id walks (ap walk_held is)
walks_have_none activity id job parent walks (inr (inr is)) = not_none (walk_held activity) id walks (ap walk_held is)

-- a poster at a parent merges nothing
poster_merges_not : (activity : Activity) (job : Job) (parent : ℕ) → IsAtParent activity job parent → merging_at activity ≡ None
poster_merges_not activity job parent (inl is) = ap merging_at is
poster_merges_not activity job parent (inr (inl is)) = ap merging_at is
poster_merges_not activity job parent (inr (inr is)) = ap merging_at is

-- a consolidator at a parent walks no more, and is no poster
merges_in_space : (st : StoreState) (activity : Activity) (place : AtParent) → walk_held activity ≡ None → merging_at activity ≡ Some place → NamesKnown st place → StandsInSpace st activity
merges_in_space st activity place still is named = record {
  held = λ held page walks live. absurd (not_none (walk_held activity) held walks still);
  leads = λ held page walks live. absurd (not_none (walk_held activity) held walks still);
  parents = λ job parent at_parent. absurd (none-some place (sym (poster_merges_not activity job parent at_parent) ∙ is));
  merging = subst (λ (o : Option AtParent). IfSome o (NamesKnown st)) (sym is) named;
}

-- a session that splits a page, or has split it, has none either
split_stands : (st : StoreState) (activity : Activity) (line : Line) (held : ℕ) → activity ≡ at.SessionSplit line held → StandsInSpace st activity
split_stands st activity line held is = subst (StandsInSpace st) (sym is) (record {
  held = λ id page walks live. absurd (none-some id walks);
  leads = λ id page walks live. absurd (none-some id walks);
  parents = λ job parent at_parent. absurd (never job parent at_parent);
  merging = tt;
})
  where
    never : (job : Job) (parent : ℕ) → IsAtParent (at.SessionSplit line held) job parent → ⊥
    never job parent (inl is) = cc
    never job parent (inr (inl is)) = cc
    never job parent (inr (inr is)) = cc

put_stands : (st : StoreState) (activity : Activity) (line : Line) (source fresh : ℕ) → activity ≡ at.SessionPut line source fresh → StandsInSpace st activity
put_stands st activity line source fresh is = subst (StandsInSpace st) (sym is) (record {
  held = λ id page walks live. absurd (none-some id walks);
  leads = λ id page walks live. absurd (none-some id walks);
  parents = λ job parent at_parent. absurd (never job parent at_parent);
  merging = tt;
})
  where
    never : (job : Job) (parent : ℕ) → IsAtParent (at.SessionPut line source fresh) job parent → ⊥
    never job parent (inl is) = cc
    never job parent (inr (inl is)) = cc
    never job parent (inr (inr is)) = cc

-- ---- a poster at a parent

same_parent : (activity : Activity) (job : Job) (parent : ℕ) (st : StoreState) → IsAtParent activity job parent → HasParentOf st job parent → StandsInSpace st activity
same_parent activity job parent st is has = record {
  held = λ held page walks live. absurd (walks_have_none activity held job parent walks is);
  leads = λ held page walks live. absurd (walks_have_none activity held job parent walks is);
  parents = λ other at_id at_other. by other at_id is at_other;
  merging = none_named st (merging_at activity) (poster_merges_not activity job parent is);
}
  where
    moved : (other : Job) (at_id : ℕ) → (job ≡ other) × (parent ≡ at_id) → HasParentOf st other at_id
    moved other at_id same = subst (λ (j : Job). HasParentOf st j at_id) same.0 (subst (λ (q : ℕ). HasParentOf st job q) same.1 has)

    child : (a b : Job) (p q : ℕ) → at.PosterChild a p ≡ at.PosterChild b q → (a ≡ b) × (p ≡ q)
    child a b p q is = (cc, cc)

    promote : (a b : Job) (p q : ℕ) → at.PosterPromote a p ≡ at.PosterPromote b q → (a ≡ b) × (p ≡ q)
    promote a b p q is = (cc, cc)

    again : (a b : Job) (p q : ℕ) → at.PosterAgain a p ≡ at.PosterAgain b q → (a ≡ b) × (p ≡ q)
    again a b p q is = (cc, cc)

    by : (other : Job) (at_id : ℕ) → IsAtParent activity job parent → IsAtParent activity other at_id → HasParentOf st other at_id
    by other at_id (inl a) (inl b) = moved other at_id (child job other parent at_id (sym a ∙ b))
    by other at_id (inl a) (inr (inl b)) = let no : at.PosterChild job parent ≡ at.PosterPromote other at_id = sym a ∙ b in cc
    by other at_id (inl a) (inr (inr b)) = let no : at.PosterChild job parent ≡ at.PosterAgain other at_id = sym a ∙ b in cc
    by other at_id (inr (inl a)) (inl b) = let no : at.PosterPromote job parent ≡ at.PosterChild other at_id = sym a ∙ b in cc
    by other at_id (inr (inl a)) (inr (inl b)) = moved other at_id (promote job other parent at_id (sym a ∙ b))
    by other at_id (inr (inl a)) (inr (inr b)) = let no : at.PosterPromote job parent ≡ at.PosterAgain other at_id = sym a ∙ b in cc
    by other at_id (inr (inr a)) (inl b) = let no : at.PosterAgain job parent ≡ at.PosterChild other at_id = sym a ∙ b in cc
    by other at_id (inr (inr a)) (inr (inl b)) = let no : at.PosterAgain job parent ≡ at.PosterPromote other at_id = sym a ∙ b in cc
    by other at_id (inr (inr a)) (inr (inr b)) = moved other at_id (again job other parent at_id (sym a ∙ b))

-- ---- the actor that steps

pub parent_latched : (st : StoreState) (activity : Activity) (job : Job) (parent : ℕ) → IsAtParent activity job parent → (mode : Mode) × (mode_among parent (latches_held st activity) ≡ Some mode)
parent_latched st activity job parent is = by is
  where
    by : IsAtParent activity job parent → (mode : Mode) × (mode_among parent (latches_held st activity) ≡ Some mode)
    by (inl is) = (Update, ap (λ (a : Activity). mode_among parent (latches_held st a)) is ∙ at_itself parent (Some Update) None)
    by (inr (inl is)) = (Update, ap (λ (a : Activity). mode_among parent (latches_held st a)) is ∙ at_itself parent (Some Update) None)
    by (inr (inr is)) = (Exclusive, ap (λ (a : Activity). mode_among parent (latches_held st a)) is ∙ at_itself parent (Some Exclusive) None)

-- a leaf that names a page leads on to that
leads_on : (page : LivePage) (p : List ℕ) (l : Placed) → leaf_at page p ≡ Some l → IsPointer l.leaf → IsSome (onward_at page p)
leads_on page p l there names = subst (λ (o : Option Placed). IsSome (option_and_then (λ (placed : Placed). named_page page.level placed.leaf) o)) (sym there) (by l.leaf names)
  where
    by : (leaf : Leaf) → IsPointer leaf → IsSome (named_page page.level leaf)
    by (Records records) none = absurd none
    by (Child name) some = refl
    by (Sibling name) some = refl

module _ (m : Machine) (actor : ℕ) (may : ℕ → Type 0) (fetched : StoreState) (latches : IsActor actor) (fit : LatchesFit m) (inside : HoldsPagesOfFile m) (walks : WalksInSpace m) (brings : Brings m may fetched) (deed : Deed) (after : StoreState) (done : MayDo deed.op (length m.order) fetched after) where
  -- a page that the actor holds stays
  walks_to : WalksTo fetched deed → StandsInSpace after deed.next
  walks_to to =
      let store = nothing_done deed.op _ fetched after to.nothing done in
      let good = fetched_good m may fetched inside brings to.id to.page to.live in
      let has : Holds to.page.area to.p = first_held to.p to.page.frag to.page.area to.placed good.1.well_cut to.leaf in
      record {
        held = λ held page on live.
            let id = one_value (walk_held deed.next) to.id held to.held on in
            let live_then : live_here fetched held ≡ Some page = sym (ap (λ (st : StoreState). live_here st held) store) ∙ live in
            let is = one_value (live_here fetched held) to.page page (ap (live_here fetched) (sym id) ∙ to.live) live_then in
            subst (λ (o : Option (List ℕ)). IfSome o (Holds page.area)) (sym to.point) (subst (λ (q : LivePage). Holds q.area to.p) is has);
        leads = λ held page on live.
            let id = one_value (walk_held deed.next) to.id held to.held on in
            let live_then : live_here fetched held ≡ Some page = sym (ap (λ (st : StoreState). live_here st held) store) ∙ live in
            let is = one_value (live_here fetched held) to.page page (ap (live_here fetched) (sym id) ∙ to.live) live_then in
            subst (λ (o : Option (List ℕ)). IfSome o (λ p. IsSome (onward_at page p))) (sym to.point) (subst (λ (q : LivePage). IsSome (onward_at q to.p)) is (leads_on to.page to.p to.placed to.leaf to.names));
        parents = λ job parent is. absurd (walks_have_none deed.next to.id job parent to.held is);
        merging = none_named after (merging_at deed.next) to.merging;
      }

  -- the pages of a consolidator's place stay
  takes_parent : TakesParent (now m actor fetched) deed → StandsInSpace after deed.next
  takes_parent takes =
      let store = nothing_done deed.op _ fetched after (ap (λ (d : Deed). d.op) takes.row.deed_is) done in
      same_parent deed.next takes.job takes.id after (inl (ap (λ (d : Deed). d.next) takes.row.deed_is))
      (takes.page, ap (λ (st : StoreState). live_here st takes.id) store ∙ takes.live, takes.row.level, (takes.row.child, takes.row.area, takes.row.leaf))

  at_parent_before : (job : Job) (parent : ℕ) → (m.activity actor ≡ at.PosterChild job parent) ⊎ (m.activity actor ≡ at.PosterPromote job parent) → IsAtParent (m.activity actor) job parent
  at_parent_before job parent (inl is) = inl is
  at_parent_before job parent (inr is) = inr (inl is)

  at_parent_after : (job : Job) (parent : ℕ) → (deed.next ≡ at.PosterPromote job parent) ⊎ (deed.next ≡ at.PosterAgain job parent) → IsAtParent deed.next job parent
  at_parent_after job parent (inl is) = inr (inl is)
  at_parent_after job parent (inr is) = inr (inr is)

  keeps_parent : KeepsParent m actor deed → StandsInSpace after deed.next
  keeps_parent keeps =
      let store = nothing_done deed.op _ fetched after keeps.nothing done in
      let latch = parent_latched m.store (m.activity actor) keeps.job keeps.parent (at_parent_before keeps.job keeps.parent keeps.before) in
      same_parent deed.next keeps.job keeps.parent after (at_parent_after keeps.job keeps.parent keeps.after)
      (moved_parent m.store after keeps.job keeps.parent (λ page live. ap (λ (st : StoreState). live_here st keeps.parent) store ∙ own_there m may fetched brings actor keeps.parent latch.0 page fit latches latch.1 live)
      (walks.parents actor keeps.job keeps.parent (at_parent_before keeps.job keeps.parent keeps.before)))

  -- a consolidator knows what the parent names
  merged_in_space : MergesOn m actor (now m actor fetched) deed → StandsInSpace after deed.next
  merged_in_space merges = by (merged_place m actor fetched (fetched_good m may fetched inside brings)
      (known_at m actor walks) (place_stays m actor fetched (held_come m may fetched brings actor)) deed merges)
    where
      store : after ≡ fetched
      store = nothing_done deed.op _ fetched after (ap (λ (d : Deed). d.op) merges.stays.is) done

      still : walk_held deed.next ≡ None
      still = ap (λ (d : Deed). walk_held d.next) merges.stays.is ∙ merges.stays.after.walk

      by : HoldsNothing deed.next ⊎ HasMergePlace fetched deed.next → StandsInSpace after deed.next
      by (inl free) = free_stands after deed.next free
      by (inr at_merge) = merges_in_space after deed.next at_merge.place still at_merge.is (subst (λ (st : StoreState). NamesKnown st at_merge.place) (sym store) at_merge.named)

  pub placed_in_space : HasPlace m actor (now m actor fetched) deed → StandsInSpace after deed.next
  placed_in_space (inl free) = free_stands after deed.next free
  placed_in_space (inr (inl to)) = walks_to to
  placed_in_space (inr (inr (inl full))) = split_stands after deed.next full.line full.id (ap (λ (d : Deed). d.next) full.row.deed_is)
  placed_in_space (inr (inr (inr (inl takes)))) = takes_parent takes
  placed_in_space (inr (inr (inr (inr (inl keeps))))) = keeps_parent keeps
  placed_in_space (inr (inr (inr (inr (inr (inr merges)))))) = merged_in_space merges
  placed_in_space (inr (inr (inr (inr (inr (inl parts)))))) = put_stands after deed.next parts.line parts.held parts.row.leaves.fresh (ap (λ (d : Deed). d.next) parts.row.deed_is)

-- ---- each step

-- where the pages that an actor holds stay
pub stands_held : (m : Machine) → LatchesFit m → (actor : ℕ) (st : StoreState) → HasHeld m actor st → StandsInSpace m.store (m.activity actor) → StandsInSpace st (m.activity actor)
stands_held m fit actor st has stands = stands_again (m.activity actor) m.store st stands
    (λ held page on live. let both = walk_stays m fit actor held st has on in ap if_live both.1 ∙ sym (ap if_live both.2) ∙ live)
    (λ job parent page is live. let latch = parent_latched m.store (m.activity actor) job parent is in live_held m actor st has parent latch.0 page latch.1 live)
    (place_stays m actor st has)

pub walks_stay_in_space : WalksStayInSpace
walks_stay_in_space m actor outcome new latches fit inside nobody walks step = all_stand new (each_held m actor outcome new latches fit inside step (λ other activity. StandsInSpace new.store activity)
    (λ other has. stands_held m fit other new.store has (each_stands m walks other))
    (free_stands new.store)
    (λ way acts. placed_in_space m actor _ acts.fetched latches fit inside walks acts.brings acts.deed new.store acts.performs.store (place_after m actor acts.fetched _ acts.deed refl acts.row)))
