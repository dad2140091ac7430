-- The latches of an activity are on different pages, so that a page is among theirs once where it is latched, and else not.
use Rattle.hb_steps.proofs.Machines.Names.{◌≡◌, ◌≢◌, ◌⊎◌, inl, inr, ℕ, zero, suc, ◌+◌, ◌==◌, true, false, cond, List, [], ◌∷◌, Option, Some, None, IfSome, refl, sym, ap, subst, ◌∙◌, arith, cases_Bool, eqb-false, eqb-true, none-some, same_Some, if_same, has_value, not_empty, LivePage, Live, Mode, Line, Latch, Job, Activity, line_in_hand, Deed, walk_held, KnowsRoom, LatchesFit, NamesKnown, merging_at, Machine, live_here, latches_held, mode_among, pages_of, IsActor, StoreState, in_memory}
use Rattle.std.specs.Option.{is_some}
use Rattle.hb_lemmas.proofs.Booleans.{at_itself}
use Rattle.hb_frag.specs.declared.pages.Page.TheVariants.{Free}
use Rattle.hb_frag.specs.Leaves.{DirectlyHolds}
use Rattle.hb_latch.specs.declared.modes.Mode.TheVariants.{Exclusive}
use Rattle.hb_activity.specs.declared.activities.Activity.TheVariants as at
use Rattle.hb_activity.specs.Holding.{latch_on, walk_latch}
use Rattle.hb_steps.specs.Fetching.{Brings}
use Rattle.hb_steps.specs.Keeps.{HasRoomFor, HoldsPagesOfFile}
use Rattle.hb_steps.specs.KeptMerges.{PairHeld}
use Rattle.hb_steps.specs.Machines.{AreApart}
use Rattle.hb_steps.proofs.Machines.PinCounts.{one_if}
use Rattle.hb_steps.proofs.Machines.PinsFollow.{times}
use Rattle.hb_steps.proofs.Memory.NextNumbers.{is_next_number}
use Rattle.hb_steps.proofs.Table.MergerMoves.{no_line}
use Rattle.hb_steps.proofs.Table.NextPlaces.{HasPlace, PartsFull, now}

-- a page is among theirs once where it is latched, and else not; and so they are on different pages
abbrev pub AreOnce : List Latch → Type 0
AreOnce latches = (q : ℕ) → times q (pages_of latches) ≡ one_if (is_some (mode_among q latches))

pub record AreDifferent (latches : List Latch) : Type 0 where
  pub apart : AreApart latches
  pub once : AreOnce latches

pub none_different : (latches : List Latch) → latches ≡ [] → AreDifferent latches
none_different latches none = subst AreDifferent (sym none) (record { apart = λ i j d low high. absurd (omega (arith, high)); once = λ q. refl })

one_once : (latch : Latch) → AreOnce (latch ∷ [])
one_once latch q = elim (latch.page == q) as (λ b. one_if b + 0 ≡ one_if (is_some (cond b (Some latch.mode) None))) [
  | true ↦ refl
  | false ↦ refl
]

one_different : (latch : Latch) → AreDifferent (latch ∷ [])
one_different latch = record { apart = λ i j d low high. absurd (omega (arith, low, high)); once = one_once latch }

two_different : (first second : Latch) → first.page ≢ second.page → AreDifferent (first ∷ second ∷ [])
two_different first second apart = record { apart = pair; once = once }
  where
    pair : AreApart (first ∷ second ∷ [])
    pair zero zero d low high = absurd (omega (arith, low))
    pair zero (suc zero) d low high = apart
    pair zero (suc (suc j)) d low high = absurd (omega (arith, high))
    pair (suc i) j d low high = absurd (omega (arith, low, high))

    once : AreOnce (first ∷ second ∷ [])
    once q = if_same first.page q (λ b. one_if b + (one_if (second.page == q) + 0) ≡ one_if (is_some (cond b (Some first.mode) (mode_among q (second ∷ [])))))
        (λ here. let off : one_if (second.page == q) ≡ 0 = if_same second.page q (λ b. one_if b ≡ 0) (λ there. absurd (apart (here ∙ sym there))) (λ _. refl) in omega (arith, off))
        (λ _. let rest : one_if (second.page == q) + 0 ≡ one_if (is_some (mode_among q (second ∷ []))) = one_once second q in omega (arith, rest))

walk_different : (held : Option ℕ) (page : Option LivePage) (mode : ℕ → Mode) → AreDifferent (walk_latch held page mode)
walk_different None page mode = none_different [] refl
walk_different (Some id) None mode = none_different [] refl
walk_different (Some id) (Some page) mode = one_different (latch_on id (mode page.level))

-- the page to keep is of another level than the parent, and so another page
pub pair_apart : (st : StoreState) (job : Job) (parent : ℕ) (names : List ℕ) (pair : PairHeld) → NamesKnown st (record { job = job; parent = parent; known = names; pair = Some pair }) → parent ≢ pair.keep
pair_apart st job parent names pair known same =
    let one : known.page ≡ known.pair.page = same_Some known.page known.pair.page (sym known.live ∙ ap (live_here st) same ∙ known.pair.live) in
    let levels = ap (λ (page : LivePage). page.level) one in
    let below = known.pair.level in
    omega (arith, levels, below)

abbrev pub PutsApart : Activity → Type 0
PutsApart activity = (line : Line) (source fresh : ℕ) → activity ≡ at.SessionPut line source fresh → source ≡ fresh → ⊥

pub latches_differ : (st : StoreState) (activity : Activity) → IfSome (merging_at activity) (NamesKnown st) → PutsApart activity → AreDifferent (latches_held st activity)
latches_differ st (at.SessionWalk line held rest found) named apart = walk_different held _ _
latches_differ st (at.SessionSplit line held) named apart = one_different (latch_on held Exclusive)
latches_differ st (at.SessionPut line source fresh) named apart = two_different (latch_on source Exclusive) (latch_on fresh Exclusive) (apart line source fresh refl)
latches_differ st (at.PosterWalk job held) named apart = walk_different held _ _
latches_differ st (at.PosterChild job parent) named apart = one_different _
latches_differ st (at.PosterPromote job parent) named apart = one_different _
latches_differ st (at.PosterAgain job parent) named apart = one_different _
latches_differ st (at.ConsolidatorWalk job held) named apart = walk_different held _ _
latches_differ st (at.ConsolidatorScan job parent child) named apart = one_different _
latches_differ st (at.ConsolidatorTry job parent keep gone leaf) named apart = two_different _ _ (pair_apart st job parent (keep ∷ gone ∷ []) (record { keep = keep; gone = gone; leaf = Some leaf }) named)
latches_differ st (at.ConsolidatorPromote job parent keep gone) named apart = one_different _
latches_differ st (at.ConsolidatorKeep job parent keep gone) named apart = one_different _
latches_differ st (at.ConsolidatorDecide job parent keep gone) named apart = two_different _ _ (pair_apart st job parent (keep ∷ gone ∷ []) (record { keep = keep; gone = gone; leaf = None }) named)
latches_differ st other named apart = none_different [] refl

-- ---- the two halves of a split

-- where room is known
pub known_apart : (m : Machine) → KnowsRoom m → (actor : ℕ) → PutsApart (m.activity actor)
known_apart m knows actor line source fresh is same =
    let puts = knows.puts actor source fresh line is in
    let rec = puts.0 in
    let one = puts.2 in
    let alike : one.first ≡ one.second = same_Some one.first one.second (sym one.first_live ∙ ap (live_here m.store) same ∙ one.second_live) in
    let first : DirectlyHolds one.first rec.key = elim one.room [
      | inl has ↦ holds rec.key rec.body source one.first has one.first_live
      | inr has ↦ subst (λ (page : LivePage). DirectlyHolds page rec.key) (sym alike) (holds rec.key rec.body fresh one.second has one.second_live)
    ] in
    one.not_both first (subst (λ (page : LivePage). DirectlyHolds page rec.key) alike first)
  where
    holds : (p body : List ℕ) (half : ℕ) (page : LivePage) → HasRoomFor m half p body → live_here m.store half ≡ Some page → DirectlyHolds page p
    holds p body half page has live = subst (λ (page : LivePage). DirectlyHolds page p) (same_Some has.home.page page (sym has.home.live ∙ live)) has.home.direct

-- and where a page was just split
module _ (m : Machine) (actor : ℕ) (may : ℕ → Type 0) (fetched : StoreState) (is_actor : IsActor actor) (fit : LatchesFit m) (inside : HoldsPagesOfFile m) (brings : Brings m may fetched) (deed : Deed) where
  split_apart : (parts : PartsFull m actor (now m actor fetched) deed) → parts.held ≡ parts.row.leaves.fresh → ⊥
  split_apart parts same =
      let leaves = parts.row.leaves in
      let next = is_next_number fetched leaves.fresh leaves.free_after leaves.next in
      let latched = ap (λ (a : Activity). mode_among parts.held (latches_held m.store a)) parts.before ∙ at_itself parts.held (Some Exclusive) None in
      let used = fit.used actor parts.held Exclusive latched in
      let stays : in_memory fetched parts.held ≡ Some (Live used.0) = brings.stays parts.held (inl (actor, Exclusive, latched)) (has_value (in_memory m.store parts.held) (Live used.0) used.1) ∙ used.1 in
      elim (cases_Bool (fetched.meta.free == 0)) [
        | inl none ↦
            let behind = (next.from_behind (eqb-true fetched.meta.free 0 none)).0 in
            let within = (inside parts.held (Live used.0) used.1).1 in
            let meta : fetched.meta.high ≡ m.store.meta.high = ap (λ (s : StoreState). s.meta.high) brings.rest in
            omega (arith, same, behind, within, meta)
        | inr some ↦
            let head = (next.from_chain (eqb-false fetched.meta.free 0 some)).1 in
            let free : Some (Free leaves.free_after) ≡ Some (Live used.0) = sym head ∙ ap (in_memory fetched) (sym same) ∙ stays in
            cc free
      ]

  -- two numbers of one activity
  put_is : (a b : Line) (p q r s : ℕ) → at.SessionPut a p q ≡ at.SessionPut b r s → (p ≡ r) × (q ≡ s)
  put_is a b p q r s is = (cc, cc)

  pub puts_apart : HasPlace m actor (now m actor fetched) deed → PutsApart deed.next
  puts_apart (inl free) line source fresh is same = not_empty (latch_on source Exclusive) (latch_on fresh Exclusive ∷ []) (sym (ap (latches_held m.store) is) ∙ free.latches m.store)
  puts_apart (inr (inl to)) line source fresh is same = none-some to.id (sym (ap walk_held is) ∙ to.held)
  puts_apart (inr (inr (inl full))) line source fresh is same = off full.line full.id (sym (ap (λ (d : Deed). d.next) full.row.deed_is) ∙ is)
    where
      off : (other : Line) (id : ℕ) → at.SessionSplit other id ≡ at.SessionPut line source fresh → ⊥
      off other id is = cc
  puts_apart (inr (inr (inr (inl takes)))) line source fresh is same = off takes.job takes.id (sym (ap (λ (d : Deed). d.next) takes.row.deed_is) ∙ is)
    where
      off : (job : Job) (id : ℕ) → at.PosterChild job id ≡ at.SessionPut line source fresh → ⊥
      off job id is = cc
  puts_apart (inr (inr (inr (inr (inl keeps))))) line source fresh is same = by keeps.after
    where
      promotes : (job : Job) (id : ℕ) → at.PosterPromote job id ≡ at.SessionPut line source fresh → ⊥
      promotes job id is = cc

      again : (job : Job) (id : ℕ) → at.PosterAgain job id ≡ at.SessionPut line source fresh → ⊥
      again job id is = cc

      by : (deed.next ≡ at.PosterPromote keeps.job keeps.parent) ⊎ (deed.next ≡ at.PosterAgain keeps.job keeps.parent) → ⊥
      by (inl next) = promotes keeps.job keeps.parent (sym next ∙ is)
      by (inr next) = again keeps.job keeps.parent (sym next ∙ is)
  puts_apart (inr (inr (inr (inr (inr (inl parts)))))) line source fresh is same =
      let both = put_is parts.line line parts.held parts.row.leaves.fresh source fresh (sym (ap (λ (d : Deed). d.next) parts.row.deed_is) ∙ is) in
      split_apart parts (both.0 ∙ same ∙ sym both.1)
  puts_apart (inr (inr (inr (inr (inr (inr merges)))))) line source fresh is same =
      none-some line (sym (ap (λ (d : Deed). line_in_hand d.next) merges.stays.is ∙ no_line merges.stays.next merges.stays.job merges.stays.after) ∙ ap line_in_hand is)
