-- A pair on which a consolidator decides may become one in memory, where its plan says so: what is kept of the parent and of the
-- page to keep, and the test of the page to go, tell the rest.
use Rattle.hb_steps.proofs.Files.Names.{◌≡◌, ◌≢◌, ℕ, ◌+◌, ◌-◌, ◌<◌, [], ◌∷◌, Option, Some, None, IfSome, IsTrue, refl, sym, ap, ◌∙◌, subst, arith, ◌==◌, cond, inr, same_Some, LivePage, Exclusive, Job, Wanted, Activity, wanted_of, wanted_page, names_child, named_leaf, both_there, must_hold, MergesPair, looked_live, wanted_by, Brings, MustStay, WalksInSpace, LatchesFit, Machine, live_here, with_disk, sight, IsAtHand, leaves, IsAllowedOn, IsAllowedHere, StoreState, IsActor, at_itself}
use Rattle.std.specs.Option.{option_map}
use Rattle.std.proofs.lemmas.List.Elements.{All-head, All-tail}
use Rattle.hb_ops.specs.declared.operations.Op.TheVariants as ops
use Rattle.hb_activity.specs.declared.activities.Activity.TheVariants as at
use Rattle.hb_activity.specs.Waiting.{IsLater}
use Rattle.hb_steps.proofs.Files.AskedPages.{first_box_among}
use Rattle.hb_steps.proofs.Files.PairAtHand.{gone_box, gone_live}
use Rattle.hb_steps.proofs.Memory.KeptPages.{KeepsPages}
use Rattle.hb_steps.proofs.Walks.AtHand.{never_later, sibling_found}
use Rattle.hb_steps.proofs.Walks.MergesKept.{above_records}
use Rattle.hb_steps.specs.KeptMerges.{AtParent, NamesKnown, merging_at}
use Rattle.hb_frag.specs.Rules.{capacity_of}
use Rattle.hb_ops.specs.Merging.{FitsMerge, MayMerge}
use Rattle.hb_steps.proofs.Memory.OwnedOps.{second_mode}
use Rattle.hb_steps.specs.Performing.{latches_held, mode_among}
use Rattle.hb_steps.proofs.Files.FitOps.{live_good}

module _ (m : Machine) (actor : ℕ) (may : ℕ → Type 0) (fetched : StoreState) (keeps : KeepsPages fetched) (one : IsActor actor) (fit : LatchesFit m) (walks : WalksInSpace m) (brings : Brings m may fetched) (job : Job) (parent keep gone : ℕ) (wanted : Wanted) (page : LivePage)
    (pair : MergesPair (sight (with_disk fetched m.files m.clock m)) parent keep gone page) (is : m.activity actor ≡ at.ConsolidatorDecide job parent keep gone) (wants : wanted_by m actor ≡ Some wanted) (hand : IsAtHand (with_disk fetched m.files m.clock m) (m.activity actor) wanted page) where
  abbrev place : AtParent
  place = record { job = job; parent = parent; known = keep ∷ gone ∷ []; pair = Some (record { keep = keep; gone = gone; leaf = None }) }

  -- what is known of the parent and of the page to keep
  known : NamesKnown m.store place
  known = subst (λ (o : Option AtParent). IfSome o (NamesKnown m.store)) (ap merging_at is) (walks.merging actor)

  -- both are latched
  held : (id : ℕ) → mode_among id (latches_held m.store (at.ConsolidatorDecide job parent keep gone)) ≡ Some Exclusive → MustStay m id
  held id among = must_hold m actor id (at.ConsolidatorDecide job parent keep gone) Exclusive one fit is among

  same_page : (id : ℕ) (old now : LivePage) → MustStay m id → live_here m.store id ≡ Some old → live_here fetched id ≡ Some now → old ≡ now
  same_page id old now must was live = same_Some old now (sym (both_there m may fetched brings id old now (inr must) was live) ∙ live)

  above_is : known.page ≡ pair.above
  above_is = same_page parent known.page pair.above (held parent (at_itself parent (Some Exclusive) (cond (keep == parent) (Some Exclusive) None))) known.live pair.above_live

  kept_is : known.pair.page ≡ pair.kept
  kept_is = same_page keep known.pair.page pair.kept (held keep (second_mode parent keep Exclusive)) known.pair.live pair.kept_live

  names : (id : ℕ) → IsTrue (names_child known.page id) → IsTrue (names_child pair.above id)
  names id named = subst (λ (q : LivePage). IsTrue (names_child q id)) above_is named

  names_kept : IsTrue (names_child pair.above keep)
  names_kept = names keep (All-head (λ (id : ℕ). IsTrue (names_child known.page id)) keep (gone ∷ []) known.names)

  names_gone : IsTrue (names_child pair.above gone)
  names_gone = names gone (All-head (λ (id : ℕ). IsTrue (names_child known.page id)) gone [] (All-tail (λ (id : ℕ). IsTrue (names_child known.page id)) keep (gone ∷ []) known.names))

  -- ---- the levels

  kept_level : pair.kept.level + 1 ≡ pair.above.level
  kept_level = omega (arith, known.pair.level, ap (λ (q : LivePage). q.level) above_is, ap (λ (q : LivePage). q.level) kept_is)

  gone_level : page.level + 1 ≡ pair.above.level
  gone_level =
      let deciding : Activity = at.ConsolidatorDecide job parent keep gone in
      let so : wanted_of deciding m.store.meta (looked_live m.store deciding) ≡ Some wanted = subst (λ (a : Activity). wanted_of a m.store.meta (looked_live m.store a) ≡ Some wanted) is wants in
      let same : wanted_page gone (known.page.level - 1) Exclusive ≡ wanted = same_Some (wanted_page gone (known.page.level - 1) Exclusive) wanted (ap (option_map (λ (page : LivePage). wanted_page gone (page.level - 1) Exclusive)) (sym known.live) ∙ so) in
      let level : known.page.level - 1 ≡ wanted.level = ap (λ (w : Wanted). w.level) same in
      let some : 0 < pair.above.level = above_records fetched.meta pair.above keep (live_good fetched keeps.framed parent pair.above pair.above_live) names_kept in
      let over : known.page.level ≡ pair.above.level = ap (λ (q : LivePage). q.level) above_is in
      let on = hand.level in
      omega (arith, level, some, over, on)

  -- ---- the numbers

  here : live_here fetched gone ≡ Some page
  here = gone_live m actor fetched job parent keep gone wanted page pair is wants hand

  numbered : (id other : ℕ) (a b : LivePage) → live_here fetched id ≡ Some a → live_here fetched other ≡ Some b → id ≡ other → a ≡ b
  numbered id other a b one two same = same_Some a b (sym one ∙ ap (live_here fetched) same ∙ two)

  others_kept : parent ≢ keep
  others_kept same = omega (arith, kept_level, ap (λ (q : LivePage). q.level) (numbered parent keep pair.above pair.kept pair.above_live pair.kept_live same))

  others_gone : parent ≢ gone
  others_gone same = omega (arith, gone_level, ap (λ (q : LivePage). q.level) (numbered parent gone pair.above page pair.above_live here same))

  later : IsLater pair.kept page
  later =
      let box = gone_box m actor fetched job parent keep gone wanted page pair is wants hand in
      let level : page.level ≡ pair.kept.level = omega (arith, kept_level, gone_level) in
      sibling_found fetched.meta pair.kept (live_good fetched keeps.framed keep pair.kept pair.kept_live) page gone page.area (first_box_among gone _ page.area box) level refl

  two : keep ≢ gone
  two same = never_later pair.kept page (numbered keep gone pair.kept page pair.kept_live here same) later

  -- ---- so they fit

  fits : FitsMerge fetched.meta parent keep gone pair.above pair.kept page
  fits = record {
    pages = record {
      others = (others_kept, others_gone);
      two = two;
      above_made = (live_good fetched keeps.framed parent pair.above pair.above_live).1;
      kept_made = (live_good fetched keeps.framed keep pair.kept pair.kept_live).1;
      gone_made = (live_good fetched keeps.framed gone page here).1;
      kept_level = kept_level;
      gone_level = gone_level;
      names_kept = named_leaf keep (leaves pair.above.frag) names_kept;
      names_gone = named_leaf gone (leaves pair.above.frag) names_gone;
    };
    some_live = pair.live;
    may = subst (λ (level : ℕ). MayMerge pair.above pair.kept gone page (capacity_of level fetched.meta.dcap fetched.meta.icap)) same_level pair.may;
  }
    where
      same_level : page.level ≡ pair.kept.level
      same_level = omega (arith, kept_level, gone_level)

  pub merge_allowed : IsAllowedHere fetched (ops.Merge parent keep gone)
  merge_allowed =
      let op = ops.Merge parent keep gone in
      let third = subst (λ (o : Option LivePage). IsAllowedOn op fetched.meta (Some pair.above) (Some pair.kept) o) (sym here) fits in
      let second = subst (λ (o : Option LivePage). IsAllowedOn op fetched.meta (Some pair.above) o (live_here fetched gone)) (sym pair.kept_live) third in
      subst (λ (o : Option LivePage). IsAllowedOn op fetched.meta o (live_here fetched keep) (live_here fetched gone)) (sym pair.above_live) second
