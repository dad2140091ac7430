-- What a row does to the file, it does to pages that its actor has for itself, or to one that was in no use.
use Rattle.hb_steps.proofs.Memory.Names.{◌≡◌, ◌⊎◌, inl, inr, ℕ, ◌==◌, Bool, true, cond, List, Option, Some, None, IsSome, refl, sym, ap, ◌∙◌, subst, arith, cases_Bool, eqb-true, eqb-false, LivePage, Page, Live, Free, Op, Line, Shared, Exclusive, Wanted, Activity, Deed, HasWayFree, wanted_by, Brings, MustStay, HoldsPagesOfFile, LatchesFit, HasAlone, IsInUse, Machine, with_disk, sight, MayDo, latches_held, mode_among, Row, IsActor, if_live, Area, IsAllowedHere, read_here, IsNext, StoreState, in_memory, each_op, each_row, Mode}
use Rattle.hb_space.specs.declared.records.Record.{Record}
use Rattle.hb_ops.specs.declared.operations.Op.TheVariants as ops
use Rattle.hb_set.specs.declared.commands.Command.{Command}
use Rattle.hb_activity.specs.declared.jobs.Job.{Job}
use Rattle.hb_activity.specs.declared.activities.Activity.TheVariants as at
use Rattle.hb_activity.specs.Walks.{goal_of, may_change, session_mode}
use Rattle.hb_activity.specs.Wanting.{walk_next, wanted_of}
use Rattle.hb_steps.proofs.Files.PairAtHand.{decides_page}
use Rattle.hb_steps.proofs.Memory.NextNumbers.{is_next_number}
use Rattle.hb_steps.proofs.Table.Targets.{IsTarget}
use Rattle.hb_steps.specs.Asking.{looked_live}
use Rattle.hb_ops.specs.Operations.{IsAllowedOn}
use Rattle.hb_activity.proofs.Facts.HeldLatches.{in_its_mode}
use Rattle.hb_lemmas.proofs.Booleans.{at_itself}

-- Each page that an operation changes the actor has for itself, or it was in no use.
-- Over a disk that doesn't tell, a page that was in use and need not stay may have come again as a free one.
abbrev pub IsAnew : Machine → ℕ → Type 0
IsAnew m id = (page : LivePage) → IsInUse m id page → (¬ (MustStay m id)) × (m.files ≡ None)

abbrev pub IsFreeFor : Machine → ℕ → ℕ → Type 0
IsFreeFor m actor id = HasAlone m actor id ⊎ IsAnew m id

abbrev pub OwnsTargets : Machine → ℕ → Option Op → Type 0
OwnsTargets m actor None = Unit {0}
OwnsTargets m actor (Some op) = (id : ℕ) → IsTarget op id → IsFreeFor m actor id

-- a number that is equal to another one is free like it
like : (m : Machine) (actor id other : ℕ) → id ≡ other → IsFreeFor m actor other → IsFreeFor m actor id
like m actor id other is free = subst (IsFreeFor m actor) (sym is) free

-- the page that is made was in no use
pub made_was_free : (m : Machine) (may : ℕ → Type 0) (fetched : StoreState) (fresh free_after : ℕ) → HoldsPagesOfFile m → Brings m may fetched → IsNext fetched fresh free_after → IsAnew m fresh
made_was_free m may fetched fresh free_after inside brings next = elim (cases_Bool (fetched.meta.free == 0)) [
  | inl none ↦ λ page used.
      let behind = next.from_behind (eqb-true fetched.meta.free 0 none) in
      let within = inside fresh (Live page) used in
      let meta : fetched.meta.high ≡ m.store.meta.high = ap (λ (s : StoreState). s.meta.high) brings.rest in
      absurd (omega (arith, behind.0, within.1, meta))
  | inr some ↦ λ page used.
      let head = next.from_chain (eqb-false fetched.meta.free 0 some) in
      let there : IsSome (in_memory m.store fresh) = subst (λ (o : Option Page). IsSome o) (sym used) refl in
      elim (brings.others fresh there) [
        | inl same ↦ absurd (free_is_not_live free_after page (sym head.1 ∙ same ∙ used))
        | inr (inl gone) ↦ absurd (free_is_not_none free_after (sym head.1 ∙ gone))
        | inr (inr (untold, asked, free)) ↦ (free, untold)
      ]
]
  where
    free_is_not_live : (next : ℕ) (page : LivePage) → Some (Free next) ≡ Some (Live page) → ⊥
    free_is_not_live next page is = cc

    free_is_not_none : (next : ℕ) → Some (Free next) ≡ None → ⊥
    free_is_not_none next is = cc

made_is_free : (m : Machine) (may : ℕ → Type 0) (fetched : StoreState) (actor fresh free_after : ℕ) → HoldsPagesOfFile m → Brings m may fetched → IsNext fetched fresh free_after → IsFreeFor m actor fresh
made_is_free m may fetched actor fresh free_after inside brings next = inr (made_was_free m may fetched fresh free_after inside brings next)

-- what an actor holds exclusively
pub held_alone : (m : Machine) (actor id : ℕ) → IsActor actor → LatchesFit m → mode_among id (latches_held m.store (m.activity actor)) ≡ Some Exclusive → IsFreeFor m actor id
held_alone m actor id may fit is = inl (inl is)

pub second_mode : (first id : ℕ) (mode : Mode) → cond (first == id) (Some mode) (cond (id == id) (Some mode) None) ≡ Some mode
second_mode first id mode = elim (cases_Bool (first == id)) [
  | inl here ↦ ap (λ (b : Bool). cond b (Some mode) (cond (id == id) (Some mode) None)) here
  | inr off ↦ ap (λ (b : Bool). cond b (Some mode) (cond (id == id) (Some mode) None)) off ∙ at_itself id (Some mode) None
]

held_by : (m : Machine) (actor id : ℕ) (activity : Activity) → IsActor actor → LatchesFit m → m.activity actor ≡ activity → mode_among id (latches_held m.store activity) ≡ Some Exclusive → IsFreeFor m actor id
held_by m actor id activity may fit is mode = held_alone m actor id may fit (subst (λ (a : Activity). mode_among id (latches_held m.store a) ≡ Some Exclusive) (sym is) mode)

-- ---- a walk of an insert or a delete at a page of records

alone_at_records : (command : Command) → may_change command ≡ true → session_mode command 0 ≡ Exclusive
alone_at_records command may = ap (λ (b : Bool). cond b Exclusive Shared) may

walk_takes_alone : (m : Machine) (actor : ℕ) (line : Line) (held : Option ℕ) (rest : List Area) (found : List Record) (wanted : Wanted) → m.activity actor ≡ at.SessionWalk line held rest found
    → wanted_by m actor ≡ Some wanted → HasWayFree m actor → wanted.level ≡ 0 → may_change line.command ≡ true → IsFreeFor m actor wanted.page
walk_takes_alone m actor line held rest found wanted is wants free level may =
    let walk : Activity = at.SessionWalk line held rest found in
    let so : wanted_of walk m.store.meta (looked_live m.store walk) ≡ Some wanted = subst (λ (a : Activity). wanted_of a m.store.meta (looked_live m.store a) ≡ Some wanted) is wants in
    let mode : wanted.mode ≡ session_mode line.command wanted.level = in_its_mode (session_mode line.command) (walk_next (goal_of line.command rest) held m.store.meta (looked_live m.store walk)) wanted so in
    inl (inr (record { wanted = wanted; wants = wants; page = refl; mode = mode ∙ ap (session_mode line.command) level ∙ alone_at_records line.command may; free = free }))

-- ---- what is allowed on the page that was latched

put_level : (st : StoreState) (id : ℕ) (rec : Record) (page : LivePage) → if_live (in_memory st id) ≡ Some page → IsAllowedHere st (ops.Put id rec) → page.level ≡ 0
put_level st id rec page live allowed =
    let op = ops.Put id rec in
    (subst (λ (o : Option LivePage). IsAllowedOn op st.meta o (read_here st op 1) (read_here st op 2)) live allowed).level

del_level : (st : StoreState) (id : ℕ) (point : List ℕ) (page : LivePage) → if_live (in_memory st id) ≡ Some page → IsAllowedHere st (ops.Del id point) → page.level ≡ 0
del_level st id point page live allowed =
    let op = ops.Del id point in
    (subst (λ (o : Option LivePage). IsAllowedOn op st.meta o (read_here st op 1) (read_here st op 2)) live allowed).level

-- what is done is allowed
abbrev pub Allowed : StoreState → Option Op → Type 0
Allowed st None = Unit {0}
Allowed st (Some op) = IsAllowedHere st op

pub allowed_by : (op : Option Op) (mark : ℕ) (old new : StoreState) → MayDo op mark old new → Allowed old op
allowed_by None mark old new done = tt
allowed_by (Some op) mark old new done = done.allowed

-- ---- the rows

module _ (m : Machine) (actor : ℕ) (may : ℕ → Type 0) (fetched : StoreState) (latches : IsActor actor) (fit : LatchesFit m) (inside : HoldsPagesOfFile m) (free : HasWayFree m actor) (brings : Brings m may fetched) where
  -- the machine with the pages that came
  abbrev pub m' : Machine
  m' = with_disk fetched m.files m.clock m

  -- a page that the actor has for itself between two steps
  own : (activity : Activity) (page id : ℕ) → m.activity actor ≡ activity → mode_among page (latches_held m.store activity) ≡ Some Exclusive → id ≡ page → IsFreeFor m actor id
  own activity page id is mode same = like m actor id page same (held_by m actor page activity latches fit is mode)

  made : (fresh free_after id : ℕ) → (sight m').next ≡ Some (fresh, free_after) → id ≡ fresh → IsFreeFor m actor id
  made fresh free_after id next same = like m actor id fresh same (made_is_free m may fetched actor fresh free_after inside brings (is_next_number fetched fresh free_after next))

  own_half : (line : Line) (source fresh half id : ℕ) → m.activity actor ≡ at.SessionPut line source fresh → (half ≡ source) ⊎ (half ≡ fresh) → id ≡ half → IsFreeFor m actor id
  own_half line source fresh half id is (inl first) same = own (at.SessionPut line source fresh) source id is (at_itself source (Some Exclusive) (cond (fresh == source) (Some Exclusive) None)) (same ∙ first)
  own_half line source fresh half id is (inr second) same = own (at.SessionPut line source fresh) fresh id is (second_mode source fresh Exclusive) (same ∙ second)

  own_parts : (activity : Activity) (page fresh free_after : ℕ) → m.activity actor ≡ activity → mode_among page (latches_held m.store activity) ≡ Some Exclusive → (sight m').next ≡ Some (fresh, free_after) → (id : ℕ) → (id ≡ page) ⊎ (id ≡ fresh) → IsFreeFor m actor id
  own_parts activity page fresh free_after is mode next id (inl same) = own activity page id is mode same
  own_parts activity page fresh free_after is mode next id (inr same) = made fresh free_after id next same

  -- the three pages of a merge: two are held, and the one that goes is the one that the step latches
  own_three : (job : Job) (parent keep gone : ℕ) (wanted : Wanted) → m.activity actor ≡ at.ConsolidatorDecide job parent keep gone → wanted_by m actor ≡ Some wanted → (id : ℕ) → (id ≡ parent) ⊎ (id ≡ keep) ⊎ (id ≡ gone) → IsFreeFor m actor id
  own_three job parent keep gone wanted is wants id (inl same) = own (at.ConsolidatorDecide job parent keep gone) parent id is (at_itself parent (Some Exclusive) (cond (keep == parent) (Some Exclusive) None)) same
  own_three job parent keep gone wanted is wants id (inr (inl same)) = own (at.ConsolidatorDecide job parent keep gone) keep id is (second_mode parent keep Exclusive) same
  own_three job parent keep gone wanted is wants id (inr (inr same)) =
      let named = decides_page m actor job parent keep gone wanted is wants in
      like m actor id gone same (inl (inr (record { wanted = wanted; wants = wants; page = named.0; mode = named.1; free = free })))

  abbrev Owned : Activity → Option Op → Type 0
  Owned activity op = m.activity actor ≡ activity → Allowed fetched op → OwnsTargets m actor op

  pub owned_row : (wanted : Option Wanted) (deed : Deed) → wanted_by m actor ≡ wanted → Allowed fetched deed.op → Row (m.activity actor) wanted m' deed → OwnsTargets m actor deed.op
  owned_row wanted deed wants allowed row = each_row m' (λ activity deed. Owned activity deed.op) (m.activity actor) wanted deed
      (record {
        full = λ line held none is allowed. tt;
        splits = λ line held page live leaves is allowed. own_parts (at.SessionSplit line held) held leaves.fresh leaves.free_after is (at_itself held (Some Exclusive) None) leaves.next;
        puts = λ line source fresh rec command half either page live is allowed id same. own_half line source fresh half id is either same;
      })
      (λ its page at_hand hand. each_op (sight m') its.page page Owned (record {
        none = λ activity is allowed. tt;
        inserts = λ line held rest found rec command absent room is allowed id same.
            let level = put_level fetched its.page rec page hand.live allowed in
            like m actor id its.page same (walk_takes_alone m actor line held rest found its is (wants ∙ at_hand) free (sym hand.level ∙ level) (ap may_change command));
        deletes = λ line held rest found p there command stands is allowed id same.
            let level = del_level fetched its.page p page hand.live allowed in
            like m actor id its.page same (walk_takes_alone m actor line held rest found its is (wants ∙ at_hand) free (sym hand.level ∙ level) (ap may_change command));
        grows = λ job fresh free_after may free next is allowed id same. made fresh free_after id next same;
        posts = λ job parent above path inner area live plan is allowed id same. own (at.PosterAgain job parent) parent id is (at_itself parent (Some Exclusive) None) same;
        parts = λ job parent above live plan leaves is allowed. own_parts (at.PosterAgain job parent) parent leaves.fresh leaves.free_after is (at_itself parent (Some Exclusive) None) leaves.next;
        merges = λ job parent keep gone pair is allowed. own_three job parent keep gone its is (wants ∙ at_hand);
      }))
      row refl allowed
