-- The latches of activities.
use Rattle.std.proofs.Common.{◌≡◌, ℕ, ◌≤◌, ◌==◌, ◌&&◌, inl, inr, false, cond, List, [], ◌∷◌, length, Any, Option, Some, None, IsTrue, refl, sym, ap, ◌∙◌, arith}
use Rattle.std.specs.Option.{IsSomeAnd, option_map_or}
use Rattle.std.proofs.lemmas.Bool.{false≢true, and_parts}
use Rattle.hb_set.specs.declared.commands.Command.{Command}
use Rattle.hb_frag.specs.declared.pages.LivePage.{LivePage}
use Rattle.hb_latch.specs.declared.modes.Mode.{Mode}
use Rattle.hb_latch.specs.declared.modes.Mode.TheVariants.{Shared, Exclusive}
use Rattle.hb_activity.specs.declared.holding.Latch.{Latch}
use Rattle.hb_activity.specs.declared.wanting.Wanted.{Wanted}
use Rattle.hb_activity.specs.declared.activities.Activity.{Activity}
use Rattle.hb_activity.specs.declared.activities.Activity.TheVariants.{SessionIdle, SessionWalk, SessionSplit, SessionPut, SessionAwait, PosterIdle, PosterGrow, PosterWalk, PosterChild, PosterPromote, PosterAgain, ConsolidatorIdle, ConsolidatorWalk, ConsolidatorScan, ConsolidatorTry, ConsolidatorPromote, ConsolidatorKeep, ConsolidatorDecide, Flusher}
use Rattle.hb_activity.specs.Walks.{may_change, goal_of, session_mode, job_mode}
use Rattle.hb_activity.specs.Holding.{latch_on, walk_latch, held_of}
use Rattle.hb_activity.specs.Wanting.{wanted_page, walk_next, in_mode, SessionsGoOn, WorkersGoOn, ChangersAreAlone}

one_at_most : (held : Option ℕ) (page : Option LivePage) (mode : ℕ → Mode) → length (walk_latch held page mode) ≤ 2
one_at_most None page mode = omega arith
one_at_most (Some held) None mode = omega arith
one_at_most (Some held) (Some page) mode = omega arith

pub two_at_most : (activity : Activity) (page : Option LivePage) → length (held_of activity page) ≤ 2
two_at_most SessionIdle page = omega arith
two_at_most (SessionWalk line held rest found) page = one_at_most held page (session_mode line.command)
two_at_most (SessionSplit line held) page = omega arith
two_at_most (SessionPut line source fresh) page = omega arith
two_at_most (SessionAwait line reply place) page = omega arith
two_at_most PosterIdle page = omega arith
two_at_most (PosterGrow job) page = omega arith
two_at_most (PosterWalk job held) page = one_at_most held page (job_mode job)
two_at_most (PosterChild job parent) page = omega arith
two_at_most (PosterPromote job parent) page = omega arith
two_at_most (PosterAgain job parent) page = omega arith
two_at_most ConsolidatorIdle page = omega arith
two_at_most (ConsolidatorWalk job held) page = one_at_most held page (job_mode job)
two_at_most (ConsolidatorScan job parent child) page = omega arith
two_at_most (ConsolidatorTry job parent keep gone leaf) page = omega arith
two_at_most (ConsolidatorPromote job parent keep gone) page = omega arith
two_at_most (ConsolidatorKeep job parent keep gone) page = omega arith
two_at_most (ConsolidatorDecide job parent keep gone) page = omega arith
two_at_most Flusher page = omega arith

-- the mode of what is wanted is that of its level
pub in_its_mode : (mode : ℕ → Mode) (next : Option (ℕ × ℕ)) (wanted : Wanted) → in_mode mode next ≡ Some wanted → wanted.mode ≡ mode wanted.level
in_its_mode mode None wanted is = cc
in_its_mode mode (Some (page, level)) wanted is =
    let same : wanted_page page level (mode level) ≡ wanted = cc in
    ap (λ (w : Wanted). w.mode) (sym same) ∙ ap (λ (w : Wanted). mode w.level) same

-- so a walk holds what it wanted
goes_on : (mode : ℕ → Mode) (next : Option (ℕ × ℕ)) (wanted : Wanted) (page : LivePage) → in_mode mode next ≡ Some wanted → page.level ≡ wanted.level → walk_latch (Some wanted.page) (Some page) mode ≡ latch_on wanted.page wanted.mode ∷ []
goes_on mode next wanted page is same = ap (λ (m : Mode). latch_on wanted.page m ∷ []) (ap mode same ∙ sym (in_its_mode mode next wanted is))

pub sessions_go_on : SessionsGoOn
sessions_go_on line rest found held meta before wanted page is same = goes_on (session_mode line.command) (walk_next (goal_of line.command rest) held meta before) wanted page is same

pub workers_go_on : WorkersGoOn
workers_go_on job = (
  λ held meta before wanted page is same. goes_on (job_mode job) (walk_next (Some job.point) held meta before) wanted page is same,
  λ held meta before wanted page is same. goes_on (job_mode job) (walk_next (Some job.point) held meta before) wanted page is same,
)

-- a first latch that is exclusive
first_alone : (page : ℕ) (rest : List Latch) → Any (λ latch. latch.mode ≡ Exclusive) (latch_on page Exclusive ∷ rest)
first_alone page rest = (0, latch_on page Exclusive, omega arith, refl, refl)

-- a session's walk to records that it may change
walk_alone : (command : Command) (next : Option (ℕ × ℕ)) → IsTrue (may_change command && option_map_or (λ wanted. wanted.level == 0) (in_mode (session_mode command) next) false) → IsSomeAnd (in_mode (session_mode command) next) (λ wanted. wanted.mode ≡ Exclusive)
walk_alone command None may = absurd (false≢true (and_parts (may_change command) false may).1)
walk_alone command (Some (page, level)) may =
    let parts = and_parts (may_change command) (level == 0) may in
    ap (λ b. cond (b && may_change command) Exclusive Shared) parts.1 ∙ ap (λ b. cond b Exclusive Shared) parts.0

pub changers_are_alone : ChangersAreAlone
changers_are_alone SessionIdle meta page may = absurd (false≢true may)
changers_are_alone (SessionWalk line held rest found) meta page may = inr (walk_alone line.command (walk_next (goal_of line.command rest) held meta page) may)
changers_are_alone (SessionSplit line held) meta page may = inl (first_alone held [])
changers_are_alone (SessionPut line source fresh) meta page may = inl (first_alone source (latch_on fresh Exclusive ∷ []))
changers_are_alone (SessionAwait line reply place) meta page may = absurd (false≢true may)
changers_are_alone PosterIdle meta page may = absurd (false≢true may)
changers_are_alone (PosterGrow job) meta page may = inr refl
changers_are_alone (PosterWalk job held) meta page may = absurd (false≢true may)
changers_are_alone (PosterChild job parent) meta page may = absurd (false≢true may)
changers_are_alone (PosterPromote job parent) meta page may = absurd (false≢true may)
changers_are_alone (PosterAgain job parent) meta page may = inl (first_alone parent [])
changers_are_alone ConsolidatorIdle meta page may = absurd (false≢true may)
changers_are_alone (ConsolidatorWalk job held) meta page may = absurd (false≢true may)
changers_are_alone (ConsolidatorScan job parent child) meta page may = absurd (false≢true may)
changers_are_alone (ConsolidatorTry job parent keep gone leaf) meta page may = absurd (false≢true may)
changers_are_alone (ConsolidatorPromote job parent keep gone) meta page may = absurd (false≢true may)
changers_are_alone (ConsolidatorKeep job parent keep gone) meta page may = absurd (false≢true may)
changers_are_alone (ConsolidatorDecide job parent keep gone) meta page may = inl (first_alone parent (latch_on keep Exclusive ∷ []))
changers_are_alone Flusher meta page may = absurd (false≢true may)
