-- What the lines would store can be stored after a step, too.
use Rattle.hb_steps.proofs.Orders.Names.{◌≡◌, inl, inr, ℕ, ◌==◌, true, false, Bool, cond, List, [], ◌∷◌, All, Option, Some, None, IfSome, sym, ap, ◌∙◌, subst, cases_Bool, All-head, All-tail, none-some, Answered, Line, Activity, Outcome, line_in_hand, Deed, IsMergingOf, LineFate, fate_given_up, fate_row, each_step, ready_kind, KeepsAllButDisk, forces_so, meets_so, stays_so, more_so, LinesFit, Machine, Performs, TakesJob, TakesMerging, Works, is_answered, next_line, IsPostingOf, StoreState}
use Rattle.std.proofs.Common.{◌&&◌, not}
use Rattle.hb_steps.specs.declared.outcomes.Outcome.TheVariants as outcomes
use Rattle.hb_steps.specs.FileLaws.{LinesStayFit}
use Rattle.hb_steps.specs.KeptLines.{HasLineBody}

taken_or : (P : Line → Type 0) (first line : Line) (later : Option Line) (b : Bool) → P first → (later ≡ Some line → P line) → cond b (Some first) later ≡ Some line → P line
taken_or P first line later true here there is = let same : first ≡ line = cc in subst P same here
taken_or P first line later false here there is = there is

-- what holds of every line holds of the one that a session takes
pub line_taken : (P : Line → Type 0) (session : ℕ) (answered : List Answered) (lines : List Line) → All P lines → (line : Line) → next_line session answered lines ≡ Some line → P line
line_taken P session answered [] all line is = absurd (none-some line is)
line_taken P session answered (first ∷ rest) all line is =
    taken_or P first line (next_line session answered rest) ((first.session == session) && not (is_answered first.number answered)) (All-head P first rest all) (line_taken P session answered rest (All-tail P first rest all) line) is

module _ (m : Machine) (actor : ℕ) (outcome : Outcome) (new : Machine) (fit : LinesFit m) where
  -- a line in hand that was in hand, or that fits
  performed : (fetched : StoreState) (deed : Deed) → Performs m fetched actor deed outcome new → IfSome (line_in_hand deed.next) HasLineBody → LinesFit new
  performed fetched deed performs own = record {
    script = subst (λ (l : List Line). All HasLineBody l) (sym performs.lines) fit.script;
    in_hand = λ other. subst (λ (a : Activity). IfSome (line_in_hand a) HasLineBody) (sym (performs.activity other)) (elim (cases_Bool (other == actor)) [
      | inl here ↦ subst (λ (b : Bool). IfSome (line_in_hand (cond b deed.next (m.activity other))) HasLineBody) (sym here) own
      | inr off ↦ subst (λ (b : Bool). IfSome (line_in_hand (cond b deed.next (m.activity other))) HasLineBody) (sym off) (fit.in_hand other)
    ]);
  }

  stays : KeepsAllButDisk m new → LinesFit new
  stays keeps = record {
    script = subst (λ (l : List Line). All HasLineBody l) (sym keeps.lines) fit.script;
    in_hand = λ other. subst (λ (all : ℕ → Activity). IfSome (line_in_hand (all other)) HasLineBody) (sym keeps.activity) (fit.in_hand other);
  }

  own_line : (deed : Deed) → LineFate m (m.activity actor) deed → IfSome (line_in_hand deed.next) HasLineBody
  own_line deed (inl goes) = subst (λ (o : Option Line). IfSome o HasLineBody) (sym goes.hand) (fit.in_hand actor)
  own_line deed (inr (inl takes)) = subst (λ (a : Activity). IfSome (line_in_hand a) HasLineBody) (sym takes.next) tt
  own_line deed (inr (inr gives)) = subst (λ (a : Activity). IfSome (line_in_hand a) HasLineBody) (sym gives.next) tt

  worked : Works m actor outcome new → LinesFit new
  worked (inl (by, way, so)) = stays (stays_so m actor outcome new (outcomes.Blocked by) so)
  worked (inr (inl (free, unready, inl (waits, force)))) = stays (forces_so m actor outcome new outcomes.Helped force)
  worked (inr (inl (free, unready, inr (none, rest)))) =
      ready_kind m outcome new (LinesFit new) none (λ more. stays (more_so m actor outcome new more)) rest
  worked (inr (inr (free, ready, inl acts))) = performed acts.fetched acts.deed acts.performs (own_line acts.deed (fate_row m acts.fetched (m.activity actor) _ acts.deed acts.row))
  worked (inr (inr (free, ready, inr (inl gives)))) = performed gives.fetched _ gives.performs (own_line _ (fate_given_up m gives.why (m.activity actor)))
  worked (inr (inr (free, ready, inr (inr meets)))) = stays (meets_so m actor outcome new meets)

no_line : (deed : Deed) → line_in_hand deed.next ≡ None → IfSome (line_in_hand deed.next) HasLineBody
no_line deed none = subst (λ (o : Option Line). IfSome o HasLineBody) (sym none) tt

-- a job that was taken is no line
pub took_job : (m : Machine) (deed : Deed) → TakesJob m deed → line_in_hand deed.next ≡ None
took_job m deed takes = ap (λ (d : Deed). line_in_hand d.next) takes.deed_is ∙ by takes.next takes.posting
  where
    by : (next : Activity) → IsPostingOf takes.job m.store.meta.height next → line_in_hand next ≡ None
    by next (inl (above, is)) = ap line_in_hand is
    by next (inr (inl (same, is))) = ap line_in_hand is
    by next (inr (inr (below, is))) = ap line_in_hand is

pub took_merging : (m : Machine) (deed : Deed) → TakesMerging m deed → line_in_hand deed.next ≡ None
took_merging m deed takes = ap (λ (d : Deed). line_in_hand d.next) takes.deed_is ∙ by takes.next takes.merging
  where
    by : (next : Activity) → IsMergingOf takes.job m.store.meta.height next → line_in_hand next ≡ None
    by next (inl (above, is)) = ap line_in_hand is
    by next (inr (below, is)) = ap line_in_hand is

pub lines_stay_fit : LinesStayFit
lines_stay_fit m actor outcome new fit step = each_step m actor outcome new (LinesFit new) (record {
  stays = λ said plain so. stays m actor outcome new fit (stays_so m actor outcome new said so);
  forces = λ said quiet force. stays m actor outcome new fit (forces_so m actor outcome new said force);
  more = λ more. stays m actor outcome new fit (more_so m actor outcome new more);
  takes = λ line idle next performs. performed m actor outcome new fit m.store _ performs (line_taken HasLineBody actor m.answered m.lines fit.script line next);
  refuses = λ line idle next boxes performs. performed m actor outcome new fit m.store _ performs tt;
  posts = λ deed idle takes performs. performed m actor outcome new fit m.store deed performs (no_line deed (took_job m deed takes));
  merges = λ deed idle takes performs. performed m actor outcome new fit m.store deed performs (no_line deed (took_merging m deed takes));
  settles = λ number place reply is settled performs. performed m actor outcome new fit m.store _ performs tt;
  works = λ none works. worked m actor outcome new fit works;
}) step
