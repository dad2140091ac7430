-- The line that a session takes: the first of its own among those that don't lie behind it.
use Rattle.hb_core.proofs.Running.Names.{◌≡◌, ◌≢◌, ℕ, ◌+◌, ◌-◌, ◌<◌, ◌==◌, Bool, List, [], take, drop, length, get_or, slice_set, slice_index_or, Some, None, sym, ap, subst, ◌∙◌, arith, eqb-true, eqb-false, get_or-drop, get_or-take, get_or_from_slice_get, slice_get-get_or, Area, Record, Line, Activity, StandsFree, with_standing, Relatches, RunningCore, HaveBoxes, IsNextLine, NoneAgainst, RefusesLine, TakesLine, Outcome, WantsBoxes, boxes_ahead, LineFits, lock_of_command, BoxLock, place_member, behind_front, All-contains}
use Rattle.std.proofs.Common.{position, slice_get, All}
use Rattle.std.proofs.lemmas.List.{length-take, take_rest}
use Rattle.std.proofs.lemmas.List.Quantifiers.{position-Some}
use Rattle.std.proofs.lemmas.List.Sums.{fails_before_first}
use Rattle.hb_activity.specs.declared.activities.Activity.TheVariants as at
use Rattle.hb_steps.specs.declared.outcomes.Outcome.TheVariants as outcomes
use Rattle.hb_set.specs.declared.commands.Reply.TheVariants as replies
use Rattle.hb_steps.proofs.Machines.LocksKept.{command_box}
use Rattle.hb_activity.proofs.Facts.NoPlace.{none_before}

abbrev is_of : ℕ → Line → Bool
is_of actor line = line.session == actor

none_among : (actor : ℕ) (lines : List Line) → position (is_of actor) lines ≡ None → All (λ (l : Line). l.session ≢ actor) lines
none_among actor lines none k d lt =
    eqb-false (get_or lines k d).session actor (fails_before_first (is_of actor) lines k d (omega (arith, none_before (is_of actor) lines none, lt)))

-- how far the session has come, as the code reads it
behind_is : (actor session behind : ℕ) (behinds : List ℕ) → session ≡ actor → slice_get behinds (actor - 1) ≡ Some behind → slice_index_or behinds (session - 1) 0 ≡ behind
behind_is actor session behind behinds same there =
    ap (λ (n : ℕ). get_or behinds (n - 1) 0) same ∙ get_or_from_slice_get behinds (actor - 1) behind 0 there

abbrev rest_from : ℕ → List Line → List Line
rest_from n lines = take (length lines - n) (drop n lines)

front_is : (actor session behind : ℕ) (behinds : List ℕ) (lines shown : List Line) → session ≡ actor → slice_get behinds (actor - 1) ≡ Some behind → shown ≡ lines
    → rest_from (slice_index_or behinds (session - 1) 0) shown ≡ drop behind lines
front_is actor session behind behinds lines shown same there is =
    take_rest shown (slice_index_or behinds (session - 1) 0) ∙ ap (λ (n : ℕ). drop n shown) (behind_is actor session behind behinds same there) ∙ ap (λ (l : List Line). drop behind l) is

pub none_left : (actor session behind : ℕ) (behinds : List ℕ) (lines shown : List Line) → session ≡ actor → slice_get behinds (actor - 1) ≡ Some behind → shown ≡ lines
    → None ≡ position (is_of actor) (rest_from (slice_index_or behinds (session - 1) 0) shown) → All (λ (l : Line). l.session ≢ actor) (drop behind lines)
none_left actor session behind behinds lines shown same there is none =
    let front = front_is actor session behind behinds lines shown same there is in
    none_among actor (drop behind lines) (sym (none ∙ ap (λ (l : List Line). position (is_of actor) l) front))

-- then all lines lie behind the session
pub goes_to_end : (actor count : ℕ) (shown : List Line) (old new : RunningCore) → shown ≡ old.lines → count ≡ length shown → new ≡ record old { behind = slice_set old.behind (actor - 1) count }
    → new ≡ record old { behind = slice_set old.behind (actor - 1) (length old.lines) }
goes_to_end actor count shown old new is long gone =
    gone ∙ ap (λ (n : ℕ). record old { behind = slice_set old.behind (actor - 1) n }) (long ∙ ap (λ (l : List Line). length l) is)

-- the lines before the first one aren't the session's, and it is
first_is : (actor behind place : ℕ) (line d : Line) (core : RunningCore) → position (is_of actor) (drop behind core.lines) ≡ Some place → line ≡ get_or core.lines (behind + place) d → IsNextLine actor behind place line core
first_is actor behind place line d core first is =
    let lines : List Line = drop behind core.lines in
    let at_first = position-Some (is_of actor) lines place d first in
    let here : line ≡ get_or lines place d = is ∙ sym (get_or-drop behind core.lines place d) in
    record {
      skipped = λ k x lt. skip k x (omega (arith, simp length-take at lt));
      there = slice_get-get_or lines place d at_first.0 ∙ ap Some (sym here);
      own = ap (λ (l : Line). l.session) here ∙ eqb-true (get_or lines place d).session actor at_first.1;
    }
  where
    skip : (k : ℕ) (x : Line) → k < place → (get_or (take place (drop behind core.lines)) k x).session ≢ actor
    skip k x low =
        eqb-false (get_or (take place (drop behind core.lines)) k x).session actor
        (ap (λ (l : Line). l.session == actor) (get_or-take place (drop behind core.lines) k x low) ∙ (position-Some (is_of actor) (drop behind core.lines) place x first).2 k low)

pub next_is : (actor session behind place : ℕ) (line d : Line) (shown again : List Line) (core : RunningCore) → session ≡ actor → slice_get core.behind (actor - 1) ≡ Some behind → shown ≡ core.lines → again ≡ core.lines
    → Some place ≡ position (is_of actor) (rest_from (slice_index_or core.behind (session - 1) 0) shown)
    → line ≡ slice_index_or again (slice_index_or core.behind (session - 1) 0 + place) d → IsNextLine actor behind place line core
next_is actor session behind place line d shown again core same there is is_again first line_is =
    let from = behind_is actor session behind core.behind same there in
    first_is actor behind place line d core
    (sym (first ∙ ap (λ (l : List Line). position (is_of actor) l) (front_is actor session behind core.behind core.lines shown same there is)))
    (line_is ∙ ap (λ (l : List Line). get_or l (slice_index_or core.behind (session - 1) 0 + place) d) is_again ∙ ap (λ (n : ℕ). get_or core.lines (n + place) d) from)

-- the session takes it, and walks from the root
pub takes_line : (actor session behind place : ℕ) (line : Line) (rest : List Area) (found : List Record) (old middle new : RunningCore) → session ≡ actor → slice_get old.behind (actor - 1) ≡ Some behind → IsNextLine actor behind place line old
    → NoneAgainst old.activities actor (lock_of_command line.command) → rest ≡ boxes_ahead line.command → found ≡ [] → middle ≡ record old { behind = slice_set old.behind (actor - 1) (slice_index_or old.behind (session - 1) 0 + place + 1) }
    → StandsFree actor (at.SessionWalk line None rest found) middle new → TakesLine actor behind place line old new
takes_line actor session behind place line rest found old middle new same there next free boxes no_record middle_is stands =
    let from = behind_is actor session behind old.behind same there in
    let gone : middle ≡ record old { behind = slice_set old.behind (actor - 1) (behind + place + 1) } = middle_is ∙ ap (λ (n : ℕ). record old { behind = slice_set old.behind (actor - 1) (n + place + 1) }) from in
    let walk : at.SessionWalk line None rest found ≡ at.SessionWalk line None (boxes_ahead line.command) [] =
    ap (λ (r : List Area). at.SessionWalk line None r found) boxes ∙ ap (λ (f : List Record). at.SessionWalk line None (boxes_ahead line.command) f) no_record in
    record {
      next = next;
      free = free;
      latches = subst (λ (c : RunningCore). Relatches actor [] c.latches new.latches) gone stands.latches;
      rest = stands.rest ∙ ap (λ (c : RunningCore). record (with_standing actor (at.SessionWalk line None rest found) c) { latches = new.latches }) gone
          ∙ ap (λ (a : Activity). record (with_standing actor a old) { latches = new.latches; behind = slice_set old.behind (actor - 1) (behind + place + 1) }) walk;
    }

-- or memory is refused for its box
pub refuses_line : (actor session behind place : ℕ) (line : Line) (outcome : Outcome) (old new : RunningCore) → session ≡ actor → slice_get old.behind (actor - 1) ≡ Some behind → IsNextLine actor behind place line old
    → NoneAgainst old.activities actor (lock_of_command line.command) → WantsBoxes line.command → outcome ≡ outcomes.Answered line.number replies.NoMemory
    → new ≡ record old { behind = slice_set old.behind (actor - 1) (slice_index_or old.behind (session - 1) 0 + place + 1) } → RefusesLine actor behind place line outcome old new
refuses_line actor session behind place line outcome old new same there next free boxes says new_is = record {
  next = next;
  free = free;
  boxes = boxes;
  says = says;
  rest = new_is ∙ ap (λ (n : ℕ). record old { behind = slice_set old.behind (actor - 1) (n + place + 1) }) (behind_is actor session behind old.behind same there);
}

-- the boxes of all locks have as many attributes as that of the line
pub as_many_boxes : (k actor behind place : ℕ) (line : Line) (lock : BoxLock) (core : RunningCore) → HaveBoxes k core.activities → All (LineFits k) core.lines → IsNextLine actor behind place line core → lock ≡ lock_of_command line.command → HaveBoxes (length lock.area.lo) core.activities
as_many_boxes k actor behind place line lock core boxes lines next is =
    let fits : LineFits k line = All-contains (LineFits k) core.lines line lines (behind_front behind core.lines line (place_member (drop behind core.lines) place line next.there)) in
    subst (λ (n : ℕ). HaveBoxes n core.activities) (sym (ap (λ (l : BoxLock). length l.area.lo) is ∙ command_box k line.command fits.command)) boxes
