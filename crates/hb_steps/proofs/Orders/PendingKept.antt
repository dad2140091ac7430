-- After a step the file before each group that waits has the set after as many entries of the order as its mark says, and each
-- answered entry stands below the oldest one's.
use Rattle.hb_steps.proofs.Orders.Names.{◌≡◌, ◌⊎◌, inl, inr, ℕ, ◌<◌, ◌≤◌, List, [], ◌∷◌, ◌++◌, length, take, get_or, All, AllPairs, Option, Some, None, option_map, refl, sym, ap, ◌∙◌, subst, arith, append-nil, length-append, take_all, All-append, All-cons, All-nil, Op, Reply, Answered, Outcome, Deed, does, stands_longer, each_kind, FlushesMore, ready_kind, MeetsBadPage, ForcesAll, StaysSo, forced_files, IsAnsweredInPlace, FollowMarks, HasLegalOrder, IsSettledIn, StandsInOrder, StandsSomewhere, RepliesStand, Files, Machine, current_file, settled_count, MayDo, Performs, files_after, given_by, with_effect, StepsTo, Works, group_bytes, FileState, contents_of, last_of, RecordSet, Entry, IsLegalOrder, result_of, group_here, StoreState, IsMarkedTo, IsNoLater, LogState, Waiting, mark_of, same_Some, option_to_list}
use Rattle.std.proofs.lemmas.List.{take-append-le}
use Rattle.hb_steps.specs.declared.outcomes.Outcome.TheVariants as outcomes
use Rattle.hb_steps.proofs.Orders.AnswersInPlace.{answers_are_in_place}
use Rattle.hb_steps.proofs.Memory.Moments.{answers_are_timed}
use Rattle.hb_steps.proofs.TwoSteps.SinglePlaces.{no_place, one_place}
use Rattle.hb_steps.proofs.Memory.ToldStays.{still_told}
use Rattle.hb_steps.proofs.Facts.Ways.{order_grows}
use Rattle.hb_steps.specs.KeepingLaws.{PrefixStaysPending, SettledStaysSettled}
use Rattle.hb_steps.specs.Keeps.{HasSoundFile}
use Rattle.hb_steps.specs.KeptOrder.{HasPendingPrefix}
use Rattle.hb_wal.proofs.Facts.Marks.{mark_inside}

-- ---- groups and the files before them

follows_longer : (n : RecordSet) (order more : List Entry) (before : FileState) (groups : List Waiting) (later : List FileState) → FollowMarks n order before groups later → FollowMarks n (order ++ more) before groups later
follows_longer n order more before [] later follows = tt
follows_longer n order more before (group ∷ rest) [] follows = follows
follows_longer n order more before (group ∷ rest) (next ∷ later) (low, has, follows) = (
  (let long = length-append {A = Entry} order more in omega (arith, low, long)),
  has ∙ ap (result_of n) (sym (take-append-le group.mark order more low)),
  follows_longer n order more next rest later follows,
)

follows_one_more : (n : RecordSet) (order : List Entry) (before : FileState) (groups : List Waiting) (later : List FileState) (group : Waiting) (next : FileState) → length later ≡ length groups → group.mark ≤ length order → contents_of (last_of before later) ≡ result_of n (take group.mark order)
    → FollowMarks n order before groups later → FollowMarks n order before (groups ++ group ∷ []) (later ++ next ∷ [])
follows_one_more n order before [] [] group next same low has follows = (low, has, tt)
follows_one_more n order before [] (x ∷ later) group next same low has follows = absurd (omega (arith, same))
follows_one_more n order before (first ∷ rest) [] group next same low has follows = absurd follows
follows_one_more n order before (first ∷ rest) (x ∷ later) group next same low has (low_first, has_first, follows) = (
  low_first,
  has_first,
  follows_one_more n order x rest later group next (omega (arith, same)) low has follows,
)

-- ---- their marks

pub marks_inside : (n : RecordSet) (order : List Entry) (before : FileState) (groups : List Waiting) (later : List FileState) → FollowMarks n order before groups later → All (IsMarkedTo (length order)) groups
marks_inside n order before [] later follows = All-nil (IsMarkedTo (length order))
marks_inside n order before (group ∷ rest) [] follows = absurd follows
marks_inside n order before (group ∷ rest) (next ∷ later) (low, has, follows) = All-cons (IsMarkedTo (length order)) group rest low (marks_inside n order next rest later follows)

-- the oldest mark never falls
later_mark : (groups : List Waiting) (now then : ℕ) → now ≤ then → mark_of groups now ≤ mark_of groups then
later_mark [] now then le = le
later_mark (first ∷ rest) now then le = omega arith

pub next_mark : (first : Waiting) (rest : List Waiting) (now : ℕ) → All (IsMarkedTo now) (first ∷ rest) → AllPairs IsNoLater (first ∷ rest) → first.mark ≤ mark_of rest now
next_mark first [] now low rising = low 0 first (omega arith)
next_mark first (second ∷ rest) now low rising = rising 0 1 first (omega arith) (omega arith)

joined_mark : (groups : List Waiting) (group : Waiting) (now then : ℕ) → group.mark ≡ now → mark_of groups now ≤ mark_of (groups ++ group ∷ []) then
joined_mark [] group now then is = omega (arith, is)
joined_mark (first ∷ rest) group now then is = omega arith

-- ---- what a step does to them

pub record KeepsMarks (n : RecordSet) (m new : Machine) (files : Files) : Type 0 where
  pub marks : FollowMarks n new.order files.durable new.store.log.groups files.later
  pub rises : settled_count m ≤ settled_count new

module _ (n : RecordSet) (m : Machine) (files : Files) (new : Machine) (files' : Files) (told : m.files ≡ Some files) (told' : new.files ≡ Some files') (sound : HasSoundFile m files) (legal : HasLegalOrder n m files) (pending : HasPendingPrefix n m files) where
  kept_as : (order : List Entry) (groups : List Waiting) (f : Files) → new.order ≡ order → new.store.log.groups ≡ groups → new.files ≡ Some f → FollowMarks n order f.durable groups f.later → settled_count m ≤ mark_of groups (length order) → KeepsMarks n m new files'
  kept_as order groups f order_is groups_is files_are follows rises =
      let is : f ≡ files' = same_Some f files' (sym files_are ∙ told') in
      record {
        marks =
            subst (λ (x : Files). FollowMarks n new.order x.durable new.store.log.groups x.later) is
            (subst (λ (gs : List Waiting). FollowMarks n new.order f.durable gs f.later) (sym groups_is)
            (subst (λ (es : List Entry). FollowMarks n es f.durable groups f.later) (sym order_is) follows));
        rises = subst (λ (gs : List Waiting). settled_count m ≤ mark_of gs (length new.order)) (sym groups_is) (subst (λ (es : List Entry). settled_count m ≤ mark_of groups (length es)) (sym order_is) rises);
      }

  low : All (IsMarkedTo (length m.order)) m.store.log.groups
  low = marks_inside n m.order files.durable m.store.log.groups files.later pending.marks

  -- the order grows
  grown : (more : List Entry) → new.order ≡ m.order ++ more → new.store.log.groups ≡ m.store.log.groups → new.files ≡ m.files → KeepsMarks n m new files'
  grown more order_is groups_are files_are =
      let long = length-append {A = Entry} m.order more in
      kept_as (m.order ++ more) m.store.log.groups files order_is groups_are (files_are ∙ told) (follows_longer n m.order more files.durable m.store.log.groups files.later pending.marks)
      (later_mark m.store.log.groups (length m.order) (length (m.order ++ more)) (omega (arith, long)))

  same : new.order ≡ m.order → new.store.log.groups ≡ m.store.log.groups → new.files ≡ m.files → KeepsMarks n m new files'
  same order_is groups_are files_are = grown [] (order_is ∙ sym (append-nil m.order)) groups_are files_are

  -- the groups are forced, and none waits
  forced : new.order ≡ m.order → new.store.log.groups ≡ [] → new.files ≡ option_map forced_files m.files → KeepsMarks n m new files'
  forced order_is groups_are files_are =
      kept_as m.order [] (forced_files files) order_is groups_are (files_are ∙ ap (option_map forced_files) told) tt (mark_inside m.store.log.groups (length m.order) low)

  -- a group joins those that wait
  joined : (more : List Entry) (group : Waiting) (op : Op) → group.mark ≡ length m.order → new.order ≡ m.order ++ more → new.store.log.groups ≡ m.store.log.groups ++ group ∷ [] → new.files ≡ option_map (with_effect op) m.files → KeepsMarks n m new files'
  joined more group op mark order_is groups_are files_are =
      let long = length-append {A = Entry} m.order more in
      let inside : group.mark ≤ length (m.order ++ more) = omega (arith, mark, long) in
      let whole : take group.mark (m.order ++ more) ≡ m.order = ap (λ (k : ℕ). take k (m.order ++ more)) mark ∙ take-append-le (length m.order) m.order more (omega arith) ∙ take_all (length m.order) m.order (omega arith) in
      let has : contents_of (current_file files) ≡ result_of n (take group.mark (m.order ++ more)) = sym legal.result ∙ sym (ap (result_of n) whole) in
      let follows = follows_longer n m.order more files.durable m.store.log.groups files.later pending.marks in
      kept_as (m.order ++ more) (m.store.log.groups ++ group ∷ []) (with_effect op files) order_is groups_are (files_are ∙ ap (option_map (with_effect op)) told)
      (follows_one_more n (m.order ++ more) files.durable m.store.log.groups files.later group _ sound.each inside has follows)
      (joined_mark m.store.log.groups group (length m.order) (length (m.order ++ more)) mark)

  module _ (actor : ℕ) (outcome : Outcome) where
    stayed : (said : Outcome) → StaysSo m said outcome new → KeepsMarks n m new files'
    stayed said so = same (ap (λ (x : Machine). x.order) so.1) (ap (λ (x : Machine). x.store.log.groups) so.1) (ap (λ (x : Machine). x.files) so.1)

    forced_all : (said : Outcome) → ForcesAll m said outcome new → KeepsMarks n m new files'
    forced_all said (inl well) = forced (ap (λ (x : Machine). x.order) well.1) (ap (λ (x : Machine). x.store.log.groups) well.1) (ap (λ (x : Machine). x.files) well.1)
    forced_all said (inr badly) = same (ap (λ (x : Machine). x.order) badly.1.stops) (ap (λ (x : Machine). x.store.log.groups) badly.1.stops) (ap (λ (x : Machine). x.files) badly.1.stops)

    met : MeetsBadPage m actor outcome new → KeepsMarks n m new files'
    met meets = same (ap (λ (x : Machine). x.order) meets.stops) (ap (λ (x : Machine). x.store.log.groups) meets.stops ∙ ap (λ (s : StoreState). s.log.groups) meets.brings.rest) (ap (λ (x : Machine). x.files) meets.stops)

    done : (op : Option Op) (fetched : StoreState) (more : List Entry) → fetched.log ≡ m.store.log → new.order ≡ m.order ++ more → new.files ≡ files_after op m.files → MayDo op (length m.order) fetched new.store → KeepsMarks n m new files'
    done None fetched more log order_is files_are does = grown more order_is (ap (λ (st : StoreState). st.log.groups) does ∙ ap (λ (log : LogState). log.groups) log) files_are
    done (Some op) fetched more log order_is files_are does =
        let group : Waiting = record { bytes = group_bytes (group_here fetched op); mark = length m.order } in
        joined more group op refl order_is (does.group ∙ ap (λ (l : LogState). l.groups ++ group ∷ []) log) files_are

    performed : (fetched : StoreState) (deed : Deed) → fetched.log ≡ m.store.log → Performs m fetched actor deed outcome new → KeepsMarks n m new files'
    performed fetched deed log performs = done deed.op fetched (option_to_list deed.joins) log performs.order performs.files performs.store

    flushed_more : FlushesMore m outcome new → KeepsMarks n m new files'
    flushed_more (none, inl (page, oldest, due, quiet, well)) = same (ap (λ (x : Machine). x.order) well.leaves) (ap (λ (x : Machine). x.store.log.groups) well.leaves) (ap (λ (x : Machine). x.files) well.leaves)
    flushed_more (none, inr (inl (old, due, quiet, turns))) = same (ap (λ (x : Machine). x.order) turns.leaves) (ap (λ (x : Machine). x.store.log.groups) turns.leaves ∙ sym none) (ap (λ (x : Machine). x.files) turns.leaves)
    flushed_more (none, inr (inr (calls, left, fails))) = same (ap (λ (x : Machine). x.order) fails.stops) (ap (λ (x : Machine). x.store.log.groups) fails.stops) (ap (λ (x : Machine). x.files) fails.stops)

    worked : Works m actor outcome new → KeepsMarks n m new files'
    worked (inl (by, way, so)) = stayed (outcomes.Blocked by) so
    worked (inr (inl (free, unready, inl (waits, force)))) = forced_all outcomes.Helped force
    worked (inr (inl (free, unready, inr (none, rest)))) =
        ready_kind m outcome new (KeepsMarks n m new files') none flushed_more rest
    worked (inr (inr (free, ready, inl acts))) = performed acts.fetched acts.deed (ap (λ (s : StoreState). s.log) acts.brings.rest) acts.performs
    worked (inr (inr (free, ready, inr (inl gives)))) = performed gives.fetched _ (ap (λ (s : StoreState). s.log) gives.brings.rest) gives.performs
    worked (inr (inr (free, ready, inr (inr meets)))) = met meets

    keeps_marks : StepsTo m actor outcome new → KeepsMarks n m new files'
    keeps_marks step =
        each_kind m actor outcome new (KeepsMarks n m new files')
        (λ said quiet so. stayed said so)
        (λ said quiet force. forced_all said force)
        flushed_more
        (λ deed outright performs. performed m.store deed refl performs)
        worked
        step

-- ---- each answered entry stands below the oldest mark

module _ (n : RecordSet) (m : Machine) (files : Files) (actor : ℕ) (new : Machine) (more : List Entry) (stand : RepliesStand m) (pending : HasPendingPrefix n m files) (legal_now : IsLegalOrder n new.order) (order_is : new.order ≡ m.order ++ more) (rises : settled_count m ≤ settled_count new) where
  settled_at : (number place other : ℕ) (reply : Reply) → StandsInOrder m.order number reply other → other < settled_count m → StandsInOrder new.order number reply place → place < settled_count new
  settled_at number place other reply stood less stands =
      let same = one_place n new.order number place other reply legal_now stands (stands_longer m.order new.order more number other reply order_is stood) in
      omega (arith, same, less, rises)

  by_old : (a : Answered) → StandsSomewhere m.order a → IsSettledIn m a → IsSettledIn new a
  by_old a (inl outside) settled place stands = absurd (no_place n new.order a.line place a.reply legal_now outside stands)
  by_old a (inr (other, stood)) settled place stands = settled_at a.line place other a.reply stood (settled other stood) stands

  by_new : (number : ℕ) (reply : Reply) (at : ℕ) → IsAnsweredInPlace m actor (outcomes.Answered number reply) → IsSettledIn new (record { line = number; reply = reply; at = at })
  by_new number reply at (inl outside) place stands = absurd (no_place n new.order number place reply legal_now outside stands)
  by_new number reply at (inr (other, is, less)) place stands = settled_at number place other reply (stand.awaits actor number other reply is) less stands

  given_settled : (outcome : Outcome) (at : ℕ) → IsAnsweredInPlace m actor outcome → All (IsSettledIn new) (given_by outcome at)
  given_settled (outcomes.Answered number reply) at in_place = All-cons (IsSettledIn new) _ [] (by_new number reply at in_place) (All-nil (IsSettledIn new))
  given_settled (outcomes.Stopped why) at in_place = All-nil (IsSettledIn new)
  given_settled outcomes.Idle at in_place = All-nil (IsSettledIn new)
  given_settled (outcomes.Blocked by) at in_place = All-nil (IsSettledIn new)
  given_settled outcomes.Helped at in_place = All-nil (IsSettledIn new)
  given_settled (outcomes.Dropped why) at in_place = All-nil (IsSettledIn new)
  given_settled outcomes.Moved at in_place = All-nil (IsSettledIn new)

  answers_settled : (outcome : Outcome) → IsAnsweredInPlace m actor outcome → new.answered ≡ m.answered ++ given_by outcome new.clock → All (IsSettledIn new) new.answered
  answers_settled outcome in_place is =
      subst (λ (l : List Answered). All (IsSettledIn new) l) (sym is)
      (All-append (IsSettledIn new) m.answered (given_by outcome new.clock) (λ k d lt. by_old (get_or m.answered k d) (stand.answers k d lt) (pending.settled k d lt)) (given_settled outcome new.clock in_place))

-- ---- each step

pub grown_by : (m new : Machine) → (new.order ≡ m.order) ⊎ ((entry : Entry) × (new.order ≡ m.order ++ entry ∷ [])) → (more : List Entry) × (new.order ≡ m.order ++ more)
grown_by m new (inl same) = ([], same ∙ sym (append-nil m.order))
grown_by m new (inr (entry, is)) = (entry ∷ [], is)

pub prefix_stays_pending : PrefixStaysPending
prefix_stays_pending n m files actor outcome new files' told told' sound legal stand pending step legal_now =
    let marks = keeps_marks n m files new files' told told' sound legal pending actor outcome step in
    let more = grown_by m new (order_grows m actor outcome new step).1 in
    record {
      marks = marks.marks;
      settled = answers_settled n m files actor new more.0 stand pending legal_now more.1 marks.rises outcome (answers_are_in_place m actor outcome new step) (answers_are_timed m actor outcome new step);
    }

-- and no place is unsettled
pub settled_stays_settled : SettledStaysSettled
settled_stays_settled n m files actor outcome new told sound legal pending step =
    let told_after = still_told m files told actor outcome new step in
    (keeps_marks n m files new told_after.0 told told_after.1 sound legal pending actor outcome step).rises
