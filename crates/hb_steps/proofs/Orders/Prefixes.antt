-- The durable file has the set after a prefix of the order that has each answered entry, and those that wait after longer ones.
use Rattle.hb_steps.proofs.Orders.Names.{◌≡◌, inl, inr, ℕ, ◌≤◌, List, [], ◌∷◌, length, take, get_or, All, AllPairs, sym, ap, ◌∙◌, arith, take_all, All-cons, All-nil, All-weaker, Answered, IsAfterLonger, FollowMarks, IsSettledIn, StandsSomewhere, settled_count, FileState, contents_of, last_of, RecordSet, Entry, result_of, IsNoLater, Waiting, mark_of}
use Rattle.hb_steps.proofs.Orders.PendingKept.{marks_inside, next_mark}
use Rattle.hb_steps.specs.KeepingLaws.{FilesHavePrefixes, IsAmongFirst}
use Rattle.hb_lemmas.proofs.Pairs.{pairs_rest}

-- a file has the set after so many entries
pub record HasFirst (n : RecordSet) (order : List Entry) (s : FileState) (low count : ℕ) : Type 0 where
  pub above : low ≤ count
  pub inside : count ≤ length order
  pub contents : contents_of s ≡ result_of n (take count order)

abbrev pub HasSome : RecordSet → List Entry → ℕ → FileState → Type 0
HasSome n order low s = (count : ℕ) × HasFirst n order s low count

-- the first file: as many as the oldest mark says, or all
first_file : (n : RecordSet) (order : List Entry) (low : ℕ) (before : FileState) (groups : List Waiting) (later : List FileState) → FollowMarks n order before groups later → length later ≡ length groups
    → result_of n order ≡ contents_of (last_of before later) → low ≤ mark_of groups (length order) → HasFirst n order before low (mark_of groups (length order))
first_file n order low before [] [] follows same result above =
    record { above = above; inside = omega arith; contents = sym result ∙ sym (ap (result_of n) (take_all (length order) order (omega arith))) }
first_file n order low before [] (x ∷ later) follows same result above = absurd (omega (arith, same))
first_file n order low before (group ∷ rest) [] follows same result above = absurd follows
first_file n order low before (group ∷ rest) (next ∷ later) (inside, has, follows) same result above = record { above = above; inside = inside; contents = has }

later_files : (n : RecordSet) (order : List Entry) (low : ℕ) (before : FileState) (groups : List Waiting) (later : List FileState) → FollowMarks n order before groups later → AllPairs IsNoLater groups → length later ≡ length groups
    → result_of n order ≡ contents_of (last_of before later) → low ≤ mark_of groups (length order) → All (HasSome n order low) later
later_files n order low before [] [] follows rising same result above = All-nil (HasSome n order low)
later_files n order low before [] (x ∷ later) follows rising same result above = absurd (omega (arith, same))
later_files n order low before (group ∷ rest) [] follows rising same result above = absurd follows
later_files n order low before (group ∷ rest) (next ∷ later) (inside, has, follows) rising same result above =
    let marks = marks_inside n order before (group ∷ rest) (next ∷ later) (inside, has, follows) in
    let rises = next_mark group rest (length order) marks rising in
    let further : low ≤ mark_of rest (length order) = omega (arith, above, rises) in
    let shorter : length later ≡ length rest = omega (arith, same) in
    All-cons (HasSome n order low) next later (mark_of rest (length order), first_file n order low next rest later follows shorter result further)
    (later_files n order low next rest later follows (pairs_rest IsNoLater group rest rising) shorter result further)

pub files_have_prefixes : FilesHavePrefixes
files_have_prefixes n m files sound legal stand rise pending =
    let first = first_file n m.order (settled_count m) files.durable m.store.log.groups files.later pending.marks sound.each legal.result (omega arith) in
    let rest = later_files n m.order (settled_count m) files.durable m.store.log.groups files.later pending.marks rise.rising sound.each legal.result (omega arith) in
    record {
      durable = record { inside = first.inside; contents = first.contents; answered = λ k d lt. among (get_or m.answered k d) (stand.answers k d lt) (pending.settled k d lt) };
      later = All-weaker (HasSome n m.order (settled_count m)) (IsAfterLonger n m) (λ s. longer s) files.later rest;
    }
  where
    among : (a : Answered) → StandsSomewhere m.order a → IsSettledIn m a → IsAmongFirst m (settled_count m) a
    among a (inl outside) settled = inl outside
    among a (inr (place, stands)) settled = inr (place, settled place stands, stands)

    further : (count : ℕ) → settled_count m ≤ count → (a : Answered) → IsAmongFirst m (settled_count m) a → IsAmongFirst m count a
    further count above a (inl outside) = inl outside
    further count above a (inr (place, less, stands)) = inr (place, omega (arith, less, above), stands)

    longer : (s : FileState) → HasSome n m.order (settled_count m) s → IsAfterLonger n m s
    longer s (count, has) = (
      count,
      has.above,
      record {
        inside = has.inside;
        contents = has.contents;
        answered = λ k d lt. further count has.above (get_or m.answered k d) (among (get_or m.answered k d) (stand.answers k d lt) (pending.settled k d lt));
      },
    )
