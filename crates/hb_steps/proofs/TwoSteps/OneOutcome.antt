-- Two steps of one actor from one machine come to the same.
use Rattle.hb_steps.proofs.TwoSteps.Names.{◌≡◌, ◌⊎◌, inl, inr, ℕ, ◌++◌, [], length, Option, Some, None, IfSome, refl, sym, ap, ◌∙◌, subst, Record, LivePage, Live, same_Some, Put, Insert, Line, Outcome, Deed, takes_effect, walk_held, DoesRow, wanted_by, Brings, HoldsPagesOfFile, Files, Machine, live_here, sight, with_disk, AreOne, IsTurnedAside, Performs, PerformsAsItIs, latches_held, outcome_of, pages_of, Row, AreInOrder, if_live, PutsInHalf, CommitsBringNone, KeepsAllButPages, StoreState, in_memory, live_so}
use Rattle.hb_set.specs.declared.commands.Reply.TheVariants as replies
use Rattle.hb_activity.specs.Deeds.{Says}
use Rattle.hb_steps.proofs.TwoSteps.OneFetch.{Agree, IsHereUnchanged, fetches_agree, good_there, live_as_it_was, walks_here}
use Rattle.hb_steps.proofs.TwoSteps.OnePair.{both_steps}
use Rattle.hb_steps.proofs.TwoSteps.OneRow.{one_row}
use Rattle.hb_steps.proofs.TwoSteps.OneStore.{one_of_same, one_performed}
use Rattle.hb_steps.proofs.TwoSteps.RowSays.{rows_say_the_same}
use Rattle.hb_steps.specs.Acting.{takes_number}
use Rattle.hb_steps.specs.Keeps.{KnowsRoom, OneHasRoom}
use Rattle.hb_steps.specs.OutcomeLaws.{ComesToSame, OutcomeIsOne, StateIsOne}
use Rattle.hb_steps.specs.Performing.{given_by}
use Rattle.hb_steps.specs.Using.{page_wanted, use_number, use_wanted}
use Rattle.hb_frag.specs.Leaves.{DirectlyHolds}
use Rattle.hb_point.proofs.Facts.RecordOps.{insert_of}
use Rattle.hb_steps.proofs.Table.NextPlaces.{place_after}

-- ---- they say the same

module _ (m : Machine) (actor : ℕ) (outcome other : Outcome) (new next : Machine) where
  said_so : outcome ≡ other → new ≡ next → ComesToSame outcome other new next
  said_so says same = record {
    says = says;
    lines = ap (λ (x : Machine). x.lines) same;
    answered = ap (λ (x : Machine). x.answered) same;
    stop = ap (λ (x : Machine). x.stop) same;
    clock = ap (λ (x : Machine). x.clock) same;
  }

  said_both : (f g : StoreState) (d e : Deed) → d.says ≡ e.says → Performs m f actor d outcome new → Performs m g actor e other next → ComesToSame outcome other new next
  said_both f g d e same first second = record {
    says = first.says ∙ ap outcome_of same ∙ sym second.says;
    lines = first.lines ∙ sym second.lines;
    answered = first.answered ∙ ap (λ (s : Says). m.answered ++ given_by (outcome_of s) m.clock) same ∙ sym second.answered;
    stop = first.stop ∙ sym second.stop;
    clock = first.clock ∙ sym second.clock;
  }

  said_rows : DoesRow m actor outcome new → DoesRow m actor other next → ComesToSame outcome other new next
  said_rows row again =
      said_both row.fetched again.fetched row.deed again.deed
      (rows_say_the_same m row.fetched again.fetched (ap (λ (s : StoreState). s.meta) row.brings.rest) (ap (λ (s : StoreState). s.meta) again.brings.rest) (m.activity actor) (wanted_by m actor) row.deed again.deed row.row again.row)
      row.performs again.performs

pub outcome_is_one : OutcomeIsOne
outcome_is_one m actor outcome other new next first second =
    both_steps m actor outcome other new next (IsTurnedAside m actor outcome new ⊎ IsTurnedAside m actor other next ⊎ ComesToSame outcome other new next) (record {
      first_aside = λ aside. inl aside;
      second_aside = λ aside. inr (inl aside);
      same = λ says is. inr (inr (said_so m actor outcome other new next says is));
      deeds = λ d e is walk a b. inr (inr (said_both m actor outcome other new next m.store m.store d e (ap (λ (d : Deed). d.says) is) a.0 b.0));
      rows = λ a b. inr (inr (said_rows m actor outcome other new next a b));
    }) first second

-- ---- over a disk that tells they leave the same

module _ (m : Machine) (files : Files) (tells : m.files ≡ Some files) (may might : ℕ → Type 0) (f g : StoreState) (first : Brings m may f) (second : Brings m might g) where
  abbrev m1 : Machine
  m1 = with_disk f m.files m.clock m

  abbrev m2 : Machine
  m2 = with_disk g m.files m.clock m

  agree : Agree f g
  agree = fetches_agree m files tells may might f g first second

  in_order : HoldsPagesOfFile m → (id : ℕ) (page : LivePage) → live_here f id ≡ Some page → AreInOrder page
  in_order inside id page live = (good_there m files tells may f first id (Live page) inside (live_so (in_memory f id) page live)).1.1.in_order

  -- a record goes into one of the halves
  module _ (line : Line) (source fresh : ℕ) (d e : Deed) (a : PutsInHalf (sight m1) line source fresh d) (b : PutsInHalf (sight m2) line source fresh e) (rec : Record) (command : line.command ≡ Insert rec) (one : OneHasRoom m source fresh rec.key rec.body) where
    rec_a : a.rec ≡ rec
    rec_a = insert_of a.rec rec (sym a.command ∙ command)

    rec_b : b.rec ≡ rec
    rec_b = insert_of b.rec rec (sym b.command ∙ command)

    at_a : (id : ℕ) (page : LivePage) → live_here m.store id ≡ Some page → a.half ≡ id → DirectlyHolds page rec.key
    at_a id page live is =
        let same : a.page ≡ page = live_as_it_was m files tells may f first id page a.page live (ap (live_here f) (sym is) ∙ a.live) in
        subst (λ (r : Record). DirectlyHolds page r.key) rec_a (subst (λ (q : LivePage). DirectlyHolds q a.rec.key) same a.holds)

    at_b : (id : ℕ) (page : LivePage) → live_here m.store id ≡ Some page → b.half ≡ id → DirectlyHolds page rec.key
    at_b id page live is =
        let same : b.page ≡ page = live_as_it_was m files tells might g second id page b.page live (ap (live_here g) (sym is) ∙ b.live) in
        subst (λ (r : Record). DirectlyHolds page r.key) rec_b (subst (λ (q : LivePage). DirectlyHolds q b.rec.key) same b.holds)

    one_half : (a.half ≡ source) ⊎ (a.half ≡ fresh) → (b.half ≡ source) ⊎ (b.half ≡ fresh) → a.half ≡ b.half
    one_half (inl x) (inl y) = x ∙ sym y
    one_half (inr x) (inr y) = x ∙ sym y
    one_half (inl x) (inr y) = absurd (one.not_both (at_a source one.first one.first_live x) (at_b fresh one.second one.second_live y))
    one_half (inr x) (inl y) = absurd (one.not_both (at_b source one.first one.first_live y) (at_a fresh one.second one.second_live x))

    one_put : d ≡ e
    one_put =
        a.deed_is ∙ ap (λ (r : Record). takes_effect (length m.order) line replies.Done (Some (Put a.half r)) []) (rec_a ∙ sym rec_b)
        ∙ ap (λ n. takes_effect (length m.order) line replies.Done (Some (Put n b.rec)) []) (one_half a.either b.either) ∙ sym b.deed_is

  one_deed : (actor : ℕ) (d e : Deed) → HoldsPagesOfFile m → KnowsRoom m → Row (m.activity actor) (wanted_by m actor) m1 d → Row (m.activity actor) (wanted_by m actor) m2 e → d ≡ e
  one_deed actor d e inside knows row again =
      one_row m f g ((ap (λ (s : StoreState). s.meta) first.rest) ∙ sym (ap (λ (s : StoreState). s.meta) second.rest)) agree (in_order inside) (m.activity actor) (wanted_by m actor) d e
      (λ line source fresh d e is a b. let has = knows.puts actor source fresh line is in one_put line source fresh d e a b has.0 has.1 has.2)
      row again

  -- what both left is the same
  alike : KeepsAllButPages f g
  alike = second.rest ∙ ap (λ (s : StoreState). record s { pages = g.pages }) (sym first.rest)

  -- and so is the page at which a walk goes on
  same_here : (deed : Deed) (held : Option ℕ) → IfSome held (IsHereUnchanged m1 deed) → IfSome held (IsHereUnchanged m2 deed) → IfSome held (λ id. (deed.op ≡ None) × (live_here f id ≡ live_here g id))
  same_here deed None here there = tt
  same_here deed (Some id) here there = (
    here.nothing,
    ap if_live (live_so (in_memory f id) here.page here.live ∙ ap Some (agree id (Live here.page) (Live there.page)
        (live_so (in_memory f id) here.page here.live) (live_so (in_memory g id) there.page there.live)) ∙ sym (live_so (in_memory g id) there.page there.live)),
  )

  one_by_row : CommitsBringNone → (actor : ℕ) (deed : Deed) (outcome other : Outcome) (new next : Machine) → Row (m.activity actor) (wanted_by m actor) m1 deed → Row (m.activity actor) (wanted_by m actor) m2 deed
      → (one : Performs m f actor deed outcome new) → (two : Performs m g actor deed other next) → one.came ≡ two.came → one.pins ≡ two.pins → AreOne new next
  one_by_row commits actor deed outcome other new next row again one two came pins =
      one_performed f g alike agree commits m actor deed outcome other new next
      (same_here deed (walk_held deed.next) (walks_here m actor f deed (place_after m actor f (wanted_by m actor) deed refl row)) (walks_here m actor g deed (place_after m actor g (wanted_by m actor) deed refl again))) one two came pins

-- ---- they lead to machines that are one

module _ (m : Machine) (actor : ℕ) (outcome other : Outcome) (new next : Machine) where
  nowhere : (deed : Deed) (held : Option ℕ) → held ≡ None → IfSome held (λ id. (deed.op ≡ None) × (live_here m.store id ≡ live_here m.store id))
  nowhere deed None none = tt
  nowhere deed (Some id) none = absurd (let never : Some id ≡ None = none in cc)

  one_by_deed : CommitsBringNone → (d e : Deed) → d ≡ e → walk_held d.next ≡ None → PerformsAsItIs m actor d outcome new → PerformsAsItIs m actor e other next → AreOne new next
  one_by_deed commits d e same walk first second =
      let again : PerformsAsItIs m actor d other next = subst (λ (x : Deed). PerformsAsItIs m actor x other next) (sym same) second in
      one_performed m.store m.store refl (λ id a b one two. same_Some a b (sym one ∙ two)) commits m actor d outcome other new next
      (nowhere d (walk_held d.next) walk) first.0 again.0 (first.1 ∙ sym again.1) (first.2 ∙ sym again.2)

  -- a row's deed, with what came and was pinned for it
  abbrev RowDone : StoreState → Outcome → Machine → Deed → Type 0
  RowDone fetched said after d =
      (p : Performs m fetched actor d said after) × (p.came ≡ use_number (takes_number d.op) m.store.meta (use_wanted (wanted_by m actor) m.uses)) × (p.pins ≡ page_wanted (wanted_by m actor) ++ pages_of (latches_held m.store (m.activity actor)))

  one_by_rows : CommitsBringNone → (files : Files) → m.files ≡ Some files → HoldsPagesOfFile m → KnowsRoom m → DoesRow m actor outcome new → DoesRow m actor other next → AreOne new next
  one_by_rows commits files tells inside knows a b =
      let same = one_deed m files tells _ _ a.fetched b.fetched a.brings b.brings actor a.deed b.deed inside knows a.row b.row in
      let again : RowDone b.fetched other next a.deed = subst (RowDone b.fetched other next) (sym same) (b.performs, b.came, b.pins) in
      one_by_row m files tells _ _ a.fetched b.fetched a.brings b.brings commits actor a.deed outcome other new next a.row
      (subst (Row (m.activity actor) (wanted_by m actor) (with_disk b.fetched m.files m.clock m)) (sym same) b.row) a.performs
      again.0 (a.came ∙ sym again.1) (a.pins ∙ sym again.2)

pub state_is_one : CommitsBringNone → StateIsOne
state_is_one commits m files actor outcome other new next tells inside knows first second =
    both_steps m actor outcome other new next (IsTurnedAside m actor outcome new ⊎ IsTurnedAside m actor other next ⊎ AreOne new next) (record {
      first_aside = λ aside. inl aside;
      second_aside = λ aside. inr (inl aside);
      same = λ says is. inr (inr (one_of_same new next is));
      deeds = λ d e is walk a b. inr (inr (one_by_deed m actor outcome other new next commits d e is walk a b));
      rows = λ a b. inr (inr (one_by_rows m actor outcome other new next commits files tells inside knows a b));
    }) first second
