-- Which lines are answered `no memory`: a search, and an insert in a step that splits a page. A lookup or a delete never is.
use Rattle.hb_steps.proofs.Table.Names.{◌≡◌, inl, inr, ℕ, Option, Some, IsSomeAnd, refl, sym, subst, none-some, same_Some, Record, Command, Insert, Delete, Lookup, Search, Line, DropWhy, Wanted, Activity, line_in_hand, Deed, wanted_by, GaveUpFor, MachineKeeps, Machine, with_disk, Row, at_value, WantsBoxes, next_line, StoreState}
use Rattle.hb_set.specs.declared.commands.Reply.TheVariants as replies
use Rattle.hb_activity.specs.declared.dropping.DropWhy.TheVariants as drops
use Rattle.hb_activity.specs.declared.activities.Activity.TheVariants as at
use Rattle.hb_store.specs.Making.{TakesMemory}
use Rattle.hb_steps.specs.Acting.{Decodes, GivesUpFor}
use Rattle.hb_steps.specs.CauseLaws.{MayLackMemory, OnlySearchesAndSplitsTakeMemory}
use Rattle.hb_steps.proofs.Table.Causes.{answering, kept_inside, memory_full, memory_why}
use Rattle.hb_steps.proofs.Facts.EachRow.{each_row}

module _ (m : Machine) (actor : ℕ) where
  abbrev Takes : Line → Type 0
  Takes line = MayLackMemory m actor line line.command

  -- by the line's command
  split_takes : (line : Line) (rec : Record) (held : ℕ) → line.command ≡ Insert rec → m.activity actor ≡ at.SessionSplit line held → Takes line
  split_takes line rec held command is = subst (MayLackMemory m actor line) (sym command) (held, is)

  boxes_take : (line : Line) → WantsBoxes line.command → Takes line
  boxes_take line boxes = by line.command boxes
    where
      by : (command : Command) → WantsBoxes command → MayLackMemory m actor line command
      by (Search area) wants = tt
      by (Insert rec) never = absurd never
      by (Delete point) never = absurd never
      by (Lookup point) never = absurd never

  module _ (keeps : MachineKeeps m) (fetched : StoreState) where
    abbrev here : Machine
    here = with_disk fetched m.files m.clock m

    its : (line own : Line) → Some own ≡ Some line → Takes own → Takes line
    its line own same takes = subst Takes (same_Some own line same) takes

    -- a line that is to be split inserts a record
    splits_take : (line : Line) (held : ℕ) → m.activity actor ≡ at.SessionSplit line held → Takes line
    splits_take line held is = let knows = keeps.room_known.splits actor held line is in split_takes line knows.0 held knows.1 is

    -- what is to be shown of a row whose operation takes memory
    abbrev TakesBy : Activity → Deed → Type 0
    TakesBy activity deed = m.activity actor ≡ activity → IsSomeAnd deed.op TakesMemory → (line : Line) → line_in_hand activity ≡ Some line → Takes line

    row_takes : (wanted : Option Wanted) (deed : Deed) → Row (m.activity actor) wanted here deed → TakesBy (m.activity actor) deed
    row_takes wanted deed row = each_row here TakesBy (m.activity actor) wanted deed
        (record {
          full = λ line held none is some. absurd some;
          splits = λ line held page live leaves is some own hand. its own line hand (splits_take line held is);
          puts = λ line source fresh rec command half either page live is some. absurd some;
        })
        (λ w page at_hand hand. record {
          passes = λ line held rest found p goal leaf row is some. absurd some;
          only_replies = λ line held rest found reply alone is some. absurd some;
          inserts = λ line held rest found rec command absent room is some. absurd some;
          lacks_room = λ line held rest found rec command level absent full is some. absurd some;
          deletes = λ line held rest found p there command stands is some. absurd some;
          searches = λ line held rest found area others more row is some. absurd some;
          grows = λ job fresh free_after may free next is some own has. absurd (none-some own has);
          ends = λ activity job kind hand is some. absurd some;
          arrives = λ job held child area level leaf is some. absurd some;
          walks = λ job held leaf farther row is some. absurd some;
          looks = λ job parent is some. absurd some;
          promotes = λ job parent is some. absurd some;
          posts = λ job parent above path inner area live plan is some own has. absurd (none-some own has);
          parts = λ job parent above live plan leaves is some own has. absurd (none-some own has);
          walks_to_merge = λ job held leaf farther row is some. absurd some;
          merges = λ activity deed kind row stays is some. absurd (subst (λ (d : Deed). IsSomeAnd d.op TakesMemory) stays.is some);
          merges_two = λ job parent keep gone pair is some own has. absurd (none-some own has);
        }) row

    -- and what decodes its pages
    decodes_takes : (activity : Activity) (wanted : Option Wanted) (line : Line) → m.activity actor ≡ activity → line_in_hand activity ≡ Some line → Decodes wanted here activity → Takes line
    decodes_takes (at.SessionWalk own held rest found) wanted line is has (boxes, gathers) = its line own has (boxes_take own boxes)
    decodes_takes (at.SessionSplit own held) wanted line is has free = its line own has (splits_take own held is)
    decodes_takes (at.SessionPut own source fresh) wanted line is has never = absurd never
    decodes_takes activity wanted line is has decodes = absurd (none-some line has)

    gives_takes : (line : Line) → line_in_hand (m.activity actor) ≡ Some line → GivesUpFor drops.NoMemory m actor fetched → Takes line
    gives_takes line has (inl decodes) = decodes_takes (m.activity actor) (wanted_by m actor) line refl has decodes
    gives_takes line has (inr (deed, row, some)) = row_takes (wanted_by m actor) deed row refl some line has

  abbrev pub HasTaken : ℕ → Type 0
  HasTaken number = IsSomeAnd (next_line actor m.answered m.lines) (λ line. (line.number ≡ number) × MayLackMemory m actor line line.command)

  taken : (number : ℕ) (line : Line) → next_line actor m.answered m.lines ≡ Some line → number ≡ line.number → Takes line → HasTaken number
  taken number line next number_is takes = subst (λ (o : Option Line). IsSomeAnd o (λ line. (line.number ≡ number) × MayLackMemory m actor line line.command)) (sym next) (sym number_is, takes)

pub only_searches_and_splits_take_memory : OnlySearchesAndSplitsTakeMemory
only_searches_and_splits_take_memory m actor number new keeps step = answering m actor number replies.NoMemory new (HasTaken m actor number) (record {
  refuses = λ line idle next begins number_is reply_is. taken m actor number line next number_is (boxes_take m actor line (subst (λ (o : Option Line). IsSomeAnd o (λ l. WantsBoxes l.command)) next begins.1));
  settles = λ place is. absurd (kept_inside m actor number place replies.NoMemory keeps tt is);
  full = λ line held is number_is none_free reply_is. absurd (memory_full reply_is);
  gives = λ line why hand number_is cause reply_is.
      let next = at_value (line_in_hand (m.activity actor)) (λ line. next_line actor m.answered m.lines ≡ Some line) line hand (keeps.lines_in_sequence.in_hand actor) in
      let refused : GaveUpFor drops.NoMemory m actor = subst (λ (why : DropWhy). GaveUpFor why m actor) (memory_why why reply_is) cause in
      taken m actor number line next number_is (gives_takes m actor keeps refused.fetched line hand refused.cause);
}) step
