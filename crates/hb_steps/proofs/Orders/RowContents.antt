-- What a row does to the contents: its line takes effect, or they stay.
use Rattle.hb_steps.proofs.Orders.Names.{◌≡◌, inl, inr, ℕ, List, Option, Some, None, refl, sym, ap, ◌∙◌, subst, Op, Command, Insert, Delete, Lookup, Search, Reply, Line, Activity, line_in_hand, Deed, HeldArePoints, KeepsPages, Machine, with_disk, FileState, contents_of, WantsBoxes, RecordSet, if_there, reply_of, set_after, Entry, LackIsContents, StandingIsContents, IsPointOf, StoreState}
use Rattle.std.specs.FinMap as map
use Rattle.hb_space.specs.declared.records.Record.{Record}
use Rattle.hb_frag.specs.declared.pages.LivePage.{LivePage}
use Rattle.hb_frag.specs.declared.pages.Page.TheVariants.{Live}
use Rattle.hb_layout.specs.declared.meta.Meta.{Meta}
use Rattle.hb_ops.specs.declared.operations.Op.TheVariants as ops
use Rattle.hb_set.specs.declared.commands.Reply.TheVariants as replies
use Rattle.hb_activity.specs.declared.wanting.Wanted.{Wanted}
use Rattle.hb_activity.specs.declared.activities.Activity.TheVariants as at
use Rattle.hb_steps.proofs.Files.FileOps.{ShowsFile}
use Rattle.hb_steps.proofs.Files.FitOps.{as_many, point_there, live_good}
use Rattle.hb_steps.specs.ContentsLaws.{TakesEffectOn}
use Rattle.hb_steps.specs.Rows.{Row}
use Rattle.hb_frag.specs.Leaves.{Placed, leaf_at}
use Rattle.hb_ops.specs.Files.{if_live, live_page}
use Rattle.hb_ops.specs.Standing.{StandsNot, StandsThere}
use Rattle.hb_set.specs.Machine.{found_or_missing}
use Rattle.hb_store.specs.States.{in_memory}
use Rattle.hb_steps.proofs.Facts.EachRow.{OnlyReplies, each_row}
use Rattle.hb_ops.proofs.Facts.PageNumberLaws.{live_so}

-- what an operation does to the contents
abbrev pub ContentsBecomeBy : RecordSet → RecordSet → Option Op → Type 0
ContentsBecomeBy before after None = after ≡ before
ContentsBecomeBy before after (Some (ops.Put id rec)) = (map.get before rec.key ≡ None) × (after ≡ map.insert before rec.key rec.body)
ContentsBecomeBy before after (Some (ops.Del id point)) = ((body : List ℕ) × (map.get before point ≡ Some body)) × (after ≡ map.remove before point)
ContentsBecomeBy before after (Some (ops.Extract source fresh path cuts free_after)) = after ≡ before
ContentsBecomeBy before after (Some (ops.Post parent at inner area)) = after ≡ before
ContentsBecomeBy before after (Some (ops.Merge parent keep gone)) = after ≡ before
ContentsBecomeBy before after (Some (ops.Grow fresh free_after)) = after ≡ before

-- what a line that joins the order does to them
abbrev pub JoinsWith : RecordSet → RecordSet → Activity → Option Entry → Type 0
JoinsWith before after activity None = after ≡ before
JoinsWith before after activity (Some entry) = TakesEffectOn before after activity entry

abbrev pub entry_of : Line → Reply → Entry
entry_of line reply = record { line = line; reply = reply }

module _ (before after : RecordSet) (activity : Activity) where
  pub joins_of : (deed other : Deed) → deed ≡ other → JoinsWith before after activity other.joins → JoinsWith before after activity deed.joins
  joins_of deed other is joins = subst (λ (d : Deed). JoinsWith before after activity d.joins) (sym is) joins

  pub becomes_of : (deed other : Deed) → deed ≡ other → ContentsBecomeBy before after deed.op → ContentsBecomeBy before after other.op
  becomes_of deed other is becomes = subst (λ (d : Deed). ContentsBecomeBy before after d.op) is becomes

  -- a line of a command that isn't a search, by what the machine makes of it
  by_command : (line : Line) (command : Command) (reply : Reply) → line.command ≡ command → line_in_hand activity ≡ Some line → after ≡ set_after command before → reply ≡ reply_of command before → TakesEffectOn before after activity (entry_of line reply)
  by_command line command reply is hand leaves answers = record {
    hand = hand;
    leaves = leaves ∙ sym (ap (λ (c : Command). set_after c before) is);
    reply = λ other. answers ∙ sym (ap (λ (c : Command). reply_of c before) is);
  }

  -- an insert of a point that is there, and of one that isn't
  twin_stays : (line : Line) (rec : Record) (body : List ℕ) → line.command ≡ Insert rec → line_in_hand activity ≡ Some line → map.get before rec.key ≡ Some body → after ≡ before → TakesEffectOn before after activity (entry_of line replies.Duplicate)
  twin_stays line rec body is hand there same =
      by_command line (Insert rec) replies.Duplicate is hand
      (same ∙ sym (ap (λ (o : Option (List ℕ)). if_there o before (map.insert before rec.key rec.body)) there))
      (sym (ap (λ (o : Option (List ℕ)). if_there o replies.Duplicate replies.Done) there))

  pub put_joins : (line : Line) (rec : Record) → line.command ≡ Insert rec → line_in_hand activity ≡ Some line → map.get before rec.key ≡ None → after ≡ map.insert before rec.key rec.body → TakesEffectOn before after activity (entry_of line replies.Done)
  put_joins line rec is hand none more =
      by_command line (Insert rec) replies.Done is hand
      (more ∙ sym (ap (λ (o : Option (List ℕ)). if_there o before (map.insert before rec.key rec.body)) none))
      (sym (ap (λ (o : Option (List ℕ)). if_there o replies.Duplicate replies.Done) none))

  -- a delete of a point that is there, and of one that isn't
  del_joins : (line : Line) (p body : List ℕ) → line.command ≡ Delete p → line_in_hand activity ≡ Some line → map.get before p ≡ Some body → after ≡ map.remove before p → TakesEffectOn before after activity (entry_of line replies.Done)
  del_joins line p body is hand there less =
      by_command line (Delete p) replies.Done is hand
      (less ∙ sym (ap (λ (o : Option (List ℕ)). if_there o (map.remove before p) before) there))
      (sym (ap (λ (o : Option (List ℕ)). if_there o replies.Done replies.Absent) there))

  none_joins : (line : Line) (p : List ℕ) → line.command ≡ Delete p → line_in_hand activity ≡ Some line → map.get before p ≡ None → after ≡ before → TakesEffectOn before after activity (entry_of line replies.Absent)
  none_joins line p is hand none same =
      by_command line (Delete p) replies.Absent is hand
      (same ∙ sym (ap (λ (o : Option (List ℕ)). if_there o (map.remove before p) before) none))
      (sym (ap (λ (o : Option (List ℕ)). if_there o replies.Done replies.Absent) none))

  -- a lookup
  finds_joins : (line : Line) (p : List ℕ) (o : Option (List ℕ)) → line.command ≡ Lookup p → line_in_hand activity ≡ Some line → map.get before p ≡ o → after ≡ before → TakesEffectOn before after activity (entry_of line (found_or_missing o))
  finds_joins line p o is hand there same = by_command line (Lookup p) (found_or_missing o) is hand same (sym (ap found_or_missing there))

module _ (points : HeldArePoints) (standing : StandingIsContents) (lacking : LackIsContents) (m : Machine) (fetched : StoreState) (s : FileState) (keeps : KeepsPages fetched) (file : ShowsFile fetched s) (after : RecordSet) where
  abbrev pub m' : Machine
  m' = with_disk fetched m.files m.clock m

  abbrev pub before : RecordSet
  before = contents_of s

  point_of : (id : ℕ) (page : LivePage) (p : List ℕ) (l : Placed) → if_live (in_memory fetched id) ≡ Some page → leaf_at page p ≡ Some l → IsPointOf s p
  point_of id page p l live there =
      let good = live_good fetched keeps.framed id page live in
      record {
        point = point_there points fetched.meta page good p l there;
        attributes = as_many points fetched.meta page good p l there ∙ sym (ap (λ (m : Meta). m.k) file.meta);
      }

  in_file : (id : ℕ) (page : LivePage) → if_live (in_memory fetched id) ≡ Some page → live_page s id ≡ Some page
  in_file id page live = ap if_live (file.shown id (Live page) (live_so (in_memory fetched id) page live))

  stands : (id : ℕ) (page : LivePage) (p : List ℕ) (r : Record) → if_live (in_memory fetched id) ≡ Some page → StandsThere page p r → map.get (contents_of s) p ≡ Some r.body
  stands id page p r live there = standing s p id page r file.sound (point_of id page p _ live there.leaf) (in_file id page live) there

  lacks : (id : ℕ) (page : LivePage) (p : List ℕ) → if_live (in_memory fetched id) ≡ Some page → StandsNot page p → map.get (contents_of s) p ≡ None
  lacks id page p live there = lacking s p id page file.sound (point_of id page p _ live there.leaf) (in_file id page live) there

  abbrev pub Joins : Activity → Deed → Type 0
  Joins activity deed = JoinsWith (contents_of s) after activity deed.joins

  -- a line that takes effect and changes nothing
  replied : (activity : Activity) (line : Line) (command : Command) (id : ℕ) (page : LivePage) (reply : Reply) → line.command ≡ command → line_in_hand activity ≡ Some line → if_live (in_memory fetched id) ≡ Some page → OnlyReplies command page reply → after ≡ contents_of s
      → TakesEffectOn (contents_of s) after activity (entry_of line reply)
  replied activity line (Insert rec) id page reply is hand live (twin, there, said) same =
      subst (λ (r : Reply). TakesEffectOn (contents_of s) after activity (entry_of line r)) (sym said) (twin_stays (contents_of s) after activity line rec twin.body is hand (stands id page rec.key twin live there) same)
  replied activity line (Delete point) id page reply is hand live (absent, said) same = subst (λ (r : Reply). TakesEffectOn (contents_of s) after activity (entry_of line r)) (sym said) (none_joins (contents_of s) after activity line point is hand (lacks id page point live absent) same)
  replied activity line (Lookup point) id page reply is hand live (inl (found, there, said)) same =
      subst (λ (r : Reply). TakesEffectOn (contents_of s) after activity (entry_of line r)) (sym said) (finds_joins (contents_of s) after activity line point (Some found.body) is hand (stands id page point found live there) same)
  replied activity line (Lookup point) id page reply is hand live (inr (absent, said)) same =
      subst (λ (r : Reply). TakesEffectOn (contents_of s) after activity (entry_of line r)) (sym said) (finds_joins (contents_of s) after activity line point None is hand (lacks id page point live absent) same)
  replied activity line (Search area) id page reply is hand live (ordered, said) same = record {
    hand = hand;
    leaves = same ∙ sym (ap (λ (c : Command). set_after c (contents_of s)) is);
    reply = λ other. absurd (other (subst WantsBoxes (sym is) tt));
  }

  -- what is to be shown of a row
  abbrev Follows : Activity → Deed → Type 0
  Follows activity deed = ContentsBecomeBy (contents_of s) after deed.op → Joins activity deed

  pub joins_row : (activity : Activity) (wanted : Option Wanted) (deed : Deed) → ContentsBecomeBy (contents_of s) after deed.op → Row activity wanted m' deed → Joins activity deed
  joins_row activity wanted deed becomes row = each_row m' Follows activity wanted deed
      (record {
        full = λ line held none stays. stays;
        splits = λ line held page live leaves stays. stays;
        puts = λ line source fresh rec command half either page live more. put_joins (contents_of s) after (at.SessionPut line source fresh) line rec command refl more.0 more.1;
      })
      (λ its page wants hand. record {
        passes = λ line held rest found p goal leaf row stays. stays;
        only_replies = λ line held rest found reply alone stays. replied (at.SessionWalk line held rest found) line line.command its.page page reply refl refl hand.live alone stays;
        inserts = λ line held rest found rec command absent room more. put_joins (contents_of s) after (at.SessionWalk line held rest found) line rec command refl more.0 more.1;
        lacks_room = λ line held rest found rec command level absent full stays. stays;
        deletes = λ line held rest found p there command stands less. del_joins (contents_of s) after (at.SessionWalk line held rest found) line p less.0.0 command refl less.0.1 less.1;
        searches = λ line held rest found area others more row stays. stays;
        grows = λ job fresh free_after may free next stays. stays;
        ends = λ activity job kind hand stays. stays;
        arrives = λ job held child area level leaf stays. stays;
        walks = λ job held leaf farther row stays. stays;
        looks = λ job parent stays. stays;
        promotes = λ job parent stays. stays;
        posts = λ job parent above path inner area live plan stays. stays;
        parts = λ job parent above live plan leaves stays. stays;
        walks_to_merge = λ job held leaf farther row stays. stays;
        merges = λ activity deed kind row moves becomes. joins_of (contents_of s) after activity deed _ moves.is (becomes_of (contents_of s) after activity deed _ moves.is becomes);
        merges_two = λ job parent keep gone pair stays. stays;
      }) row becomes
