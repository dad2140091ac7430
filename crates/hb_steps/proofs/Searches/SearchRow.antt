-- The row of a search that walks; and who walked before a row that walks on, or by which a search joins the order.
use Rattle.hb_steps.proofs.Searches.Names.{◌≡◌, ◌⊎◌, inl, inr, ℕ, List, ◌∷◌, Option, Some, None, refl, sym, ap, ◌∙◌, subst, Deed, goal_of, Activity, Wanted, LivePage, WantsBoxes, Gathers, Entry, Command, Insert, Search, Line, Area, Record, each_row, StaysMerger, Machine, live_here, sight, Row, none-some, same_Some}
use Rattle.std.specs.Prelude.{MatchOption}
use Rattle.hb_activity.specs.Classes.{Consolidators, Sessions, class_of}
use Rattle.hb_activity.specs.Passing.{PassesOn}
use Rattle.hb_activity.specs.declared.activities.Activity.TheVariants as at
use Rattle.hb_steps.specs.Rows.{DoesHere}

-- a walk passes on with what it has
pub record PassesWith (line : Line) (rest : List Area) (found : List Record) (id : ℕ) (deed : Deed) : Type 0 where
  pub next : deed.next ≡ at.SessionWalk line (Some id) rest found
  pub joins : deed.joins ≡ None

-- What a search does at the page that it latched: it passes on, or gathers records.
pub record SearchesAt (now : Machine) (line : Line) (rest : List Area) (found : List Record) (box : Area) (deed : Deed) : Type 0 where
  pub id : ℕ
  pub page : LivePage
  pub live : live_here now.store id ≡ Some page
  pub p : List ℕ
  pub goal : goal_of (Search box) rest ≡ Some p
  pub goes : PassesWith line rest found id deed ⊎ Gathers (sight now) line rest found page p deed

pub walk_row : (now : Machine) (line : Line) (held : Option ℕ) (rest : List Area) (found : List Record) (box : Area) (wanted : Option Wanted) (deed : Deed) → line.command ≡ Search box → Row (at.SessionWalk line held rest found) wanted now deed → SearchesAt now line rest found box deed
walk_row now line held rest found box None deed command row = absurd row
walk_row now line held rest found box (Some wanted) deed command (page, hand, row) = by (goal_of (Search box) rest) refl
    (subst (λ (c : Command). MatchOption (goal_of c rest) ⊥ (λ p. PassesOn page p (at.SessionWalk line (Some wanted.page) rest found) deed ⊎ DoesHere (sight now) line c rest found wanted.page page p deed)) command row)
  where
    by : (goal : Option (List ℕ)) → goal_of (Search box) rest ≡ goal
        → MatchOption goal ⊥ (λ p. PassesOn page p (at.SessionWalk line (Some wanted.page) rest found) deed ⊎ DoesHere (sight now) line (Search box) rest found wanted.page page p deed) → SearchesAt now line rest found box deed
    by None is never = absurd never
    by (Some p) is (inl passes) = record { id = wanted.page; page = page; live = hand.live; p = p; goal = is; goes = inl (record { next = ap (λ (d : Deed). d.next) passes.deed_is; joins = ap (λ (d : Deed). d.joins) passes.deed_is }) }
    by (Some p) is (inr gathers) = record { id = wanted.page; page = page; live = hand.live; p = p; goal = is; goes = inr gathers }

-- ---- who walked before

pub record IsWalkOf (line : Line) (activity : Activity) : Type 0 where
  pub held : Option ℕ
  pub rest : List Area
  pub found : List Record
  pub is : activity ≡ at.SessionWalk line held rest found

walk_of : (own line : Line) (held : Option ℕ) (rest : List Area) (found : List Record) → own ≡ line → IsWalkOf line (at.SessionWalk own held rest found)
walk_of own line held rest found same = record { held = held; rest = rest; found = found; is = ap (λ (l : Line). at.SessionWalk l held rest found) same }

same_line : (own line : Line) (a b : Option ℕ) (r s : List Area) (f g : List Record) → at.SessionWalk own a r f ≡ at.SessionWalk line b s g → own ≡ line
same_line own line a b r s f g is = cc

module _ (line : Line) (held : Option ℕ) (rest : List Area) (found : List Record) where
  -- what isn't a session's walk
  no_merger : (activity : Activity) → class_of activity ≡ Consolidators → activity ≡ at.SessionWalk line held rest found → ⊥
  no_merger activity kind is = let classes : Sessions ≡ Consolidators = sym (ap class_of is) ∙ kind in cc classes

  abbrev Before : Activity → Deed → Type 0
  Before activity deed = deed.next ≡ at.SessionWalk line held rest found → IsWalkOf line activity

  after_merging : (activity : Activity) (deed : Deed) → StaysMerger activity deed → Before activity deed
  after_merging activity deed stays next = absurd (no_merger stays.next stays.after.kind (sym (ap (λ (d : Deed). d.next) stays.is) ∙ next))

  pub walked_before : (now : Machine) (activity : Activity) (wanted : Option Wanted) (deed : Deed) → Row activity wanted now deed → deed.next ≡ at.SessionWalk line held rest found → IsWalkOf line activity
  walked_before now activity wanted deed row = each_row now Before activity wanted deed
      (record {
        full = λ own page none next. absurd (let no : ⊥ = cc in no);
        splits = λ own page there live leaves next. absurd (let no : ⊥ = cc in no);
        puts = λ own source fresh rec command half either page live next. absurd (let no : ⊥ = cc in no);
      })
      (λ its page wants hand. record {
        passes = λ own had left has p goal leaf row next. walk_of own line had left has (same_line own line _ held left rest has found next);
        only_replies = λ own had left has reply alone next. absurd (let no : ⊥ = cc in no);
        inserts = λ own had left has rec command absent room next. absurd (let no : ⊥ = cc in no);
        lacks_room = λ own had left has rec command level absent full next. absurd (let no : ⊥ = cc in no);
        deletes = λ own had left has p there command stands next. absurd (let no : ⊥ = cc in no);
        searches = λ own had left has area others more row next. walk_of own line had left has (same_line own line None held (area ∷ others) rest more found next);
        grows = λ job fresh free_after may free number next. absurd (let no : ⊥ = cc in no);
        ends = λ activity job kind hand next. absurd (let no : ⊥ = cc in no);
        arrives = λ job had child area level leaf next. absurd (let no : ⊥ = cc in no);
        walks = λ job had leaf farther row next. absurd (let no : ⊥ = cc in no);
        looks = λ job parent next. absurd (let no : ⊥ = cc in no);
        promotes = λ job parent next. absurd (let no : ⊥ = cc in no);
        posts = λ job parent above path inner area live plan next. absurd (let no : ⊥ = cc in no);
        parts = λ job parent above live plan leaves next. absurd (let no : ⊥ = cc in no);
        walks_to_merge = λ job had leaf farther row next. absurd (let no : ⊥ = cc in no);
        merges = λ activity deed kind row stays. after_merging activity deed stays;
        merges_two = λ job parent keep gone pair next. absurd (let no : ⊥ = cc in no);
      }) row

module _ (entry : Entry) (wants : WantsBoxes entry.line.command) where
  abbrev Joined : Activity → Deed → Type 0
  Joined activity deed = deed.joins ≡ Some entry → IsWalkOf entry.line activity

  entry_line : (one : Entry) → Some one ≡ Some entry → one.line ≡ entry.line
  entry_line one is = ap (λ (e : Entry). e.line) (same_Some one entry is)

  no_insert : (own : Line) (rec : Record) → own ≡ entry.line → own.command ≡ Insert rec → ⊥
  no_insert own rec same command = subst WantsBoxes (ap (λ (l : Line). l.command) (sym same) ∙ command) wants

  merged : (activity : Activity) (deed : Deed) → StaysMerger activity deed → Joined activity deed
  merged activity deed stays joins = absurd (none-some entry (sym (ap (λ (d : Deed). d.joins) stays.is) ∙ joins))

  pub joined_before : (now : Machine) (activity : Activity) (wanted : Option Wanted) (deed : Deed) → Row activity wanted now deed → deed.joins ≡ Some entry → IsWalkOf entry.line activity
  joined_before now activity wanted deed row = each_row now Joined activity wanted deed
      (record {
        full = λ own page none joins. absurd (none-some entry joins);
        splits = λ own page there live leaves joins. absurd (none-some entry joins);
        puts = λ own source fresh rec command half either page live joins. absurd (no_insert own rec (entry_line _ joins) command);
      })
      (λ its page has_wanted hand. record {
        passes = λ own had left has p goal leaf row joins. absurd (none-some entry joins);
        only_replies = λ own had left has reply alone joins. walk_of own entry.line had left has (entry_line _ joins);
        inserts = λ own had left has rec command absent room joins. walk_of own entry.line had left has (entry_line _ joins);
        lacks_room = λ own had left has rec command level absent full joins. absurd (none-some entry joins);
        deletes = λ own had left has p there command stands joins. walk_of own entry.line had left has (entry_line _ joins);
        searches = λ own had left has area others more row joins. absurd (none-some entry joins);
        grows = λ job fresh free_after may free number joins. absurd (none-some entry joins);
        ends = λ activity job kind hand joins. absurd (none-some entry joins);
        arrives = λ job had child area level leaf joins. absurd (none-some entry joins);
        walks = λ job had leaf farther row joins. absurd (none-some entry joins);
        looks = λ job parent joins. absurd (none-some entry joins);
        promotes = λ job parent joins. absurd (none-some entry joins);
        posts = λ job parent above path inner area live plan joins. absurd (none-some entry joins);
        parts = λ job parent above live plan leaves joins. absurd (none-some entry joins);
        walks_to_merge = λ job had leaf farther row joins. absurd (none-some entry joins);
        merges = λ activity deed kind row stays. merged activity deed stays;
        merges_two = λ job parent keep gone pair joins. absurd (none-some entry joins);
      }) row
