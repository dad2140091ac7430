-- The jobs that a row adds are of a level above the records, at points of as many attributes as the file's.
use Rattle.hb_steps.proofs.Machines.Names.{◌≡◌, inl, inr, ℕ, ◌+◌, ◌-◌, Bool, true, false, cond, List, [], ◌∷◌, length, All, Option, Some, None, IfSome, refl, sym, ap, ◌∙◌, subst, arith, slice_get, option_map, All-append, All-cons, All-head, All-nil, All-tail, LivePage, Command, Insert, Delete, Lookup, Search, Job, Wanted, Activity, job_in_work, line_in_hand, Deed, LeavesBy, goal_of, CommandFits, IsBoxOf, JobFits, LineFits, boxes_left, Machine, sight, Row, same-side_from, Area, side_below, side_from, each_row, All-front}
use Rattle.std.proofs.lemmas.List.Elements.{All-push}
use Rattle.hb_frag.specs.declared.leaves.Leaf.{Leaf}
use Rattle.hb_frag.specs.declared.leaves.Leaf.TheVariants.{Records, Child, Sibling}
use Rattle.hb_frag.specs.declared.paths.Side.{Side}
use Rattle.hb_frag.specs.declared.paths.Side.TheVariants.{Left, Right}
use Rattle.hb_ops.specs.declared.leaf_cuts.LeafCut.{LeafCut}
use Rattle.hb_activity.specs.declared.jobs.JobKind.{JobKind}
use Rattle.hb_activity.specs.declared.jobs.JobKind.TheVariants.{Merge}
use Rattle.hb_activity.specs.Passing.{PartLeavesTo, corner_of, posts_owed}
use Rattle.hb_activity.specs.Queue.{AddsJob, AddsJobs, LeavesFirst}
use Rattle.hb_activity.specs.Sights.{Sight}
use Rattle.hb_consol.specs.MergeRows.{merges_above}
use Rattle.hb_frag.specs.Leaves.{weight_of}
use Rattle.hb_frag.specs.Rules.{is_thin}
use Rattle.hb_frag.specs.Paths.{part_at}
use Rattle.hb_frag.specs.Trees.{Tree, Tip, Cut}
use Rattle.hb_ops.specs.Merging.{parent_page}
use Rattle.hb_ops.specs.Recording.{del_page}
use Rattle.hb_point.specs.SessionRows.{merges_due}
use Rattle.hb_ops.proofs.Facts.CutLeafLaws.{reached_attributes}
use Rattle.hb_lemmas.proofs.Lists.{All-behind, at_place}

-- ---- the queue

abbrev pub JobsFit : ℕ → List Job → Type 0
JobsFit k jobs = All (JobFits k) jobs

-- the job that leaves fits, and so do those that stay
pub first_fits : (k : ℕ) (kind : JobKind) (old : List Job) (job : Job) (new : List Job) → LeavesFirst kind old job new → JobsFit k old → JobFits k job
first_fits k kind old job new leaves all = All-head (JobFits k) job leaves.behind (All-behind (JobFits k) leaves.front (job ∷ leaves.behind) (subst (JobsFit k) leaves.whole all))

pub left_fit : (k : ℕ) (takes : Option Job) (old new : List Job) → LeavesBy takes old new → JobsFit k old → JobsFit k new
left_fit k None old new is all = subst (JobsFit k) (sym is) all
left_fit k (Some job) old new leaves all =
    let whole = subst (JobsFit k) leaves.whole all in
    subst (JobsFit k) (sym leaves.rest)
    (All-append (JobFits k) leaves.front leaves.behind (All-front (JobFits k) leaves.front (job ∷ leaves.behind) whole) (All-tail (JobFits k) job leaves.behind (All-behind (JobFits k) leaves.front (job ∷ leaves.behind) whole)))

one_added : (k : ℕ) (job : Job) (old new : List Job) → AddsJob job old new → JobFits k job → JobsFit k old → JobsFit k new
one_added k job old new (inl there) fits all = subst (JobsFit k) (sym there.1) all
one_added k job old new (inr (inl joins)) fits all = subst (JobsFit k) (sym joins.2) (All-push (JobFits k) old job all fits)
one_added k job old new (inr (inr full)) fits all = subst (JobsFit k) (sym full.2) all

pub added_fit : (k : ℕ) (adds old new : List Job) → AddsJobs adds old new → JobsFit k adds → JobsFit k old → JobsFit k new
added_fit k [] old new is fit all = subst (JobsFit k) (sym is) all
added_fit k (job ∷ rest) old new (more, one, later) fit all =
    added_fit k rest more new later (All-tail (JobFits k) job rest fit) (one_added k job old more one (All-head (JobFits k) job rest fit) all)

-- ---- the corner of a part that leaves a page

some_pair : (tree : Tree) (area : Area) (part : Tree × Area) → Some (tree, area) ≡ Some part → area ≡ part.1
some_pair tree area part is = let same : (tree, area) ≡ part = cc in ap (λ (x : Tree × Area). x.1) same

part_as_many : (path : List Side) (tree : Tree) (area : Area) (part : Tree × Area) → part_at path tree area ≡ Some part → length part.1.lo ≡ length area.lo
part_as_many [] tree area part is = ap (λ (a : Area). length a.lo) (sym (some_pair tree area part is))
part_as_many (Left ∷ path) (Cut axis value left right) area part is = part_as_many path left (side_below area axis value) part is
part_as_many (Right ∷ path) (Cut axis value left right) area part is = part_as_many path right (side_from area axis value) part is ∙ same-side_from area axis value
part_as_many (Left ∷ path) (Tip leaf) area part is = cc
part_as_many (Right ∷ path) (Tip leaf) area part is = cc

corner_as_many : (s : Sight) (choice : List Side → List LeafCut → Type 0) (page : LivePage) (leaves : PartLeavesTo s choice page) → length (corner_of leaves) ≡ length page.area.lo
corner_as_many s choice page leaves = reached_attributes leaves.cuts leaves.part.0 leaves.part.1 ∙ part_as_many leaves.path page.frag page.area leaves.part leaves.there

-- ---- the point of a walk

pub goal_fits : (k : ℕ) (command : Command) (rest : List Area) (p : List ℕ) → CommandFits k command → All (IsBoxOf k) rest → goal_of command rest ≡ Some p → length p ≡ k
goal_fits k (Insert rec) rest p fits boxes is = let same : rec.key ≡ p = cc in ap (λ (q : List ℕ). length q) (sym same) ∙ fits
goal_fits k (Delete point) rest p fits boxes is = let same : point ≡ p = cc in ap (λ (q : List ℕ). length q) (sym same) ∙ fits
goal_fits k (Lookup point) rest p fits boxes is = let same : point ≡ p = cc in ap (λ (q : List ℕ). length q) (sym same) ∙ fits
goal_fits k (Search area) rest p fits boxes is = by (slice_get rest (length rest - 1)) refl is
  where
    by : (o : Option Area) → slice_get rest (length rest - 1) ≡ o → option_map (λ (a : Area). a.lo) o ≡ Some p → length p ≡ k
    by None there none = cc
    by (Some a) there some = let same : a.lo ≡ p = cc in ap (λ (q : List ℕ). length q) (sym same) ∙ (at_place (IsBoxOf k) rest (length rest - 1) a boxes there).1

-- ---- the rows

abbrev pub AddsFit : ℕ → Deed → Type 0
AddsFit k deed = JobsFit k deed.adds

-- what an activity has in hand fits
pub record HandFits (k : ℕ) (activity : Activity) : Type 0 where
  pub line : IfSome (line_in_hand activity) (LineFits k)
  pub boxes : All (IsBoxOf k) (boxes_left activity)
  pub job : IfSome (job_in_work activity) (JobFits k)

nothing : (k : ℕ) → JobsFit k []
nothing k = All-nil (JobFits k)

again : (k : ℕ) (job : Job) → JobFits k job → JobsFit k (job ∷ [])
again k job fits = All-cons (JobFits k) job [] fits (nothing k)

owed : (k : ℕ) (page : LivePage) (p : List ℕ) (leaf : Leaf) → length p ≡ k → JobsFit k (posts_owed page p leaf)
owed k page p (Records records) same = nothing k
owed k page p (Child name) same = nothing k
owed k page p (Sibling name) same = again k _ (record { level = omega arith; point = same })

-- a job to merge a thin page
thin_page : (k : ℕ) (page : LivePage) (p : List ℕ) (capacity : ℕ) → length p ≡ k → JobsFit k (merges_due page p capacity)
thin_page k page p capacity same = by (is_thin (weight_of (del_page p page).frag) capacity)
  where
    by : (thin : Bool) → JobsFit k (cond thin (record { kind = Merge; level = 1; point = p } ∷ []) [])
    by true = again k _ (record { level = omega arith; point = same })
    by false = nothing k

thin_above : (k : ℕ) (job : Job) (parent : LivePage) (capacity : ℕ) → JobFits k job → JobsFit k (merges_above job parent capacity)
thin_above k job parent capacity fits = by (is_thin (weight_of parent.frag) capacity)
  where
    by : (thin : Bool) → JobsFit k (cond thin (record { kind = Merge; level = job.level + 1; point = job.point } ∷ []) [])
    by true = again k _ (record { level = omega arith; point = fits.point })
    by false = nothing k

pub row_adds : (k : ℕ) (now : Machine) (as_many : (id : ℕ) (page : LivePage) → (sight now).page_at id ≡ Some page → length page.area.lo ≡ k) (activity : Activity) (wanted : Option Wanted) (deed : Deed) → HandFits k activity → Row activity wanted now deed → AddsFit k deed
row_adds k now as_many activity wanted deed fits row = each_row now (λ activity deed. HandFits k activity → AddsFit k deed) activity wanted deed
    (record {
      full = λ line held none fits. nothing k;
      splits = λ line held page live leaves fits. again k _ (record { level = omega arith; point = corner_as_many (sight now) _ page leaves ∙ as_many held page live });
      puts = λ line source fresh rec command half either page live fits. nothing k;
    })
    (λ its page wants hand. record {
      passes = λ line held rest found p goal leaf row fits. owed k page p leaf (goal_fits k line.command rest p fits.line.command fits.boxes goal);
      only_replies = λ line held rest found reply alone fits. nothing k;
      inserts = λ line held rest found rec command absent room fits. nothing k;
      lacks_room = λ line held rest found rec command level absent full fits. nothing k;
      deletes = λ line held rest found p there command stands fits. thin_page k page p (sight now).meta.dcap (goal_fits k (Delete p) rest p (subst (CommandFits k) command fits.line.command) fits.boxes refl);
      searches = λ line held rest found area others more row fits. nothing k;
      grows = λ job fresh free_after may free next fits. again k job fits.job;
      ends = λ activity job kind hand fits. nothing k;
      arrives = λ job held child area level leaf fits. nothing k;
      walks = λ job held leaf farther row fits. owed k page job.point leaf fits.job.point;
      looks = λ job parent fits. nothing k;
      promotes = λ job parent fits. nothing k;
      posts = λ job parent above path inner area live plan fits. again k job fits.job;
      parts = λ job parent above live plan leaves fits. All-cons (JobFits k) _ (job ∷ []) (record { level = omega arith; point = corner_as_many (sight now) _ above leaves ∙ as_many parent above live }) (again k job fits.job);
      walks_to_merge = λ job held leaf farther row fits. owed k page job.point leaf fits.job.point;
      merges = λ activity deed kind row stays fits. subst (AddsFit k) (sym stays.is) (nothing k);
      merges_two = λ job parent keep gone pair fits. All-cons (JobFits k) job _ fits.job (thin_above k job (parent_page keep gone pair.above) (sight now).meta.icap fits.job);
    }) row fits
