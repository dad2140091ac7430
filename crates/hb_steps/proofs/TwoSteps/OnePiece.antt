-- The pieces of a row that the table fixes: the oldest job, the plan, the next number, the part that leaves a page.
use Rattle.hb_steps.proofs.TwoSteps.Names.{◌≡◌, ◌≢◌, inl, inr, ℕ, ◌++◌, List, [], ◌∷◌, All, Option, Some, None, sym, ap, ◌∙◌, subst, arith, cases_lt, Meta, Page, Job, JobKind, Activity, Deed, AddsJobs, LeavesBy, LeavesFirst, IsMergingOf, Machine, ChangesQueue, TakesJob, TakesMerging, IsPostingOf, StoreState, in_memory}
use Rattle.std.proofs.lemmas.List.Elements.{All-head, All-tail}
use Rattle.hb_frag.specs.declared.pages.Page.TheVariants.{Free}
use Rattle.hb_frag.proofs.Facts.Kinds.{same_free}
use Rattle.hb_activity.specs.declared.jobs.JobKind.TheVariants.{Post, Merge}
use Rattle.hb_activity.specs.Deeds.{takes_job}
use Rattle.hb_activity.specs.Queue.{AddsJob}
use Rattle.hb_steps.proofs.Memory.NextNumbers.{is_next_number}
use Rattle.hb_steps.specs.Machines.{next_of}
use Rattle.hb_store.specs.Fetching.{IsNext}
use Rattle.hb_poster.proofs.Facts.OnePosting.{one_posting}
use Rattle.hb_consol.proofs.Facts.OneMerging.{one_merging as one_way}

-- ---- the oldest job of its kind, and what its poster does next

same_front : (kind : JobKind) (front other behind rest : List Job) (job next : Job) → front ++ job ∷ behind ≡ other ++ next ∷ rest → job.kind ≡ kind → next.kind ≡ kind
    → All (λ (j : Job). j.kind ≢ kind) front → All (λ (j : Job). j.kind ≢ kind) other → (job ≡ next) × (front ++ behind ≡ other ++ rest)
same_front kind [] [] behind rest job next is of_kind is_kind none lack = let whole : job ∷ behind ≡ next ∷ rest = is in (cc, let tail : behind ≡ rest = cc in tail)
same_front kind [] (y ∷ ys) behind rest job next is of_kind is_kind none lack = let same : job ≡ y = cc in absurd (All-head (λ (j : Job). j.kind ≢ kind) y ys lack (ap (λ (j : Job). j.kind) (sym same) ∙ of_kind))
same_front kind (x ∷ xs) [] behind rest job next is of_kind is_kind none lack = let same : x ≡ next = cc in absurd (All-head (λ (j : Job). j.kind ≢ kind) x xs none (ap (λ (j : Job). j.kind) same ∙ is_kind))
same_front kind (x ∷ xs) (y ∷ ys) behind rest job next is of_kind is_kind none lack =
    let same : x ≡ y = cc in
    let tail : xs ++ job ∷ behind ≡ ys ++ next ∷ rest = cc in
    let later = same_front kind xs ys behind rest job next tail of_kind is_kind (All-tail (λ (j : Job). j.kind ≢ kind) x xs none) (All-tail (λ (j : Job). j.kind ≢ kind) y ys lack) in
    (later.0, ap (λ (j : Job). j ∷ (xs ++ behind)) same ∙ ap (λ (l : List Job). y ∷ l) later.1)

-- one job leaves as the first of its kind, and the others are as they were
first_leaves : (kind : JobKind) (old left other : List Job) (job next : Job) → LeavesFirst kind old job left → LeavesFirst kind old next other → (job ≡ next) × (left ≡ other)
first_leaves kind old left other job next a b =
    let same = same_front kind a.front b.front a.behind b.behind job next (sym a.whole ∙ b.whole) a.of_kind b.of_kind a.first b.first in
    (same.0, a.rest ∙ same.1 ∙ sym b.rest)

-- the job that a deed takes has left as the first of its kind
pub taken : (kind : JobKind) (deed : Deed) (job : Job) (next : Activity) (old new : List Job) → job.kind ≡ kind → deed ≡ takes_job next job → (changes : ChangesQueue deed old new) → LeavesFirst kind old job changes.left
taken kind deed job next old new of_kind is changes =
    subst (λ (k : JobKind). LeavesFirst k old job changes.left) of_kind (subst (λ (d : Deed). LeavesBy d.takes old changes.left) is changes.takes)

module _ (m : Machine) (d e : Deed) (new next : List Job) (changes : ChangesQueue d m.jobs new) (other : ChangesQueue e m.jobs next) where
  pub one_job : TakesJob m d → TakesJob m e → d ≡ e
  one_job first second =
      let a = taken Post d first.job first.next m.jobs new first.kind first.deed_is changes in
      let b = taken Post e second.job second.next m.jobs next second.kind second.deed_is other in
      let same = (first_leaves Post m.jobs changes.left other.left first.job second.job a b).0 in
      let goes = one_posting second.job m.store.meta.height first.next second.next (subst (λ (j : Job). IsPostingOf j m.store.meta.height first.next) same first.posting) second.posting in
      first.deed_is ∙ ap (λ (n : Activity). takes_job n first.job) goes ∙ ap (λ (j : Job). takes_job second.next j) same ∙ sym second.deed_is

  pub one_merging : TakesMerging m d → TakesMerging m e → d ≡ e
  one_merging first second =
      let a = taken Merge d first.job first.next m.jobs new first.kind first.deed_is changes in
      let b = taken Merge e second.job second.next m.jobs next second.kind second.deed_is other in
      let same = (first_leaves Merge m.jobs changes.left other.left first.job second.job a b).0 in
      let goes = one_way second.job m.store.meta.height first.next second.next (subst (λ (j : Job). IsMergingOf j m.store.meta.height first.next) same first.merging) second.merging in
      first.deed_is ∙ ap (λ (n : Activity). takes_job n first.job) goes ∙ ap (λ (j : Job). takes_job second.next j) same ∙ sym second.deed_is

-- ---- what becomes of the queue

one_add : (job : Job) (old new other : List Job) → AddsJob job old new → AddsJob job old other → new ≡ other
one_add job old new other (inl (has, is)) (inl (again, same)) = is ∙ sym same
one_add job old new other (inl (has, is)) (inr (inl (none, few, same))) = absurd (none has)
one_add job old new other (inl (has, is)) (inr (inr (none, many, same))) = absurd (none has)
one_add job old new other (inr (inl (none, few, is))) (inl (has, same)) = absurd (none has)
one_add job old new other (inr (inr (none, many, is))) (inl (has, same)) = absurd (none has)
one_add job old new other (inr (inl (none, few, is))) (inr (inl (lack, low, same))) = is ∙ sym same
one_add job old new other (inr (inl (none, few, is))) (inr (inr (lack, many, same))) = absurd (omega (arith, few, many))
one_add job old new other (inr (inr (none, many, is))) (inr (inl (lack, few, same))) = absurd (omega (arith, few, many))
one_add job old new other (inr (inr (none, many, is))) (inr (inr (lack, high, same))) = is ∙ sym same

one_adding : (adds old new other : List Job) → AddsJobs adds old new → AddsJobs adds old other → new ≡ other
one_adding [] old new other first second = first ∙ sym second
one_adding (job ∷ rest) old new other (more, one, first) (more', two, second) =
    one_adding rest more' new other (subst (λ (l : List Job). AddsJobs rest l new) (one_add job old more more' one two) first) second

one_left : (takes : Option Job) (old left other : List Job) → LeavesBy takes old left → LeavesBy takes old other → left ≡ other
one_left None old left other first second = first ∙ sym second
one_left (Some job) old left other first second = (first_leaves job.kind old left other job job first second).1

pub one_queue : (deed : Deed) (old new other : List Job) → ChangesQueue deed old new → ChangesQueue deed old other → new ≡ other
one_queue deed old new other first second =
    one_adding deed.adds second.left new other (subst (λ (l : List Job). AddsJobs deed.adds l new) (one_left deed.takes old first.left second.left first.takes second.takes) first.adds) second.adds

-- ---- the next number

one_next : (f g : StoreState) (fresh other after later : ℕ) → f.meta ≡ g.meta → ((id : ℕ) (a b : Page) → in_memory f id ≡ Some a → in_memory g id ≡ Some b → a ≡ b)
    → IsNext f fresh after → IsNext g other later → (fresh ≡ other) × (after ≡ later)
one_next f g fresh other after later meta agree first second = elim (cases_lt 0 f.meta.free) [
  | inl some ↦
      let one = first.from_chain (λ none. omega (arith, none, some)) in
      let two = second.from_chain (λ none. omega (arith, none, some, ap (λ (x : Meta). x.free) meta)) in
      let same : fresh ≡ other = one.0 ∙ ap (λ (x : Meta). x.free) meta ∙ sym two.0 in
      (same, same_free after later (agree fresh (Free after) (Free later) one.1 (ap (in_memory g) same ∙ two.1)))
  | inr none ↦
      let one = first.from_behind (omega (arith, none)) in
      let two = second.from_behind (omega (arith, none, ap (λ (x : Meta). x.free) meta)) in
      (omega (arith, one.0, two.0, ap (λ (x : Meta). x.high) meta), omega (arith, one.2, two.2))
]

pub one_number : (f g : StoreState) (fresh other after later : ℕ) → f.meta ≡ g.meta → ((id : ℕ) (a b : Page) → in_memory f id ≡ Some a → in_memory g id ≡ Some b → a ≡ b)
    → next_of f ≡ Some (fresh, after) → next_of g ≡ Some (other, later) → (fresh ≡ other) × (after ≡ later)
one_number f g fresh other after later meta agree first second = one_next f g fresh other after later meta agree (is_next_number f fresh after first) (is_next_number g other later second)
