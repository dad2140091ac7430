-- The first job of a kind, and what is left without it.
use Rattle.std.proofs.Common.{◌≡◌, ◌≢◌, ℕ, suc, ◌<◌, true, false, List, get_or, take, drop, position, All, Some, None, refl, sym, ap, ◌∙◌, arith}
use Rattle.std.specs.List.{remove}
use Rattle.std.proofs.Math.ListN.{set}
use Rattle.std.proofs.lemmas.Bool.{false≢true}
use Rattle.std.proofs.lemmas.List.{get_or-take, set-get_or, set_split, length-take}
use Rattle.std.proofs.lemmas.List.Quantifiers.{position-Some}
use Rattle.std.proofs.lemmas.List.Sums.{fails_before_first}
use Rattle.hb_activity.specs.declared.jobs.JobKind.{JobKind}
use Rattle.hb_activity.specs.declared.jobs.JobKind.TheVariants.{Post, Merge}
use Rattle.hb_activity.specs.declared.jobs.Job.{Job}
use Rattle.hb_activity.specs.Queue.{is_of, LeavesFirst}
use Rattle.hb_activity.proofs.Facts.NoPlace.{none_before}

-- the test of the kind
pub kind_so : (kind : JobKind) (job : Job) → is_of kind job ≡ true → job.kind ≡ kind
kind_so kind job is = by kind job.kind is
  where
    by : (k l : JobKind) → is_of k (record job { kind = l }) ≡ true → l ≡ k
    by Post Post is = refl
    by Post Merge is = absurd (false≢true is)
    by Merge Post is = absurd (false≢true is)
    by Merge Merge is = refl

kind_not : (kind : JobKind) (job : Job) → is_of kind job ≡ false → job.kind ≢ kind
kind_not kind job isnt same = by kind (ap (λ (k : JobKind). is_of kind (record job { kind = k })) (sym same) ∙ isnt)
  where
    by : (k : JobKind) → is_of k (record job { kind = k }) ≡ false → ⊥
    by Post e = false≢true (sym e)
    by Merge e = false≢true (sym e)

pub none_of : (kind : JobKind) (jobs : List Job) → position (is_of kind) jobs ≡ None → All (λ job. job.kind ≢ kind) jobs
none_of kind jobs none k d lt = kind_not kind (get_or jobs k d) (fails_before_first (is_of kind) jobs k d (omega (arith, none_before (is_of kind) jobs none)))

-- where one is found, one is
pub some_of : (kind : JobKind) (jobs : List Job) (place : ℕ) (job : Job) → position (is_of kind) jobs ≡ Some place → ¬ (All (λ job. job.kind ≢ kind) jobs)
some_of kind jobs place job found none =
    let at = position-Some (is_of kind) jobs place job found in
    none place job at.0 (kind_so kind (get_or jobs place job) at.1)

pub leaves_first : (kind : JobKind) (old new : List Job) (place : ℕ) (job : Job) → position (is_of kind) old ≡ Some place → job ≡ get_or old place job → new ≡ remove old place → LeavesFirst kind old job new
leaves_first kind old new place job found is left =
    let at = position-Some (is_of kind) old place job found in
    record {
      front = take place old;
      behind = drop (suc place) old;
      whole = sym (set-get_or old place job) ∙ ap (λ (j : Job). set old place j) (sym is) ∙ set_split old place job at.0;
      of_kind = ap (λ (j : Job). j.kind) is ∙ kind_so kind (get_or old place job) at.1;
      first = λ k d lt. before k d (omega (arith, simp length-take at lt));
      rest = left;
    }
  where
    before : (k : ℕ) (d : Job) → k < place → (get_or (take place old) k d).kind ≢ kind
    before k d lt = rw (get_or-take place old k d lt) (kind_not kind (get_or old k d) ((position-Some (is_of kind) old place d found).2 k lt))
