-- What an opening left of a disk holds of the disk that was only read since.
use Rattle.std.proofs.Common.{ℕ, ◌+◌, ◌<◌, ◌≤◌, List, [], Option, IsSome, inl, sym, subst, ◌∙◌, arith}
use Rattle.hb_disk.proofs.Facts.RunLaws.{Leaves-read}
use Rattle.hb_disk.specs.Calls.{ReadsOnly}
use Rattle.hb_disk.specs.Model.{DiskModel, Stays}
use Rattle.hb_frag.specs.declared.pages.Page.{Page}
use Rattle.hb_layout.specs.declared.meta.Meta.{Meta}
use Rattle.hb_lemmas.proofs.Options.{at_value, if_value}
use Rattle.hb_outside.specs.Streams.{Rose}
use Rattle.hb_restart.specs.Beyond.{KeepsBeyond}
use Rattle.hb_restart.specs.Leaving.{LeavesOpening, OpensStore, RunsThrough}
use Rattle.hb_restart.specs.Renewing.{WritesAll, WritesEachOnce, touched_to}
use Rattle.hb_store.proofs.Facts.LookLaws.{LooksUp-read}
use Rattle.hb_store.specs.Opening.{OpensTo}
use Rattle.hb_store.specs.States.{StoreState}

once_further : (from : ℕ) (bytes : List ℕ) (meta : Meta) (touched : ℕ → Option Page) (e f : DiskModel) → Stays e f → WritesEachOnce from bytes meta touched e → WritesEachOnce from bytes meta touched f
once_further from bytes meta touched e f stays once = record {
  written = λ id page some last is more c told. once.written id page some last is (subst (λ (n : ℕ). from + touched_to touched id < n) stays.clock more) c (sym stays.told ∙ told);
  waits = λ id some last less c told. once.waits id some last (subst (λ (n : ℕ). n < from + touched_to touched id) stays.clock less) c (sym stays.told ∙ told);
  others = λ id some none c told. once.others id some none c (sym stays.told ∙ told);
}

all_further : (from : ℕ) (bytes : List ℕ) (meta : Meta) (touched : ℕ → Option Page) (e f : DiskModel) → Stays e f → WritesAll from bytes meta touched e → WritesAll from bytes meta touched f
all_further from bytes meta touched e f stays all = record {
  each = once_further from bytes meta touched e f stays all.each;
  least = subst (λ (n : ℕ). from + touched_to touched meta.high ≤ n) (sym stays.clock) all.least;
  most = subst (λ (n : ℕ). n ≤ from + (touched_to touched meta.high + 11)) (sym stays.clock) all.most;
}

pub opens_further : {F : Type 0} (d e f : DiskModel) (store : StoreState) (count : ℕ) → ReadsOnly F e f → OpensStore d e store count → OpensStore d f store count
opens_further d e f store count only opens = record {
  file = if_value d.told _ (λ b is. let found = at_value d.told _ b is opens.file in (found.0, found.1, found.2, found.3, (LooksUp-read e f store only).keeps found.0 [] found.4));
  is_new = opens.is_new;
  bounded = opens.bounded;
  meta = opens.meta;
  said = opens.said;
}

pub runs_further : (pages : ℕ) (d e f : DiskModel) → Stays e f → RunsThrough pages d e → RunsThrough pages d f
runs_further pages d e f stays through = record {
  silent = λ tells. through.silent (subst (λ (o : Option (List ℕ)). IsSome o) stays.told tells);
  late = if_value d.told _ (λ b is s opens c left. at_value d.told _ b is through.late s opens c (stays.since (d.clock + 1) c left));
  once = if_value d.told _ (λ b is turn said meta touched s opens. all_further (d.clock + 1) b meta touched e f stays (at_value d.told _ b is through.once turn said meta touched s opens));
  least = λ tells. subst (λ (n : ℕ). d.clock + 1 ≤ n) (sym stays.clock) (through.least tells);
  most = λ tells. subst (λ (n : ℕ). n ≤ d.clock + (pages + 12)) (sym stays.clock) (through.most tells);
}

beyond_further : (n : ℕ) (d e f : DiskModel) → Stays e f → KeepsBeyond n d e → KeepsBeyond n d f
beyond_further n d e f stays beyond = record {
  size = stays.size ∙ beyond.size;
  silent = λ none. stays.told ∙ beyond.silent none;
  told = if_value d.told _ (λ b is. let here = at_value d.told _ b is beyond.told in (here.0, stays.told ∙ here.1, here.2));
  crash = λ c image. beyond.crash c (stays.image c image);
}

-- a read that fails is the fault of the run then
pub leaves_further : {F G : Type 0} (d e f : DiskModel) → (F → ⊥) → ReadsOnly G e f → LeavesOpening F d e → LeavesOpening G d f
leaves_further d e f good only leaves =
    let stays = only.stays in
    let none = leaves.faults.no_fault good in
    record {
      even = λ s even. Leaves-read d e f (λ c. OpensTo c s) (leaves.even s even) stays;
      late = if_value d.told _ (λ b is s opens later c left. at_value d.told _ b is leaves.late s opens (subst (λ (n : ℕ). d.clock + 2 ≤ n) stays.clock later) c (stays.since (d.clock + 1) c left));
      once = if_value d.told _ (λ b is turn said meta touched s opens. once_further (d.clock + 1) b meta touched e f stays (at_value d.told _ b is leaves.once turn said meta touched s opens));
      beyond = λ b turn said told newest. beyond_further _ d e f stays (leaves.beyond b turn said told newest);
      faults = record {
        cause = λ failed. inl (subst (λ (n : ℕ). Rose n f.read_faults) none.0 (only.reads.cause failed));
        no_fault = λ fine. (only.reads.no_fault fine ∙ none.0, only.writes ∙ none.1);
        reads = omega (arith, none.0, only.reads.later);
        writes = omega (arith, none.1, only.writes);
      };
    }
