-- How the counts of faults of a disk go on over further calls.
use Rattle.std.proofs.Common.{◌≡◌, Result, Ok, IsErr, refl, ◌∙◌, subst}
use Rattle.hb_outside.proofs.Facts.CountLaws.{Counts-as, Counts-same, Counts-then}
use Rattle.hb_outside.specs.Calls.{Counts}
use Rattle.hb_disk.specs.Model.{DiskModel, Stays}
use Rattle.hb_disk.specs.Calls.{ReadsOnly, WriteFaults}

-- a call that answers Ok didn't fail
pub not_failed : {T E : Type 0} (r : Result T E) (v : T) → r ≡ Ok v → IsErr r → ⊥
not_failed r v ok failed = cc

pub Stays-same : (d : DiskModel) → Stays d d
Stays-same d = record { told = refl; size = refl; clock = refl; image = λ c h. h; image_kept = λ c h. h; since = λ t c h. h; since_kept = λ t c h. h }

pub Stays-then : (old mid new : DiskModel) → Stays old mid → Stays mid new → Stays old new
Stays-then old mid new first second = record {
  told = second.told ∙ first.told;
  size = second.size ∙ first.size;
  clock = second.clock ∙ first.clock;
  image = λ c h. first.image c (second.image c h);
  image_kept = λ c h. second.image_kept c (first.image_kept c h);
  since = λ t c h. first.since t c (second.since t c h);
  since_kept = λ t c h. second.since_kept t c (first.since_kept t c h);
}

-- no read
pub ReadsOnly-none : {F : Type 0} (d : DiskModel) → (F → ⊥) → ReadsOnly F d d
ReadsOnly-none d good = record { stays = Stays-same d; reads = Counts-same good refl; writes = refl }

-- the same in other words of what failed; where both hold, and where neither does
pub ReadsOnly-as : {F G : Type 0} (old new : DiskModel) → (F → G) → (G → F) → ReadsOnly F old new → ReadsOnly G old new
ReadsOnly-as old new to from only = record { stays = only.stays; reads = Counts-as old.read_faults new.read_faults to from only.reads; writes = only.writes }

pub ReadsOnly-both : {F G : Type 0} (old new : DiskModel) → F → G → ReadsOnly F old new → ReadsOnly G old new
ReadsOnly-both old new f g only = ReadsOnly-as old new (λ _. g) (λ _. f) only

pub ReadsOnly-neither : {F G : Type 0} (old new : DiskModel) → (F → ⊥) → (G → ⊥) → ReadsOnly F old new → ReadsOnly G old new
ReadsOnly-neither old new f g only = ReadsOnly-as old new (λ failed. absurd (f failed)) (λ failed. absurd (g failed)) only

-- reads after reads that didn't fail
pub ReadsOnly-then : {F G : Type 0} (old mid new : DiskModel) → (F → ⊥) → ReadsOnly F old mid → ReadsOnly G mid new → ReadsOnly G old new
ReadsOnly-then old mid new good first second = record {
  stays = Stays-then old mid new first.stays second.stays;
  reads = Counts-then good first.reads second.reads;
  writes = second.writes ∙ first.writes;
}

-- no call, and none failed
pub WriteFaults-none : {F : Type 0} (d : DiskModel) → (F → ⊥) → WriteFaults F d d
WriteFaults-none d good = record { writes = Counts-same good refl; reads = refl }

pub WriteFaults-as : {F G : Type 0} (old new : DiskModel) → (F → G) → (G → F) → WriteFaults F old new → WriteFaults G old new
WriteFaults-as old new to from faults = record { writes = Counts-as old.write_faults new.write_faults to from faults.writes; reads = faults.reads }

-- calls that write after others that didn't fail
pub WriteFaults-then : {F G : Type 0} (old mid new : DiskModel) → (F → ⊥) → WriteFaults F old mid → WriteFaults G mid new → WriteFaults G old new
WriteFaults-then old mid new good first second = record {
  writes = Counts-then good first.writes second.writes;
  reads = second.reads ∙ first.reads;
}

-- the same after reads that didn't fail
pub WriteFaults-after : {F G : Type 0} (old mid new : DiskModel) → (F → ⊥) → ReadsOnly F old mid → WriteFaults G mid new → WriteFaults G old new
WriteFaults-after {G = G} old mid new good first second = record {
  writes = subst (λ n. Counts G n new.write_faults) first.writes second.writes;
  reads = second.reads ∙ first.reads.no_fault good;
}
