-- Which ranges of a disk are synced, and what leaves them so.
use Rattle.std.proofs.Common.{◌≡◌, ℕ, ◌+◌, ◌-◌, ◌≤◌, List, take, drop, Option, Some, None, IfSome, Result, Ok, refl, sym, ap, ◌∙◌, subst, arith}
use Rattle.std.proofs.lemmas.List.{drop-take, take-take, drop-drop}
use Rattle.hb_disk.specs.Model.{DiskModel, Torn}
use Rattle.hb_disk.specs.Calls.{Syncs, Apart, IsSynced, Becomes}
use Rattle.hb_disk.proofs.Facts.TornLaws.{Torn-elsewhere}
use Rattle.hb_lemmas.proofs.Options.{at_value}
use Rattle.std.proofs.lemmas.Option.{same_Some}

part_cut : (at n from m : ℕ) (l : List ℕ) → at ≤ from → from + m ≤ at + n → take m (drop (from - at) (take n (drop at l))) ≡ take m (drop from l)
part_cut at n from m l low high =
    let split : n ≡ (from - at) + (n - (from - at)) = omega arith in
    let joined : at + (from - at) ≡ from = omega arith in
    ap (λ (k : ℕ). take m (drop (from - at) (take k (drop at l)))) split
    ∙ ap (λ (r : List ℕ). take m r) (drop-take (from - at) (n - (from - at)) (drop at l))
    ∙ take-take m (n - (from - at)) (drop (from - at) (drop at l)) (omega arith)
    ∙ ap (λ (r : List ℕ). take m r) (drop-drop (from - at) at l ∙ ap (λ (k : ℕ). drop k l) joined)

-- lists that agree in a range agree in a part of it
pub part_of : (at n from m : ℕ) (xs ys : List ℕ) → at ≤ from → from + m ≤ at + n → take n (drop at xs) ≡ take n (drop at ys) → take m (drop from xs) ≡ take m (drop from ys)
part_of at n from m xs ys low high same =
    let cut : (l : List ℕ) → take m (drop (from - at) (take n (drop at l))) ≡ take m (drop from l) = λ l. part_cut at n from m l low high in
    sym (cut xs) ∙ ap (λ (l : List ℕ). take m (drop (from - at) l)) same ∙ cut ys

-- what a sync that succeeds leaves for a crash
pub only_told : {T E : Type 0} (r : Result T E) (v : T) (old new : DiskModel) (b : List ℕ)
    → r ≡ Ok v → old.told ≡ Some b → Syncs r old new → (c : List ℕ) → new.Image c → c ≡ b
only_told {T = T} {E = E} r v old new b ok told syncs c image =
    let S : Result T E → Type 0 = λ q. Syncs q old new in
    let here = subst S ok syncs in
    at_value old.told (λ b. (c : List ℕ) → new.Image c → c ≡ b) b told here.durable c image

-- Where a crash leaves nothing but what a read gives, every range is synced.
pub IsSynced-durable : (d : DiskModel) (at n : ℕ) → IfSome d.told (λ b. (c : List ℕ) → d.Image c → c ≡ b) → IsSynced d at n
IsSynced-durable d at n only = record {
  each = λ b c told image. ap (λ (l : List ℕ). take n (drop at l)) (at_value d.told (λ b. (c : List ℕ) → d.Image c → c ≡ b) b told only c image);
}

-- After a sync that succeeds every range is synced.
pub IsSynced-sync : {T E : Type 0} (r : Result T E) (v : T) (old new : DiskModel) (at n : ℕ) → r ≡ Ok v → Syncs r old new → IsSynced new at n
IsSynced-sync r v old new at n ok syncs = record {
  each = λ b c told image. ap (λ (l : List ℕ). take n (drop at l)) (only_told r v old new b ok (sym syncs.same ∙ told) syncs c image);
}

-- Calls that leave a range alone keep it synced.
pub IsSynced-kept : (R : List ℕ → List ℕ → Type 0) (old new : DiskModel) (at n : ℕ) → ((b c : List ℕ) → R b c → take n (drop at c) ≡ take n (drop at b))
    → Becomes R old new → IsSynced old at n → IsSynced new at n
IsSynced-kept R old new at n alone run was = record {
  each = λ d c told_new image. by_cases (old.told) refl d c told_new image;
}
  where
    by_cases : (o : Option (List ℕ)) → old.told ≡ o → (d c : List ℕ) → new.told ≡ Some d → new.Image c → take n (drop at c) ≡ take n (drop at d)
    by_cases None none d c told_new image = cc (run.silent none)
    by_cases (Some b) told d c told_new image =
        let after = at_value old.told (λ b. (c : List ℕ) × (new.told ≡ Some c) × R b c) b told run.told in
        let same : after.0 ≡ d = same_Some after.0 d (sym after.1 ∙ told_new) in
        let before = run.crash c image in
        alone before.0 c before.2 ∙ was.each b before.0 told before.1 ∙ sym (alone b after.0 after.2) ∙ ap (λ (l : List ℕ). take n (drop at l)) same

-- So does a run that is torn in a range apart from it.
pub IsSynced-elsewhere : (old new : DiskModel) (at n from m : ℕ) → Apart at n from m → Becomes (Torn from m) old new → IsSynced old at n → IsSynced new at n
IsSynced-elsewhere old new at n from m apart run was =
    IsSynced-kept (Torn from m) old new at n (λ b c torn. Torn-elsewhere from m at n b c apart torn) run was

-- What a read gives of a range that calls left alone.
pub told_elsewhere : (old new : DiskModel) (b c : List ℕ) (at n from m : ℕ) → old.told ≡ Some b → new.told ≡ Some c → Apart at n from m
    → Becomes (Torn from m) old new → take n (drop at c) ≡ take n (drop at b)
told_elsewhere old new b c at n from m told told_new apart run =
    let after = at_value old.told (λ b. (c : List ℕ) × (new.told ≡ Some c) × Torn from m b c) b told run.told in
    ap (λ (l : List ℕ). take n (drop at l)) (same_Some c after.0 (sym told_new ∙ after.1)) ∙ Torn-elsewhere from m at n b after.0 apart after.2

-- a part of a range that is synced
pub IsSynced-part : (d : DiskModel) (at n from m : ℕ) → at ≤ from → from + m ≤ at + n → IsSynced d at n → IsSynced d from m
IsSynced-part d at n from m low high was = record {
  each = λ b c told image. part_of at n from m c b low high (was.each b c told image);
}
