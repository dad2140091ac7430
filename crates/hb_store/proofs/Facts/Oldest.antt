-- The frame of the least recently used dirty page.
use Rattle.std.proofs.Common.{◌≡◌, ℕ, List, Some, IsTrue, sym, ap, ◌∙◌, subst}
use Rattle.std.specs.Prelude.{find}
use Rattle.std.specs.Option.{option_map}
use Rattle.std.proofs.lemmas.Option.{same_Some}
use Rattle.hb_lemmas.proofs.Options.{some_of_map}
use Rattle.hb_pool.specs.Frames.{Use}
use Rattle.hb_pool.specs.Pools.{IsPool, frame_of}
use Rattle.hb_pool.proofs.Facts.Firsts.{first_passes}
use Rattle.hb_pool.proofs.Facts.Pooled.{dirty_there}
use Rattle.hb_store.specs.Held.{oldest_dirty}

-- it is the one that is found first
pub oldest_frame : (uses : List Use) → IsPool uses → (id : ℕ) → oldest_dirty uses ≡ Some id → (u : Use) × (frame_of uses id ≡ Some u) × IsTrue u.dirty
oldest_frame uses pool id oldest =
    let first = some_of_map (λ (u : Use). u.id) (find (λ (u : Use). u.dirty) uses) id oldest in
    let same : first.0.id ≡ id = same_Some first.0.id id (sym (ap (option_map (λ (u : Use). u.id)) first.1) ∙ oldest) in
    let F : ℕ → Type 0 = λ n. frame_of uses n ≡ Some first.0 in
    (first.0, subst F same (dirty_there uses first.0 pool first.1), first_passes (λ (u : Use). u.dirty) uses first.0 first.1)
