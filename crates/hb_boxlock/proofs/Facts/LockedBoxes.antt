-- Each box that is locked has so many attributes, before and after each call; and locks that don't exclude each other are shared where they meet.
use Rattle.std.proofs.Common.{◌≡◌, inl, inr, ℕ, length, Option, Some, None, IfSome, sym, ap, cond, subst, ◌∙◌, ne_eqb, eq-eqb, Bool, true, false, not, IsTrue, refl, ◌&&◌}
use Rattle.std.proofs.lemmas.Bool.{cases_eq}
use Rattle.std.specs.FinMap as map
use Rattle.std.specs.Ordering.{nat_cmp}
use Rattle.hb_boxlock.specs.declared.locks.BoxLock.{BoxLock}
use Rattle.hb_boxlock.specs.Laws.{ReleasingKeepsAttributes, TakingKeepsAttributes}
use Rattle.hb_boxlock.specs.Locking.{HaveAttributes, lock_at, Excludes}
use Rattle.hb_boxlock.proofs.Places.{after_insert, after_remove}
use Rattle.hb_space.specs.Boxes.{Meets}

abbrev HasSo : ℕ → Option BoxLock → Type 0
HasSo k o = IfSome o (λ held. length held.area.lo ≡ k)

pub none_locked : (k : ℕ) → HaveAttributes map.empty k
none_locked k other = subst (HasSo k) (sym (map.get-empty nat_cmp other)) tt

pub attributes_taken : TakingKeepsAttributes
attributes_taken table actor lock k old same other = elim (cases_eq other actor) [
  | inl is ↦ subst (HasSo k) (sym (after_insert table actor other lock ∙ ap (λ b. cond b (Some lock) (lock_at table other)) (eq-eqb other actor is))) same
  | inr apart ↦ subst (HasSo k) (sym (after_insert table actor other lock ∙ ap (λ b. cond b (Some lock) (lock_at table other)) (ne_eqb other actor apart))) (old other)
]

pub attributes_released : ReleasingKeepsAttributes
attributes_released table actor k old other = elim (cases_eq other actor) [
  | inl is ↦ subst (HasSo k) (sym (after_remove table actor other ∙ ap (λ b. cond b None (lock_at table other)) (eq-eqb other actor is))) tt
  | inr apart ↦ subst (HasSo k) (sym (after_remove table actor other ∙ ap (λ b. cond b None (lock_at table other)) (ne_eqb other actor apart))) (old other)
]

both : (s t : Bool) → ¬ (IsTrue (not (s && t))) → IsTrue s × IsTrue t
both true true apart = (refl, refl)
both true false apart = absurd (apart refl)
both false t apart = absurd (apart refl)

-- locks that meet and don't exclude each other are shared
pub both_shared : (lock held : BoxLock) → ¬ (Excludes lock held) → Meets lock.area held.area → IsTrue lock.shared × IsTrue held.shared
both_shared lock held apart meets = both lock.shared held.shared (λ alone. apart (record { meets = meets; alone = alone }))
