-- Where the actors of a core stand, once one of them stands elsewhere.
use Rattle.hb_core.proofs.Running.Names.{◌≡◌, ◌≢◌, ℕ, zero, suc, ◌<◌, ◌-◌, cond, List, [], ◌∷◌, length, slice_set, Some, refl, sym, ap, ◌∙◌, subst, arith, length-map, length-set, Activity, DiskModel, if_same, Entry, IsActor, get-set_same, get-set_other, Machine, with_activity, StandsAs, with_standing, RunningCore, ShowsMachine}
use Rattle.std.proofs.Common.{slice_get}

-- what stands there already stands there
pub set_as_it_was : {X : Type 0} (xs : List X) (n : ℕ) (x : X) → slice_get xs n ≡ Some x → slice_set xs n x ≡ xs
set_as_it_was [] n x is = refl
set_as_it_was (y ∷ xs) zero x is = let same : y ≡ x = cc in ap (λ (z : _). z ∷ xs) (sym same)
set_as_it_was (y ∷ xs) (suc n) x is = ap (λ (l : List _). y ∷ l) (set_as_it_was xs n x is)

place_within : (actor : ℕ) → IsActor actor → actor - 1 < 19
place_within actor may = omega (arith, may.from_1, may.to_19)

-- two actors have two places
pub apart : (actor other : ℕ) → IsActor actor → IsActor other → other ≢ actor → other - 1 ≢ actor - 1
apart actor other may its ne same = ne (omega (arith, may.from_1, its.from_1, same))

-- Every actor stands as the machine says, where it did so but for one that stands elsewhere now.
module _ (activities : List Activity) (of : ℕ → Activity) (actor : ℕ) (before next : Activity) (may : IsActor actor) (all : length (slice_set activities (actor - 1) before) ≡ 19) where
  pub still_all : length (slice_set activities (actor - 1) next) ≡ 19
  still_all = length-set activities (actor - 1) next ∙ sym (length-set activities (actor - 1) before) ∙ all

  within : actor - 1 < length activities
  within = subst (λ (n : ℕ). actor - 1 < n) (sym all ∙ length-set activities (actor - 1) before) (place_within actor may)

  pub stand_then : ((other : ℕ) → IsActor other → slice_get (slice_set activities (actor - 1) before) (other - 1) ≡ Some (of other))
      → (other : ℕ) → IsActor other → slice_get (slice_set activities (actor - 1) next) (other - 1) ≡ Some (with_activity actor next of other)
  stand_then stands other its = if_same other actor (λ b. slice_get (slice_set activities (actor - 1) next) (other - 1) ≡ Some (cond b next (of other)))
      (λ same. ap (λ (n : ℕ). slice_get (slice_set activities (actor - 1) next) (n - 1)) same ∙ get-set_same activities (actor - 1) next within)
      (λ off. get-set_other activities (actor - 1) (other - 1) next (apart actor other may its off) ∙ sym (get-set_other activities (actor - 1) (other - 1) before (apart actor other may its off)) ∙ stands other its)

-- A core that shows a machine stands as it stands.
pub stands_so : (d : DiskModel) (c : RunningCore) (m : Machine) (actor : ℕ) → IsActor actor → ShowsMachine d c m → with_standing actor (m.activity actor) c ≡ c
stands_so d c m actor may shows = ap (λ (l : List Activity). record c { activities = l }) (set_as_it_was c.activities (actor - 1) (m.activity actor) (shows.activities actor may))

pub shows_but : (d : DiskModel) (c : RunningCore) (m : Machine) (actor : ℕ) → IsActor actor → ShowsMachine d c m → ShowsMachine d (with_standing actor (m.activity actor) c) m
shows_but d c m actor may shows = subst (λ (s : RunningCore). ShowsMachine d s m) (sym (stands_so d c m actor may shows)) shows

-- its order is as long
pub shown_length : (d : DiskModel) (c : RunningCore) (m : Machine) → ShowsMachine d c m → length m.order ≡ length c.order
shown_length d c m shows = sym (length-map m.order (λ (e : Entry). e.line.number)) ∙ ap (λ (l : List ℕ). length l) shows.order

-- it is what an activity is that it stands as
pub stands_as : (d : DiskModel) (c : RunningCore) (m : Machine) (actor : ℕ) (activity : Activity) → IsActor actor → ShowsMachine d c m → StandsAs c actor activity → m.activity actor ≡ activity
stands_as d c m actor activity may shows is = let both : Some (m.activity actor) ≡ Some activity = sym (shows.activities actor may) ∙ is in cc
