-- What a core's actor wants once pages came is what it wants in each machine that the core shows.
use Rattle.hb_core.proofs.Running.Names.{◌≡◌, ℕ, sym, ap, ◌∙◌, DiskModel, IsActor, Activity, wanted_by, Brings, MachineKeeps, wanted_in, Machine, StandsAs, RunningCore, ShowsMachine, with_memory}
use Rattle.hb_core.proofs.Running.Looks.{wants_same}
use Rattle.hb_core.proofs.Running.StandsElsewhere.{stands_as}

wants_then : (d : DiskModel) (c : RunningCore) (m : Machine) (actor : ℕ) → IsActor actor → MachineKeeps m → (needs : ℕ → Type 0) → Brings m needs c.store → ShowsMachine d c (with_memory c m)
    → (activity : Activity) → StandsAs c actor activity → wanted_in c.store activity ≡ wanted_by m actor
wants_then d c m actor latches keeps needs brings shows activity stands =
    ap (wanted_in c.store) (sym (stands_as d c (with_memory c m) actor activity latches shows stands))
    ∙ wants_same m actor latches keeps needs c.store brings

-- two machines that a core shows with the pages that came want the same
pub want_alike : (d : DiskModel) (c : RunningCore) (m n : Machine) (actor : ℕ) → IsActor actor → MachineKeeps m → MachineKeeps n → (needs might : ℕ → Type 0)
    → Brings m needs c.store → Brings n might c.store → ShowsMachine d c (with_memory c m) → ShowsMachine d c (with_memory c n) → wanted_by m actor ≡ wanted_by n actor
want_alike d c m n actor latches keeps its needs might brings other shows also =
    let stands = shows.activities actor latches in
    sym (wants_then d c m actor latches keeps needs brings shows (m.activity actor) stands) ∙ wants_then d c n actor latches its might other also (m.activity actor) stands
