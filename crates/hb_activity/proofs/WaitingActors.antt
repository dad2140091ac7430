-- Who waits for whom.
use Rattle.std.proofs.Common.{◌≡◌, ℕ, Option, Some}
use Rattle.hb_latch.specs.Tables.{HeldModes, IsGrantable, IsLeastInTheWay}
use Rattle.hb_latch.proofs.Facts.InTheWay.{nobody_keeps}
use Rattle.hb_activity.specs.declared.wanting.Wanted.{Wanted}
use Rattle.hb_activity.specs.Waiting.{WaitsFor}

pub named_awaited : (modes : HeldModes) (wants : ℕ → Option Wanted) (actor other : ℕ) (wanted : Wanted) → wants actor ≡ Some wanted → IsLeastInTheWay modes actor wanted.page wanted.mode other → WaitsFor modes wants actor other
named_awaited modes wants actor other wanted is least = record { wanted = wanted; wants_it = is; kept = least.keeps }

pub none_awaited : (modes : HeldModes) (wants : ℕ → Option Wanted) (actor : ℕ) (wanted : Wanted) → wants actor ≡ Some wanted → ((other : ℕ) → ¬ (WaitsFor modes wants actor other)) → IsGrantable modes actor wanted.page wanted.mode
none_awaited modes wants actor wanted is nobody = nobody_keeps modes actor wanted.page wanted.mode (λ other keeps. nobody other (record { wanted = wanted; wants_it = is; kept = keeps }))
