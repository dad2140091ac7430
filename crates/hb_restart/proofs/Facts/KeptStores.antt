-- What a store keeps that a recovery gave.
use Rattle.std.proofs.Common.{ℕ, [], IfSome}
use Rattle.hb_disk.specs.Model.{DiskModel}
use Rattle.hb_lemmas.proofs.Options.{at_value, has_value, if_value, some_value}
use Rattle.hb_ops.specs.Files.{FileState}
use Rattle.hb_ops.specs.Sound.{IsSound}
use Rattle.hb_restart.specs.Leaving.{OpensStore, RunsThrough}
use Rattle.hb_store.specs.Keeps.{StoreKeeps}
use Rattle.hb_store.specs.States.{StoreState}

-- where the disk tells, it keeps a sound file
pub kept_of : (d m : DiskModel) (store : StoreState) (count : ℕ) → OpensStore d m store count → RunsThrough store.meta.high d m → IfSome m.told (λ b. (s : FileState) × IsSound s × StoreKeeps m store s [])
kept_of d m store count opens through = if_value m.told _ (λ b is.
    let from = some_value d.told (through.silent (has_value m.told b is)) in
    let found = at_value d.told _ from.0 from.1 opens.file in
    (found.0, found.2, found.4))
