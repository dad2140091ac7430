-- What was there as a run began.
use Rattle.std.specs.Prelude.{[], None, false}
use Rattle.std.specs.FinMap as map
use Rattle.std.specs.FinSet as set
use Rattle.hb_core.specs.Showing.{RunningCore}
use Rattle.hb_core.specs.Taking.{begun_core}
use Rattle.hb_disk.specs.Model.{DiskModel}
use Rattle.hb_outside.specs.Calls.{SinkModel}
use Rattle.hb_store.specs.States.{StoreState}

-- the disk, what the core held, and the sink
pub record Beginning : Type 1 where
  pub disk : DiskModel
  pub core : RunningCore
  pub sink : SinkModel

-- What a name stands for that nobody picked: of no core.
abbrev no_disk : DiskModel
no_disk = record { told = None; size = 0; clock = 0; Image = λ b. ⊥; ImageSince = λ t b. ⊥; read_faults = 0; write_faults = 0 }

abbrev no_store : StoreState
no_store = record {
  turn = 0;
  meta = record { k = 0; pages = 0; log = 0; dcap = 0; icap = 0; root = 0; height = 0; high = 0; live = 0; free = 0 };
  log = record { area = 0; len = 0; written = 0; groups = [] };
  pages = map.empty;
  in_log = set.empty;
  dirty = set.empty;
  stopped = false;
}

abbrev pub no_beginning : Beginning
no_beginning = record { disk = no_disk; core = begun_core [] [] no_store []; sink = record { written = None; faults = 0 } }
