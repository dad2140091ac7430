-- What a store keeps of a disk it keeps of one that stays as that.
use Rattle.std.proofs.Common.{◌≡◌, ℕ, ◌-◌, ◌++◌, List, Option, sym, ◌∙◌, subst}
use Rattle.std.specs.Prelude.{replicate, IfSome, IsSome}
use Rattle.hb_disk.specs.Calls.{IsSynced}
use Rattle.hb_disk.specs.Model.{DiskModel, Stays}
use Rattle.hb_ops.specs.Files.{FileState}
use Rattle.hb_space.specs.declared.form.TheConstants.{PAGE}
use Rattle.hb_store.specs.Keeps.{StoreKeeps}
use Rattle.hb_store.specs.States.{StoreState}
use Rattle.hb_wal.specs.Frames.{frames, range}

synced_read : (d e : DiskModel) (at n : ℕ) → Stays d e → IsSynced d at n → IsSynced e at n
synced_read d e at n stays s = record { each = λ b c told image. s.each b c (sym stays.told ∙ told) (stays.image c image) }

pub keeps_read : (d e : DiskModel) (st : StoreState) (durable : FileState) (later : List FileState) → Stays d e → StoreKeeps d st durable later → StoreKeeps e st durable later
keeps_read d e st durable later stays k = record {
  parts = k.parts;
  disk = record {
    told = subst (λ (t : Option (List ℕ)). IsSome t) (sym stays.told) k.disk.told;
    count = k.disk.count;
    images = λ c image. k.disk.images c (stays.image c image);
    shows = λ c image. k.disk.shows c (stays.image c image);
    running = λ r. let run = k.disk.running r in record {
      places = synced_read d e 0 8192 stays run.places;
      no_body = λ b told. run.no_body b (sym stays.told ∙ told);
      logged = record {
        synced = synced_read d e st.log.area st.log.len stays run.logged.synced;
        payloads_fit = run.logged.payloads_fit;
        count = run.logged.count;
        reads = subst (λ (t : Option (List ℕ)). IfSome t (λ b. range st.log.area st.log.len b ≡ frames k.parts.payloads ++ replicate (st.log.len - st.log.written) 0)) (sym stays.told) run.logged.reads;
      };
    };
    kept = (synced_read d e _ PAGE stays k.disk.kept.0, synced_read d e st.log.area st.log.written stays k.disk.kept.1);
  };
  waits = k.waits;
  in_log = record { touched = k.in_log.touched; synced = λ id page none found c image. k.in_log.synced id page none found c (stays.image c image) };
  memory = record {
    layout = k.memory.layout;
    meta_is = k.memory.meta_is;
    cached = k.memory.cached;
    placed = λ id page b none found told. k.memory.placed id page b none found (sym stays.told ∙ told);
  };
}
