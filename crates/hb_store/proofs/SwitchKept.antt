-- A store begins its next turn: from what it keeps of the disk before, and to what it keeps then.
use Rattle.std.proofs.Common.{◌≡◌, ℕ, ◌+◌, ◌*◌, ◌-◌, ◌≤◌, take, drop, Bool, false, [], refl, sym, subst}
use Rattle.std.specs.Ordering.{nat_cmp}
use Rattle.std.specs.FinSet as set
use Rattle.hb_disk.specs.Model.{DiskModel, IsDisk}
use Rattle.hb_lemmas.proofs.Options.{some_value}
use Rattle.hb_frag.specs.Grammar.{SpellsPage}
use Rattle.hb_layout.specs.Offsets.{file_size, log_start}
use Rattle.hb_ops.specs.Files.{FileState}
use Rattle.hb_super.specs.Superblocks.{next_turn}
use Rattle.hb_super.proofs.Facts.BodyLaws.{HasNoBody-hides}
use Rattle.hb_store.specs.Keeps.{IsFresh, StoreKeeps}
use Rattle.hb_store.specs.Parts.{IsDurable, written_pages}
use Rattle.hb_store.specs.States.{IsMemory, StoreState, is_dirty}
use Rattle.hb_store.specs.Switching.{switched_state}
use Rattle.hb_store.specs.Turning.{MayTurn}
use Rattle.hb_store.proofs.Facts.StoreLaws.{StoreKeeps-by}
use Rattle.hb_store.proofs.Openings.{fresh_keeps}

module _ (d : DiskModel) (st : StoreState) (is : IsMemory st) (going : st.stopped ≡ false) (clean : (id : ℕ) → is_dirty st id ≡ false) (durable : FileState) (keeps : StoreKeeps d st durable []) where
  -- where no page is dirty the next turn may begin
  pub may_turn : MayTurn d st.turn keeps.parts.said st.meta (written_pages keeps.parts).page durable
  may_turn = record {
    placed = record {
      here = record {
        told = keeps.disk.told;
        images = λ c image. record {
          layout = keeps.memory.layout;
          meta_is = keeps.memory.meta_is;
          payloads = keeps.parts.payloads;
          groups = keeps.parts.written;
          by = StoreKeeps-by d st durable [] keeps going c image;
          touched_is = λ id. refl;
        };
        places = (keeps.disk.running going).places;
      };
      there = λ id page most has b told.
          let S : ℕ → Type 0 = λ n. SpellsPage (take 4096 (drop (8192 + 2 * n + 4096 * (id - 1)) b)) page in
          subst S (sym keeps.memory.layout.log) (keeps.memory.placed id page b (clean id) has told);
    };
    hides = λ b told. HasNoBody-hides b (next_turn st.turn) st.meta ((keeps.disk.running going).no_body b told);
  }

  -- and once it has begun the store keeps the same file, and the pages that it has in memory
  pub keeps_switched : (e : DiskModel) → IsDisk e → file_size st.meta ≤ e.size → IsFresh e (next_turn st.turn) st.meta durable → StoreKeeps e (switched_state st) durable []
  keeps_switched e is_e room fresh =
      let told = some_value e.told fresh.told in
      let k = fresh_keeps e is_e (next_turn st.turn) st.meta durable fresh room told.0 told.1 in
      let L : ℕ → Type 0 = λ n. IsDurable e (next_turn st.turn) (record { area = log_start (next_turn st.turn) st.meta; len = n; written = 0; groups = [] }) false k.parts durable [] in
      let B : Bool → Type 0 = λ b. IsDurable e (next_turn st.turn) (switched_state st).log b k.parts durable [] in
      record {
        parts = k.parts;
        disk = subst B (sym going) (subst L (sym is.len) k.disk);
        waits = k.waits;
        in_log = k.in_log;
        memory = record {
          layout = k.memory.layout;
          meta_is = k.memory.meta_is;
          cached = keeps.memory.cached;
          placed = λ id page b off has told. k.memory.placed id page b (set.contains-empty nat_cmp id) has told;
        };
      }
