-- What is held in memory, as contracts see it.
use Rattle.std.proofs.Common.{◌≡◌, ℕ, List, [], map, false}
use Rattle.std.specs.Ordering.{nat_cmp}
use Rattle.std.specs.FinMap as finite
use Rattle.std.specs.FinSet as set
use Rattle.hb_layout.specs.declared.meta.Meta.{Meta}
use Rattle.hb_ops.specs.declared.operations.Op.{Op}
use Rattle.hb_ops.specs.Operations.{reads_of}
use Rattle.hb_wal.specs.Log.{LogState}
use Rattle.hb_log_codec.specs.Groups.{Logged}
use Rattle.hb_pool.specs.Frames.{Frame, use_of}
use Rattle.hb_store.specs.Filling.{in_frame}
use Rattle.hb_store.specs.Held.{StoreHeld}
use Rattle.hb_store.specs.Inside.{dirty_in, pages_in}
use Rattle.hb_store.specs.Making.{group_here, page_images_needed}
use Rattle.hb_store.specs.States.{StoreState, in_memory, new_state}
use Rattle.hb_store.proofs.Framed.{held_of}

-- a group by what is held is that by what is seen
pub group_seen : (pool : List (Frame (List ℕ))) (s : set.FinSet nat_cmp) (st : StoreState) → ((q : ℕ) → in_frame pool q ≡ in_memory st q) → s ≡ st.in_log → (op : Op)
    → ◌≡◌ {A = Logged} (record { images = page_images_needed (in_frame pool) (set.contains s) (reads_of op); op = op }) (group_here st op)
group_seen pool s st pages in_log op = λ i. record {
  images = page_images_needed (λ q. pages q i) (set.contains (in_log i)) (reads_of op);
  op = op;
}

-- nothing is held
pub nothing_seen : (turn : ℕ) (meta : Meta) (log : LogState) (pool : List (Frame (List ℕ))) (s : set.FinSet nat_cmp) → log ≡ (new_state turn meta).log → pool ≡ [] → s ≡ set.empty
    → ◌≡◌ {A = StoreHeld} (held_of turn meta log pool s false) (record { state = new_state turn meta; uses = [] })
nothing_seen turn meta log pool s log_is pages in_log = λ i. record {
  state = record { turn = turn; meta = meta; log = log_is i; pages = finite.from_entries (pages_in (pages i)); in_log = in_log i; dirty = set.from_list (dirty_in (pages i)); stopped = false };
  uses = map use_of (pages i);
}
