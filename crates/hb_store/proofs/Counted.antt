-- The file that a store keeps has a page for each number up to its highest page.
use Rattle.std.proofs.Common.{List, [], ◌∷◌, sym, ap, subst, ◌∙◌}
use Rattle.hb_disk.specs.Model.{DiskModel, IsDisk}
use Rattle.hb_lemmas.proofs.Options.{some_value}
use Rattle.hb_layout.specs.declared.meta.Meta.{Meta}
use Rattle.hb_ops.specs.Files.{FileState, last_of}
use Rattle.hb_log_codec.specs.Groups.{Logged}
use Rattle.hb_store.specs.Replay.{Replayed, after_group}
use Rattle.hb_store.specs.States.{StoreState}
use Rattle.hb_store.specs.Keeps.{StoreKeeps}
use Rattle.hb_store.specs.Parts.{Leads, written_pages}
use Rattle.hb_store.proofs.Counting.{HasCount, effect_count}

leads_count : (t : Replayed) (s : FileState) (gs : List Logged) (later : List FileState) → Leads t s gs later → HasCount s → HasCount (last_of s later)
leads_count t s [] later leads count = subst (λ l. HasCount (last_of s l)) (sym leads) count
leads_count t s (g ∷ rest) [] leads count = absurd leads
leads_count t s (g ∷ rest) (next ∷ later) leads count =
    leads_count (after_group t g) next rest later leads.5 (subst HasCount (sym leads.4) (effect_count s g.op count leads.2))

pub store_count : (d : DiskModel) (st : StoreState) (durable : FileState) (later : List FileState) → IsDisk d → StoreKeeps d st durable later → HasCount (last_of durable later)
store_count d st durable later disk keeps =
    let b = some_value d.told keeps.disk.told in
    let shows = keeps.disk.shows b.0 (disk.as_read b.0 b.1) in
    leads_count (written_pages keeps.parts) durable keeps.parts.waiting later keeps.waits.leads (shows.count ∙ ap (λ (m : Meta). m.high) (sym shows.meta))
