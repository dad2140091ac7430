use Rattle.std.proofs.Common.{ℕ, List, [], sym, subst}
use Rattle.hb_store.specs.Seen.{disk_of, held_by}
use Rattle.hb_map.specs.Mapping.{AreParents, OfSoundFile}
use Rattle.hb_map.proofs.Texts.{none_put, stopped}
use Rattle.hb_map.proofs.WholeMaps.{begins_failed, begins_map, head_failed, whole_map}
use Rattle.hb_map.proofs.mapping.put_map.Goals as goal

pub returns-in_err-parents-clause-map : goal.returns-in_err-parents-clause-map
returns-in_err-parents-clause-map g c = λ durable later keeps sound. stopped _ _ _ _ c.from_residual.ensures.0 (none_put _ _)

pub returns-in_err-parents-clause-begins : goal.returns-in_err-parents-clause-begins
returns-in_err-parents-clause-begins g c = ([], stopped _ _ _ _ c.from_residual.ensures.0 (none_put _ _))

pub returns-in_err-put_head-clause-map : goal.returns-in_err-put_head-clause-map
returns-in_err-put_head-clause-map g c =
    head_failed (g.D.Device.model (disk_of c.args.store.now)) (g.D.Device.model (disk_of c.count_parents.new.store)) (held_by c.args.store.now) (held_by c.count_parents.new.store) c.meta.result.now c.in_ok-parents.ensures.reads.through c.meta.ensures.meta _ _ _ c.from_residual-in_err-put_head.ensures.0 c.in_err-put_head.ensures.tried

pub returns-in_err-put_head-clause-begins : goal.returns-in_err-put_head-clause-begins
returns-in_err-put_head-clause-begins g c =
    begins_failed (g.D.Device.model (disk_of c.args.store.now)) (g.D.Device.model (disk_of c.count_parents.new.store)) (held_by c.args.store.now) (held_by c.count_parents.new.store) c.meta.result.now c.in_ok-parents.ensures.reads.through c.meta.ensures.meta _ _ _ c.from_residual-in_err-put_head.ensures.0 c.in_err-put_head.ensures.tried

pub returns-clause-map : goal.returns-clause-map
returns-clause-map g c =
    whole_map (g.D.Device.model (disk_of c.args.store.now)) (g.D.Device.model (disk_of c.count_parents.new.store)) (held_by c.args.store.now) (held_by c.count_parents.new.store) c.meta.result.now c.in_ok-parents.ensures.reads.through c.meta.ensures.meta c.put_pages.result c.deref.result.now _ _ _
    (subst (λ (items : List ℕ). OfSoundFile (g.D.Device.model (disk_of c.args.store.now)) (held_by c.args.store.now) (λ s. AreParents s items)) (sym c.deref.ensures.value) c.in_ok-parents.ensures.parents) c.in_ok-put_head.ensures.done c.put_pages.ensures.pages

pub returns-clause-begins : goal.returns-clause-begins
returns-clause-begins g c =
    begins_map (g.D.Device.model (disk_of c.args.store.now)) (g.D.Device.model (disk_of c.count_parents.new.store)) (held_by c.args.store.now) (held_by c.count_parents.new.store) c.meta.result.now c.in_ok-parents.ensures.reads.through c.meta.ensures.meta c.put_pages.result _ _ _ c.in_ok-put_head.ensures.done c.put_pages.ensures.some
