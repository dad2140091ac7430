use Rattle.std.proofs.Common.{◌≡◌, Ok, Err, ap, refl, subst, sym}
use Rattle.hb_frag.specs.declared.pages.Page.{Page}
use Rattle.hb_store.specs.Seen.{disk_of, held_by, seen_as, uses_of}
use Rattle.hb_map.specs.declared.stops.MapStop.{MapStop}
use Rattle.hb_map.specs.declared.stops.MapStop.TheVariants as stops
use Rattle.hb_map.specs.Mapping.{Reads, map_stop_of}
use Rattle.hb_map.proofs.Facts.Going.{not_crowded}
use Rattle.hb_map.proofs.Readings.{fetched_through, kept_through, memory_rightly, not_of_sink, not_sink_fault, not_stopped_by, of_the_file, stops_rightly}
use Rattle.hb_map.proofs.pages.read_page.Goals as goal

pub copy_page-requires : goal.copy_page-requires
copy_page-requires g c = c.in-Ok.ensures.fetched.there

pub returns-in-Ok-clause-reads : goal.returns-in-Ok-clause-reads
returns-in-Ok-clause-reads g c = record {
  through =
      fetched_through c.copy_page.result (Ok (tt {0})) (g.D.Device.model (disk_of c.args.store.now)) (g.D.Device.model (disk_of c.fetch.new.self)) (held_by c.args.store.now) (held_by c.fetch.new.self) c.args.id refl
      c.copy_page.ensures.memory c.requires.may_go c.in-Ok.ensures.looks c.in-Ok.ensures.fetched c.in-Ok.ensures.uses;
  stop = memory_rightly c.copy_page.result (g.D.Device.model (disk_of c.args.store.now)) (held_by c.args.store.now) c.copy_page.ensures.memory;
  silent = not_stopped_by c.copy_page.result stops.SinkFault not_sink_fault c.copy_page.ensures.memory;
}

pub returns-in-Ok-clause-page : goal.returns-in-Ok-clause-page
returns-in-Ok-clause-page g c =
    of_the_file c.copy_page.result (g.D.Device.model (disk_of c.args.store.now)) (g.D.Device.model (disk_of c.fetch.new.self)) (held_by c.args.store.now) (held_by c.fetch.new.self) c.args.id c.in-Ok.ensures.looks c.copy_page.ensures.page

pub stop_of-requires : goal.stop_of-requires
stop_of-requires g c = λ is. not_crowded c.args.id (seen_as c.args.store.now) (uses_of c.args.store.now) c.requires.may_go (c.in-Err.ensures.crowded.0 (ap Err is))

pub returns-in-Err-clause-reads : goal.returns-in-Err-clause-reads
returns-in-Err-clause-reads g c =
    let D = g.D.Device.model (disk_of c.args.store.now) in
    let E = g.D.Device.model (disk_of c.fetch.new.self) in
    subst (λ (s : MapStop). Reads {T = Page} (Err s) D E (held_by c.args.store.now) (held_by c.fetch.new.self)) (sym c.stop_of.ensures) (record {
      through = kept_through c.in-Err.stop _ _ (held_by c.args.store.now) (held_by c.fetch.new.self)
          (λ is. not_crowded c.args.id (seen_as c.args.store.now) (uses_of c.args.store.now) c.requires.may_go (c.in-Err.ensures.crowded.0 (ap Err is)))
          c.requires.may_go c.in-Err.ensures.looks c.in-Err.ensures.kept.0 c.in-Err.ensures.kept.1;
      stop = stops_rightly D (held_by c.args.store.now) c.args.id c.in-Err.stop c.requires.page c.in-Err.ensures.why c.in-Err.ensures.sound;
      silent = λ is. not_of_sink c.in-Err.stop (let same : map_stop_of c.in-Err.stop ≡ stops.SinkFault = cc (is) in same);
    })
