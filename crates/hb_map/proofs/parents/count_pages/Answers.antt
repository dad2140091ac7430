use Rattle.std.proofs.Common.{◌+◌, arith, sym, ◌∙◌}
use Rattle.hb_lemmas.proofs.Options.{ok_not_err}
use Rattle.hb_store.specs.Seen.{disk_of, held_by}
use Rattle.hb_ops.specs.Files.{last_of}
use Rattle.hb_map.specs.Map.{is_parent}
use Rattle.hb_map.proofs.Countings.{all_counted, as_many_pages, counted_on, low_on}
use Rattle.hb_map.proofs.Looks.{looks_on}
use Rattle.hb_map.proofs.parents.count_pages.Goals as goal

pub loop-place-preserved : goal.loop-place-preserved
loop-place-preserved g c =
    let inv = c.loop-place.invariant in
    record {
      through = looks_on _ _ _ _ _ _ (λ is. ok_not_err _ _ is) inv.through c.in_ok-page.ensures.reads.through;
      high = inv.high;
      few = inv.few;
      long = c.count_page.ensures.long ∙ inv.long;
      low = low_on c.loop-place.parents c.count_page.new.parents c.loop-place.place (λ i. is_parent (i + 1) c.in_ok-page.page) c.count_page.ensures.long c.in_ok-count_page.ensures.counted inv.low;
      counted = λ durable later keeps sound.
          counted_on (last_of durable later) c.loop-place.place _ c.in_ok-page.page c.loop-place.parents c.count_page.new.parents (c.in_ok-page.ensures.page durable later (inv.through.looks.keeps durable later keeps) sound) inv.long c.in_ok-count_page.ensures.counted
          (inv.counted durable later keeps sound);
    }

pub returns-clause-parents : goal.returns-clause-parents
returns-clause-parents g c = λ durable later keeps sound.
    all_counted _ _ c.loop-place.place c.loop-place.parents (as_many_pages (g.D.Device.model (disk_of c.args.store.now)) (held_by c.args.store.now) durable later keeps sound ∙ sym c.loop-place.invariant.high) c.loop-place.invariant.long (omega arith) (c.loop-place.invariant.counted durable later keeps sound)
