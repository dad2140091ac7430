use Rattle.std.proofs.Common.{◌+◌, ◌++◌, get_or, arith, ◌∙◌}
use Rattle.std.proofs.lemmas.Bool.{false≢true}
use Rattle.hb_lemmas.proofs.Options.{ok_not_err}
use Rattle.hb_outside.proofs.Facts.PutLaws.{Appends-both, Appends-front}
use Rattle.hb_map.specs.Map.{page_text}
use Rattle.hb_map.proofs.Looks.{looks_on}
use Rattle.hb_map.proofs.Texts.{longer_front, stopped}
use Rattle.hb_map.proofs.WholeMaps.{page_behind, page_next}
use Rattle.hb_map.proofs.mapping.put_pages.Goals as goal

pub returns-in_err-put_page-clause-pages : goal.returns-in_err-put_page-clause-pages
returns-in_err-put_page-clause-pages g c durable later keeps sound counted =
    let inv = c.loop-place.invariant in
    let there = c.in_ok-page.ensures.page durable later (inv.through.looks.keeps durable later keeps) sound in
    stopped _ _ _ _ c.from_residual-in_err-put_page.ensures.0
    (longer_front _ _ _ inv.so_far.0 _ _ _ (page_next _ c.loop-place.place c.in_ok-page.page c.args.parents.now inv.so_far.0 there counted (omega arith) (inv.so_far.2 durable later keeps sound counted)) inv.so_far.1 c.in_err-put_page.ensures.tried)

pub returns-in_err-put_page-clause-some : goal.returns-in_err-put_page-clause-some
returns-in_err-put_page-clause-some g c =
    let inv = c.loop-place.invariant in
    let text = page_text (c.loop-place.place + 1) (get_or c.args.parents.now c.loop-place.place 0) c.in_ok-page.page in
    (inv.so_far.0 ++ text, stopped _ _ _ _ c.from_residual-in_err-put_page.ensures.0 (Appends-front _ _ _ inv.so_far.0 text inv.so_far.1 c.in_err-put_page.ensures.tried))

pub loop-place-preserved : goal.loop-place-preserved
loop-place-preserved g c =
    let inv = c.loop-place.invariant in
    let text = page_text (c.loop-place.place + 1) (get_or c.args.parents.now c.loop-place.place 0) c.in_ok-page.page in
    record {
      through = looks_on _ _ _ _ _ _ (λ is. ok_not_err _ _ is) inv.through c.in_ok-page.ensures.reads.through;
      high = inv.high;
      few = inv.few;
      faults = c.in_ok-put_page.ensures.counts.no_fault (λ e. false≢true e) ∙ inv.faults;
      so_far = (
        inv.so_far.0 ++ text,
        Appends-both _ _ _ inv.so_far.0 text inv.so_far.1 c.in_ok-put_page.ensures.done,
        λ durable later keeps sound counted.
            page_behind _ c.loop-place.place c.in_ok-page.page c.args.parents.now inv.so_far.0 (c.in_ok-page.ensures.page durable later (inv.through.looks.keeps durable later keeps) sound) counted (omega arith)
            (inv.so_far.2 durable later keeps sound counted),
      );
    }
