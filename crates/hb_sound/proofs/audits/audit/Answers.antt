use Rattle.std.proofs.lemmas.Result.{err_from_is_err_and}
use Rattle.hb_sound.proofs.WholeAudit.{all_kept, late_named, never_stops}
use Rattle.hb_sound.proofs.audits.audit.Goals as goal

pub returns-in_err-links-clause-names : goal.returns-in_err-links-clause-names
returns-in_err-links-clause-names g c =
    let p = err_from_is_err_and c.from_residual-in_err-links.result c.from_residual-in_err-links.ensures.1 in
    rw (p.1, p.2)
    (never_stops c.args.meta.now c.in_ok-list.list.items (rw (c.deref.ensures.value) at (c.in_ok-test_pages.ensures.keeps)) (g.P.Pages.model c.args.pages.now).told c.in_err-links.field-0.0
    c.in_ok-list.ensures.facts (rw (c.deref.ensures.value, c.in_ok-list.ensures.asks.stays) at (c.in_err-links.ensures.never)))

pub returns-in_err-test_links-clause-names : goal.returns-in_err-test_links-clause-names
returns-in_err-test_links-clause-names g c =
    let p = err_from_is_err_and c.from_residual-in_err-test_links.result c.from_residual-in_err-test_links.ensures.1 in
    rw (p.1, p.2)
    (late_named c.args.meta.now c.in_ok-list.list.items (rw (c.deref.ensures.value) at (c.in_ok-test_pages.ensures.keeps)) c.in_ok-links.links (g.P.Pages.model c.args.pages.now).told c.in_err-test_links.field-0.0
    c.in_ok-list.ensures.facts (rw (c.deref.ensures.value, c.in_ok-list.ensures.asks.stays) at (c.in_ok-links.ensures.links)) (rw (c.deref.ensures.value) at (c.in_err-test_links.ensures.names)))

pub returns-clause-sound : goal.returns-clause-sound
returns-clause-sound g c =
    all_kept c.args.meta.now c.in_ok-list.list.items (rw (c.deref.ensures.value) at (c.in_ok-test_pages.ensures.keeps)) c.in_ok-links.links (g.P.Pages.model c.args.pages.now).told c.count_records.result
    (rw (c.deref.ensures.value) at (c.count_records.ensures)) c.in_ok-list.ensures.facts (rw (c.deref.ensures.value, c.in_ok-list.ensures.asks.stays) at (c.in_ok-links.ensures.links)) (rw (c.deref.ensures.value) at (c.in_ok-test_links.ensures.sound))
