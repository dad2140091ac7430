use Rattle.hb_store.proofs.Facts.MadePages.{fitting_parts, good_pages}
use Rattle.hb_store.proofs.Facts.MadeMerges.{writable_pages}
use Rattle.hb_store.proofs.Facts.Changed.{good_change, parts_fit}
use Rattle.hb_store.proofs.Facts.StayingLaws.{Commits-there}
use Rattle.hb_store.proofs.making.what_is_made_can_be_written.Goals as goal

pub returns-clause-pages : goal.returns-clause-pages
returns-clause-pages c =
    good_pages c.parts_are_stretches.ensures.cuts c.page_within_capacity_has_spelling.ensures.live c.page_within_capacity_has_spelling.ensures.free c.whole_space_holds_every_point.ensures.area c.changed_pages_are_well_made.ensures

pub returns-clause-writable : goal.returns-clause-writable
returns-clause-writable c = writable_pages c.normal_says_the_same.ensures.same c.page_within_capacity_has_spelling.ensures.live c.page_within_capacity_has_spelling.ensures.free (returns-clause-pages c)

pub returns-clause-parts : goal.returns-clause-parts
returns-clause-parts c = fitting_parts c.parts_are_stretches.ensures.cuts

pub returns-clause-operations : goal.returns-clause-operations
returns-clause-operations c = record { changes = good_change (returns-clause-pages c); fits = parts_fit (returns-clause-parts c); commits = Commits-there }
