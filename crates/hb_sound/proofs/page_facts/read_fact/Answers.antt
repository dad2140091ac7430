use Rattle.std.proofs.Common.{Option, refl, subst}
use Rattle.hb_frag.specs.declared.pages.Page.{Page}
use Rattle.hb_sound.specs.Told.{GivesPage}
use Rattle.hb_sound.proofs.ToldPages.{told_hole, told_so, told_there}
use Rattle.hb_sound.proofs.page_facts.read_fact.Goals as goal
use Rattle.hb_sound.specs.Facts.{IsFactOf}
use Rattle.hb_sound.specs.Links.{Knows}

pub returns-in-Some-clause-fact : goal.returns-in-Some-clause-fact
returns-in-Some-clause-fact g c =
    let Q : Option Page → Type 0 = λ p. GivesPage (g.P.Pages.model c.args.pages.now).told c.args.id p in
    told_so (IsFactOf c.args.meta.now c.fact_of.result) (g.P.Pages.model c.args.pages.now).told c.args.id c.in-Some.page (subst Q c.in-Some.is c.in_ok-page.ensures.gives) c.fact_of.ensures.fact

pub returns-in-Some-clause-there : goal.returns-in-Some-clause-there
returns-in-Some-clause-there g c =
    let Q : Option Page → Type 0 = λ p. GivesPage (g.P.Pages.model c.args.pages.now).told c.args.id p in
    (c.if-id-meta.false, told_there (g.P.Pages.model c.args.pages.now).told c.args.id c.in-Some.page (subst Q c.in-Some.is c.in_ok-page.ensures.gives))

pub returns-in-None-clause-hole : goal.returns-in-None-clause-hole
returns-in-None-clause-hole g c =
    let Q : Option Page → Type 0 = λ p. GivesPage (g.P.Pages.model c.args.pages.now).told c.args.id p in
    (refl, refl, told_hole (g.P.Pages.model c.args.pages.now).told c.args.id c.args.meta.now.pages c.requires.some (subst Q c.in-None.is c.in_ok-page.ensures.gives))

pub returns-in-Some-clause-knows : goal.returns-in-Some-clause-knows
returns-in-Some-clause-knows g c =
    let Q : Option Page → Type 0 = λ p. GivesPage (g.P.Pages.model c.args.pages.now).told c.args.id p in
    told_so (Knows c.args.facts.now c.fact_of.result) (g.P.Pages.model c.args.pages.now).told c.args.id c.in-Some.page (subst Q c.in-Some.is c.in_ok-page.ensures.gives) c.fact_of.ensures.knows
