use Rattle.std.proofs.Common.{refl}
use Rattle.hb_sound.proofs.RestSteps.{nothing_told}
use Rattle.hb_sound.proofs.links.Links.read_seen.Goals as goal

pub returns-in-Nothing-clause-links : goal.returns-in-Nothing-clause-links
returns-in-Nothing-clause-links g c = record {
  adds = nothing_told (g.P.Pages.model c.args.pages.now).told c.args.facts.now c.args.seen.now c.args.id c.args.self.now c.in-Nothing.is;
  never = tt;
  same = refl;
}
