use Rattle.std.proofs.Common.{◌+◌, ap, option_map, refl, sym, ◌∙◌, arith}
use Rattle.std.proofs.lemmas.Result.{on_ok_weaker}
use Rattle.hb_sound.proofs.RestSteps.{free_told, seen_told}
use Rattle.hb_sound.proofs.links.Links.read.Goals as goal

pub returns-in-Some-clause-links : goal.returns-in-Some-clause-links
returns-in-Some-clause-links g c =
    let reads = c.read_seen.ensures.links in
    record {
      adds = on_ok_weaker c.read_seen.result
          (seen_told (g.P.Pages.model c.args.pages.now).told c.args.facts.now.list.now c.in-Some.seen.now (c.args.place + 1) c.args.self.now c.read_seen.new.self (sym c.seen_in.ensures ∙ ap (option_map (λ seen. seen.now)) c.in-Some.is))
          reads.adds;
      never = reads.never;
      same = reads.same;
    }

pub returns-in-None-clause-links : goal.returns-in-None-clause-links
returns-in-None-clause-links g c = record {
  adds = free_told (g.P.Pages.model c.args.pages.now).told c.args.facts.now.list.now (c.args.place + 1) c.args.self.now (omega arith) (omega (arith, c.requires)) (sym c.seen_in.ensures ∙ ap (option_map (λ seen. seen.now)) c.in-None.is);
  never = tt;
  same = refl;
}
