use Rattle.std.proofs.lemmas.Result.{IfOk-weaker}
use Rattle.hb_lemmas.proofs.Options.{on_err}
use Rattle.hb_core.specs.CoreSeen.{core_disk, core_seen}
use Rattle.hb_core.proofs.Running.Postings.{asks_number, makes_to_post, number_decodes, number_said}
use Rattle.hb_core.proofs.state.Core.needs_number.Goals as goal

pub makes_page-requires : goal.makes_page-requires
makes_page-requires g c =
    let m = c.requires.come.0 in
    asks_number m (g.D.Device.model (core_disk c.args.self.now)) (core_seen c.args.self.now) c.args.actor c.requires.actor c.requires.come.1 c.activity-activity.result.now c.activity-activity.ensures
    (makes_to_post c.activity-activity.result.now c.in-PosterGrow.is) c.args.wanted (c.requires.wanted m c.requires.come.1) c.page_of.result c.page_of.ensures

pub returns-in-PosterGrow-clause-needs : goal.returns-in-PosterGrow-clause-needs
returns-in-PosterGrow-clause-needs g c =
    IfOk-weaker c.makes_page.result _ _ (λ makes says m come.
    number_said m (g.D.Device.model (core_disk c.args.self.now)) (core_seen c.args.self.now) c.args.actor c.requires.actor come c.activity-activity.result.now c.activity-activity.ensures
    (makes_to_post c.activity-activity.result.now c.in-PosterGrow.is) c.args.wanted (c.requires.wanted m come) c.page_of.result c.page_of.ensures makes says) c.makes_page.ensures

pub returns-in-PosterGrow-clause-memory : goal.returns-in-PosterGrow-clause-memory
returns-in-PosterGrow-clause-memory g c =
    on_err c.makes_page.result (λ m come.
    number_decodes m (g.D.Device.model (core_disk c.args.self.now)) (core_seen c.args.self.now) c.args.actor c.requires.actor come c.activity-activity.result.now c.activity-activity.ensures
    (makes_to_post c.activity-activity.result.now c.in-PosterGrow.is) c.args.wanted (c.requires.wanted m come) c.page_of.result c.page_of.ensures)
