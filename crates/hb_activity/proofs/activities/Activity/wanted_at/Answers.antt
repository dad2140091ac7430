use Rattle.std.proofs.Common.{◌≡◌, ℕ, List, Some, inl, inr, sym, ap, subst, ◌∙◌}
use Rattle.hb_latch.specs.declared.modes.Mode.TheVariants.{Shared}
use Rattle.hb_ops.specs.Files.{if_live}
use Rattle.hb_activity.specs.declared.activities.Activity.{Activity}
use Rattle.hb_activity.specs.Seen.{view_at}
use Rattle.hb_activity.specs.Wanting.{in_mode, looked_at, wanted_of}
use Rattle.hb_activity.proofs.activities.Activity.wanted_at.Goals as goal

pub returns-in_ok-child-in-PosterChild : goal.returns-in_ok-child-in-PosterChild
returns-in_ok-child-in-PosterChild c =
    let wants = λ (activity : Activity). Some c.latch_wanted-in-PosterChild.result ≡ wanted_of activity c.args.meta.now (if_live c.args.page) in
    let sees = λ (activity : Activity). c.args.leaf ≡ view_at (if_live c.args.page) (looked_at activity) in
    let at = λ (p : List ℕ) (seen : c.args.leaf ≡ view_at (if_live c.args.page) (Some p)). ap Some c.latch_wanted-in-PosterChild.ensures ∙ ap (in_mode (λ (level : ℕ). Shared)) (sym c.in_ok-child-in-PosterChild.was ∙ c.child_at.ensures p seen) in
    elim c.in-PosterChild.is [
      | inl (job, parent, is) ↦ subst wants (sym is) (at job.point (subst sees is c.requires.seen))
      | inr (job, parent, is) ↦ subst wants (sym is) (at job.point (subst sees is c.requires.seen))
    ]
