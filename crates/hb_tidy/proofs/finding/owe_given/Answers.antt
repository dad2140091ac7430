use Rattle.std.proofs.Common.{ℕ, List, sym, subst}
use Rattle.hb_lemmas.proofs.Options.{not_none, some_value}
use Rattle.hb_space.specs.Boxes.{Holds, Meets}
use Rattle.hb_space.proofs.Facts.Boxes.{lo_held}
use Rattle.hb_tidy.proofs.OwedJobs.{added_none, postings_weaker}
use Rattle.hb_tidy.proofs.PlacedLeaves.{common_attributes}
use Rattle.hb_tidy.proofs.finding.owe_given.Goals as goal

pub common-requires : goal.common-requires
common-requires c = common_attributes c.args.leaf.now.meta.now c.args.leaf.now.parent.now c.args.leaf.now.area.now c.args.leaf.now.child.now c.args.given.now c.requires

pub owe_posting-requires : goal.owe_posting-requires
owe_posting-requires c =
    let corner = (c.in-Some.ensures.points c.in-Some.common.lo).0 (lo_held c.in-Some.common c.lo.ensures.area) in
    record {
      name = c.requires.name;
      stands = c.requires.stands;
      held = subst (λ (p : List ℕ). Holds c.args.leaf.now.area.now p) (sym c.lo.ensures.value) corner.0;
      inner = (c.requires.inner, c.args.given.now);
      given = c.requires.listed;
      inside = subst (λ (p : List ℕ). Holds c.args.given.now p) (sym c.lo.ensures.value) corner.1;
    }

pub returns-in-Some : goal.returns-in-Some
returns-in-Some c = postings_weaker c.owe_posting.result c.args.leaf.now.meta.now c.args.leaf.now.parent.now c.args.leaf.now.child.now c.args.leaf.now.area.now ⊥ (¬ (Meets c.args.leaf.now.area.now c.args.given.now)) c.args.jobs.now.items c.owe_posting.new.jobs.items (λ never. absurd never) c.owe_posting.ensures

pub returns-in-None : goal.returns-in-None
returns-in-None c = record {
  added = added_none c.args.leaf.now.meta.now.k _ c.args.jobs.now.items;
  none = λ empty. (empty, λ meets. let some = some_value c.common.result (c.common.ensures.meets.1 meets) in not_none c.common.result some.0 some.1 c.in-None.is);
  full = tt;
}
