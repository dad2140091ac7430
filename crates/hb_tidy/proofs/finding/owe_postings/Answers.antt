use Rattle.std.proofs.Common.{◌≡◌, ℕ, ◌≤◌, List, [], All, length, get_or, arith, rules, sym, subst}
use Rattle.std.specs.List.{Contains}
use Rattle.std.proofs.lemmas.List.{take_all}
use Rattle.hb_lemmas.proofs.Lists.{All-take_more}
use Rattle.hb_space.specs.Boxes.{Area, Meets}
use Rattle.hb_tidy.proofs.JobLists.{none_yet}
use Rattle.hb_tidy.proofs.OwedJobs.{added_none, added_then}
use Rattle.hb_tidy.proofs.finding.owe_postings.Goals as goal

pub owe_given-requires : goal.owe_given-requires
owe_given-requires c =
    let x : ℕ × Area = (c.part-item.result.0, c.part-item.result.1) in
    let is : x ≡ get_or c.args.given.now c.loop-part.part-index x = search rules in
    record {
      name = c.requires.stands.0;
      stands = c.requires.stands.1;
      inner = c.part-item.result.0;
      listed = subst (λ (ls : List (ℕ × Area)). Contains ls x) c.requires.given (c.loop-part.part-index, omega arith, sym is);
    }

pub loop-part-init : goal.loop-part-init
loop-part-init c = record { added = added_none c.args.leaf.now.meta.now.k _ c.args.jobs.now.items; none = λ empty. (empty, none_yet (λ (s : ℕ × Area). ¬ (Meets c.args.leaf.now.area.now s.1)) c.args.given.now) }

pub loop-part-preserved : goal.loop-part-preserved
loop-part-preserved c = record {
  added = added_then c.args.leaf.now.meta.now.k _ c.args.jobs.now.items c.loop-part.jobs.items c.owe_given.new.jobs.items c.loop-part.invariant.added c.in_ok-owe_given.ensures.added;
  none = λ empty.
      let here = c.in_ok-owe_given.ensures.none empty in
      let before = c.loop-part.invariant.none here.0 in
      let x : ℕ × Area = (c.part-item.result.0, c.part-item.result.1) in
      let is : x ≡ get_or c.args.given.now c.loop-part.part-index x = search rules in
      (before.0, All-take_more (λ (s : ℕ × Area). ¬ (Meets c.args.leaf.now.area.now s.1)) c.args.given.now c.loop-part.part-index x (omega arith) is before.1 here.1);
}

pub returns : goal.returns
returns c =
    let end : length c.args.given.now ≤ c.loop-part.part-index = omega arith in
    let P : List (ℕ × Area) → Type 0 = λ ls. c.loop-part.jobs.items ≡ [] → (c.args.jobs.now.items ≡ []) × All (λ (s : ℕ × Area). ¬ (Meets c.args.leaf.now.area.now s.1)) ls in
    record {
      added = c.loop-part.invariant.added;
      none = subst P (take_all c.loop-part.part-index c.args.given.now end) c.loop-part.invariant.none;
      full = tt;
    }
