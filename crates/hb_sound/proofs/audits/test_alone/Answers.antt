use Rattle.std.proofs.Common.{◌≡◌, inl, inr, ℕ, refl, subst, arith}
use Rattle.std.proofs.lemmas.Bool.{cases_lt}
use Rattle.hb_sound.specs.Covers.{SeesRule}
use Rattle.hb_sound.proofs.audits.test_alone.Goals as goal

pub loop-rule-preserved : goal.loop-rule-preserved
loop-rule-preserved c id rule some few sees =
    let none = c.in_default.ensures in
    elim (cases_lt rule c.loop-rule.rule) [
      | inl before ↦ c.loop-rule.invariant id rule some before sees
      | inr here ↦
          let e : rule ≡ c.loop-rule.rule = omega (arith, here, few) in
          let P : ℕ → Type 0 = λ r. SeesRule c.args.facts.now.list.now r id in
          none id (subst P e sees)
    ]

pub returns-clause-ok : goal.returns-clause-ok
returns-clause-ok c id rule some few sees = let end = c.loop-rule-test.false in c.loop-rule.invariant id rule some (omega (arith, few, end)) sees

pub returns-in-Some-clause-err : goal.returns-in-Some-clause-err
returns-in-Some-clause-err c =
    let few = c.loop-rule-test.true in (
      c.in-Some.page,
      c.loop-rule.rule,
      refl,
      record {
        some = c.loop-rule.auto.rule;
        few = omega (arith, few);
        page = c.in-Some.ensures;
        least = λ lesser other some lt. c.loop-rule.invariant other lesser some lt;
      },
    )
