-- Rules 3 to 6 and 10: from the facts to the pages.
use Rattle.std.proofs.Common.{◌≡◌, inl, inr, ℕ, ◌<◌, ◌≤◌, List, Some, ap, subst, arith}
use Rattle.std.proofs.lemmas.Bool.{cases_lt}
use Rattle.hb_frag.specs.declared.pages.LivePage.{LivePage}
use Rattle.hb_frag.specs.declared.pages.Page.{Page}
use Rattle.hb_frag.specs.Leaves.{WellCut}
use Rattle.hb_frag.specs.Rules.{AreInOrder, Fits, IsFilledRight}
use Rattle.hb_layout.specs.declared.meta.Meta.{Meta}
use Rattle.hb_ops.specs.Files.{FileState}
use Rattle.hb_ops.specs.Sound.{BreaksFirst}
use Rattle.hb_ops.proofs.Facts.WellMade.{not_broken}
use Rattle.hb_sound.specs.declared.page_facts.Fact.{Fact}
use Rattle.hb_sound.specs.declared.page_facts.Fact.TheVariants.{Live, Free}
use Rattle.hb_sound.specs.Names.{BreaksRule, KeepsLocally, NamesLocal}
use Rattle.hb_sound.specs.Covers.{HasRule, IsLeastRule, SeesRule}
use Rattle.hb_sound.specs.Facts.{AreFactsOf, if_seen}
use Rattle.hb_sound.specs.Told.{item_at, file_with}
use Rattle.hb_sound.specs.Walks.{IsLeast}
use Rattle.hb_sound.proofs.Bridge.{live_seen, seen_live}
use Rattle.hb_sound.proofs.Levels.{seen_fact}

-- the rules that the broken one stands behind are kept
module _ (page : LivePage) (meta : Meta) where
  pub at_least : (rule : ℕ) → BreaksFirst rule page meta → 3 ≤ rule
  at_least rule (inl three) = let e = three.0 in omega (arith, e)
  at_least rule (inr (inl four)) = let e = four.0 in omega (arith, e)
  at_least rule (inr (inr (inl five))) = let e = five.0 in omega (arith, e)
  at_least rule (inr (inr (inr (inl six)))) = let e = six.0 in omega (arith, e)
  at_least rule (inr (inr (inr (inr ten)))) = let e = ten.0 in omega (arith, e)

  pub fits : (rule : ℕ) → BreaksFirst rule page meta → 3 < rule → Fits page meta.k meta.height
  fits rule (inl three) lt = absurd (let e = three.0 in omega (arith, e, lt))
  fits rule (inr (inl four)) lt = four.1
  fits rule (inr (inr (inl five))) lt = five.1
  fits rule (inr (inr (inr (inl six)))) lt = six.1
  fits rule (inr (inr (inr (inr ten)))) lt = ten.1

  pub cut : (rule : ℕ) → BreaksFirst rule page meta → 4 < rule → WellCut page
  cut rule (inl three) lt = absurd (let e = three.0 in omega (arith, e, lt))
  cut rule (inr (inl four)) lt = absurd (let e = four.0 in omega (arith, e, lt))
  cut rule (inr (inr (inl five))) lt = five.2
  cut rule (inr (inr (inr (inl six)))) lt = six.2
  cut rule (inr (inr (inr (inr ten)))) lt = ten.2

  filled : (rule : ℕ) → BreaksFirst rule page meta → 5 < rule → IsFilledRight page meta.dcap meta.icap
  filled rule (inl three) lt = absurd (let e = three.0 in omega (arith, e, lt))
  filled rule (inr (inl four)) lt = absurd (let e = four.0 in omega (arith, e, lt))
  filled rule (inr (inr (inl five))) lt = absurd (let e = five.0 in omega (arith, e, lt))
  filled rule (inr (inr (inr (inl six)))) lt = six.3
  filled rule (inr (inr (inr (inr ten)))) lt = ten.3

  order : (rule : ℕ) → BreaksFirst rule page meta → 6 < rule → AreInOrder page
  order rule (inl three) lt = absurd (let e = three.0 in omega (arith, e, lt))
  order rule (inr (inl four)) lt = absurd (let e = four.0 in omega (arith, e, lt))
  order rule (inr (inr (inl five))) lt = absurd (let e = five.0 in omega (arith, e, lt))
  order rule (inr (inr (inr (inl six)))) lt = absurd (let e = six.0 in omega (arith, e, lt))
  order rule (inr (inr (inr (inr ten)))) lt = ten.4

  -- no page breaks two rules first
  not_later : (rule other : ℕ) → BreaksFirst rule page meta → BreaksFirst other page meta → rule < other → ⊥
  not_later rule other (inl three) second lt = three.1 (fits other second (let e = three.0 in omega (arith, e, lt)))
  not_later rule other (inr (inl four)) second lt = four.2 (cut other second (let e = four.0 in omega (arith, e, lt)))
  not_later rule other (inr (inr (inl five))) second lt = five.3 (filled other second (let e = five.0 in omega (arith, e, lt)))
  not_later rule other (inr (inr (inr (inl six)))) second lt = six.4 (order other second (let e = six.0 in omega (arith, e, lt)))
  not_later rule other (inr (inr (inr (inr ten)))) second lt = beyond other second (let e = ten.0 in omega (arith, e, lt))
    where
      beyond : (other : ℕ) → BreaksFirst other page meta → 10 < other → ⊥
      beyond other (inl three) lt = let e = three.0 in omega (arith, e, lt)
      beyond other (inr (inl four)) lt = let e = four.0 in omega (arith, e, lt)
      beyond other (inr (inr (inl five))) lt = let e = five.0 in omega (arith, e, lt)
      beyond other (inr (inr (inr (inl six)))) lt = let e = six.0 in omega (arith, e, lt)
      beyond other (inr (inr (inr (inr ten)))) lt = let e = ten.0 in omega (arith, e, lt)

  pub one_rule : (rule other : ℕ) → BreaksFirst rule page meta → BreaksFirst other page meta → rule ≡ other
  one_rule rule other first second =
      let no_less = not_later rule other first second in
      let no_more = not_later other rule second first in
      elim (cases_lt rule other) [
        | inl lt ↦ absurd (no_less lt)
        | inr ge ↦ elim (cases_lt other rule) [ inl lt ↦ absurd (no_more lt) | inr le ↦ omega (arith, ge, le) ]
      ]

  late : (rule : ℕ) → BreaksFirst rule page meta → 6 < rule → rule ≡ 10
  late rule (inl three) lt = absurd (let e = three.0 in omega (arith, e, lt))
  late rule (inr (inl four)) lt = absurd (let e = four.0 in omega (arith, e, lt))
  late rule (inr (inr (inl five))) lt = absurd (let e = five.0 in omega (arith, e, lt))
  late rule (inr (inr (inr (inl six)))) lt = absurd (let e = six.0 in omega (arith, e, lt))
  late rule (inr (inr (inr (inr ten)))) lt = ten.0

module _ (meta : Meta) (facts : List Fact) (list : List Page) (are : AreFactsOf meta facts list) where
  abbrev file : FileState
  file = file_with meta list

  -- a rule that a page breaks first is seen
  pub breaks_seen : (rule id : ℕ) → BreaksRule file rule id → SeesRule facts rule id
  breaks_seen rule id b =
      let seen = seen_live meta facts list are id b.0 b.1 in (
        Live seen.0,
        seen_fact (item_at facts id) seen.0 seen.1,
        elim seen.2.rule [
          | inl none ↦ absurd (not_broken rule b.0 meta b.2 none.1)
          | inr own ↦ one_rule b.0 meta seen.0.rule rule own b.2
        ],
      )

  -- and the other way
  pub seen_breaks : (rule id : ℕ) → 3 ≤ rule → SeesRule facts rule id → BreaksRule file rule id
  seen_breaks rule id some sees = by_fact sees.0 sees.1 sees.2
    where
      by_fact : (fact : Fact) → item_at facts id ≡ Some fact → HasRule rule fact → BreaksRule file rule id
      by_fact (Live seen) e is =
          let page = live_seen meta facts list are id seen (ap if_seen e) in (
            page.0,
            page.1,
            elim page.2.rule [
              | inl none ↦ absurd (let zero_is = none.0 in omega (arith, is, zero_is, some))
              | inr own ↦ (let Q : ℕ → Type 0 = λ r. BreaksFirst r page.0 meta in subst Q is own)
            ],
          )
      by_fact (Free next) e is = absurd is

  pub least_breaks : (rule id : ℕ) → 3 ≤ rule → IsLeast (SeesRule facts rule) id → IsLeast (BreaksRule file rule) id
  least_breaks rule id some least = record { here = seen_breaks rule id some least.here; least = λ m b. least.least m (breaks_seen rule m b) }

  -- the rules 3 to 6
  pub to_local : (id rule : ℕ) → IsLeastRule facts id rule → NamesLocal file id rule
  to_local id rule is = (is.few, least_breaks rule id is.some is.page, λ lesser other lt b. is.least lesser other (at_least b.0 meta lesser b.2) lt (breaks_seen lesser other b))

  pub keeps_local : ((id rule : ℕ) → 3 ≤ rule → rule ≤ 6 → ¬ (SeesRule facts rule id)) → KeepsLocally file
  keeps_local none id page e =
      let seen = seen_live meta facts list are id page e in
      elim seen.2.rule [
        | inl keeps ↦ inl keeps.1
        | inr own ↦ elim (cases_lt 6 seen.0.rule) [
          | inl lt ↦ (let Q : ℕ → Type 0 = λ r. BreaksFirst r page meta in inr (subst Q (late page meta seen.0.rule own lt) own))
          | inr few ↦ absurd (none id seen.0.rule (at_least page meta seen.0.rule own) few (breaks_seen seen.0.rule id (page, e, own)))
        ]
      ]
