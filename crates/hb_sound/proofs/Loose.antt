-- The loose pages, found by a loop.
use Rattle.std.proofs.Common.{◌≡◌, inr, ℕ, ◌+◌, ◌<◌, ◌≤◌, List, length, Option, Some, None, MatchOption, get_or, sym, ap, ◌∙◌, subst, arith}
use Rattle.hb_lemmas.proofs.Lists.{place_within}
use Rattle.hb_space.specs.Boxes.{Area, whole_area}
use Rattle.hb_layout.specs.declared.meta.Meta.{Meta}
use Rattle.hb_sound.specs.declared.page_facts.Fact.{Fact}
use Rattle.hb_sound.specs.declared.page_facts.Fact.TheVariants.{Live, Free}
use Rattle.hb_sound.specs.declared.names.Times.{Times}
use Rattle.hb_sound.specs.Covers.{AreFirsts, IsCoverBreak, IsLooseFact, IsLooseSeen, LacksLevel, SeesLoose}
use Rattle.hb_sound.specs.Facts.{if_seen}
use Rattle.hb_sound.specs.Links.{IsFirstUpTo}
use Rattle.hb_sound.specs.Told.{item_at}
use Rattle.hb_sound.specs.Walks.{IsLeast}
use Rattle.hb_sound.proofs.Firsts.{found, item_got, item_read, item_within, pass_first}
use Rattle.hb_sound.proofs.Levels.{seen_fact}

module _ (facts : List Fact) (named : List Times) (whole : Area) (place : ℕ) (fact : Fact) (d : Times)
    (within : place < length facts) (is : fact ≡ get_or facts place fact) (same : length named ≡ length facts) where
  by_fact : (own : Fact) → item_at facts (place + 1) ≡ Some own → IsLooseFact facts whole (place + 1) (get_or named place d) own → SeesLoose facts named whole (place + 1)
  by_fact (Live seen) e loose = (seen, get_or named place d, ap if_seen e, item_got named place d (omega (arith, within, same)), loose)
  by_fact (Free next) e loose = absurd loose

  loose_there : SeesLoose facts named whole (place + 1) → IsLooseFact facts whole (place + 1) (get_or named place d) fact
  loose_there sees =
      let own : Some fact ≡ Some (Live sees.0) = sym (item_read facts place fact within is) ∙ seen_fact (item_at facts (place + 1)) sees.0 sees.2 in
      let fact_is : Live sees.0 ≡ fact = cc in
      let times_same : Some sees.1 ≡ Some (get_or named place d) = sym sees.3 ∙ item_got named place d (omega (arith, within, same)) in
      let times_is : sees.1 ≡ get_or named place d = cc in
      let T : Times → Type 0 = λ t. IsLooseSeen facts whole (place + 1) sees.0 t in
      let F : Fact → Type 0 = λ f. IsLooseFact facts whole (place + 1) (get_or named place d) f in
      subst F fact_is (subst T times_is sees.4)

  pub loose_found : IsFirstUpTo (SeesLoose facts named whole) place None → IsLooseFact facts whole (place + 1) (get_or named place d) fact → IsLeast (SeesLoose facts named whole) (place + 1)
  loose_found none loose = found (SeesLoose facts named whole) place none (by_fact fact (item_read facts place fact within is) loose)

  pub loose_not_yet : IsFirstUpTo (SeesLoose facts named whole) place None → ¬ (IsLooseFact facts whole (place + 1) (get_or named place d) fact) → IsFirstUpTo (SeesLoose facts named whole) (place + 1) None
  loose_not_yet none off = pass_first (SeesLoose facts named whole) place None none (λ sees. off (loose_there sees))

pub none_loose : (facts : List Fact) (named : List Times) (whole : Area) (n : ℕ) → length facts ≤ n → IsFirstUpTo (SeesLoose facts named whole) n None → (id : ℕ) → ¬ (SeesLoose facts named whole id)
none_loose facts named whole n all none id sees =
    let within = item_within facts id (Live sees.0) (seen_fact (item_at facts id) sees.0 sees.2) in
    none id (omega (arith, within, all)) sees

-- rule 9, where each level has its first page
none_lacks : (facts : List Fact) (height : ℕ) (whole : Area) (firsts : List ℕ) → AreFirsts facts height whole firsts → ¬ (LacksLevel facts height whole)
none_lacks facts height whole firsts are lacks =
    let lt = lacks.1 in
    let long = are.0 in
    let first = place_within firsts lacks.0 (omega (arith, lt, long)) in
    let least = are.1 lacks.0 first.0 first.1 in
    lacks.2 first.0 least.here

pub cover_by : (meta : Meta) (facts : List Fact) (named : List Times) (whole : Area) (firsts : List ℕ) (o : Option ℕ) → whole ≡ whole_area meta.k → AreFirsts facts meta.height whole firsts
    → MatchOption o ((id : ℕ) → ¬ (SeesLoose facts named whole id)) (IsLeast (SeesLoose facts named whole)) → IsCoverBreak meta facts named o
cover_by meta facts named whole firsts None is are found =
    let Q : Area → Type 0 = λ area. (¬ (LacksLevel facts meta.height area)) × ((id : ℕ) → ¬ (SeesLoose facts named area id)) in
    subst Q is (none_lacks facts meta.height whole firsts are, found)
cover_by meta facts named whole firsts (Some id) is are found =
    let Q : Area → Type 0 = λ area. (¬ (LacksLevel facts meta.height area)) × IsLeast (SeesLoose facts named area) id in
    inr (subst Q is (none_lacks facts meta.height whole firsts are, found))
