-- The free pages that the chain leaves out.
use Rattle.std.proofs.Common.{◌≡◌, inl, inr, ℕ, ◌+◌, ◌<◌, ◌≤◌, Bool, true, false, List, length, Option, Some, None, MatchOption, get_or, refl, sym, ap, ◌∙◌, arith}
use Rattle.hb_sound.specs.declared.page_facts.Fact.{Fact}
use Rattle.hb_sound.specs.declared.page_facts.Fact.TheVariants.{Live, Free}
use Rattle.hb_layout.specs.declared.meta.Meta.{Meta}
use Rattle.hb_sound.specs.Covers.{IsChained, IsFreeBreak, IsFreeFact, live_facts}
use Rattle.hb_sound.specs.Facts.{if_next, next_at}
use Rattle.hb_sound.specs.Links.{IsFirstUpTo}
use Rattle.hb_sound.specs.Told.{item_at}
use Rattle.hb_sound.specs.Walks.{IsLeast, IsLeftOut, IsChainWalk}
use Rattle.hb_sound.proofs.Firsts.{found, item_got, item_read, item_within, pass_first}
use Rattle.std.proofs.lemmas.Bool.{true_from_ne_false}

free_next : (fact : Fact) → IsFreeFact fact → (n : ℕ) × (if_next (Some fact) ≡ Some n)
free_next (Live seen) free = absurd free
free_next (Free next) free = (next, refl)

next_free : (fact : Fact) (n : ℕ) → if_next (Some fact) ≡ Some n → IsFreeFact fact
next_free (Live seen) n e = let never : None ≡ Some n = e in cc
next_free (Free next) n e = tt

has_fact : (o : Option Fact) (n : ℕ) → if_next o ≡ Some n → (fact : Fact) × (o ≡ Some fact)
has_fact None n e = let never : None ≡ Some n = e in cc
has_fact (Some fact) n e = (fact, refl)

module _ (facts : List Fact) (flags : List Bool) (chain : List ℕ) (place : ℕ) (fact : Fact) (d : Bool)
    (within : place < length facts) (is : fact ≡ get_or facts place fact) (same : length flags ≡ length facts) (chained : IsChained chain flags) where
  here : item_at facts (place + 1) ≡ Some fact
  here = item_read facts place fact within is

  left_here : IsFreeFact fact × (get_or flags place d ≡ false) → IsLeftOut (next_at facts) chain (place + 1)
  left_here free =
      let next = free_next fact free.0 in
      ((next.0, ap if_next here ∙ next.1), λ h. absurd (let on = (chained (place + 1)).0 h in let never : Some true ≡ Some false = sym on ∙ item_got flags place d (omega (arith, within, same)) ∙ ap (λ (b : Bool). Some b) free.1 in cc))

  left_there : IsLeftOut (next_at facts) chain (place + 1) → IsFreeFact fact
  left_there out = next_free fact out.0.0 (sym (ap if_next here) ∙ out.0.1)

  unflagged_there : IsLeftOut (next_at facts) chain (place + 1) → (get_or flags place d ≡ false → ⊥) → ⊥
  unflagged_there out on = out.1 ((chained (place + 1)).1 (item_got flags place d (omega (arith, within, same)) ∙ ap (λ (b : Bool). Some b) (true_from_ne_false (get_or flags place d) on)))

  pub left_found : IsFirstUpTo (IsLeftOut (next_at facts) chain) place None → IsFreeFact fact × (get_or flags place d ≡ false) → IsLeast (IsLeftOut (next_at facts) chain) (place + 1)
  left_found none free = found (IsLeftOut (next_at facts) chain) place none (left_here free)

  pub left_not_yet : IsFirstUpTo (IsLeftOut (next_at facts) chain) place None → ¬ (IsFreeFact fact × (get_or flags place d ≡ false))
      → IsFirstUpTo (IsLeftOut (next_at facts) chain) (place + 1) None
  left_not_yet none not_free = pass_first (IsLeftOut (next_at facts) chain) place None none (λ out. unflagged_there out (λ off. not_free (left_there out, off)))

pub none_left_out : (facts : List Fact) (chain : List ℕ) (n : ℕ) → length facts ≤ n → IsFirstUpTo (IsLeftOut (next_at facts) chain) n None → (id : ℕ) → ¬ (IsLeftOut (next_at facts) chain id)
none_left_out facts chain n all none id out =
    let fact = has_fact (item_at facts id) out.0.0 out.0.1 in
    let within = item_within facts id fact.0 fact.1 in
    none id (omega (arith, within, all)) out

-- rule 2, by where the chain ends
pub ended : (meta : Meta) (facts : List Fact) (chain : List ℕ) (end : ℕ) (o : Option ℕ) → IsChainWalk (next_at facts) meta.free chain end → ((id : ℕ) → ¬ (IsLeftOut (next_at facts) chain id))
    → MatchOption o ((end ≡ 0) × (meta.live ≡ live_facts facts)) (λ id. (id ≡ end) × (((end ≡ 0) × (meta.live ≡ live_facts facts)) → ⊥)) → IsFreeBreak meta facts o
ended meta facts chain end None walk none is = (chain, end, walk, record { ends = is.0; all = none; live = is.1 })
ended meta facts chain end (Some id) walk none is = (chain, end, walk, ((λ keeps. is.1 (keeps.ends, keeps.live)), inr (is.0, none)))

pub left_one : (meta : Meta) (facts : List Fact) (chain : List ℕ) (end id : ℕ) → IsChainWalk (next_at facts) meta.free chain end → IsLeast (IsLeftOut (next_at facts) chain) id → IsFreeBreak meta facts (Some id)
left_one meta facts chain end id walk least = (chain, end, walk, ((λ keeps. keeps.all id least.here), inl least))
