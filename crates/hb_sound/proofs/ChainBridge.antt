-- Rule 2: from the walk over the facts to the chain of the file.
use Rattle.std.proofs.Common.{◌≡◌, ◌⊎◌, inl, inr, ℕ, zero, suc, ◌<◌, ◌≤◌, List, [], ◌∷◌, ◌++◌, length, Contains, Option, Some, None, refl, sym, ap, ◌∙◌, subst, arith}
use Rattle.std.proofs.lemmas.Bool.{cases_eq}
use Rattle.std.proofs.lemmas.List.Elements.{Contains-append_right}
use Rattle.hb_lemmas.proofs.Lists.{member_cases}
use Rattle.hb_frag.specs.declared.pages.Page.{Page}
use Rattle.hb_frag.specs.declared.pages.Page.TheVariants as pages
use Rattle.hb_layout.specs.declared.meta.Meta.{Meta}
use Rattle.hb_ops.specs.Files.{FileState, page_of}
use Rattle.hb_ops.specs.Sound.{IsChain, IsCounted, count_live}
use Rattle.hb_sound.specs.declared.page_facts.Fact.{Fact}
use Rattle.hb_sound.specs.declared.page_facts.Fact.TheVariants.{Live, Free}
use Rattle.hb_sound.specs.Covers.{IsFreeBreak, live_facts}
use Rattle.hb_sound.specs.Facts.{AreFactsOf, next_at}
use Rattle.hb_sound.specs.Names.{NamesFree}
use Rattle.hb_sound.specs.Told.{file_with}
use Rattle.hb_sound.specs.Walks.{IsLeast, IsLeftOut, IsChainWalk, LeadsAlong, if_free, next_free}
use Rattle.hb_sound.proofs.Bridge.{next_same}
use Rattle.hb_ops.proofs.Facts.PageNumberLaws.{page_at-zero}

-- a number that can't be missing is there
contained : (xs : List ℕ) (id : ℕ) → ¬ (¬ (Contains xs id)) → Contains xs id
contained [] id there = absurd (there (λ h. omega (arith, h.1)))
contained (x ∷ xs) id there = elim (cases_eq x id) [
  | inl here ↦ let Q : ℕ → Type 0 = λ n. Contains (x ∷ xs) n in subst Q here (0, omega arith, refl)
  | inr other ↦ Contains-append_right (x ∷ []) xs id (contained xs id (λ off. there (λ h. elim (member_cases x xs id h) [ inl e ↦ other e | inr behind ↦ off behind ])))
]

-- two walks from one number: the longer goes on where the shorter ends
goes_on : (next : ℕ → Option ℕ) (head end : ℕ) (chain whole : List ℕ) → next 0 ≡ None → LeadsAlong next head chain end → LeadsAlong next head whole 0
    → (rest : List ℕ) × (whole ≡ chain ++ rest) × LeadsAlong next end rest 0
goes_on next head end [] whole none leads all = let Q : ℕ → Type 0 = λ h. LeadsAlong next h whole 0 in (whole, refl, subst Q leads all)
goes_on next head end (id ∷ chain) [] none leads all =
    let e : id ≡ 0 = sym leads.0 ∙ all in
    absurd (let never : None ≡ Some leads.1 = sym none ∙ ap next (sym e) ∙ leads.2 in cc)
goes_on next head end (id ∷ chain) (other ∷ whole) none leads all =
    let same : id ≡ other = sym leads.0 ∙ all.0 in
    let step : Some leads.1 ≡ Some all.1 = sym leads.2 ∙ ap next same ∙ all.2 in
    let following : leads.1 ≡ all.1 = cc in
    let Q : ℕ → Type 0 = λ h. LeadsAlong next h whole 0 in
    let rest = goes_on next leads.1 end chain whole none leads.3 (subst Q (sym following) all.3) in
    let P : ℕ → Type 0 = λ n. n ∷ whole ≡ id ∷ (chain ++ rest.0) in
    (rest.0, subst P same (ap (λ (l : List ℕ). id ∷ l) rest.1), rest.2)

shorter : (first : ℕ) (chain rest : List ℕ) → length rest < length (first ∷ chain ++ rest)
shorter first [] rest = omega arith
shorter first (id ∷ chain) rest = let again = shorter id chain rest in omega (arith, again)

-- a circle doesn't end
no_circle : (n : ℕ) (next : ℕ → Option ℕ) (id first : ℕ) (circle whole : List ℕ) → length whole ≤ n → next 0 ≡ None → LeadsAlong next id (first ∷ circle) id → LeadsAlong next id whole 0 → ⊥
no_circle zero next id first circle whole few none round all =
    let rest = goes_on next id id (first ∷ circle) whole none round all in
    let less = shorter first circle rest.0 in
    let long = ap (λ (l : List ℕ). length l) rest.1 in
    omega (arith, less, long, few)
no_circle (suc n) next id first circle whole few none round all =
    let rest = goes_on next id id (first ∷ circle) whole none round all in
    let less = shorter first circle rest.0 in
    let long = ap (λ (l : List ℕ). length l) rest.1 in
    no_circle n next id first circle rest.0 (omega (arith, less, long, few)) none round rest.2

-- a walk that meets its end again has a circle
circle_of : (next : ℕ → Option ℕ) (head end : ℕ) (chain : List ℕ) → LeadsAlong next head chain end → Contains chain end → (first : ℕ) × (circle : List ℕ) × LeadsAlong next end (first ∷ circle) end
circle_of next head end [] leads h = absurd (omega (arith, h.1))
circle_of next head end (id ∷ chain) leads h = elim (member_cases id chain end h) [
  | inl here ↦ let Q : ℕ → Type 0 = λ n. LeadsAlong next n (id ∷ chain) end in (id, chain, subst Q (leads.0 ∙ here) leads)
  | inr behind ↦ circle_of next leads.1 end chain leads.3 behind
]

-- where a chain ends at 0, the walk is that chain
the_chain : (next : ℕ → Option ℕ) (head end : ℕ) (chain whole : List ℕ) → next 0 ≡ None → IsChainWalk next head chain end → LeadsAlong next head whole 0 → (end ≡ 0) × (whole ≡ chain)
the_chain next head end chain whole none walk all = by walk.ended
  where
    nothing_more : (xs : List ℕ) → xs ++ [] ≡ xs
    nothing_more [] = refl
    nothing_more (x ∷ xs) = ap (λ (l : List ℕ). x ∷ l) (nothing_more xs)

    at_end : (rest : List ℕ) → whole ≡ chain ++ rest → LeadsAlong next end rest 0 → next end ≡ None → (end ≡ 0) × (whole ≡ chain)
    at_end [] is leads stops = (leads, is ∙ nothing_more chain)
    at_end (id ∷ rest) is leads stops = absurd (let never : None ≡ Some leads.1 = sym stops ∙ ap next leads.0 ∙ leads.2 in cc)

    by : Contains chain end ⊎ (next end ≡ None) → (end ≡ 0) × (whole ≡ chain)
    by (inl again) =
        let rest = goes_on next head end chain whole none walk.leads all in
        let round = circle_of next head end chain walk.leads again in
        absurd (no_circle (length rest.0) next end round.0 round.1 rest.0 (omega arith) none round.2 rest.2)
    by (inr stops) = let rest = goes_on next head end chain whole none walk.leads all in at_end rest.0 rest.1 rest.2 stops

free_so : (o : Option Page) (n : ℕ) → if_free o ≡ Some n → o ≡ Some (pages.Free n)
free_so None n e = let never : None ≡ Some n = e in cc
free_so (Some (pages.Live page)) n e = let never : None ≡ Some n = e in cc
free_so (Some (pages.Free own)) n e = let is : own ≡ n = cc in ap (λ (m : ℕ). Some (pages.Free m)) is

none_at_zero : (s : FileState) → next_free s 0 ≡ None
none_at_zero s = ap if_free (page_at-zero s.pages)

-- the chain of the file, and the walk
leads_chain : (s : FileState) (head end : ℕ) (chain : List ℕ) → end ≡ 0 → LeadsAlong (next_free s) head chain end → IsChain s head chain
leads_chain s head end [] ends leads = leads ∙ ends
leads_chain s head end (id ∷ chain) ends leads = (
  leads.0,
  λ e. absurd (let never : None ≡ Some leads.1 = sym (none_at_zero s) ∙ ap (next_free s) (sym e ∙ leads.0) ∙ leads.2 in cc),
  leads.1,
  free_so (page_of s id) leads.1 leads.2,
  leads_chain s leads.1 end chain ends leads.3,
)

chain_leads : (s : FileState) (head : ℕ) (chain : List ℕ) → IsChain s head chain → LeadsAlong (next_free s) head chain 0
chain_leads s head [] chained = chained
chain_leads s head (id ∷ chain) chained = (chained.0, chained.2, ap if_free chained.3, chain_leads s chained.2 chain chained.4)

leads_by : (f h : ℕ → Option ℕ) → ((id : ℕ) → f id ≡ h id) → (head end : ℕ) (chain : List ℕ) → LeadsAlong f head chain end → LeadsAlong h head chain end
leads_by f h same head end [] leads = leads
leads_by f h same head end (id ∷ chain) leads = (leads.0, leads.1, sym (same id) ∙ leads.2, leads_by f h same leads.1 end chain leads.3)

live_same : (meta : Meta) (facts : List Fact) (list : List Page) → AreFactsOf meta facts list → live_facts facts ≡ count_live list
live_same meta [] [] are = refl
live_same meta [] (page ∷ list) are = absurd are
live_same meta (fact ∷ facts) [] are = absurd are
live_same meta (Live seen ∷ facts) (pages.Live page ∷ list) are = let rest = live_same meta facts list are.1 in omega (arith, rest)
live_same meta (Live seen ∷ facts) (pages.Free next ∷ list) are = absurd are.0
live_same meta (Free next ∷ facts) (pages.Live page ∷ list) are = absurd are.0
live_same meta (Free next ∷ facts) (pages.Free other ∷ list) are = let rest = live_same meta facts list are.1 in omega (arith, rest)

module _ (meta : Meta) (facts : List Fact) (list : List Page) (are : AreFactsOf meta facts list) where
  abbrev file : FileState
  file = file_with meta list

  walk_by : (chain : List ℕ) (end : ℕ) → IsChainWalk (next_at facts) meta.free chain end → IsChainWalk (next_free file) meta.free chain end
  walk_by chain end walk = record {
    leads = leads_by (next_at facts) (next_free file) (next_same meta facts list are) meta.free end chain walk.leads;
    once = walk.once;
    ended = elim walk.ended [ inl again ↦ inl again | inr stops ↦ inr (sym (next_same meta facts list are end) ∙ stops) ];
  }

  out_by : (chain : List ℕ) (id : ℕ) → IsLeftOut (next_at facts) chain id → IsLeftOut (next_free file) chain id
  out_by chain id out = ((out.0.0, sym (next_same meta facts list are id) ∙ out.0.1), out.1)

  by_out : (chain : List ℕ) (id : ℕ) → IsLeftOut (next_free file) chain id → IsLeftOut (next_at facts) chain id
  by_out chain id out = ((out.0.0, next_same meta facts list are id ∙ out.0.1), out.1)

  pub to_counted : IsFreeBreak meta facts None → IsCounted file
  to_counted kept = record {
    chain = kept.0;
    chained = leads_chain file meta.free kept.1 kept.0 kept.3.ends (walk_by kept.0 kept.1 kept.2).leads;
    all = λ id next is. contained kept.0 id (λ out. kept.3.all id (by_out kept.0 id ((next, ap if_free is), out)));
    live = kept.3.live ∙ live_same meta facts list are;
  }

  -- a number that is named
  pub not_counted : (id : ℕ) → IsFreeBreak meta facts (Some id) → (IsCounted file → ⊥) × NamesFree file id
  not_counted id named = (
    λ counted.
        let is = the_chain (next_free file) meta.free named.1 named.0 counted.chain (none_at_zero file) (walk_by named.0 named.1 named.2) (chain_leads file meta.free counted.chain counted.chained) in
        let Q : List ℕ → Type 0 = λ l. (n next : ℕ) → page_of file n ≡ Some (pages.Free next) → Contains l n in
        let all = subst Q is.1 counted.all in
        named.3.0 (record {
          ends = is.0;
          all = λ n out. out.1 (all n out.0.0 (free_so (page_of file n) out.0.0 (sym (next_same meta facts list are n) ∙ out.0.1)));
          live = counted.live ∙ sym (live_same meta facts list are);
        }),
    (named.0, named.1, walk_by named.0 named.1 named.2, names named.3.1),
  )
    where
      names : IsLeast (IsLeftOut (next_at facts) named.0) id ⊎ ((id ≡ named.1) × ((other : ℕ) → ¬ (IsLeftOut (next_at facts) named.0 other)))
          → IsLeast (IsLeftOut (next_free file) named.0) id ⊎ ((id ≡ named.1) × ((other : ℕ) → ¬ (IsLeftOut (next_free file) named.0 other)))
      names (inl least) = inl (record { here = out_by named.0 id least.here; least = λ m out. least.least m (by_out named.0 m out) })
      names (inr ends) = inr (ends.0, λ other out. ends.1 other (by_out named.0 other out))
