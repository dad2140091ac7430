-- Of the rules one is named first, for one page.
use Rattle.std.proofs.Common.{◌≡◌, ◌⊎◌, inl, inr, ℕ, List, [], ◌∷◌, Contains, Option, Some, None, refl, sym, ap, subst, ◌∙◌, arith}
use Rattle.std.proofs.lemmas.Bool.{cases_lt}
use Rattle.hb_lemmas.proofs.Lists.{later_member, member_cases}
use Rattle.hb_ops.specs.Files.{FileState}
use Rattle.hb_ops.specs.Sound.{SiblingsMatch, ChildrenMatch}
use Rattle.hb_ops.proofs.Facts.WellMade.{not_broken}
use Rattle.hb_sound.specs.Names.{BreaksRule, MissesSibling, MissesChild, IsLoose, KeepsLocally, NamesFree, NamesIn, NamesLocal, NamesLoose}
use Rattle.hb_sound.specs.Walks.{IsLeast, IsLeftOut, IsOnce, LeadsAlong, next_free}
use Rattle.hb_sound.proofs.Facts.LeastLaws.{least_one}
use Rattle.hb_sound.proofs.LocalBridge.{one_rule}

abbrev no_number : List ℕ
no_number = []

-- a walk that has ended doesn't go on
goes_on : (next : ℕ → Option ℕ) (seen : ℕ → Type 0) (id : ℕ) (rest : List ℕ) (head end : ℕ) → head ≡ end → head ≡ id → (following : ℕ) → next id ≡ Some following
    → ((n : ℕ) → Contains (id ∷ rest) n → ¬ (seen n)) → seen end ⊎ Contains no_number end ⊎ (next end ≡ None) → ⊥
goes_on next seen id rest head end is also following step fresh (inl before) =
    fresh id (0, omega arith, refl) (subst seen (sym is ∙ also) before)
goes_on next seen id rest head end is also following step fresh (inr (inl none)) = absurd (omega (arith, none.1))
goes_on next seen id rest head end is also following step fresh (inr (inr none)) =
    let N : ℕ → Type 0 = λ n. next n ≡ None in
    let never : None ≡ Some following = sym (subst N (sym is ∙ also) none) ∙ step in
    cc (never)

-- how a walk ends, seen from its second number
ends_behind : (next : ℕ → Option ℕ) (seen : ℕ → Type 0) (id : ℕ) (rest : List ℕ) (end : ℕ) → seen end ⊎ Contains (id ∷ rest) end ⊎ (next end ≡ None)
    → (seen end ⊎ (end ≡ id)) ⊎ Contains rest end ⊎ (next end ≡ None)
ends_behind next seen id rest end (inl before) = inl (inl before)
ends_behind next seen id rest end (inr (inl there)) = elim (member_cases id rest end there) [ inl is ↦ inl (inr (sym is)) | inr behind ↦ inr (inl behind) ]
ends_behind next seen id rest end (inr (inr none)) = inr (inr none)

-- Two walks from one number on, of which neither comes to a number that was seen, are the same.
same_walk : (next : ℕ → Option ℕ) (seen : ℕ → Type 0) (chain other : List ℕ) (head end last : ℕ) → IsOnce chain → IsOnce other
    → ((id : ℕ) → Contains chain id → ¬ (seen id)) → ((id : ℕ) → Contains other id → ¬ (seen id)) → LeadsAlong next head chain end → LeadsAlong next head other last
    → seen end ⊎ Contains chain end ⊎ (next end ≡ None) → seen last ⊎ Contains other last ⊎ (next last ≡ None) → (chain ≡ other) × (end ≡ last)
same_walk next seen [] [] head end last once twice new fresh leads also ended stopped = (refl, sym leads ∙ also)
same_walk next seen [] (id ∷ rest) head end last once twice new fresh leads also ended stopped = absurd (goes_on next seen id rest head end leads also.0 also.1 also.2 fresh ended)
same_walk next seen (id ∷ rest) [] head end last once twice new fresh leads also ended stopped = absurd (goes_on next seen id rest head last also leads.0 leads.1 leads.2 new stopped)
same_walk next seen (id ∷ rest) (name ∷ more) head end last once twice new fresh leads also ended stopped =
    let same : id ≡ name = sym leads.0 ∙ also.0 in
    let Q : ℕ → Type 0 = λ n. next n ≡ Some leads.1 in
    let step : Some leads.1 ≡ Some also.1 = sym (subst Q same leads.2) ∙ also.2 in
    let following : leads.1 ≡ also.1 = cc (step) in
    let L : ℕ → Type 0 = λ n. LeadsAlong next n rest end in
    let S : ℕ → Type 0 = λ n. seen n ⊎ (n ≡ id) in
    let behind = same_walk next S rest more also.1 end last once.1 twice.1
    (λ n there met. elim met [ inl before ↦ new n (later_member id rest n there) before | inr is ↦ once.0 (subst (Contains rest) is there) ])
    (λ n there met. elim met [ inl before ↦ fresh n (later_member name more n there) before | inr is ↦ twice.0 (subst (Contains more) (is ∙ same) there) ])
    (subst L following leads.3) also.3 (ends_behind next seen id rest end ended)
    (let E : ℕ → Type 0 = λ n. seen last ⊎ Contains (n ∷ more) last ⊎ (next last ≡ None) in ends_behind next seen id more last (subst E (sym same) stopped)) in
    (ap (λ (n : ℕ). n ∷ rest) same ∙ ap (λ (l : List ℕ). name ∷ l) behind.0, behind.1)

module _ (s : FileState) where
  -- of two rules that are named, neither is less
  same_local : (p q r t : ℕ) → NamesLocal s p r → NamesLocal s q t → (p ≡ q) × (r ≡ t)
  same_local p q r t a b =
      let same : r ≡ t = equal in
      (least_one (BreaksRule s t) p q (subst (λ (n : ℕ). IsLeast (BreaksRule s n) p) same a.1) b.1, same)
    where
      equal : r ≡ t
      equal = elim (cases_lt r t) [
        | inl less ↦ absurd (b.2 r p less a.1.here)
        | inr most ↦ elim (cases_lt t r) [
          | inl less ↦ absurd (a.2 t q less b.1.here)
          | inr least ↦ omega (arith, most, least)
        ]
      ]

  keeps_not : (p r : ℕ) → KeepsLocally s → NamesLocal s p r → ⊥
  keeps_not p r keeps names =
      let breaks = names.1.here in
      elim (keeps p breaks.0 breaks.1) [
        | inl fits ↦ not_broken r breaks.0 s.meta breaks.2 fits
        | inr ten ↦ absurd (let e = one_rule breaks.0 s.meta r 10 breaks.2 ten in omega (arith, e, names.0))
      ]

  siblings_not : (p : ℕ) → SiblingsMatch s → MissesSibling s p → ⊥
  siblings_not p match misses = misses.5 (match p misses.0 misses.2 misses.3 misses.1 misses.4)

  children_not : (p : ℕ) → ChildrenMatch s → MissesChild s p → ⊥
  children_not p match misses = misses.5 (match p misses.0 misses.2 misses.3 misses.1 misses.4)

  same_loose : (p q : ℕ) → NamesLoose s p → NamesLoose s q → p ≡ q
  same_loose p q (inl a) (inl b) = a.0 ∙ sym b.0
  same_loose p q (inl a) (inr b) = absurd (b.0 a.1)
  same_loose p q (inr a) (inl b) = absurd (a.0 b.1)
  same_loose p q (inr a) (inr b) = least_one (IsLoose s) p q a.1 b.1

  same_free : (p q : ℕ) → NamesFree s p → NamesFree s q → p ≡ q
  same_free p q (chain, end, walk, names) (other, last, also, more) =
      let same = same_walk (next_free s) (λ id. ⊥) chain other s.meta.free end last walk.once also.once (λ id there. λ none. none) (λ id there. λ none. none)
      walk.leads also.leads (inr walk.ended) (inr also.ended) in
      by (subst (λ (l : List ℕ). IsLeast (IsLeftOut (next_free s) l) p ⊎ ((p ≡ end) × ((id : ℕ) → ¬ (IsLeftOut (next_free s) l id)))) same.0 names) more same.1
    where
      by : IsLeast (IsLeftOut (next_free s) other) p ⊎ ((p ≡ end) × ((id : ℕ) → ¬ (IsLeftOut (next_free s) other id)))
          → IsLeast (IsLeftOut (next_free s) other) q ⊎ ((q ≡ last) × ((id : ℕ) → ¬ (IsLeftOut (next_free s) other id))) → end ≡ last → p ≡ q
      by (inl a) (inl b) same = least_one (IsLeftOut (next_free s) other) p q a b
      by (inl a) (inr b) same = absurd (b.1 p a.here)
      by (inr a) (inl b) same = absurd (a.1 q b.here)
      by (inr a) (inr b) same = a.0 ∙ same ∙ sym b.0

  pub same_names : (p q r t : ℕ) → NamesIn s p r → NamesIn s q t → (p ≡ q) × (r ≡ t)
  same_names p q r t (inl a) (inl b) = (a.1 ∙ sym b.1, a.0 ∙ sym b.0)
  same_names p q r t (inl a) (inr (inl b)) = absurd (a.2 b.1)
  same_names p q r t (inl a) (inr (inr (inl b))) = absurd (a.2 b.0)
  same_names p q r t (inl a) (inr (inr (inr (inl b)))) = absurd (a.2 b.1.0)
  same_names p q r t (inl a) (inr (inr (inr (inr (inl b))))) = absurd (a.2 b.1.0)
  same_names p q r t (inl a) (inr (inr (inr (inr (inr (inl b)))))) = absurd (a.2 b.1.0.0)
  same_names p q r t (inl a) (inr (inr (inr (inr (inr (inr b)))))) = absurd (a.2 b.1.0.0)
  same_names p q r t (inr (inl a)) (inl b) = absurd (b.2 a.1)
  same_names p q r t (inr (inl a)) (inr (inl b)) = (same_free p q a.3 b.3, a.0 ∙ sym b.0)
  same_names p q r t (inr (inl a)) (inr (inr (inl b))) = absurd (a.2 b.1)
  same_names p q r t (inr (inl a)) (inr (inr (inr (inl b)))) = absurd (a.2 b.1.1)
  same_names p q r t (inr (inl a)) (inr (inr (inr (inr (inl b))))) = absurd (a.2 b.1.1)
  same_names p q r t (inr (inl a)) (inr (inr (inr (inr (inr (inl b)))))) = absurd (a.2 b.1.0.1)
  same_names p q r t (inr (inl a)) (inr (inr (inr (inr (inr (inr b)))))) = absurd (a.2 b.1.0.1)
  same_names p q r t (inr (inr (inl a))) (inl b) = absurd (b.2 a.0)
  same_names p q r t (inr (inr (inl a))) (inr (inl b)) = absurd (b.2 a.1)
  same_names p q r t (inr (inr (inl a))) (inr (inr (inl b))) = same_local p q r t a.2 b.2
  same_names p q r t (inr (inr (inl a))) (inr (inr (inr (inl b)))) = absurd (keeps_not p r b.1.2 a.2)
  same_names p q r t (inr (inr (inl a))) (inr (inr (inr (inr (inl b))))) = absurd (keeps_not p r b.1.2 a.2)
  same_names p q r t (inr (inr (inl a))) (inr (inr (inr (inr (inr (inl b)))))) = absurd (keeps_not p r b.1.0.2 a.2)
  same_names p q r t (inr (inr (inl a))) (inr (inr (inr (inr (inr (inr b)))))) = absurd (keeps_not p r b.1.0.2 a.2)
  same_names p q r t (inr (inr (inr (inl a)))) (inl b) = absurd (b.2 a.1.0)
  same_names p q r t (inr (inr (inr (inl a)))) (inr (inl b)) = absurd (b.2 a.1.1)
  same_names p q r t (inr (inr (inr (inl a)))) (inr (inr (inl b))) = absurd (keeps_not q t a.1.2 b.2)
  same_names p q r t (inr (inr (inr (inl a)))) (inr (inr (inr (inl b)))) = (least_one (MissesSibling s) p q a.2 b.2, a.0 ∙ sym b.0)
  same_names p q r t (inr (inr (inr (inl a)))) (inr (inr (inr (inr (inl b))))) = absurd (siblings_not p b.2 a.2.here)
  same_names p q r t (inr (inr (inr (inl a)))) (inr (inr (inr (inr (inr (inl b)))))) = absurd (siblings_not p b.1.1 a.2.here)
  same_names p q r t (inr (inr (inr (inl a)))) (inr (inr (inr (inr (inr (inr b)))))) = absurd (siblings_not p b.1.1 a.2.here)
  same_names p q r t (inr (inr (inr (inr (inl a))))) (inl b) = absurd (b.2 a.1.0)
  same_names p q r t (inr (inr (inr (inr (inl a))))) (inr (inl b)) = absurd (b.2 a.1.1)
  same_names p q r t (inr (inr (inr (inr (inl a))))) (inr (inr (inl b))) = absurd (keeps_not q t a.1.2 b.2)
  same_names p q r t (inr (inr (inr (inr (inl a))))) (inr (inr (inr (inl b)))) = absurd (siblings_not q a.2 b.2.here)
  same_names p q r t (inr (inr (inr (inr (inl a))))) (inr (inr (inr (inr (inl b))))) = (least_one (MissesChild s) p q a.3 b.3, a.0 ∙ sym b.0)
  same_names p q r t (inr (inr (inr (inr (inl a))))) (inr (inr (inr (inr (inr (inl b)))))) = absurd (children_not p b.1.2 a.3.here)
  same_names p q r t (inr (inr (inr (inr (inl a))))) (inr (inr (inr (inr (inr (inr b)))))) = absurd (children_not p b.1.2 a.3.here)
  same_names p q r t (inr (inr (inr (inr (inr (inl a)))))) (inl b) = absurd (b.2 a.1.0.0)
  same_names p q r t (inr (inr (inr (inr (inr (inl a)))))) (inr (inl b)) = absurd (b.2 a.1.0.1)
  same_names p q r t (inr (inr (inr (inr (inr (inl a)))))) (inr (inr (inl b))) = absurd (keeps_not q t a.1.0.2 b.2)
  same_names p q r t (inr (inr (inr (inr (inr (inl a)))))) (inr (inr (inr (inl b)))) = absurd (siblings_not q a.1.1 b.2.here)
  same_names p q r t (inr (inr (inr (inr (inr (inl a)))))) (inr (inr (inr (inr (inl b))))) = absurd (children_not q a.1.2 b.3.here)
  same_names p q r t (inr (inr (inr (inr (inr (inl a)))))) (inr (inr (inr (inr (inr (inl b)))))) = (same_loose p q a.3 b.3, a.0 ∙ sym b.0)
  same_names p q r t (inr (inr (inr (inr (inr (inl a)))))) (inr (inr (inr (inr (inr (inr b)))))) = absurd (a.2 b.2)
  same_names p q r t (inr (inr (inr (inr (inr (inr a)))))) (inl b) = absurd (b.2 a.1.0.0)
  same_names p q r t (inr (inr (inr (inr (inr (inr a)))))) (inr (inl b)) = absurd (b.2 a.1.0.1)
  same_names p q r t (inr (inr (inr (inr (inr (inr a)))))) (inr (inr (inl b))) = absurd (keeps_not q t a.1.0.2 b.2)
  same_names p q r t (inr (inr (inr (inr (inr (inr a)))))) (inr (inr (inr (inl b)))) = absurd (siblings_not q a.1.1 b.2.here)
  same_names p q r t (inr (inr (inr (inr (inr (inr a)))))) (inr (inr (inr (inr (inl b))))) = absurd (children_not q a.1.2 b.3.here)
  same_names p q r t (inr (inr (inr (inr (inr (inr a)))))) (inr (inr (inr (inr (inr (inl b)))))) = absurd (b.2 a.2)
  same_names p q r t (inr (inr (inr (inr (inr (inr a)))))) (inr (inr (inr (inr (inr (inr b)))))) = (least_one (BreaksRule s 10) p q a.3 b.3, a.0 ∙ sym b.0)
