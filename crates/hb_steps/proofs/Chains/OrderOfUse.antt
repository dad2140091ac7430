-- The order of use of a scene: pages that are used stand last, which changes nothing of what is in memory, and frames go with the pages.
use Rattle.hb_steps.proofs.Chains.Names.{◌≡◌, inl, inr, ℕ, ◌==◌, ◌≤◌, nat_le, Bool, true, false, cond, List, [], ◌∷◌, ◌++◌, length, Option, Some, None, refl, sym, ap, subst, ◌∙◌, arith, ◌&&◌, ◌||◌, if◌then◌else◌, AllByRecursion, is_some, nat_cmp_total, nat_cmp, cases_Bool, eqb-true, leb-true, All-from_recursion, Page, Use, IsTied, is_among, Scene, store_of}
use Rattle.std.proofs.Common.{not}
use Rattle.std.specs.List.{count_by}
use Rattle.std.specs.Option.{option_map_or}
use Rattle.std.specs.FinMap as map
use Rattle.std.specs.FinSet as set
use Rattle.std.proofs.lemmas.Bool.{not-true}
use Rattle.std.proofs.lemmas.List.Sums.{sum_by-cons}
use Rattle.hb_lemmas.proofs.Options.{none_so}
use Rattle.hb_pool.specs.declared.pools.TheConstants.{FRAMES}
use Rattle.hb_pool.specs.Frames.{has_id}
use Rattle.hb_pool.specs.Pools.{frame_of}
use Rattle.hb_pool.proofs.Facts.Firsts.{none_counted}
use Rattle.hb_steps.proofs.Chains.WrittenTables.{and_first, and_second, entry_append, entry_at, map_has, not_both, or_else, set_has, shadowed, swapped}

-- ---- pages in another order

module _ {X : Type 0} where
  -- the entries of other numbers, and the one of a number
  abbrev pub others_of : ℕ → List (ℕ × X) → List (ℕ × X)
  others_of id [] = []
  others_of id (one ∷ rest) = if one.0 == id then others_of id rest else one ∷ others_of id rest

  abbrev pub alone : ℕ → Option X → List (ℕ × X)
  alone id None = []
  alone id (Some x) = (id, x) ∷ []

  -- the entry of a number stands last, and those of several numbers do, one after the other
  abbrev pub used : ℕ → List (ℕ × X) → List (ℕ × X)
  used id es = others_of id es ++ alone id (entry_at id es)

  abbrev pub used_each : List ℕ → List (ℕ × X) → List (ℕ × X)
  used_each [] es = es
  used_each (id ∷ rest) es = used_each rest (used id es)

  others_found : (id : ℕ) (es : List (ℕ × X)) (q : ℕ) → entry_at q (others_of id es) ≡ cond (q == id) None (entry_at q es)
  others_found id [] q = elim (q == id) as (λ b. ◌≡◌ {A = Option X} None (cond b None None)) [ true ↦ refl | false ↦ refl ]
  others_found id (e ∷ es) q = elim (cases_Bool (e.0 == id)) [
    | inl here ↦
        ap (λ (b : Bool). entry_at q (cond b (others_of id es) (e ∷ others_of id es))) here
        ∙ others_found id es q
        ∙ subst (λ (n : ℕ). cond (q == n) None (entry_at q es) ≡ cond (q == n) None (cond (q == e.0) (Some e.1) (entry_at q es))) (eqb-true e.0 id here) (shadowed (q == e.0) None (Some e.1) (entry_at q es))
    | inr off ↦
        ap (λ (b : Bool). entry_at q (cond b (others_of id es) (e ∷ others_of id es))) off
        ∙ ap (cond (q == e.0) (Some e.1)) (others_found id es q)
        ∙ swapped (q == e.0) (q == id) (Some e.1) None (entry_at q es) (not_both q e.0 id off)
  ]

  alone_found : (id : ℕ) (o : Option X) (q : ℕ) → entry_at q (alone id o) ≡ cond (q == id) o None
  alone_found id None q = elim (q == id) as (λ b. ◌≡◌ {A = Option X} None (cond b None None)) [ true ↦ refl | false ↦ refl ]
  alone_found id (Some x) q = refl

  or_none : (o : Option X) → or_else o None ≡ o
  or_none None = refl
  or_none (Some x) = refl

  used_found : (id : ℕ) (es : List (ℕ × X)) (q : ℕ) → entry_at q (used id es) ≡ entry_at q es
  used_found id es q =
      entry_append (others_of id es) (alone id (entry_at id es)) q
      ∙ (λ i. or_else (others_found id es q i) (alone_found id (entry_at id es) q i))
      ∙ elim (cases_Bool (q == id)) [
        | inl same ↦ ap (λ (b : Bool). or_else (cond b None (entry_at q es)) (cond b (entry_at id es) None)) same ∙ ap (λ (n : ℕ). entry_at n es) (sym (eqb-true q id same))
        | inr off ↦ ap (λ (b : Bool). or_else (cond b None (entry_at q es)) (cond b (entry_at id es) None)) off ∙ or_none (entry_at q es)
      ]

  -- the same is found
  pub each_found : (ids : List ℕ) (es : List (ℕ × X)) (q : ℕ) → entry_at q (used_each ids es) ≡ entry_at q es
  each_found [] es q = refl
  each_found (id ∷ rest) es q = each_found rest (used id es) q ∙ used_found id es q

  -- and so the map is the same
  pub same_pages : (ids : List ℕ) (es : List (ℕ × X)) → map.from_entries {R = nat_cmp} (used_each ids es) ≡ map.from_entries es
  same_pages ids es = map.same_map nat_cmp_total set.nat_cmp-IsAntisymmetric _ _ (λ q. map_has (used_each ids es) q ∙ each_found ids es q ∙ sym (map_has es q))

-- ---- frames that go with the pages

-- a frame has the number
abbrev is_used : ℕ → List Use → Bool
is_used q [] = false
is_used q (u ∷ rest) = (u.id == q) || is_used q rest

-- no two have one, and none is pinned too often
abbrev are_apart : List Use → Bool
are_apart [] = true
are_apart (u ∷ rest) = not (is_used u.id rest) && are_apart rest

abbrev are_pinned : List Use → Bool
are_pinned [] = true
are_pinned (u ∷ rest) = nat_le u.pins 255 && are_pinned rest

-- each has the mark of its page
abbrev is_same : Bool → Bool → Bool
is_same true c = c
is_same false c = not c

abbrev are_marked : List ℕ → List Use → Bool
are_marked dirty [] = true
are_marked dirty (u ∷ rest) = is_same u.dirty (is_among u.id dirty) && are_marked dirty rest

-- each number has a frame, and each frame a page
abbrev have_frames : List ℕ → List Use → Bool
have_frames [] uses = true
have_frames (id ∷ rest) uses = is_used id uses && have_frames rest uses

abbrev pages_used : List (ℕ × Page) → List Use → Bool
pages_used [] uses = true
pages_used (one ∷ rest) uses = is_used one.0 uses && pages_used rest uses

abbrev have_pages : List (ℕ × Page) → List Use → Bool
have_pages pages [] = true
have_pages pages (u ∷ rest) = is_some (entry_at u.id pages) && have_pages pages rest

-- all of this of a scene
abbrev pub is_tied : Scene → List Use → Bool
is_tied s uses = (nat_le (length uses) FRAMES && (are_apart uses && are_pinned uses)) && ((are_marked s.dirty uses && have_frames s.dirty uses) && (pages_used s.pages uses && have_pages s.pages uses))

both_ways : (b c : Bool) → (b ≡ true → c ≡ true) → (c ≡ true → b ≡ true) → b ≡ c
both_ways true c on back = sym (on refl)
both_ways false true on back = back refl
both_ways false false on back = refl

same_is : (b c : Bool) → is_same b c ≡ true → b ≡ c
same_is true c e = sym e
same_is false c e = sym (not-true c e)

frame_used : (uses : List Use) (q : ℕ) → is_some (frame_of uses q) ≡ is_used q uses
frame_used [] q = refl
frame_used (u ∷ rest) q = elim (u.id == q) as (λ b. is_some (cond b (Some u) (frame_of rest q)) ≡ (b || is_used q rest)) [ true ↦ refl | false ↦ frame_used rest q ]

at_most_one : (uses : List Use) → are_apart uses ≡ true → (q : ℕ) → count_by (has_id q) uses ≤ 1
at_most_one [] apart q = omega arith
at_most_one (u ∷ rest) apart q =
    let counted = sum_by-cons (λ (y : Use). cond (has_id q y) 1 0) u rest in
    elim (cases_Bool (u.id == q)) [
      | inl here ↦
          let off : is_used q rest ≡ false = subst (λ (n : ℕ). is_used n rest ≡ false) (eqb-true u.id q here) (not-true (is_used u.id rest) (and_first (not (is_used u.id rest)) (are_apart rest) apart)) in
          let none : count_by (has_id q) rest ≡ 0 = none_counted (has_id q) rest (none_so (frame_of rest q) (frame_used rest q ∙ off)) in
          let one : cond {A = ℕ} (has_id q u) 1 0 ≡ 1 = ap (λ (b : Bool). cond {A = ℕ} b 1 0) here in
          omega (arith, counted, none, one)
      | inr off ↦
          let most = at_most_one rest (and_second (not (is_used u.id rest)) (are_apart rest) apart) q in
          let none : cond {A = ℕ} (has_id q u) 1 0 ≡ 0 = ap (λ (b : Bool). cond {A = ℕ} b 1 0) off in
          omega (arith, counted, most, none)
    ]

few_pinned : (uses : List Use) → are_pinned uses ≡ true → AllByRecursion (λ (u : Use). u.pins ≤ 255) uses
few_pinned [] few = tt
few_pinned (u ∷ rest) few = (leb-true u.pins 255 (and_first (nat_le u.pins 255) (are_pinned rest) few), few_pinned rest (and_second (nat_le u.pins 255) (are_pinned rest) few))

among_used : (ns : List ℕ) (uses : List Use) → have_frames ns uses ≡ true → (q : ℕ) → is_among q ns ≡ true → is_used q uses ≡ true
among_used [] uses have q is = absurd (let no : ⊥ = cc in no)
among_used (n ∷ ns) uses have q is = elim (cases_Bool (q == n)) [
  | inl here ↦ ap (λ (k : ℕ). is_used k uses) (eqb-true q n here) ∙ and_first (is_used n uses) (have_frames ns uses) have
  | inr off ↦ among_used ns uses (and_second (is_used n uses) (have_frames ns uses) have) q (sym (ap (λ (b : Bool). b || is_among q ns) off) ∙ is)
]

page_used : (pages : List (ℕ × Page)) (uses : List Use) → pages_used pages uses ≡ true → (q : ℕ) → is_some (entry_at q pages) ≡ true → is_used q uses ≡ true
page_used [] uses have q is = absurd (let no : ⊥ = cc in no)
page_used (e ∷ es) uses have q is = elim (cases_Bool (q == e.0)) [
  | inl here ↦ ap (λ (k : ℕ). is_used k uses) (eqb-true q e.0 here) ∙ and_first (is_used e.0 uses) (pages_used es uses) have
  | inr off ↦ page_used es uses (and_second (is_used e.0 uses) (pages_used es uses) have) q (sym (ap (λ (b : Bool). is_some (cond b (Some e.1) (entry_at q es))) off) ∙ is)
]

used_page : (pages : List (ℕ × Page)) (uses : List Use) → have_pages pages uses ≡ true → (q : ℕ) → is_used q uses ≡ true → is_some (entry_at q pages) ≡ true
used_page pages [] have q is = absurd (let no : ⊥ = cc in no)
used_page pages (u ∷ rest) have q is = elim (cases_Bool (u.id == q)) [
  | inl here ↦ ap (λ (k : ℕ). is_some (entry_at k pages)) (sym (eqb-true u.id q here)) ∙ and_first (is_some (entry_at u.id pages)) (have_pages pages rest) have
  | inr off ↦ used_page pages rest (and_second (is_some (entry_at u.id pages)) (have_pages pages rest) have) q (sym (ap (λ (b : Bool). b || is_used q rest) off) ∙ is)
]

frame_marked : (dirty : List ℕ) (uses : List Use) → are_marked dirty uses ≡ true → (q : ℕ) → option_map_or (λ (u : Use). u.dirty) (frame_of uses q) (is_among q dirty) ≡ is_among q dirty
frame_marked dirty [] marked q = refl
frame_marked dirty (u ∷ rest) marked q = elim (cases_Bool (u.id == q)) [
  | inl here ↦
      ap (λ (b : Bool). option_map_or (λ (u : Use). u.dirty) (cond b (Some u) (frame_of rest q)) (is_among q dirty)) here
      ∙ same_is u.dirty (is_among u.id dirty) (and_first (is_same u.dirty (is_among u.id dirty)) (are_marked dirty rest) marked)
      ∙ ap (λ (n : ℕ). is_among n dirty) (eqb-true u.id q here)
  | inr off ↦
      ap (λ (b : Bool). option_map_or (λ (u : Use). u.dirty) (cond b (Some u) (frame_of rest q)) (is_among q dirty)) off
      ∙ frame_marked dirty rest (and_second (is_same u.dirty (is_among u.id dirty)) (are_marked dirty rest) marked) q
]

-- a mark that a frame has, where one that is marked has a frame
mark_there : (o : Option Use) (b : Bool) → (b ≡ true → is_some o ≡ true) → option_map_or (λ (u : Use). u.dirty) o b ≡ b → b ≡ option_map_or (λ (u : Use). u.dirty) o false
mark_there None true has is = absurd (let none = has refl in let no : ⊥ = cc in no)
mark_there None false has is = refl
mark_there (Some u) b has is = sym is

pub tied : (s : Scene) (uses : List Use) → is_tied s uses ≡ true → IsTied (store_of s) uses
tied s uses all =
    let front = nat_le (length uses) FRAMES && (are_apart uses && are_pinned uses) in
    let marked = are_marked s.dirty uses && have_frames s.dirty uses in
    let paged = pages_used s.pages uses && have_pages s.pages uses in
    let pool : front ≡ true = and_first front (marked && paged) all in
    let rest : (marked && paged) ≡ true = and_second front (marked && paged) all in
    let marks : marked ≡ true = and_first marked paged rest in
    let pages : paged ≡ true = and_second marked paged rest in
    let each : (are_apart uses && are_pinned uses) ≡ true = and_second (nat_le (length uses) FRAMES) (are_apart uses && are_pinned uses) pool in
    record {
      pool = record {
        few = leb-true (length uses) FRAMES (and_first (nat_le (length uses) FRAMES) (are_apart uses && are_pinned uses) pool);
        distinct = at_most_one uses (and_first (are_apart uses) (are_pinned uses) each);
        pins = All-from_recursion (λ (u : Use). u.pins ≤ 255) uses (few_pinned uses (and_second (are_apart uses) (are_pinned uses) each));
      };
      there = λ id.
          ap (λ (o : Option Page). is_some o) (map_has s.pages id)
          ∙ both_ways (is_some (entry_at id s.pages)) (is_used id uses)
          (page_used s.pages uses (and_first (pages_used s.pages uses) (have_pages s.pages uses) pages) id)
          (used_page s.pages uses (and_second (pages_used s.pages uses) (have_pages s.pages uses) pages) id)
          ∙ sym (frame_used uses id);
      marks = λ id.
          set_has s.dirty id
          ∙ mark_there (frame_of uses id) (is_among id s.dirty)
          (λ is. frame_used uses id ∙ among_used s.dirty uses (and_second (are_marked s.dirty uses) (have_frames s.dirty uses) marks) id is)
          (frame_marked s.dirty uses (and_first (are_marked s.dirty uses) (have_frames s.dirty uses) marks) id);
    }
