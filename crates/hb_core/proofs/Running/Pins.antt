-- Pages that are pinned and unpinned one after the other: which may be, what becomes of the pins, and that the frames stay those of the
-- pages in memory.
use Rattle.hb_core.proofs.Running.Names.{◌≡◌, ◌≢◌, inl, inr, ℕ, ◌+◌, ◌-◌, ◌<◌, ◌≤◌, ◌==◌, Bool, false, List, [], ◌∷◌, Option, Some, None, IsSome, refl, sym, ap, subst, ◌∙◌, arith, is_some, option_map, option_map_or, cases_Bool, eq-eqb, eqb-true, eqb-false, same_Some, some_value, value_and, Use, pinned, unpinned, IsPool, frame_of, in_place, put_last, IsTied, StoreState, CanMovePins, CanUnpin, pins_of, unpin_each, use_held, one_if, times}
use Rattle.std.specs.Option.{IsSomeAnd}
use Rattle.hb_pool.proofs.Facts.Others.{last_changed, last_no_other, place_changed, place_no_other}
use Rattle.hb_pool.proofs.Facts.Pooled.{frame_pins, in_place_pool, put_last_pool}
use Rattle.hb_core.specs.Pinning.{CanPin}
use Rattle.hb_steps.specs.Using.{pin_each}
use Rattle.hb_steps.proofs.Machines.PinCounts.{pinned_pins, unpinned_pins}
use Rattle.hb_steps.proofs.Machines.PinsFollow.{found_counted}

pub one_itself : (id : ℕ) → one_if (id == id) ≡ 1
one_itself id = ap one_if (eq-eqb id id refl)

pub times_first : (id : ℕ) (rest : List ℕ) → times id (id ∷ rest) ≡ 1 + times id rest
times_first id rest = let one = one_itself id in omega (arith, one)

-- ---- a frame, and its pins

pub pinned_frame : (uses : List Use) (id : ℕ) → 0 < pins_of uses id → IsSomeAnd (frame_of uses id) (λ (u : Use). 0 < u.pins)
pinned_frame uses id some = by (frame_of uses id) some
  where
    by : (o : Option Use) → 0 < option_map_or (λ (u : Use). u.pins) o 0 → IsSomeAnd o (λ (u : Use). 0 < u.pins)
    by None some = absurd (omega (arith, some))
    by (Some u) some = some

pub few_pins : (uses : List Use) (id : ℕ) → IsSome (frame_of uses id) → pins_of uses id < 255 → IsSomeAnd (frame_of uses id) (λ (u : Use). u.pins < 255)
few_pins uses id there few = by (frame_of uses id) there few
  where
    by : (o : Option Use) → IsSome o → option_map_or (λ (u : Use). u.pins) o 0 < 255 → IsSomeAnd o (λ (u : Use). u.pins < 255)
    by None there few = absurd cc
    by (Some u) there few = few

-- ---- the pages in frames, and their marks, stay

abbrev marks_at : List Use → ℕ → Option Bool
marks_at uses id = option_map (λ (u : Use). u.dirty) (frame_of uses id)

abbrev pub SameMarks : List Use → List Use → Type 0
SameMarks uses new = (id : ℕ) → marks_at new id ≡ marks_at uses id

there_alike : (o p : Option Use) → option_map (λ (u : Use). u.dirty) o ≡ option_map (λ (u : Use). u.dirty) p → is_some o ≡ is_some p
there_alike None None same = refl
there_alike None (Some u) same = absurd cc
there_alike (Some u) None same = absurd cc
there_alike (Some u) (Some v) same = refl

marked_alike : (o p : Option Use) → option_map (λ (u : Use). u.dirty) o ≡ option_map (λ (u : Use). u.dirty) p → option_map_or (λ (u : Use). u.dirty) o false ≡ option_map_or (λ (u : Use). u.dirty) p false
marked_alike None None same = refl
marked_alike None (Some u) same = absurd cc
marked_alike (Some u) None same = absurd cc
marked_alike (Some u) (Some v) same = same_Some u.dirty v.dirty same

pub same_there : (uses new : List Use) → SameMarks uses new → (id : ℕ) → IsSome (frame_of uses id) → IsSome (frame_of new id)
same_there uses new same id there = there_alike (frame_of new id) (frame_of uses id) (same id) ∙ there

pub tied_alike : (st : StoreState) (uses new : List Use) → IsTied st uses → IsPool new → SameMarks uses new → IsTied st new
tied_alike st uses new tied pool same = record {
  pool = pool;
  there = λ id. tied.there id ∙ sym (there_alike (frame_of new id) (frame_of uses id) (same id));
  marks = λ id. tied.marks id ∙ sym (marked_alike (frame_of new id) (frame_of uses id) (same id));
}

mapped : (change : Use → Use) → ((u : Use) → (change u).dirty ≡ u.dirty) → (o : Option Use) → option_map (λ (u : Use). u.dirty) (option_map change o) ≡ option_map (λ (u : Use). u.dirty) o
mapped change keeps None = refl
mapped change keeps (Some u) = ap Some (keeps u)

changed_marks : (uses new : List Use) (id : ℕ) (change : Use → Use) → ((u : Use) → (change u).dirty ≡ u.dirty) → frame_of new id ≡ option_map change (frame_of uses id)
    → ((other : ℕ) → other ≢ id → frame_of new other ≡ frame_of uses other) → SameMarks uses new
changed_marks uses new id change keeps here there q = elim (cases_Bool (q == id)) [
  | inl same ↦ subst (λ (n : ℕ). marks_at new n ≡ marks_at uses n) (sym (eqb-true q id same)) (ap (option_map (λ (u : Use). u.dirty)) here ∙ mapped change keeps (frame_of uses id))
  | inr off ↦ ap (option_map (λ (u : Use). u.dirty)) (there q (eqb-false q id off))
]

pub unpinned_marks : (uses : List Use) (id : ℕ) → IsPool uses → SameMarks uses (in_place id unpinned uses)
unpinned_marks uses id pool = changed_marks uses (in_place id unpinned uses) id unpinned (λ u. refl) (place_changed uses id unpinned pool (λ u. refl)) (λ other apart. place_no_other uses id other unpinned apart (λ u. refl))

pub pinned_marks : (uses : List Use) (id : ℕ) → IsPool uses → SameMarks uses (put_last id pinned uses)
pinned_marks uses id pool = changed_marks uses (put_last id pinned uses) id pinned (λ u. refl) (last_changed uses id pinned pool (λ u. refl)) (λ other apart. last_no_other uses id other pinned apart (λ u. refl))

pub unpinned_pool : (uses : List Use) (id : ℕ) (u : Use) → IsPool uses → frame_of uses id ≡ Some u → IsPool (in_place id unpinned uses)
unpinned_pool uses id u pool is = let few = frame_pins uses id u pool is in in_place_pool uses id unpinned u pool is refl (omega (arith, few))

pub pinned_pool : (uses : List Use) (id : ℕ) (u : Use) → IsPool uses → frame_of uses id ≡ Some u → u.pins < 255 → IsPool (put_last id pinned uses)
pinned_pool uses id u pool is few = put_last_pool uses id pinned u pool is refl (omega (arith, few))

pub pins_pinned : (uses : List Use) (id : ℕ) → IsPool uses → IsSome (frame_of uses id) → (q : ℕ) → pins_of (put_last id pinned uses) q ≡ pins_of uses q + one_if (id == q)
pins_pinned uses id pool there q = let u = some_value (frame_of uses id) there in pinned_pins id q uses pool.distinct (found_counted id uses u.0 u.1)

-- ---- one after the other

pub can_unpin : (pages : List ℕ) (uses : List Use) → IsPool uses → ((q : ℕ) → times q pages ≤ pins_of uses q) → CanUnpin pages uses
can_unpin [] uses pool enough = tt
can_unpin (id ∷ rest) uses pool enough =
    let own = enough id in
    let first = times_first id rest in
    let here = pinned_frame uses id (omega (arith, own, first)) in
    let u = value_and (frame_of uses id) _ here in (
      here,
      can_unpin rest (in_place id unpinned uses) (unpinned_pool uses id u.0 pool u.1)
          (λ q. let less = unpinned_pins id q uses pool.distinct in let all = enough q in omega (arith, less, all)),
    )

pub tied_unpinned : (st : StoreState) (pages : List ℕ) (uses : List Use) → IsTied st uses → CanUnpin pages uses → IsTied st (unpin_each pages uses)
tied_unpinned st [] uses tied can = tied
tied_unpinned st (id ∷ rest) uses tied (here, can) =
    let u = value_and (frame_of uses id) _ here in
    tied_unpinned st rest (in_place id unpinned uses) (tied_alike st uses (in_place id unpinned uses) tied (unpinned_pool uses id u.0 tied.pool u.1) (unpinned_marks uses id tied.pool)) can

pub pins_unpinned : (pages : List ℕ) (uses : List Use) → IsPool uses → CanUnpin pages uses → (q : ℕ) → pins_of (unpin_each pages uses) q ≡ pins_of uses q - times q pages
pins_unpinned [] uses pool can q = omega arith
pins_unpinned (id ∷ rest) uses pool (here, can) q =
    let u = value_and (frame_of uses id) _ here in
    let later = pins_unpinned rest (in_place id unpinned uses) (unpinned_pool uses id u.0 pool u.1) can q in
    let less = unpinned_pins id q uses pool.distinct in
    omega (arith, later, less)

pub marks_unpinned : (pages : List ℕ) (uses : List Use) → IsPool uses → CanUnpin pages uses → SameMarks uses (unpin_each pages uses)
marks_unpinned [] uses pool can q = refl
marks_unpinned (id ∷ rest) uses pool (here, can) q =
    let u = value_and (frame_of uses id) _ here in
    marks_unpinned rest (in_place id unpinned uses) (unpinned_pool uses id u.0 pool u.1) can q ∙ unpinned_marks uses id pool q

pub pool_unpinned : (pages : List ℕ) (uses : List Use) → IsPool uses → CanUnpin pages uses → IsPool (unpin_each pages uses)
pool_unpinned [] uses pool can = pool
pool_unpinned (id ∷ rest) uses pool (here, can) =
    let u = value_and (frame_of uses id) _ here in
    pool_unpinned rest (in_place id unpinned uses) (unpinned_pool uses id u.0 pool u.1) can

pub can_pin : (pages : List ℕ) (uses : List Use) → IsPool uses → ((q : ℕ) → 0 < times q pages → IsSome (frame_of uses q)) → ((q : ℕ) → pins_of uses q + times q pages ≤ 255) → CanPin pages uses
can_pin [] uses pool there few = tt
can_pin (id ∷ rest) uses pool there few =
    let own = few id in
    let first = times_first id rest in
    let some : IsSome (frame_of uses id) = there id (omega (arith, first)) in
    let here = few_pins uses id some (omega (arith, own, first)) in
    let u = value_and (frame_of uses id) _ here in (
      here,
      can_pin rest (put_last id pinned uses) (pinned_pool uses id u.0 pool u.1 u.2)
          (λ q among. same_there uses (put_last id pinned uses) (pinned_marks uses id pool) q (there q (omega (arith, among))))
          (λ q. let more = pins_pinned uses id pool some q in let all = few q in omega (arith, more, all)),
    )

pub tied_pinned : (st : StoreState) (pages : List ℕ) (uses : List Use) → IsTied st uses → CanPin pages uses → IsTied st (pin_each pages uses)
tied_pinned st [] uses tied can = tied
tied_pinned st (id ∷ rest) uses tied (here, can) =
    let u = value_and (frame_of uses id) _ here in
    tied_pinned st rest (put_last id pinned uses) (tied_alike st uses (put_last id pinned uses) tied (pinned_pool uses id u.0 tied.pool u.1 u.2) (pinned_marks uses id tied.pool)) can

-- so the frames stay those of the pages in memory
pub tied_held : (st : StoreState) (before after : List ℕ) (uses : List Use) → IsTied st uses → CanMovePins before after uses → IsTied st (use_held before after uses)
tied_held st before after uses tied (out, in_) = tied_pinned st after (unpin_each before uses) (tied_unpinned st before uses tied out) in_

pub can_hold : (before after : List ℕ) (uses : List Use) → IsPool uses → ((q : ℕ) → times q before ≤ pins_of uses q) → ((q : ℕ) → 0 < times q after → IsSome (frame_of uses q)) → ((q : ℕ) → pins_of uses q + times q after ≤ 255) → CanMovePins before after uses
can_hold before after uses pool enough there few =
    let out = can_unpin before uses pool enough in (
      out,
      can_pin after (unpin_each before uses) (pool_unpinned before uses pool out)
          (λ q among. same_there uses (unpin_each before uses) (marks_unpinned before uses pool out) q (there q among))
          (λ q. let less = pins_unpinned before uses pool out q in let all = few q in omega (arith, less, all)),
    )
