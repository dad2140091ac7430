-- Copying, of the records at the front of bytes, those that lie in a box.
use Rattle.std.proofs.Common.{◌≡◌, ◌⊎◌, inl, inr, ℕ, ◌+◌, ◌-◌, ◌*◌, ◌<◌, ◌≤◌, Bool, true, false, cond, List, [], ◌∷◌, ◌++◌, length, get_or, drop, Some, None, IsSome, sym, ap, subst, ◌∙◌, append_assoc, arith}
use Rattle.std.proofs.lemmas.Bool.{cases_Bool}
use Rattle.std.proofs.lemmas.List.{append-nil}
use Rattle.hb_space.proofs.Facts.Boxes.{Holds-from_test, test-from_Holds}
use Rattle.hb_space.specs.Boxes.{Area, Holds, IsArea, holds}
use Rattle.hb_space.specs.declared.records.Record.{Record}
use Rattle.hb_page_codec.specs.Reading.{many_at}
use Rattle.hb_page_codec.specs.ReadingFields.{point_at, record_at, records_at}
use Rattle.hb_view.specs.Behind.{list_or}
use Rattle.hb_view.specs.Corners.{point_there}
use Rattle.hb_view.specs.Lists.{records_there}
use Rattle.hb_view.specs.Within.{records_within}
use Rattle.hb_view.proofs.Cornered.{point_count, point_is}
use Rattle.hb_view.proofs.Listed.{left_list, others_there}

-- ---- a point where it stands

-- its values so far lie between those of two corners
abbrev pub LiesTo : ℕ → List ℕ → List ℕ → List ℕ → Type 0
LiesTo i p least greatest = (j : ℕ) → j < i → (get_or least j 0 ≤ get_or p j 0) × (get_or p j 0 ≤ get_or greatest j 0)

-- one of them doesn't
abbrev pub PastCorner : List ℕ → Area → ℕ → Type 0
PastCorner p at_hand i = (get_or p i 0 < get_or at_hand.lo i 0) ⊎ (get_or at_hand.hi i 0 < get_or p i 0)

module _ (k : ℕ) (bytes : List ℕ) (at_hand : Area) (room : 8 * k ≤ length bytes) (attributes : length at_hand.lo ≡ k) where
  pub lies_inside : (i : ℕ) → IsArea at_hand → k ≤ i → LiesTo i (point_there k bytes) at_hand.lo at_hand.hi → true ≡ holds at_hand (point_there k bytes)
  lies_inside i is_area le each =
      let many = point_count k bytes room in
      sym (test-from_Holds at_hand (point_there k bytes) is_area (record { same = many ∙ sym attributes; between = λ j lt. each j (omega (arith, lt, le, many)) }))

  pub below_least : (i value : ℕ) (corner least : List ℕ) → value ≡ get_or (point_there k bytes) i 0 → least ≡ corner → corner ≡ at_hand.lo → value < get_or least i 0 → PastCorner (point_there k bytes) at_hand i
  below_least i value corner least is same lo lt = inl (let e = ap (λ (l : List ℕ). get_or l i 0) (same ∙ lo) in omega (arith, e, is, lt))

  pub above_greatest : (i value : ℕ) (corner greatest : List ℕ) → value ≡ get_or (point_there k bytes) i 0 → greatest ≡ corner → corner ≡ at_hand.hi → get_or greatest i 0 < value → PastCorner (point_there k bytes) at_hand i
  above_greatest i value corner greatest is same hi lt = inr (let e = ap (λ (l : List ℕ). get_or l i 0) (same ∙ hi) in omega (arith, e, is, lt))

  pub lies_outside : (i : ℕ) → i < k → PastCorner (point_there k bytes) at_hand i → false ≡ holds at_hand (point_there k bytes)
  lies_outside i lt out = elim (cases_Bool (holds at_hand (point_there k bytes))) [
    | inl held ↦ absurd (never (Holds-from_test at_hand (point_there k bytes) held) out)
    | inr past ↦ sym past
  ]
    where
      never : Holds at_hand (point_there k bytes) → PastCorner (point_there k bytes) at_hand i → ⊥
      never inside out =
          let many = point_count k bytes room in
          let between = inside.between i (omega (arith, lt, many)) in
          elim out [ inl below ↦ omega (arith, below, between.0) | inr above ↦ omega (arith, above, between.1) ]

pub point_read_is : (k : ℕ) (bytes key rest : List ℕ) → point_at k bytes ≡ Some (key, rest) → key ≡ point_there k bytes
point_read_is k bytes key rest e = sym (ap list_or e)

pub point_not_missing : (k : ℕ) (bytes : List ℕ) → 8 * k ≤ length bytes → point_at k bytes ≡ None → ⊥
point_not_missing k bytes room none = let never : None ≡ Some (point_there k bytes, drop (8 * k) bytes) = sym none ∙ point_is k bytes room in cc never

-- ---- one record after the other

-- So many records are left. What was taken so far, with those of them that lie in the box, is what is to be taken.
pub record TakesOn (k left : ℕ) (rest : List ℕ) (at_hand : Area) (so_far all : List Record) : Type 0 where
  pub there : IsSome (records_at k left rest)
  pub same : so_far ++ records_within at_hand (records_there k left rest) ≡ all

module _ (k count i : ℕ) (rest after behind : List ℕ) (at_hand : Area) (so_far all : List Record) (r : Record) (lt : i < count) (read : record_at k rest ≡ Some (r, after)) (is : behind ≡ after) (takes : TakesOn k (count - i) rest at_hand so_far all) where
  abbrev others : List Record
  others = records_there k (count - (i + 1)) after

  goes : (b : Bool) → holds at_hand r.key ≡ b → so_far ++ cond b (r ∷ records_within at_hand others) (records_within at_hand others) ≡ all
  goes b test =
      ap (λ (c : Bool). so_far ++ cond c (r ∷ records_within at_hand others) (records_within at_hand others)) (sym test)
      ∙ ap (λ (rs : List Record). so_far ++ records_within at_hand rs) (sym (left_list k count i rest r after lt takes.there read))
      ∙ takes.same

  goes_on : (new : List Record) → new ++ records_within at_hand others ≡ all → TakesOn k (count - (i + 1)) behind at_hand new all
  goes_on new same = subst (λ (b : List ℕ). TakesOn k (count - (i + 1)) b at_hand new all) (sym is) (record { there = others_there k count i rest r after lt takes.there read; same = same })

  pub takes_it : (new : List Record) → new ≡ so_far ++ r ∷ [] → true ≡ holds at_hand r.key → TakesOn k (count - (i + 1)) behind at_hand new all
  takes_it new pushed test = goes_on new (ap (λ (rs : List Record). rs ++ records_within at_hand others) pushed ∙ append_assoc so_far (r ∷ []) (records_within at_hand others) ∙ goes true (sym test))

  pub leaves_it : (new : List Record) → new ≡ so_far → false ≡ holds at_hand r.key → TakesOn k (count - (i + 1)) behind at_hand new all
  leaves_it new same test = goes_on new (ap (λ (rs : List Record). rs ++ records_within at_hand others) same ∙ goes false (sym test))

pub none_more : (k count i : ℕ) (rest : List ℕ) (at_hand : Area) (so_far all : List Record) → count ≤ i → TakesOn k (count - i) rest at_hand so_far all → so_far ≡ all
unfolding many_at
none_more k count i rest at_hand so_far all le takes =
    let e : count - i ≡ 0 = omega arith in
    sym (append-nil so_far) ∙ ap (λ (n : ℕ). so_far ++ records_within at_hand (records_there k n rest)) (sym e) ∙ takes.same
