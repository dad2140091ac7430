-- Superblocks of two places, and which is the newer.
use Rattle.std.proofs.Common.{◌≡◌, ◌≢◌, ℕ, ◌+◌, ◌*◌, ◌%◌, ◌<◌, ◌≤◌, List, length, take, drop, get_or, Option, Some, None, sym, ap, ◌∙◌, arith}
use Rattle.std.proofs.lemmas.List.{get_or-take, get_or-drop, drop-take, drop-drop}
use Rattle.hb_space.specs.declared.form.TheConstants.{PAGE}
use Rattle.hb_layout.specs.declared.meta.Meta.{Meta}
use Rattle.hb_layout.specs.Offsets.{slot_offset}
use Rattle.hb_super.specs.Superblocks.{HasSuper, IsNewest, next_turn}
use Rattle.hb_super.specs.Reading.{IsOf, StandsInPlace, NewestIs}

-- what was read of a place are its first 41 bytes
pub place_bytes : (turn at : ℕ) (b into : List ℕ) → at ≡ slot_offset turn → length into ≡ 41 → into ≡ take (length into) (drop at b) → into ≡ take 41 (drop (slot_offset turn) b)
place_bytes turn at b into at_is long read = read ∙ ap (λ (n : ℕ). take n (drop at b)) long ∙ ap (λ (n : ℕ). take 41 (drop n b)) at_is

-- the turn stands in the body
pub turn_of : (bytes : List ℕ) (turn : ℕ) (meta : Meta) → HasSuper bytes turn meta → get_or (take 40 (drop (slot_offset turn + 1) bytes)) 9 0 ≡ turn
turn_of bytes turn meta has = ap (λ (l : List ℕ). get_or l 9 0) has.body

-- a place has one turn
pub same_turn : (bytes : List ℕ) (t s : ℕ) (m n : Meta) → t % 2 ≡ s % 2 → HasSuper bytes t m → HasSuper bytes s n → t ≡ s
same_turn bytes t s m n same first second =
    sym (turn_of bytes t m first) ∙ ap (λ (parity : ℕ). get_or (take 40 (drop (PAGE * parity + 1) bytes)) 9 0) same ∙ turn_of bytes s n second

-- a parity is 0 or 1
pub other_parity : (t s u : ℕ) → t % 2 ≢ s % 2 → u % 2 ≢ s % 2 → t % 2 ≡ u % 2
other_parity t s u first second = omega arith

-- The one that comes after the superblock of the other place is the newest.
pub after_other : (bytes : List ℕ) (t s : ℕ) (m n : Meta) → HasSuper bytes t m → HasSuper bytes s n → t % 2 ≢ s % 2 → t ≡ next_turn s → IsNewest bytes t m
after_other bytes t s m n here there apart next = record {
  there = here;
  newer = λ other said has differs. next ∙ ap next_turn (same_turn bytes s other n said (other_parity s t other (λ e. apart (sym e)) differs) there has);
}

-- a turn that doesn't stand in one place stands in the other
pub odd : (t : ℕ) → t % 2 ≢ 0 → t % 2 ≡ 1
odd t differs = omega (arith, differs)

pub even : (t : ℕ) → t % 2 ≢ 1 → t % 2 ≡ 0
even t differs = omega (arith, differs)

-- one that stands alone is the newest
pub alone : (bytes : List ℕ) (t : ℕ) (m : Meta) → HasSuper bytes t m → ((s : ℕ) (n : Meta) → HasSuper bytes s n → s % 2 ≢ t % 2 → ⊥) → IsNewest bytes t m
alone bytes t m here none = record { there = here; newer = λ other said has differs. absurd (none other said has differs) }

pub first_alone : (bytes : List ℕ) (said : ℕ × Meta) → StandsInPlace 0 (Some said) bytes → StandsInPlace 1 None bytes → IsNewest bytes said.0 said.1
first_alone bytes said one none = alone bytes said.0 said.1 one.0 (λ s n has differs. none s n has (odd s (λ e. differs (e ∙ sym one.1))))

pub second_alone : (bytes : List ℕ) (found : Option (ℕ × Meta)) → StandsInPlace 0 None bytes → StandsInPlace 1 found bytes → NewestIs found bytes
second_alone bytes None none one = λ s n has. either s (λ e. none s n has e) (λ e. one s n has e)
  where
    either : (s : ℕ) → s % 2 ≢ 0 → s % 2 ≢ 1 → ⊥
    either s even odd = omega (arith, even, odd)
second_alone bytes (Some said) none one = alone bytes said.0 said.1 one.0 (λ s n has differs. none s n has (even s (λ e. differs (e ∙ sym one.1))))

-- the gate and the body of a place in its first bytes
module _ (bytes : List ℕ) (at : ℕ) where
  pub gate_at : get_or (take 41 (drop at bytes)) 0 0 ≡ get_or bytes at 0
  gate_at = get_or-take 41 (drop at bytes) 0 0 (omega arith) ∙ get_or-drop at bytes 0 0 ∙ ap (λ (i : ℕ). get_or bytes i 0) (let none : at + 0 ≡ at = omega arith in none)

  pub body_at : drop 1 (take 41 (drop at bytes)) ≡ take 40 (drop (at + 1) bytes)
  body_at = drop-take 1 40 (drop at bytes) ∙ ap (λ (l : List ℕ). take 40 l) (drop-drop 1 at bytes)

-- A superblock stands in each list of bytes that has the same in its place.
pub same_place : (xs ys : List ℕ) (turn : ℕ) (meta : Meta) → take 41 (drop (slot_offset turn) ys) ≡ take 41 (drop (slot_offset turn) xs) → HasSuper xs turn meta → HasSuper ys turn meta
same_place xs ys turn meta same has = record {
  legal = has.legal;
  gate = sym (gate_at ys (slot_offset turn)) ∙ ap (λ (l : List ℕ). get_or l 0 0) same ∙ gate_at xs (slot_offset turn) ∙ has.gate;
  body = sym (body_at ys (slot_offset turn)) ∙ ap (λ (l : List ℕ). drop 1 l) same ∙ body_at xs (slot_offset turn) ∙ has.body;
}

-- What the first bytes of a place are of stands in it.
module _ (bytes : List ℕ) (long : 8192 ≤ length bytes) (place : ℕ) (of_two : place < 2) where
  abbrev head : List ℕ
  head = take 41 (drop (slot_offset place) bytes)

  place_same : (turn : ℕ) → turn % 2 ≡ place → slot_offset turn ≡ slot_offset place
  place_same turn here = omega (arith, here, of_two)

  pub stands : (found : Option (ℕ × Meta)) → IsOf place found head → StandsInPlace place found bytes
  stands None none = λ turn meta has here. none turn meta (record {
    legal = has.legal;
    here = here;
    gate = gate_at bytes (slot_offset place) ∙ ap (λ (i : ℕ). get_or bytes i 0) (sym (place_same turn here)) ∙ has.gate;
    body = body_at bytes (slot_offset place) ∙ ap (λ (i : ℕ). take 40 (drop (i + 1) bytes)) (sym (place_same turn here)) ∙ has.body;
  })
  stands (Some said) is = (
    record {
      legal = is.legal;
      gate = ap (λ (i : ℕ). get_or bytes i 0) (place_same said.0 is.here) ∙ sym (gate_at bytes (slot_offset place)) ∙ is.gate;
      body = ap (λ (i : ℕ). take 40 (drop (i + 1) bytes)) (place_same said.0 is.here) ∙ sym (body_at bytes (slot_offset place)) ∙ is.body;
    },
    is.here,
  )
