-- That one superblock is the newest, and what a place has.
use Rattle.std.proofs.Common.{◌≡◌, ◌≢◌, ◌⊎◌, inl, inr, ℕ, ◌+◌, ◌*◌, ◌%◌, ◌≤◌, List, take, drop, get_or, sym, ap, ◌∙◌, subst, arith}
use Rattle.std.proofs.Math.Dec.{eqb}
use Rattle.std.proofs.lemmas.Bool.{cases_Bool, eqb-true, eqb-false}
use Rattle.hb_space.specs.declared.form.TheConstants.{PAGE}
use Rattle.hb_disk.specs.Calls.{open_gate}
use Rattle.hb_layout.specs.declared.meta.Meta.{Meta}
use Rattle.hb_super.specs.Superblocks.{IsLegal, HasSuper, IsNewest, HasNone, body_bytes, next_turn, OneNewest}
use Rattle.hb_super.proofs.Supers.{same_turn, after_other, alone, even, odd}
use Rattle.hb_super.proofs.Facts.Gates.{never_both}
use Rattle.hb_super.proofs.Bodies.{known_body, one_body}
use Rattle.hb_lemmas.proofs.Decisions.{Known}

pub next_or_before : (t s : ℕ) → t ≤ 3 → s ≤ 3 → t % 2 ≢ s % 2 → (t ≡ next_turn s) ⊎ (s ≡ next_turn t)
next_or_before t s t_fits s_fits apart = elim (cases_Bool (eqb t (next_turn s))) [
  | inl next ↦ inl (eqb-true t (next_turn s) next)
  | inr not_next ↦ inr (omega (arith, t_fits, s_fits, apart, eqb-false t (next_turn s) not_next))
]

-- a place says one thing
pub one_said : (bytes : List ℕ) (t s : ℕ) (m n : Meta) → t % 2 ≡ s % 2 → HasSuper bytes t m → HasSuper bytes s n → m ≡ n
one_said bytes t s m n same first second =
    let turn : t ≡ s = same_turn bytes t s m n same first second in
    let other : HasSuper bytes t n = subst (λ (u : ℕ). HasSuper bytes u n) (sym turn) second in
    one_body t m n first.legal other.legal (sym first.body ∙ other.body)

-- the superblock of a place
pub record Standing (bytes : List ℕ) (place : ℕ) : Type 0 where
  pub turn : ℕ
  pub said : Meta
  pub there : HasSuper bytes turn said
  pub here : turn % 2 ≡ place

module _ (bytes : List ℕ) (place : ℕ) where
  abbrev body : List ℕ
  body = take 40 (drop (PAGE * place + 1) bytes)

  abbrev t : ℕ
  t = get_or body 9 0

  body_is : (is : Standing bytes place) → body ≡ body_bytes is.turn is.said
  body_is is = ap (λ (p : ℕ). take 40 (drop (PAGE * p + 1) bytes)) (sym is.here) ∙ is.there.body

  turn_is : (is : Standing bytes place) → is.turn ≡ t
  turn_is is = sym (ap (λ (l : List ℕ). get_or l 9 0) (body_is is))

  pub known_place : Known (Standing bytes place)
  known_place =
      elim (cases_Bool (eqb (t % 2) place)) [
        | inl parity ↦
            let here : t % 2 ≡ place = eqb-true (t % 2) place parity in
            elim (cases_Bool (eqb (get_or bytes (PAGE * place) 0) open_gate)) [
              | inl gate ↦ elim (known_body body t) [
                | inl has ↦ inl (record {
                  turn = t;
                  said = has.0;
                  there = record {
                    legal = has.1;
                    gate = ap (λ (p : ℕ). get_or bytes (PAGE * p) 0) here ∙ eqb-true (get_or bytes (PAGE * place) 0) open_gate gate;
                    body = ap (λ (p : ℕ). take 40 (drop (PAGE * p + 1) bytes)) here ∙ has.2;
                  };
                  here = here;
                })
                | inr none ↦ inr (λ is.
                    let same : is.turn ≡ t = turn_is is in
                    none (
                      is.said,
                      subst (λ (u : ℕ). IsLegal u is.said) same is.there.legal,
                      body_is is ∙ ap (λ (u : ℕ). body_bytes u is.said) same,
                    ))
              ]
              | inr closed ↦ inr (λ is. eqb-false (get_or bytes (PAGE * place) 0) open_gate closed (ap (λ (p : ℕ). get_or bytes (PAGE * p) 0) (sym is.here) ∙ is.there.gate))
            ]
        | inr elsewhere ↦ inr (λ is. eqb-false (t % 2) place elsewhere (ap (λ (u : ℕ). u % 2) (sym (turn_is is)) ∙ is.here))
      ]

module _ (bytes : List ℕ) where
  neither : (Standing bytes 0 → ⊥) → (Standing bytes 1 → ⊥) → HasNone bytes
  neither first second t m has = elim (cases_Bool (eqb (t % 2) 0)) [
    | inl here ↦ first (record { turn = t; said = m; there = has; here = eqb-true (t % 2) 0 here })
    | inr there ↦ second (record { turn = t; said = m; there = has; here = odd t (eqb-false (t % 2) 0 there) })
  ]

  first_newest : Standing bytes 0 → (Standing bytes 1 → ⊥) → OneNewest bytes
  first_newest is none = record {
    turn = is.turn;
    said = is.said;
    newest = alone bytes is.turn is.said is.there (λ s n has differs. none (record { turn = s; said = n; there = has; here = odd s (λ e. differs (e ∙ sym is.here)) }));
  }

  second_newest : (Standing bytes 0 → ⊥) → Standing bytes 1 → OneNewest bytes
  second_newest none is = record {
    turn = is.turn;
    said = is.said;
    newest = alone bytes is.turn is.said is.there (λ s n has differs. none (record { turn = s; said = n; there = has; here = even s (λ e. differs (e ∙ sym is.here)) }));
  }

  apart_of : (t s : ℕ) → t % 2 ≡ 0 → s % 2 ≡ 1 → t % 2 ≢ s % 2
  apart_of t s here there e = omega (arith, here, there, e)

  one_of_two : Standing bytes 0 → Standing bytes 1 → OneNewest bytes
  one_of_two a b =
      let apart : a.turn % 2 ≢ b.turn % 2 = apart_of a.turn b.turn a.here b.here in
      elim (next_or_before a.turn b.turn a.there.legal.turn_fits b.there.legal.turn_fits apart) [
        | inl next ↦ record { turn = a.turn; said = a.said; newest = after_other bytes a.turn b.turn a.said b.said a.there b.there apart next }
        | inr next ↦ record { turn = b.turn; said = b.said; newest = after_other bytes b.turn a.turn b.said a.said b.there a.there (λ e. apart (sym e)) next }
      ]

  pub some_newest : HasNone bytes ⊎ OneNewest bytes
  some_newest = elim (known_place bytes 0) [
    | inl a ↦ elim (known_place bytes 1) [ inl b ↦ inr (one_of_two a b) | inr none ↦ inr (first_newest a none) ]
    | inr none ↦ elim (known_place bytes 1) [ inl b ↦ inr (second_newest none b) | inr no_other ↦ inl (neither none no_other) ]
  ]

  -- two newest ones stand in one place
  pub newest_parity : (t s : ℕ) (m n : Meta) → IsNewest bytes t m → IsNewest bytes s n → t % 2 ≡ s % 2
  newest_parity t s m n first second = elim (cases_Bool (eqb (t % 2) (s % 2))) [
    | inl same ↦ eqb-true (t % 2) (s % 2) same
    | inr differ ↦
        let apart = eqb-false (t % 2) (s % 2) differ in
        absurd (never_both t s (first.newer s n second.there (λ e. apart (sym e))) (second.newer t m first.there apart))
  ]
