-- One draw more: what was drawn so far, and what is still wanted, stay what is wanted in all.
use Rattle.std.proofs.Common.{◌≡◌, ℕ, zero, suc, ◌+◌, ◌-◌, ◌*◌, ◌%◌, ◌<◌, ◌≤◌, List, [], ◌∷◌, ◌++◌, sym, ap, ◌∙◌, arith, append_assoc, append-nil}
use Rattle.std.specs.Prelude.{EachIndex, slice_index}
use Rattle.hb_lemmas.proofs.Numbers.{one_left}
use Rattle.hb_gen.specs.Draws.{draw, next_state, state_behind}
use Rattle.hb_gen.specs.Lines.{drawn_values, drawn_lows, drawn_highs}

none_left : (k i : ℕ) → k ≤ i → k - i ≡ 0
none_left k i past = omega arith

-- the states of what is still wanted
pub state_after : (k i x y end : ℕ) → i < k → y ≡ next_state x → state_behind (k - i) x ≡ end → state_behind (k - (i + 1)) y ≡ end
state_after k i x y end more y_is before = rw y_is (sym (ap (λ n. state_behind n x) (one_left k i more)) ∙ before)

pub state_after_two : (k i x y end : ℕ) → i < k → y ≡ next_state (next_state x) → state_behind (2 * (k - i)) x ≡ end → state_behind (2 * (k - (i + 1))) y ≡ end
state_after_two k i x y end more y_is before =
    let two : 2 * (k - i) ≡ suc (suc (2 * (k - (i + 1)))) = omega arith in
    rw y_is (sym (ap (λ n. state_behind n x) two) ∙ before)

-- a list to which the first of what is wanted is added
one_joins : (front new rest more all : List ℕ) (value v : ℕ) → rest ≡ value ∷ more → v ≡ value → new ≡ front ++ v ∷ [] → front ++ rest ≡ all → new ++ more ≡ all
one_joins front new rest more all value v rest_is v_is new_is before =
    rw (new_is, v_is) (append_assoc front (value ∷ []) more ∙ ap (λ r. front ++ r) (sym rest_is) ∙ before)

none_joins : (front rest all : List ℕ) → rest ≡ [] → front ++ rest ≡ all → front ≡ all
none_joins front rest all rest_is before = sym (ap (λ r. front ++ r) rest_is ∙ append-nil front) ∙ before

-- k in all, i so far, at the state x
module _ (k i x : ℕ) where
  pub value_added : (front new all : List ℕ) (y v : ℕ) → i < k → y ≡ next_state x → v ≡ draw x % 1000 → new ≡ front ++ v ∷ [] → front ++ drawn_values (k - i) x ≡ all → new ++ drawn_values (k - (i + 1)) y ≡ all
  value_added front new all y v more y_is v_is new_is before =
      rw y_is (one_joins front new _ _ all _ v (ap (λ n. drawn_values n x) (one_left k i more)) v_is new_is before)

  pub low_added : (front new all : List ℕ) (y v : ℕ) → i < k → y ≡ next_state (next_state x) → v ≡ draw x % 1000 → new ≡ front ++ v ∷ [] → front ++ drawn_lows (k - i) x ≡ all → new ++ drawn_lows (k - (i + 1)) y ≡ all
  low_added front new all y v more y_is v_is new_is before =
      rw y_is (one_joins front new _ _ all _ v (ap (λ n. drawn_lows n x) (one_left k i more)) v_is new_is before)

  pub high_added : (front new all : List ℕ) (y v : ℕ) → i < k → y ≡ next_state (next_state x) → v ≡ draw x % 1000 + draw (next_state x) % 50 → new ≡ front ++ v ∷ [] → front ++ drawn_highs (k - i) x ≡ all → new ++ drawn_highs (k - (i + 1)) y ≡ all
  high_added front new all y v more y_is v_is new_is before =
      rw y_is (one_joins front new _ _ all _ v (ap (λ n. drawn_highs n x) (one_left k i more)) v_is new_is before)

  pub lows_made : (front all : List ℕ) → k ≤ i → front ++ drawn_lows (k - i) x ≡ all → front ≡ all
  lows_made front all past before = none_joins front _ all (ap (λ n. drawn_lows n x) (none_left k i past)) before

  pub highs_made : (front all : List ℕ) → k ≤ i → front ++ drawn_highs (k - i) x ≡ all → front ≡ all
  highs_made front all past before = none_joins front _ all (ap (λ n. drawn_highs n x) (none_left k i past)) before

-- no lower value is above its upper one
lows_below_highs : (k x : ℕ) → EachIndex (drawn_lows k x) (λ i. slice_index (drawn_lows k x) i ≤ slice_index (drawn_highs k x) i)
lows_below_highs zero x i lt = absurd (omega arith)
lows_below_highs (suc k) x zero lt = omega arith
lows_below_highs (suc k) x (suc i) lt = lows_below_highs k (state_behind 2 x) i (omega arith)

pub corners_in_order : (lo hi : List ℕ) (k x : ℕ) → lo ≡ drawn_lows k x → hi ≡ drawn_highs k x → EachIndex lo (λ i. slice_index lo i ≤ slice_index hi i)
corners_in_order lo hi k x lo_is hi_is = rw (lo_is, hi_is) (lows_below_highs k x)
