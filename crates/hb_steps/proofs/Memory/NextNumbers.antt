-- The number that a page takes that is made is the one that the store gives.
use Rattle.hb_steps.proofs.Memory.Names.{◌≡◌, inl, inr, ℕ, ◌+◌, ◌==◌, Bool, true, false, cond, Option, Some, None, refl, sym, ap, ◌∙◌, cases_Bool, eqb-true, eqb-false, Page, Live, Free, IsNext, StoreState, in_memory}
use Rattle.std.specs.Prelude.{nat_lt}
use Rattle.std.proofs.lemmas.Bool.{ltb-true}
use Rattle.hb_steps.specs.Machines.{next_of, next_of_chain}

of_chain : (head : ℕ) (page : Option Page) (fresh after : ℕ) → next_of_chain head page ≡ Some (fresh, after) → (fresh ≡ head) × (page ≡ Some (Free after))
of_chain head None fresh after is = cc
of_chain head (Some (Live page)) fresh after is = cc
of_chain head (Some (Free next)) fresh after is =
    let same : ◌≡◌ {A = ℕ × ℕ} (head, next) (fresh, after) = cc in
    (sym (ap (λ (p : ℕ × ℕ). p.0) same), ap (λ (n : ℕ). Some (Free n)) (ap (λ (p : ℕ × ℕ). p.1) same))

behind : (b : Bool) (n fresh after : ℕ) → cond {A = Option (ℕ × ℕ)} b (Some (n, 0)) None ≡ Some (fresh, after) → (b ≡ true) × (fresh ≡ n) × (after ≡ 0)
behind true n fresh after is =
    let same : ◌≡◌ {A = ℕ × ℕ} (n, 0) (fresh, after) = cc in
    (refl, sym (ap (λ (p : ℕ × ℕ). p.0) same), sym (ap (λ (p : ℕ × ℕ). p.1) same))
behind false n fresh after is = cc

pub is_next_number : (st : StoreState) (fresh after : ℕ) → next_of st ≡ Some (fresh, after) → IsNext st fresh after
is_next_number st fresh after is = elim (cases_Bool (st.meta.free == 0)) [
  | inl none ↦
      let so : cond {A = Option (ℕ × ℕ)} (nat_lt st.meta.high st.meta.pages) (Some (st.meta.high + 1, 0)) None ≡ Some (fresh, after) = sym (ap (λ (b : Bool). cond b (cond {A = Option (ℕ × ℕ)} (nat_lt st.meta.high st.meta.pages) (Some (st.meta.high + 1, 0)) None) (next_of_chain st.meta.free (in_memory st st.meta.free))) none) ∙ is in
      let found = behind (nat_lt st.meta.high st.meta.pages) (st.meta.high + 1) fresh after so in
      record {
        from_chain = λ some. absurd (some (eqb-true st.meta.free 0 none));
        from_behind = λ empty. (found.1, ltb-true st.meta.high st.meta.pages found.0, found.2);
      }
  | inr some ↦
      let so : next_of_chain st.meta.free (in_memory st st.meta.free) ≡ Some (fresh, after) = sym (ap (λ (b : Bool). cond b (cond {A = Option (ℕ × ℕ)} (nat_lt st.meta.high st.meta.pages) (Some (st.meta.high + 1, 0)) None) (next_of_chain st.meta.free (in_memory st st.meta.free))) some) ∙ is in
      let found = of_chain st.meta.free (in_memory st st.meta.free) fresh after so in
      record {
        from_chain = λ chained. (found.0, ap (in_memory st) found.0 ∙ found.1);
        from_behind = λ empty. absurd (eqb-false st.meta.free 0 some empty);
      }
]
