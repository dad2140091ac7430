-- A store that was just made or opened has no page in a frame.
use Rattle.std.proofs.Common.{◌≡◌, ℕ, Bool, true, false, cond, List, [], ◌∷◌, Option, Some, refl, sym, ap, ◌∙◌}
use Rattle.std.specs.Prelude.{◌==◌}
use Rattle.std.specs.List.{find}
use Rattle.std.specs.Option.{is_some}
use Rattle.std.proofs.lemmas.Bool.{eq-eqb, false≢true}
use Rattle.hb_frag.specs.declared.pages.Page.{Page}
use Rattle.hb_store.specs.Held.{IsTied, StoreHeld}
use Rattle.hb_store.specs.States.{IsNew}

-- what no key finds is empty
none_found : {A : Type 0} (all : List A) (is : ℕ → A → Bool) (key : A → ℕ) → ((a : A) → is (key a) a ≡ true) → ((k : ℕ) → is_some (find (is k) all) ≡ false) → all ≡ []
none_found [] is key itself none = refl
none_found {A = A} (a ∷ rest) is key itself none =
    let here : find (is (key a)) (a ∷ rest) ≡ Some a = ap (λ (b : Bool). cond b (Some a) (find (is (key a)) rest)) (itself a) in
    absurd (false≢true (sym (none (key a)) ∙ ap (λ (o : Option A). is_some o) here))

-- a store that was just opened has no page in a frame
pub no_frames : (held : StoreHeld) → IsNew held.state.turn held.state.meta held.state → IsTied held.state held.uses → held.uses ≡ []
no_frames held new tied =
    none_found held.uses (λ id u. u.id == id) (λ u. u.id) (λ u. eq-eqb u.id u.id refl)
    (λ id. sym (tied.there id) ∙ ap (λ (o : Option Page). is_some o) (new.no_page id))
