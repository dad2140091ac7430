-- What is read is what was spelled, step by step.
use Rattle.std.proofs.Common.{◌≡◌, ℕ, ◌+◌, ◌<◌, List, ◌++◌, length, get_or, drop, Option, Some, refl, ap, subst, ◌∙◌}
use Rattle.std.proofs.lemmas.List.{drop_at, get_or-drop}
use Rattle.hb_page_codec.specs.Exact.{AreBytes, IsExact}
use Rattle.hb_page_codec.proofs.Facts.Fields.{Takes}

pub bytes_behind : (bytes front rest : List ℕ) → bytes ≡ front ++ rest → AreBytes bytes → AreBytes rest
bytes_behind bytes front rest e fits i =
    let behind : drop (length front) bytes ≡ rest = ap (λ (l : List ℕ). drop (length front) l) e ∙ drop_at front rest (length front) refl in
    subst (λ (l : List ℕ). get_or l i 0 < 256) behind (rw get_or-drop (fits (length front + i)))

-- a reader that is exact takes what it gives
pub taken : {A : Type 0} (read : List ℕ → Option (A × List ℕ)) (spell : A → List ℕ) (Fits : A → Type 0) → IsExact read spell Fits → (bytes : List ℕ) (x : A × List ℕ) → AreBytes bytes → read bytes ≡ Some x
    → Takes bytes (spell x.0) x.1 × Fits x.0
taken read spell Fits exact bytes x fits e =
    let t = exact.takes bytes x fits e in
    (record { parts = t.0; rest_fits = bytes_behind bytes (spell x.0) x.1 t.0 fits }, t.1)
