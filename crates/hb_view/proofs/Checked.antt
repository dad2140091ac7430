-- Bytes that are read over as a page spell one.
use Rattle.std.proofs.Common.{◌≡◌, ◌↔◌, ℕ, zero, suc, Bool, true, false, cond, eqb, List, [], ◌∷◌, length, Option, Some, None, IsSome, IsTrue, refl, sym, subst, ◌∙◌}
use Rattle.std.specs.List.{list_all}
use Rattle.std.proofs.lemmas.Bool.{eq-eqb, false≢true}
use Rattle.hb_lemmas.proofs.Options.{some_value}
use Rattle.hb_space.specs.declared.form.TheConstants.{PAGE}
use Rattle.hb_frag.specs.declared.pages.Page.{Page}
use Rattle.hb_page_codec.specs.ReadingFields.{area_at}
use Rattle.hb_page_codec.specs.ReadingPages.{tree_at, head_at, live_at, fields_at, page_of_bytes}
use Rattle.hb_view.specs.Behind.{behind, live_behind, fields_behind}
use Rattle.hb_view.proofs.Skipped.{steps, behind_made, behind_then, name_skipped}
use Rattle.hb_view.proofs.Headed.{spelled_long}
use Rattle.hb_lemmas.specs.Options.{◌>>=◌}

live_skipped : (bytes : List ℕ) → behind (live_at bytes) ≡ live_behind bytes
unfolding live_at live_behind
live_skipped bytes = steps (head_at bytes) _ _ (λ head. behind_then (area_at head.1 head.2) _ (λ rest. behind (tree_at head.1 rest)) (λ area. behind_made (tree_at head.1 area.1) _))

fields_skipped : (bytes : List ℕ) → behind (fields_at bytes) ≡ fields_behind bytes
unfolding fields_at fields_behind
fields_skipped [] = refl
fields_skipped (zero ∷ rest) = refl
fields_skipped (suc zero ∷ rest) = live_skipped rest
fields_skipped (suc (suc zero) ∷ rest) = name_skipped _ rest
fields_skipped (suc (suc (suc b)) ∷ rest) = refl

-- what the fields and the zeros behind them make
unfoldable pub ending : Option (Page × List ℕ) → Option Page
ending o = o >>= λ x. cond (list_all (λ b. eqb b 0) x.1) (Some x.0) None

pub whole : (bytes : List ℕ) → length bytes ≡ PAGE → page_of_bytes bytes ≡ ending (fields_at bytes)
unfolding page_of_bytes ending
whole bytes long = rw (eq-eqb (length bytes) PAGE long) refl

ends : (o : Option (Page × List ℕ)) (rest : List ℕ) → behind o ≡ Some rest → IsTrue (list_all (λ b. eqb b 0) rest) ↔ IsSome (ending o)
unfolding ending
ends None rest e = absurd cc
ends (Some x) rest e =
    let same : x.1 ≡ rest = cc in
    subst (λ (b : List ℕ). IsTrue (list_all (λ b. eqb b 0) b) ↔ IsSome (ending (Some x))) same (tested x.0 (list_all (λ b. eqb b 0) x.1))
  where
    tested : (page : Page) (b : Bool) → IsTrue b ↔ IsSome (cond b (Some page) None)
    tested page true = (λ t. refl, λ t. refl)
    tested page false = (λ t. absurd (false≢true t), λ t. cc)

never_ends : (o : Option (Page × List ℕ)) → behind o ≡ None → IsSome (ending o) → ⊥
unfolding ending
never_ends None e some = cc
never_ends (Some x) e some = cc

pub spelled_by_zeros : (bytes rest : List ℕ) (b : Bool) → length bytes ≡ PAGE → fields_behind bytes ≡ Some rest → b ≡ list_all (λ b. eqb b 0) rest → IsTrue b ↔ IsSome (page_of_bytes bytes)
spelled_by_zeros bytes rest b long e test =
    let tells = ends (fields_at bytes) rest (fields_skipped bytes ∙ e) in
    let those : IsTrue b ↔ IsSome (ending (fields_at bytes)) = subst (λ (t : Bool). IsTrue t ↔ IsSome (ending (fields_at bytes))) (sym test) tells in
    subst (λ (o : Option Page). IsTrue b ↔ IsSome o) (sym (whole bytes long)) those

pub unspelled : (bytes : List ℕ) → length bytes ≡ PAGE → fields_behind bytes ≡ None → IsTrue false ↔ IsSome (page_of_bytes bytes)
unspelled bytes long none = (
  λ t. absurd (false≢true t),
  λ some. absurd (never_ends (fields_at bytes) (fields_skipped bytes ∙ none) (subst (λ (o : Option Page). IsSome o) (whole bytes long) some)),
)

pub other_length : (bytes : List ℕ) → ¬ (length bytes ≡ PAGE) → IsTrue false ↔ IsSome (page_of_bytes bytes)
other_length bytes other = (λ t. absurd (false≢true t), λ some. let w = some_value (page_of_bytes bytes) some in absurd (other (spelled_long bytes w.0 w.1)))
