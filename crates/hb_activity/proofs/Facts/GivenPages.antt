-- Which page is given under a number: the first one of it, and one of another number isn't.
use Rattle.std.proofs.Common.{◌≡◌, ◌≢◌, ℕ, Bool, cond, List, ◌∷◌, Some, refl, ap, eq-eqb, ne_eqb}
use Rattle.hb_activity.specs.Deciding.{page_among}
use Rattle.hb_frag.specs.declared.pages.LivePage.{LivePage}

pub first_given : (id : ℕ) (page : LivePage) (rest : List (ℕ × LivePage)) → page_among ((id, page) ∷ rest) id ≡ Some page
first_given id page rest = ap (λ (b : Bool). cond b (Some page) (page_among rest id)) (eq-eqb id id refl)

pub next_given : (id other : ℕ) (page : LivePage) (rest : List (ℕ × LivePage)) → id ≢ other → page_among ((id, page) ∷ rest) other ≡ page_among rest other
next_given id other page rest apart = ap (λ (b : Bool). cond b (Some page) (page_among rest other)) (ne_eqb id other apart)
