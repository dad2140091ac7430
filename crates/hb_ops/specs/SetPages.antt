-- Pages by their numbers, and others set under theirs.
use Rattle.std.specs.Prelude.{ℕ, ◌==◌, if◌then◌else◌, List, [], ◌∷◌, Option, Some, Bool, false, ◌||◌}
use Rattle.hb_frag.specs.declared.pages.Page.{Page}

-- whether a number is that of one of these pages
abbrev pub has_page : ℕ → List (ℕ × Page) → Bool
has_page q [] = false
has_page q (one ∷ rest) = (q == one.0) || has_page q rest

-- pages with others set under their numbers, one after the other
abbrev pub set_pages : List (ℕ × Page) → (ℕ → Option Page) → ℕ → Option Page
set_pages [] page = page
set_pages (one ∷ rest) page = set_pages rest (λ id. if id == one.0 then Some one.1 else page id)
