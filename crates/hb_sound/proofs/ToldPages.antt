-- What is read of a page, where it is told.
use Rattle.std.proofs.Common.{◌≡◌, ◌⊎◌, inr, ℕ, zero, suc, ◌<◌, ◌≤◌, List, length, Option, Some, None, IfSome, sym, ap, ◌∙◌, subst, arith}
use Rattle.hb_lemmas.proofs.Lists.{place_within}
use Rattle.hb_frag.specs.declared.pages.Page.{Page}
use Rattle.hb_sound.specs.Told.{GivesPage, item_at}

-- what is so of the page that was read is so of the told one
pub told_so : (P : Page → Type 0) (o : Option (List (Option Page))) (id : ℕ) (page : Page) → GivesPage o id (Some page) → P page → IfSome o (λ told. (p : Page) → item_at told id ≡ Some (Some p) → P p)
told_so P None id page gives is = tt
told_so P (Some told) id page gives is = λ p e.
    let same : Some page ≡ Some p = gives (Some p) e in
    let it : page ≡ p = cc in
    subst P it is

pub told_there : (o : Option (List (Option Page))) (id : ℕ) (page : Page) → GivesPage o id (Some page) → IfSome o (λ told. item_at told id ≡ Some None → ⊥)
told_there None id page gives = tt
told_there (Some told) id page gives = λ e. let same : Some page ≡ None = gives None e in cc

pub told_hole : (o : Option (List (Option Page))) (id pages : ℕ) → 1 ≤ id → GivesPage o id None
    → IfSome o (λ told. (pages < id) ⊎ (id ≤ length told → item_at told id ≡ Some None))
told_hole None id pages some gives = tt
told_hole (Some told) id pages some gives = inr (λ within. there told id some within gives)
  where
    there : (told : List (Option Page)) (id : ℕ) → 1 ≤ id → id ≤ length told → GivesPage (Some told) id None → item_at told id ≡ Some None
    there told zero some within gives = absurd (omega (arith, some))
    there told (suc place) some within gives =
        let is = place_within told place (omega (arith, within)) in
        let e : None ≡ is.0 = gives is.0 is.1 in
        is.1 ∙ ap (λ (x : Option Page). Some x) (sym e)
