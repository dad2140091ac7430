-- What is told of a page by its parts is told of the page.
use Rattle.std.proofs.Common.{◌≡◌, ℕ, subst}
use Rattle.hb_space.specs.Boxes.{Area}
use Rattle.hb_frag.specs.declared.pages.LivePage.{LivePage}
use Rattle.hb_frag.specs.declared.pages.Page.{Page}
use Rattle.hb_frag.specs.declared.pages.Page.TheVariants.{Live, Free}
use Rattle.hb_frag.specs.Trees.{Tree}
use Rattle.hb_view.specs.Seen.{tree_seen, area_seen}
use Rattle.hb_view.specs.Views.{IsLiveAnd, HasInside}
use Rattle.hb_view.specs.declared.trees.Inside.{Inside}

-- a page in use, by its level, its box and its tree
pub by_parts : (p : Page) (inside : Inside) (level : ℕ) (P : LivePage → Type 0) → IsLiveAnd p (λ page. HasInside page inside) → IsLiveAnd p (λ page. level ≡ page.level)
    → P (record { level = level; area = area_seen inside; frag = tree_seen inside.tree }) → IsLiveAnd p P
by_parts (Live page) inside level P has el h =
    let L : ℕ → Type 0 = λ l. P (record { level = l; area = area_seen inside; frag = tree_seen inside.tree }) in
    let A : Area → Type 0 = λ a. P (record { level = page.level; area = a; frag = tree_seen inside.tree }) in
    let F : Tree → Type 0 = λ f. P (record { level = page.level; area = page.area; frag = f }) in
    subst F has.tree (subst A has.area (subst L el h))
by_parts (Free next) inside level P has el h = absurd has
