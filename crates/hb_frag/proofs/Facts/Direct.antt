-- What a page directly holds, point by point.
use Rattle.std.proofs.Common.{◌≡◌, ℕ, zero, suc, ◌↔◌, List, [], ◌∷◌, length, get_or, sym, ◌∙◌, arith}
use Rattle.std.specs.List.{All}
use Rattle.std.proofs.lemmas.List.Elements.{All-cons, All-nil}
use Rattle.hb_space.specs.Boxes.{Area, IsArea, Holds}
use Rattle.hb_space.proofs.Facts.Boxes.{Meets-from_point, point_from_meeting, Within-from_points, Holds-within}
use Rattle.hb_frag.specs.declared.leaves.Leaf.{Leaf}
use Rattle.hb_frag.specs.declared.leaves.Leaf.TheVariants.{Records, Child, Sibling}
use Rattle.hb_frag.specs.declared.pages.LivePage.{LivePage}
use Rattle.hb_frag.specs.Leaves.{Placed, leaves_of, siblings, siblings_of, DirectlyHolds, DirectlyCovers, WellCut}
use Rattle.hb_frag.proofs.Facts.Tiles.{tiles_areas, tiles_attributes}

-- what holds of each leaf's box holds of each sibling leaf's
siblings_step : (Q : Area → Type 0) (leaf : Leaf) (area : Area) (xs : List Placed) → Q area → All (λ s. Q s.1) (siblings xs) → All (λ s. Q s.1) (siblings (record { leaf = leaf; area = area } ∷ xs))
siblings_step Q (Records records) area xs h rest = rest
siblings_step Q (Child page) area xs h rest = rest
siblings_step Q (Sibling page) area xs h rest = All-cons (λ s. Q s.1) (page, area) (siblings xs) h rest

siblings_all : (Q : Area → Type 0) (xs : List Placed) → All (λ l. Q l.area) xs → All (λ s. Q s.1) (siblings xs)
siblings_all Q [] h = All-nil (λ s. Q s.1)
siblings_all Q (x ∷ xs) h = siblings_step Q x.leaf x.area xs (h zero x (omega arith)) (siblings_all Q xs (λ j d l. h (suc j) d (omega arith)))

pub direct_by_points : (page : LivePage) (a : Area) → IsArea page.area → WellCut page → IsArea a → length a.lo ≡ length page.area.lo → DirectlyCovers page a ↔ ((p : List ℕ) → Holds a p → DirectlyHolds page p)
direct_by_points page a h cut ha e =
    let boxes = siblings_all IsArea (leaves_of page.frag page.area) (tiles_areas page.frag page.area h cut) in
    let same = siblings_all (λ b. length b.lo ≡ length page.area.lo) (leaves_of page.frag page.area) (tiles_attributes page.frag page.area) in (
      λ d p held. record {
        inside = Holds-within a page.area p e d.inside held;
        not_given = λ k s l there. d.not_given k s l (Meets-from_point (get_or (siblings_of page) k s).1 a p there held);
      },
      λ f. record {
        inside = Within-from_points a page.area ha (λ p held. (f p held).inside);
        not_given = λ k s l meets.
            let w = point_from_meeting (get_or (siblings_of page) k s).1 a (boxes k s l) ha (same k s l ∙ sym e) meets in
            (f w.0 w.2).not_given k s l w.1;
      },
    )
