-- What one step down a cut says of the whole tree.
use Rattle.std.proofs.Common.{◌≡◌, ℕ, ◌<◌, ◌≤◌, ◌-◌, ◌↔◌, List, [], ◌∷◌, ◌++◌, length, get_or, take, drop, Option, Some, None, IsSome, refl, sym, ap, subst, ◌∙◌, arith}
use Rattle.std.specs.Option.{MatchOption}
use Rattle.std.proofs.lemmas.List.{append_assoc, take_all}
use denote.Bor.{Bor}
use Rattle.hb_space.specs.Boxes.{Area, IsArea, Holds, side_below, side_from}
use Rattle.hb_frag.specs.declared.leaves.Leaf.{Leaf}
use Rattle.hb_frag.specs.declared.paths.Side.{Side}
use Rattle.hb_frag.specs.declared.paths.Side.TheVariants.{Left, Right}
use Rattle.hb_frag.specs.Trees.{Tree, Tip, Cut}
use Rattle.hb_frag.specs.Leaves.{Placed, IsWellCut, first_at, leaves_of, siblings, first_named}
use Rattle.hb_frag.specs.Paths.{part_at, way_to, StaysInside}
use Rattle.hb_frag.proofs.Facts.NamesListed.{siblings-append, named_in_front, named_behind}
use Rattle.hb_frag.proofs.Facts.Sides.{is_below, isnt_below}
use Rattle.hb_frag.proofs.Facts.Points.{going_left, going_right}
use Rattle.hb_space.proofs.Facts.Boxes.{test-from_Holds}

-- steps of which this is the first one
pub first_step : (d s : Side) (path : List Side) → 1 ≤ length path → get_or path 0 d ≡ s → path ≡ s ∷ take (length path - 1) (drop 1 path)
first_step d s [] h e = absurd (omega arith)
first_step d s (x ∷ xs) h e =
    let n : length (x ∷ xs) - 1 ≡ length xs = omega arith in
    ap (λ y. y ∷ xs) e ∙ ap (λ rest. s ∷ rest) (sym (ap (λ k. take k xs) n ∙ take_all (length xs) xs (omega arith)))

pub no_step : (path : List Side) → length path < 1 → path ≡ []
no_step [] h = refl
no_step (x ∷ xs) h = absurd (omega arith)

-- what a call answers of the part to which steps lead
pub record Parts (found : Option (Bor Tree × Area)) (path : List Side) (t : Tree) (area : Area) : Type 0 where
  pub value : MatchOption found (part_at path t area ≡ None) (λ part. part_at path t area ≡ Some (part.0.now, part.1))
  pub inside : IsSome found ↔ StaysInside path t

pub part_left : (found : Option (Bor Tree × Area)) (path rest : List Side) (t l r l' : Tree) (axis value : ℕ) (area below : Area) → path ≡ Left ∷ rest → t ≡ Cut axis value l r → l' ≡ l → below ≡ side_below area axis value → Parts found rest l' below → Parts found path t area
part_left found path rest t l r l' axis value area below q e d s h =
    let there : Parts found rest l (side_below area axis value) = subst (λ (a : Area). Parts found rest l a) s (subst (λ (u : Tree). Parts found rest u below) d h) in
    let here : Parts found (Left ∷ rest) (Cut axis value l r) area = record { value = there.value; inside = there.inside } in
    subst (λ (p : List Side). Parts found p t area) (sym q) (subst (λ (u : Tree). Parts found (Left ∷ rest) u area) (sym e) here)

pub part_right : (found : Option (Bor Tree × Area)) (path rest : List Side) (t l r r' : Tree) (axis value : ℕ) (area from : Area) → path ≡ Right ∷ rest → t ≡ Cut axis value l r → r' ≡ r → from ≡ side_from area axis value → Parts found rest r' from → Parts found path t area
part_right found path rest t l r r' axis value area from q e d s h =
    let there : Parts found rest r (side_from area axis value) = subst (λ (a : Area). Parts found rest r a) s (subst (λ (u : Tree). Parts found rest u from) d h) in
    let here : Parts found (Right ∷ rest) (Cut axis value l r) area = record { value = there.value; inside = there.inside } in
    subst (λ (p : List Side). Parts found p t area) (sym q) (subst (λ (u : Tree). Parts found (Right ∷ rest) u area) (sym e) here)

pub part_tip : (path rest : List Side) (s : Side) (t : Tree) (leaf : Leaf) (area : Area) → path ≡ s ∷ rest → t ≡ Tip leaf → Parts None path t area
part_tip path rest s t leaf area q e = subst (λ (p : List Side). Parts None p t area) (sym q) (subst (λ (u : Tree). Parts None (s ∷ rest) u area) (sym e) (here s))
  where
    here : (s : Side) → Parts None (s ∷ rest) (Tip leaf) area
    here Left = record { value = refl; inside = (λ e. cc, λ w. absurd w) }
    here Right = record { value = refl; inside = (λ e. cc, λ w. absurd w) }

pub part_here : (self : Bor Tree) (path : List Side) (area : Area) → path ≡ [] → Parts (Some (self, area)) path self.now area
part_here self path area q = subst (λ (p : List Side). Parts (Some (self, area)) p self.now area) (sym q) (record { value = refl; inside = (λ e. tt, λ w. refl) })

-- the leaf at a point
pub found_here : (t : Tree) (leaf : Leaf) (area : Area) (p : List ℕ) → t ≡ Tip leaf → IsArea area → Holds area p → first_at p (leaves_of t area) ≡ Some (record { leaf = leaf; area = area })
found_here t leaf area p e h held = rw (e, test-from_Holds area p h held)

pub found_left : (t l r l' : Tree) (axis value : ℕ) (area below : Area) (p : List ℕ) (w : Placed) → t ≡ Cut axis value l r → l' ≡ l → below ≡ side_below area axis value → first_at p (leaves_of l' below) ≡ Some w → first_at p (leaves_of t area) ≡ Some w
found_left t l r l' axis value area below p w e d s h =
    let there : first_at p (leaves_of l (side_below area axis value)) ≡ Some w = rw (d, s) at h in
    rw e (going_left axis value l r area p w there)

pub found_right : (t l r r' : Tree) (axis value : ℕ) (area from : Area) (p : List ℕ) (w : Placed) → t ≡ Cut axis value l r → r' ≡ r → from ≡ side_from area axis value → IsArea area → IsWellCut t area → Holds area p → value ≤ get_or p axis 0 → first_at p (leaves_of r' from) ≡ Some w → first_at p (leaves_of t area) ≡ Some w
found_right t l r r' axis value area from p w e d s h cut held behind k =
    let there : first_at p (leaves_of r (side_from area axis value)) ≡ Some w = rw (d, s) at k in
    let cuts : IsWellCut (Cut axis value l r) area = subst (λ (u : Tree). IsWellCut u area) e cut in
    rw e (going_right axis value l r area p h cuts held.same behind ∙ there)

-- the first sibling leaf that names a page
pub sibling_left : (id : ℕ) (t l r l' : Tree) (axis value : ℕ) (area below : Area) (a : Area) → t ≡ Cut axis value l r → l' ≡ l → below ≡ side_below area axis value → Some a ≡ first_named id (siblings (leaves_of l' below)) → Some a ≡ first_named id (siblings (leaves_of t area))
sibling_left id t l r l' axis value area below a e d s h =
    let there : Some a ≡ first_named id (siblings (leaves_of l (side_below area axis value))) = rw (d, s) at h in
    let xs = leaves_of l (side_below area axis value) in
    let ys = leaves_of r (side_from area axis value) in
    rw e (sym (ap (first_named id) (siblings-append xs ys) ∙ named_in_front id (siblings xs) (siblings ys) a (sym there)))

pub sibling_right : (id : ℕ) (t l r l' r' : Tree) (axis value : ℕ) (area below from : Area) (found : Option Area) → t ≡ Cut axis value l r → l' ≡ l → r' ≡ r → below ≡ side_below area axis value → from ≡ side_from area axis value → None ≡ first_named id (siblings (leaves_of l' below)) → found ≡ first_named id (siblings (leaves_of r' from)) → found ≡ first_named id (siblings (leaves_of t area))
sibling_right id t l r l' r' axis value area below from found e d d' s s' h k =
    let front : None ≡ first_named id (siblings (leaves_of l (side_below area axis value))) = rw (d, s) at h in
    let behind : found ≡ first_named id (siblings (leaves_of r (side_from area axis value))) = rw (d', s') at k in
    let xs = leaves_of l (side_below area axis value) in
    let ys = leaves_of r (side_from area axis value) in
    rw e (behind ∙ sym (ap (first_named id) (siblings-append xs ys) ∙ named_behind id (siblings xs) (siblings ys) (sym front)))

-- the way to a point
pub way_left : (t l r l' : Tree) (axis value : ℕ) (p : List ℕ) (old more new : List Side) → t ≡ Cut axis value l r → l' ≡ l → get_or p axis 0 < value → more ≡ old ++ Left ∷ [] → new ≡ more ++ way_to p l' → new ≡ old ++ way_to p t
way_left t l r l' axis value p old more new e d below m h =
    rw (e, is_below _ _ below) (h ∙ ap (λ (u : Tree). more ++ way_to p u) d ∙ ap (λ (s : List Side). s ++ way_to p l) m ∙ append_assoc old (Left ∷ []) (way_to p l))

pub way_right : (t l r r' : Tree) (axis value : ℕ) (p : List ℕ) (old more new : List Side) → t ≡ Cut axis value l r → r' ≡ r → value ≤ get_or p axis 0 → more ≡ old ++ Right ∷ [] → new ≡ more ++ way_to p r' → new ≡ old ++ way_to p t
way_right t l r r' axis value p old more new e d from m h =
    rw (e, isnt_below _ _ from) (h ∙ ap (λ (u : Tree). more ++ way_to p u) d ∙ ap (λ (s : List Side). s ++ way_to p r) m ∙ append_assoc old (Right ∷ []) (way_to p r))
