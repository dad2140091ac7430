-- The way down, from its end: of two sides at most one has more than two thirds of the whole, so the other has no step.
use Rattle.std.proofs.Common.{◌≡◌, ℕ, ◌+◌, ◌*◌, ◌≤◌, if◌then◌else◌, nat_lt, List, [], ◌∷◌, ◌++◌, reverse, refl, sym, ap, ◌∙◌, arith}
use Rattle.std.proofs.lemmas.List.{append-nil, append_assoc, reverse-append}
use Rattle.hb_frag.specs.declared.paths.Side.{Side}
use Rattle.hb_frag.specs.declared.paths.Side.TheVariants.{Left, Right}
use Rattle.hb_frag.specs.Trees.{Tree, Tip, Cut}
use Rattle.hb_frag.specs.Leaves.{weight_of}
use Rattle.hb_split.specs.Choosing.{heavier_side, is_heavy, way_down}
use Rattle.hb_split.specs.Steps.{own_step}
use Rattle.hb_frag.proofs.Facts.Parts.{weight_cut}
use Rattle.hb_lemmas.proofs.Booleans.{if_below}

pub light : (n : ℕ) (t : Tree) → 3 * weight_of t ≤ 2 * n → way_down n t ≡ []
light n (Tip leaf) h = refl
light n (Cut axis value l r) h =
    let on : List Side = if nat_lt (weight_of l) (weight_of r) then Right ∷ way_down n r else Left ∷ way_down n l in
    let e = weight_cut axis value l r in
    if_below (2 * n) (3 * (weight_of l + weight_of r)) (λ t. (if t then on else []) ≡ []) (λ lt. absurd (omega (arith, lt, e, h))) (λ le. refl)

one_more : (steps t : List Side) (x : Side) → (steps ++ reverse t) ++ x ∷ [] ≡ steps ++ reverse (x ∷ t)
one_more steps t x = append_assoc steps (reverse t) (x ∷ []) ∙ ap (λ (z : List Side). steps ++ z) (sym (reverse-append (x ∷ []) t))

left_none : (steps s t : List Side) → s ≡ [] → (steps ++ reverse s) ++ reverse t ≡ steps ++ reverse t
left_none steps s t e = ap (λ (z : List Side). (steps ++ reverse z) ++ reverse t) e ∙ ap (λ (z : List Side). z ++ reverse t) (append-nil steps)

right_none : (steps s t : List Side) → t ≡ [] → (steps ++ reverse s) ++ reverse t ≡ steps ++ reverse s
right_none steps s t e = ap (λ (z : List Side). (steps ++ reverse s) ++ reverse z) e ∙ append-nil (steps ++ reverse s)

-- one side after the other, and then the own step
joined : (n a b : ℕ) (s t steps : List Side) → (3 * a ≤ 2 * n → s ≡ []) → (3 * b ≤ 2 * n → t ≡ []) → a + b ≤ n
    → ((steps ++ reverse s) ++ reverse t) ++ own_step n a b ≡ steps ++ reverse (if is_heavy n (a + b) then (if nat_lt a b then Right ∷ t else Left ∷ s) else [])
joined n a b s t steps no_s no_t few =
    if_below (2 * n) (3 * (a + b)) (λ h. ((steps ++ reverse s) ++ reverse t) ++ (if h then heavier_side a b ∷ [] else []) ≡ steps ++ reverse (if h then (if nat_lt a b then Right ∷ t else Left ∷ s) else []))
    (λ lt. if_below a b (λ right. ((steps ++ reverse s) ++ reverse t) ++ ((if right then Right else Left) ∷ []) ≡ steps ++ reverse (if right then Right ∷ t else Left ∷ s))
    (λ r. let e = no_s (omega (arith, r, few)) in ap (λ (z : List Side). z ++ Right ∷ []) (left_none steps s t e) ∙ one_more steps t Right)
    (λ l. let e = no_t (omega (arith, l, few)) in ap (λ (z : List Side). z ++ Left ∷ []) (right_none steps s t e) ∙ one_more steps s Left))
    (λ le. let e = no_s (omega (arith, le)) in let f = no_t (omega (arith, le)) in append-nil ((steps ++ reverse s) ++ reverse t) ∙ right_none steps s t f ∙ ap (λ (z : List Side). steps ++ reverse z) e)

pub climbs : (n axis value : ℕ) (l r : Tree) (steps : List Side) → weight_of l + weight_of r ≤ n
    → ((steps ++ reverse (way_down n l)) ++ reverse (way_down n r)) ++ own_step n (weight_of l) (weight_of r) ≡ steps ++ reverse (way_down n (Cut axis value l r))
climbs n axis value l r steps few = joined n (weight_of l) (weight_of r) (way_down n l) (way_down n r) steps (light n l) (light n r) few

-- the same along the facts of the calls
pub climbed : (n a b axis value : ℕ) (t l r l' r' : Tree) (s0 s1 s2 s3 : List Side) → t ≡ Cut axis value l r → l' ≡ l → r' ≡ r → a ≡ weight_of l' → b ≡ weight_of r' → weight_of t ≤ n
    → s1 ≡ s0 ++ reverse (way_down n l') → s2 ≡ s1 ++ reverse (way_down n r') → s3 ≡ s2 ++ own_step n a b → s3 ≡ s0 ++ reverse (way_down n t)
climbed n a b axis value t l r l' r' s0 s1 s2 s3 et el er ea eb few e1 e2 e3 =
    let et' : t ≡ Cut axis value l' r' = et ∙ ap (λ (x : Tree). Cut axis value x r) (sym el) ∙ ap (λ (x : Tree). Cut axis value l' x) (sym er) in
    let w = ap weight_of et' in
    let both = weight_cut axis value l' r' in
    let all = climbs n axis value l' r' s0 (omega (arith, few, w, both)) in
    e3
    ∙ ap (λ (s : List Side). s ++ own_step n a b) (e2 ∙ ap (λ (s : List Side). s ++ reverse (way_down n r')) e1)
    ∙ ap (λ (x : ℕ). ((s0 ++ reverse (way_down n l')) ++ reverse (way_down n r')) ++ own_step n x b) ea
    ∙ ap (λ (x : ℕ). ((s0 ++ reverse (way_down n l')) ++ reverse (way_down n r')) ++ own_step n (weight_of l') x) eb
    ∙ all
    ∙ ap (λ (x : Tree). s0 ++ reverse (way_down n x)) (sym et')
