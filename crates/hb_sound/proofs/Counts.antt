-- Counts of names up to two.
use Rattle.std.proofs.Common.{◌≡◌, ℕ, zero, suc, ◌+◌, List, [], ◌∷◌, ◌++◌, Option, Some, None, option_map, refl, ap, ◌∙◌, arith}
use Rattle.hb_frag.specs.declared.leaves.Leaf.{Leaf}
use Rattle.hb_frag.specs.declared.leaves.Leaf.TheVariants.{Records, Child, Sibling}
use Rattle.hb_sound.specs.declared.names.Times.{Times}
use Rattle.hb_sound.specs.Facts.{more, names_in, once_more}

pub names_append : (id : ℕ) (xs ys : List Leaf) → names_in id (xs ++ ys) ≡ names_in id xs + names_in id ys
names_append id [] ys = omega arith
names_append id (Records records ∷ xs) ys = names_append id xs ys
names_append id (Child page ∷ xs) ys = names_append id xs ys
names_append id (Sibling page ∷ xs) ys = let rest = names_append id xs ys in omega (arith, rest)

pub more_more : (a b : ℕ) (t : Times) → more a (more b t) ≡ more (b + a) t
more_more zero b t = ap (λ (n : ℕ). more n t) (let e : b ≡ b + 0 = omega arith in e)
more_more (suc a) b t =
    let again : more (suc a) (more b t) ≡ once_more (more (b + a) t) = ap once_more (more_more a b t) in
    let e : suc (b + a) ≡ b + suc a = omega arith in
    again ∙ ap (λ (n : ℕ). more n t) e

pub more_map : (a b : ℕ) (o : Option Times) → option_map (more a) (option_map (more b) o) ≡ option_map (more (b + a)) o
more_map a b None = refl
more_map a b (Some t) = ap (λ (x : Times). Some x) (more_more a b t)

pub none_more : (o : Option Times) → option_map (more 0) o ≡ o
none_more None = refl
none_more (Some t) = refl
