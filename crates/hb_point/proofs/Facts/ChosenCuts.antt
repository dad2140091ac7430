-- The cuts that are chosen for a tree are one list.
use Rattle.std.proofs.Common.{◌≡◌, inl, inr, ℕ, List, [], ◌∷◌, refl, sym, ap, ◌∙◌, subst, arith}
use Rattle.hb_space.specs.declared.records.Record.{Record}
use Rattle.hb_frag.specs.declared.leaves.Leaf.TheVariants.{Records}
use Rattle.hb_frag.specs.declared.paths.Side.{Side}
use Rattle.hb_ops.specs.declared.leaf_cuts.LeafCut.{LeafCut}
use Rattle.hb_frag.specs.Trees.{Tree, Tip}
use Rattle.hb_ops.specs.Cutting.{going}
use Rattle.hb_split.specs.Choosing.{AreChosen, Chooses, IsBestCut, NotBehind, fuller_side}

same_plane : (count axis value count' axis' value' : ℕ) → NotBehind count axis value count' axis' value' → NotBehind count' axis' value' count axis value → (axis ≡ axis') × (value ≡ value')
same_plane c a v c' a' v' (inl x) (inl y) = absurd (omega (arith, x, y))
same_plane c a v c' a' v' (inl x) (inr (y, rest)) = absurd (omega (arith, x, y))
same_plane c a v c' a' v' (inr (x, rest)) (inl y) = absurd (omega (arith, x, y))
same_plane c a v c' a' v' (inr (x, inl p)) (inr (y, inl q)) = absurd (omega (arith, p, q))
same_plane c a v c' a' v' (inr (x, inl p)) (inr (y, inr (q, r))) = absurd (omega (arith, p, q))
same_plane c a v c' a' v' (inr (x, inr (p, s))) (inr (y, inl q)) = absurd (omega (arith, p, q))
same_plane c a v c' a' v' (inr (x, inr (p, s))) (inr (y, inr (q, r))) = (p, omega (arith, s, r))

same_records : (xs ys : List Record) → Tip (Records xs) ≡ Tip (Records ys) → xs ≡ ys
same_records xs ys is = cc

abbrev cut_of : ℕ → ℕ → Side → LeafCut
cut_of axis value side = record { axis = axis; value = value; side = side }

one_cut : (n k : ℕ) (cut other : LeafCut) (tree : Tree) → Chooses n k cut tree → Chooses n k other tree → cut ≡ other
one_cut n k cut other tree first second =
    let same : second.records ≡ first.records = same_records second.records first.records (sym second.leaf ∙ first.leaf) in
    let best : IsBestCut k first.records other = subst (λ rs. IsBestCut k rs other) same second.best in
    let plane = same_plane _ cut.axis cut.value _ other.axis other.value (first.best.plane.first other.axis other.value best.plane.may) (best.plane.first cut.axis cut.value first.best.plane.may) in
    let sides : cut.side ≡ other.side = first.best.side ∙ ap (λ a. fuller_side a cut.value first.records) plane.0 ∙ ap (λ v. fuller_side other.axis v first.records) plane.1 ∙ sym best.side in
    ap (λ a. cut_of a cut.value cut.side) plane.0 ∙ ap (λ v. cut_of other.axis v cut.side) plane.1 ∙ ap (λ s. cut_of other.axis other.value s) sides

pub one_choice : (n k : ℕ) (cuts others : List LeafCut) (tree : Tree) → AreChosen n k cuts tree → AreChosen n k others tree → cuts ≡ others
one_choice n k [] [] tree first second = refl
one_choice n k [] (cut ∷ cuts) tree first second = absurd (omega (arith, first, second.0.heavy))
one_choice n k (cut ∷ cuts) [] tree first second = absurd (omega (arith, second, first.0.heavy))
one_choice n k (cut ∷ cuts) (other ∷ others) tree first second =
    let same = one_cut n k cut other tree first.0 second.0 in
    let rest = one_choice n k cuts others (going other tree) (subst (λ c. AreChosen n k cuts (going c tree)) same first.1) second.1 in
    ap (λ c. c ∷ cuts) same ∙ ap (λ l. other ∷ l) rest
