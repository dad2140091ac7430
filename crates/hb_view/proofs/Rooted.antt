-- A tree that stands somewhere has the root that is seen there.
use Rattle.std.proofs.Common.{◌≡◌, ℕ, zero, suc, ◌+◌, ◌*◌, ◌<◌, cond, ltb, List, [], ◌∷◌, length, drop, Option, Some, None, IsSome, refl, sym, ap, subst, ◌∙◌, arith}
use Rattle.std.proofs.lemmas.Bool.{ltb-true}
use Rattle.std.proofs.lemmas.Option.{same_Some}
use Rattle.std.proofs.lemmas.List.{drop-drop}
use Rattle.byteorder.specs.Endian.{big_number}
use Rattle.hb_lemmas.proofs.Booleans.{unless_some, when_some}
use Rattle.hb_lemmas.proofs.Options.{some_value, has_value, bind_some}
use Rattle.hb_space.specs.declared.records.Record.{Record}
use Rattle.hb_frag.specs.declared.leaves.Leaf.TheVariants as leaves
use Rattle.hb_frag.specs.Trees.{Tree, Tip, Cut}
use Rattle.hb_page_codec.specs.Reading.{byte_at, number_at}
use Rattle.hb_page_codec.specs.ReadingFields.{axis_at, count_at, records_at}
use Rattle.hb_page_codec.specs.ReadingPages.{cut_at, records_tip_at, node_at, tree_at}
use Rattle.hb_page_codec.proofs.Facts.Depth.{tree_is, tree_shortens, number_shortens, axis_shortens, left_by}
use Rattle.hb_view.specs.Roots.{rest_there, tree_or, RootSeen, SeenCut, SeenRecords, SeenChild, SeenSibling, root_at, IsSeenAt}
use Rattle.hb_lemmas.specs.Options.{◌>>=◌}
use Rattle.hb_view.specs.Behind.{after_or}

-- the root that is seen
abbrev pub IsSeen : ℕ → List ℕ → Type 0
IsSeen k bytes = (sight : RootSeen) × (root_at k bytes ≡ Some sight) × IsSeenAt k bytes sight

axis_below : (k : ℕ) (bytes : List ℕ) (x : ℕ × List ℕ) → axis_at k bytes ≡ Some x → x.0 < k
unfolding axis_at
axis_below k bytes x e =
    let a = bind_some (byte_at bytes) (λ axis. cond (ltb axis.0 k) (Some axis) None) x e in
    let g = when_some (ltb a.0.0 k) (Some a.0) x a.2 in
    subst (λ (y : ℕ × List ℕ). y.0 < k) (same_Some a.0 x g.1) (ltb-true _ _ g.0)

-- the bytes behind a number, behind an attribute, and behind a count
number_behind : (width : ℕ) (bytes : List ℕ) (x : ℕ × List ℕ) → number_at width bytes ≡ Some x → x.1 ≡ drop width bytes
number_behind width bytes x e =
    let g = unless_some (ltb (length bytes) width) (Some (big_number width bytes, drop width bytes)) x e in
    sym (ap (λ (y : ℕ × List ℕ). y.1) (same_Some (big_number width bytes, drop width bytes) x g.1))

byte_behind : (bytes : List ℕ) (x : ℕ × List ℕ) → byte_at bytes ≡ Some x → x.1 ≡ drop 1 bytes
byte_behind [] x e = absurd cc
byte_behind (b ∷ rest) x e = sym (ap (λ (y : ℕ × List ℕ). y.1) (same_Some (b, rest) x e))

axis_behind : (k : ℕ) (bytes : List ℕ) (x : ℕ × List ℕ) → axis_at k bytes ≡ Some x → x.1 ≡ drop 1 bytes
unfolding axis_at
axis_behind k bytes x e =
    let a = bind_some (byte_at bytes) (λ axis. cond (ltb axis.0 k) (Some axis) None) x e in
    let g = when_some (ltb a.0.0 k) (Some a.0) x a.2 in
    sym (ap (λ (y : ℕ × List ℕ). y.1) (same_Some a.0 x g.1)) ∙ byte_behind bytes a.0 a.1

pub count_behind : (k : ℕ) (bytes : List ℕ) (x : ℕ × List ℕ) → count_at k bytes ≡ Some x → x.1 ≡ drop 2 bytes
unfolding count_at
count_behind k bytes x e =
    let a = bind_some (number_at 2 bytes) (λ count. cond (ltb (length count.1) (count.0 * (8 * k + 1))) None (Some count)) x e in
    let g = unless_some (ltb (length a.0.1) (a.0.0 * (8 * k + 1))) (Some a.0) x a.2 in
    sym (ap (λ (y : ℕ × List ℕ). y.1) (same_Some a.0 x g.1)) ∙ number_behind 2 bytes a.0 a.1

-- what is there is what was made
is_made : {A : Type 0} {o made : Option A} {x : A} → o ≡ Some x → made ≡ Some x → o ≡ made
is_made {o = o} {made = made} p q = p ∙ sym q

cut_root : (k : ℕ) (rest : List ℕ) (a v : ℕ × List ℕ) (l r : Tree × List ℕ) → axis_at k rest ≡ Some a → number_at 8 a.1 ≡ Some v → tree_at k v.1 ≡ Some l → tree_at k l.1 ≡ Some r
    → tree_at k (zero ∷ rest) ≡ Some (Cut a.0 v.0 l.0 r.0, r.1) → IsSeen k (zero ∷ rest)
unfolding root_at
cut_root k rest a v l r ea ev el er all =
    let la = left_by (axis_at k rest) (length rest) a (axis_shortens k rest) ea in
    let lv = left_by (number_at 8 a.1) (length a.1) v (number_shortens 8 a.1) ev in
    let ll = left_by (tree_at k v.1) (length v.1) l (tree_shortens k v.1) el in
    let behind : rest_there k v.1 ≡ l.1 = ap after_or el in (
      SeenCut a.0 v.0 v.1,
      rw (ea, ev) refl,
      record {
        left_there = has_value (tree_at k v.1) l el;
        right_there = subst (λ (b : List ℕ). IsSome (tree_at k b)) (sym behind) (has_value (tree_at k l.1) r er);
        tree = rw (all, el, er) refl;
        rest = rw (all, el, er) refl;
        attribute = axis_below k rest a ea;
        begins = number_behind 8 a.1 v ev ∙ ap (drop 8) (axis_behind k rest a ea) ∙ drop-drop 8 1 rest;
        left_shorter = omega (arith, la, lv);
        right_shorter = omega (arith, la, lv, ll, ap (λ (b : List ℕ). length b) behind);
      },
    )

cut_seen : (k : ℕ) (rest : List ℕ) (x : Tree × List ℕ) → tree_at k (zero ∷ rest) ≡ Some x → cut_at (tree_at k) k rest ≡ Some x → IsSeen k (zero ∷ rest)
unfolding cut_at
cut_seen k rest x whole e =
    let a = bind_some (axis_at k rest) (λ axis. number_at 8 axis.1 >>= λ value. tree_at k value.1 >>= λ left. tree_at k left.1 >>= λ right. Some (Cut axis.0 value.0 left.0 right.0, right.1)) x e in
    let v = bind_some (number_at 8 a.0.1) (λ value. tree_at k value.1 >>= λ left. tree_at k left.1 >>= λ right. Some (Cut a.0.0 value.0 left.0 right.0, right.1)) x a.2 in
    let l = bind_some (tree_at k v.0.1) (λ left. tree_at k left.1 >>= λ right. Some (Cut a.0.0 v.0.0 left.0 right.0, right.1)) x v.2 in
    let r = bind_some (tree_at k l.0.1) (λ right. Some (Cut a.0.0 v.0.0 l.0.0 right.0, right.1)) x l.2 in
    cut_root k rest a.0 v.0 l.0 r.0 a.1 v.1 l.1 r.1 (is_made whole r.2)

records_root : (k : ℕ) (rest : List ℕ) (a : ℕ × List ℕ) (b : List Record × List ℕ) → count_at k rest ≡ Some a → records_at k a.0 a.1 ≡ Some b → tree_at k (suc zero ∷ rest) ≡ Some (Tip (leaves.Records b.0), b.1) → IsSeen k (suc zero ∷ rest)
unfolding root_at
records_root k rest a b ea eb all = (
  SeenRecords a.0 a.1,
  rw ea refl,
  record {
    records = b.0;
    read = rw all eb;
    begins = count_behind k rest a ea;
    tree = ap tree_or all;
  },
)

records_seen : (k : ℕ) (rest : List ℕ) (x : Tree × List ℕ) → tree_at k (suc zero ∷ rest) ≡ Some x → records_tip_at k rest ≡ Some x → IsSeen k (suc zero ∷ rest)
unfolding records_tip_at
records_seen k rest x whole e =
    let a = bind_some (count_at k rest) (λ count. records_at k count.0 count.1 >>= λ records. Some (Tip (leaves.Records records.0), records.1)) x e in
    let b = bind_some (records_at k a.0.0 a.0.1) (λ records. Some (Tip (leaves.Records records.0), records.1)) x a.2 in
    records_root k rest a.0 b.0 a.1 b.1 (is_made whole b.2)

child_root : (k : ℕ) (rest : List ℕ) (a : ℕ × List ℕ) → number_at 4 rest ≡ Some a → tree_at k (suc (suc zero) ∷ rest) ≡ Some (Tip (leaves.Child a.0), a.1) → IsSeen k (suc (suc zero) ∷ rest)
unfolding root_at
child_root k rest a ea all = (SeenChild a.0 a.1, rw ea refl, record { tree = ap tree_or all; behind = ap after_or all })

child_seen : (k : ℕ) (rest : List ℕ) (x : Tree × List ℕ) → tree_at k (suc (suc zero) ∷ rest) ≡ Some x → (number_at 4 rest >>= λ page. Some (Tip (leaves.Child page.0), page.1)) ≡ Some x → IsSeen k (suc (suc zero) ∷ rest)
child_seen k rest x whole e =
    let a = bind_some (number_at 4 rest) (λ page. Some (Tip (leaves.Child page.0), page.1)) x e in
    child_root k rest a.0 a.1 (whole ∙ sym a.2)

sibling_root : (k : ℕ) (rest : List ℕ) (a : ℕ × List ℕ) → number_at 4 rest ≡ Some a → tree_at k (suc (suc (suc zero)) ∷ rest) ≡ Some (Tip (leaves.Sibling a.0), a.1) → IsSeen k (suc (suc (suc zero)) ∷ rest)
unfolding root_at
sibling_root k rest a ea all = (SeenSibling a.0 a.1, rw ea refl, record { tree = ap tree_or all; behind = ap after_or all })

sibling_seen : (k : ℕ) (rest : List ℕ) (x : Tree × List ℕ) → tree_at k (suc (suc (suc zero)) ∷ rest) ≡ Some x → (number_at 4 rest >>= λ page. Some (Tip (leaves.Sibling page.0), page.1)) ≡ Some x → IsSeen k (suc (suc (suc zero)) ∷ rest)
sibling_seen k rest x whole e =
    let a = bind_some (number_at 4 rest) (λ page. Some (Tip (leaves.Sibling page.0), page.1)) x e in
    sibling_root k rest a.0 a.1 (whole ∙ sym a.2)

seen_by : (k : ℕ) (bytes : List ℕ) (x : Tree × List ℕ) → tree_at k bytes ≡ Some x → node_at (tree_at k) k bytes ≡ Some x → IsSeen k bytes
unfolding node_at
seen_by k [] x whole e = absurd cc
seen_by k (zero ∷ rest) x whole e = cut_seen k rest x whole e
seen_by k (suc zero ∷ rest) x whole e = records_seen k rest x whole e
seen_by k (suc (suc zero) ∷ rest) x whole e = child_seen k rest x whole e
seen_by k (suc (suc (suc zero)) ∷ rest) x whole e = sibling_seen k rest x whole e
seen_by k (suc (suc (suc (suc b))) ∷ rest) x whole e = absurd cc

root_seen : (k : ℕ) (bytes : List ℕ) → IsSome (tree_at k bytes) → IsSeen k bytes
root_seen k bytes there = let x = some_value (tree_at k bytes) there in seen_by k bytes x.0 x.1 (sym (tree_is k bytes) ∙ x.1)

-- a tree has a root, and it is the one that is seen
pub has_root : (k : ℕ) (bytes : List ℕ) → IsSome (tree_at k bytes) → root_at k bytes ≡ None → ⊥
has_root k bytes there none = let seen = root_seen k bytes there in let never : None ≡ Some seen.0 = sym none ∙ seen.1 in cc never

pub is_root : (k : ℕ) (bytes : List ℕ) (sight : RootSeen) → IsSome (tree_at k bytes) → root_at k bytes ≡ Some sight → IsSeenAt k bytes sight
is_root k bytes sight there e = let seen = root_seen k bytes there in subst (λ (s : RootSeen). IsSeenAt k bytes s) (same_Some seen.0 sight (sym seen.1 ∙ e)) seen.2
