-- A tree that is read is the tree that was spelled, and what was spelled is read again.
use Rattle.std.proofs.Common.{◌≡◌, ℕ, zero, suc, ◌+◌, ◌*◌, ◌^◌, ◌<◌, ◌≤◌, List, [], ◌∷◌, ◌++◌, length, Option, Some, refl, sym, ap, subst, ◌∙◌, append_assoc, length-append, arith}
use Rattle.std.specs.List.{flat_map}
use Rattle.std.proofs.lemmas.List.Elements.{All-from_recursion, recursion_from_All}
use Rattle.hb_lemmas.specs.Numbers.{big_endian}
use Rattle.hb_space.specs.declared.records.Record.{Record}
use Rattle.hb_frag.specs.declared.leaves.Leaf.TheVariants.{Records, Child, Sibling}
use Rattle.hb_frag.specs.Trees.{Tree, Tip, Cut}
use Rattle.hb_frag.specs.Grammar.{record_bytes, tree_bytes, FitsRecord, FitsTree}
use Rattle.hb_page_codec.specs.Reading.{number_at}
use Rattle.hb_page_codec.specs.ReadingFields.{records_at, record_at, count_at, axis_at}
use Rattle.hb_page_codec.specs.ReadingPages.{cut_at, records_tip_at, node_at, tree_within, tree_at}
use Rattle.hb_page_codec.proofs.Facts.Fields.{AreBytes-rest, Takes, Takes-then, Takes-byte, wide_4, wide_8, number_takes, number_again, many_take, many_again, record_takes, record_again, records_room, count_takes, count_again, axis_takes, axis_again}
use Rattle.std.proofs.lemmas.Option.{same_Some}
use Rattle.hb_page_codec.specs.Exact.{AreBytes}
use Rattle.hb_lemmas.proofs.Options.{bind_some}
use Rattle.hb_lemmas.specs.Options.{◌>>=◌}

-- what a reader of trees reads is spelled so
abbrev pub TakesTrees : ℕ → (List ℕ → Option (Tree × List ℕ)) → Type 0
TakesTrees k read = (bytes : List ℕ) (x : Tree × List ℕ) → AreBytes bytes → read bytes ≡ Some x → Takes bytes (tree_bytes x.0) x.1 × FitsTree k x.0

-- the same behind a tag
abbrev TakesBehind : ℕ → ℕ → (List ℕ → Option (Tree × List ℕ)) → Type 0
TakesBehind tag k read = (bytes : List ℕ) (x : Tree × List ℕ) → AreBytes bytes → read bytes ≡ Some x → Takes (tag ∷ bytes) (tree_bytes x.0) x.1 × FitsTree k x.0

cut_takes : (read : List ℕ → Option (Tree × List ℕ)) (k : ℕ) → TakesTrees k read → TakesBehind 0 k (cut_at read k)
unfolding cut_at
cut_takes read k side bytes x fits e =
    let a = bind_some (axis_at k bytes) (λ axis. number_at 8 axis.1 >>= λ value. read value.1 >>= λ left. read left.1 >>= λ right. Some (Cut axis.0 value.0 left.0 right.0, right.1)) x e in
    let v = bind_some (number_at 8 a.0.1) (λ value. read value.1 >>= λ left. read left.1 >>= λ right. Some (Cut a.0.0 value.0 left.0 right.0, right.1)) x a.2 in
    let l = bind_some (read v.0.1) (λ left. read left.1 >>= λ right. Some (Cut a.0.0 v.0.0 left.0 right.0, right.1)) x v.2 in
    let r = bind_some (read l.0.1) (λ right. Some (Cut a.0.0 v.0.0 l.0.0 right.0, right.1)) x l.2 in
    let axis = axis_takes k bytes a.0 fits a.1 in
    let value = number_takes 8 (2 ^ 64) wide_8 a.0.1 v.0 axis.0.rest_fits v.1 in
    let left = side v.0.1 l.0 value.0.rest_fits l.1 in
    let right = side l.0.1 r.0 left.0.rest_fits r.1 in
    let two = Takes-then bytes (a.0.0 ∷ []) a.0.1 (big_endian 8 v.0.0) v.0.1 axis.0 value.0 in
    let three = Takes-then bytes (a.0.0 ∷ big_endian 8 v.0.0) v.0.1 (tree_bytes l.0.0) l.0.1 two left.0 in
    let four = Takes-then bytes (a.0.0 ∷ big_endian 8 v.0.0 ++ tree_bytes l.0.0) l.0.1 (tree_bytes r.0.0) r.0.1 three right.0 in
    let made : Tree × List ℕ = (Cut a.0.0 v.0.0 l.0.0 r.0.0, r.0.1) in
    subst (λ (y : Tree × List ℕ). Takes (0 ∷ bytes) (tree_bytes y.0) y.1 × FitsTree k y.0) (same_Some made x r.2)
    (Takes-byte 0 bytes _ r.0.1 four, (axis.1, value.1, left.1, right.1))

records_tip_takes : (k : ℕ) → TakesBehind 1 k (records_tip_at k)
unfolding records_tip_at
records_tip_takes k bytes x fits e =
    let a = bind_some (count_at k bytes) (λ count. records_at k count.0 count.1 >>= λ records. Some (Tip (Records records.0), records.1)) x e in
    let b = bind_some (records_at k a.0.0 a.0.1) (λ records. Some (Tip (Records records.0), records.1)) x a.2 in
    let count = count_takes k bytes a.0 fits a.1 in
    let records = many_take (record_at k) record_bytes (FitsRecord k) (record_takes k) a.0.0 a.0.1 b.0 count.0.rest_fits b.1 in
    let both = Takes-then bytes (big_endian 2 a.0.0) a.0.1 (flat_map record_bytes b.0.0) b.0.1 count.0 records.0 in
    let counted : Takes bytes (big_endian 2 (length b.0.0) ++ flat_map record_bytes b.0.0) b.0.1 = subst (λ (n : ℕ). Takes bytes (big_endian 2 n ++ flat_map record_bytes b.0.0) b.0.1) (sym records.1) both in
    let made : Tree × List ℕ = (Tip (Records b.0.0), b.0.1) in
    subst (λ (y : Tree × List ℕ). Takes (1 ∷ bytes) (tree_bytes y.0) y.1 × FitsTree k y.0) (same_Some made x b.2)
    (Takes-byte 1 bytes _ b.0.1 counted, (omega (arith, records.1, count.1), All-from_recursion (FitsRecord k) b.0.0 records.2))

node_takes : (read : List ℕ → Option (Tree × List ℕ)) (k : ℕ) → TakesTrees k read → TakesTrees k (node_at read k)
unfolding node_at
node_takes read k side [] x fits e = absurd cc
node_takes read k side (zero ∷ rest) x fits e = cut_takes read k side rest x (AreBytes-rest 0 rest fits) e
node_takes read k side (suc zero ∷ rest) x fits e = records_tip_takes k rest x (AreBytes-rest 1 rest fits) e
node_takes read k side (suc (suc zero) ∷ rest) x fits e =
    let a = bind_some (number_at 4 rest) (λ page. Some (Tip (Child page.0), page.1)) x e in
    let page = number_takes 4 (2 ^ 32) wide_4 rest a.0 (AreBytes-rest 2 rest fits) a.1 in
    let made : Tree × List ℕ = (Tip (Child a.0.0), a.0.1) in
    subst (λ (y : Tree × List ℕ). Takes (2 ∷ rest) (tree_bytes y.0) y.1 × FitsTree k y.0) (same_Some made x a.2) (Takes-byte 2 rest _ a.0.1 page.0, page.1)
node_takes read k side (suc (suc (suc zero)) ∷ rest) x fits e =
    let a = bind_some (number_at 4 rest) (λ page. Some (Tip (Sibling page.0), page.1)) x e in
    let page = number_takes 4 (2 ^ 32) wide_4 rest a.0 (AreBytes-rest 3 rest fits) a.1 in
    let made : Tree × List ℕ = (Tip (Sibling a.0.0), a.0.1) in
    subst (λ (y : Tree × List ℕ). Takes (3 ∷ rest) (tree_bytes y.0) y.1 × FitsTree k y.0) (same_Some made x a.2) (Takes-byte 3 rest _ a.0.1 page.0, page.1)
node_takes read k side (suc (suc (suc (suc b))) ∷ rest) x fits e = absurd cc

within_takes : (depth k : ℕ) → TakesTrees k (tree_within depth k)
unfolding tree_within
within_takes zero k bytes x fits e = absurd cc
within_takes (suc depth) k bytes x fits e = node_takes (tree_within depth k) k (within_takes depth k) bytes x fits e

pub tree_takes : (k : ℕ) → TakesTrees k (tree_at k)
unfolding tree_at
tree_takes k bytes x fits e = within_takes (length bytes) k bytes x fits e

-- each tree has a byte
length-tree : (t : Tree) → 0 < length (tree_bytes t)
length-tree (Tip (Records rs)) = omega arith
length-tree (Tip (Child page)) = omega arith
length-tree (Tip (Sibling page)) = omega arith
length-tree (Cut axis value left right) = omega arith

records_tip_again : (k : ℕ) (rs : List Record) (rest : List ℕ) → FitsTree k (Tip (Records rs)) → records_tip_at k (big_endian 2 (length rs) ++ flat_map record_bytes rs ++ rest) ≡ Some (Tip (Records rs), rest)
unfolding records_tip_at
records_tip_again k rs rest fits =
    let each = recursion_from_All (FitsRecord k) rs fits.1 in
    let regrouped : big_endian 2 (length rs) ++ flat_map record_bytes rs ++ rest ≡ big_endian 2 (length rs) ++ (flat_map record_bytes rs ++ rest) = append_assoc (big_endian 2 (length rs)) (flat_map record_bytes rs) rest in
    let room : length rs * (8 * k + 1) ≤ length (flat_map record_bytes rs ++ rest) = omega (arith, records_room k rs each, length-append (flat_map record_bytes rs) rest) in
    ap (records_tip_at k) regrouped
    ∙ rw (count_again k (length rs) (flat_map record_bytes rs ++ rest) fits.0 room, many_again (record_at k) record_bytes (FitsRecord k) (record_again k) rs rest each) refl

cut_again : (read : List ℕ → Option (Tree × List ℕ)) (k axis value : ℕ) (left right : Tree) (rest : List ℕ) → axis < k → value < 2 ^ 64
    → read (tree_bytes left ++ (tree_bytes right ++ rest)) ≡ Some (left, tree_bytes right ++ rest) → read (tree_bytes right ++ rest) ≡ Some (right, rest)
    → cut_at read k (axis ∷ big_endian 8 value ++ tree_bytes left ++ tree_bytes right ++ rest) ≡ Some (Cut axis value left right, rest)
unfolding cut_at
cut_again read k axis value left right rest axis_fits value_fits l r =
    let behind : List ℕ = tree_bytes left ++ (tree_bytes right ++ rest) in
    let regrouped : axis ∷ big_endian 8 value ++ tree_bytes left ++ tree_bytes right ++ rest ≡ axis ∷ (big_endian 8 value ++ behind) =
    append_assoc (axis ∷ big_endian 8 value ++ tree_bytes left) (tree_bytes right) rest ∙ append_assoc (axis ∷ big_endian 8 value) (tree_bytes left) (tree_bytes right ++ rest) in
    ap (cut_at read k) regrouped
    ∙ rw (axis_again k axis (big_endian 8 value ++ behind) axis_fits, number_again 8 (2 ^ 64) wide_8 value behind value_fits, l, r) refl

within_again : (depth k : ℕ) (t : Tree) (rest : List ℕ) → FitsTree k t → length (tree_bytes t) ≤ depth → tree_within depth k (tree_bytes t ++ rest) ≡ Some (t, rest)
unfolding tree_within node_at
within_again zero k t rest fits le = absurd (omega (arith, length-tree t))
within_again (suc depth) k (Tip (Records rs)) rest fits le = records_tip_again k rs rest fits
within_again (suc depth) k (Tip (Child page)) rest fits le = rw (number_again 4 (2 ^ 32) wide_4 page rest fits) refl
within_again (suc depth) k (Tip (Sibling page)) rest fits le = rw (number_again 4 (2 ^ 32) wide_4 page rest fits) refl
within_again (suc depth) k (Cut axis value left right) rest fits le =
    let long = length-append (0 ∷ axis ∷ big_endian 8 value ++ tree_bytes left) (tree_bytes right) in
    let short = length-append (0 ∷ axis ∷ big_endian 8 value) (tree_bytes left) in
    let l = within_again depth k left (tree_bytes right ++ rest) fits.2 (omega (arith, long, short)) in
    let r = within_again depth k right rest fits.3 (omega (arith, long, short)) in
    cut_again (tree_within depth k) k axis value left right rest fits.0 fits.1 l r

pub tree_again : (k : ℕ) (t : Tree) (rest : List ℕ) → FitsTree k t → tree_at k (tree_bytes t ++ rest) ≡ Some (t, rest)
unfolding tree_at
tree_again k t rest fits = within_again (length (tree_bytes t ++ rest)) k t rest fits (omega (arith, length-append (tree_bytes t) rest))
