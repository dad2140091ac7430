-- A tree is read whole: what is read is shorter than what was there, so a tree is no deeper than it has bytes.
use Rattle.std.proofs.Common.{◌≡◌, ℕ, zero, suc, ◌+◌, ◌*◌, ◌<◌, ◌≤◌, Bool, true, false, cond, ltb, List, [], ◌∷◌, length, Option, Some, None, refl, ap, subst, ◌∙◌, arith}
use Rattle.std.specs.Prelude.{IfSome}
use Rattle.std.proofs.lemmas.List.{length-drop}
use Rattle.hb_space.specs.declared.form.TheConstants.{BMAX}
use Rattle.hb_frag.specs.Trees.{Tree, Cut}
use Rattle.hb_page_codec.specs.Reading.{byte_at, number_at, many_at}
use Rattle.hb_page_codec.specs.ReadingFields.{body_at, record_at, count_at, axis_at}
use Rattle.hb_page_codec.specs.ReadingPages.{cut_at, records_tip_at, node_at, tree_within, tree_at}
use Rattle.hb_lemmas.specs.Options.{◌>>=◌}

-- behind what was read there are at most so many bytes
abbrev pub Leaves : {A : Type 0} → Option (A × List ℕ) → ℕ → Type 0
Leaves read n = IfSome read (λ x. length x.1 ≤ n)

abbrev pub Shortens : {A : Type 0} → (List ℕ → Option (A × List ℕ)) → Type 0
Shortens read = (bytes : List ℕ) → Leaves (read bytes) (length bytes)

leaves_then : {A B : Type 0} (r : Option (A × List ℕ)) (f : A × List ℕ → Option (B × List ℕ)) (n : ℕ) → Leaves r n → ((x : A × List ℕ) → Leaves (f x) (length x.1)) → Leaves (r >>= f) n
leaves_then None f n h k = tt
leaves_then {B = B} (Some x) f n h k = fewer (f x) (k x)
  where
    fewer : (y : Option (B × List ℕ)) → Leaves y (length x.1) → Leaves y n
    fewer None l = tt
    fewer (Some y) l = omega arith

unless : {A : Type 0} (b : Bool) (r : Option (A × List ℕ)) (n : ℕ) → Leaves r n → Leaves (cond b None r) n
unless true r n h = tt
unless false r n h = h

pub byte_shortens : Shortens byte_at
byte_shortens [] = tt
byte_shortens (b ∷ rest) = omega arith

pub number_shortens : (width : ℕ) → Shortens (number_at width)
number_shortens width bytes = unless (ltb (length bytes) width) _ (length bytes) (omega (arith, length-drop width bytes))

many_shortens : {A : Type 0} (read : List ℕ → Option (A × List ℕ)) → Shortens read → (n : ℕ) → Shortens (many_at read n)
unfolding many_at
many_shortens read h zero bytes = omega arith
many_shortens read h (suc n) bytes = leaves_then (read bytes) _ (length bytes) (h bytes) (λ first. leaves_then (many_at read n first.1) _ (length first.1) (many_shortens read h n first.1) (λ others. omega arith))

body_shortens : Shortens body_at
unfolding body_at
body_shortens bytes = leaves_then (byte_at bytes) _ (length bytes) (byte_shortens bytes) (λ count.
    unless (ltb BMAX count.0) _ (length count.1) (unless (ltb (length count.1) count.0) _ (length count.1) (omega (arith, length-drop count.0 count.1))))

record_shortens : (k : ℕ) → Shortens (record_at k)
unfolding record_at
record_shortens k bytes = leaves_then (many_at (number_at 8) k bytes) _ (length bytes) (many_shortens (number_at 8) (number_shortens 8) k bytes) (λ key.
    leaves_then (body_at key.1) _ (length key.1) (body_shortens key.1) (λ body. omega arith))

count_shortens : (k : ℕ) → Shortens (count_at k)
unfolding count_at
count_shortens k bytes = leaves_then (number_at 2 bytes) _ (length bytes) (number_shortens 2 bytes) (λ count.
    unless (ltb (length count.1) (count.0 * (8 * k + 1))) _ (length count.1) (omega arith))

pub axis_shortens : (k : ℕ) → Shortens (axis_at k)
unfolding axis_at
axis_shortens k bytes = leaves_then (byte_at bytes) _ (length bytes) (byte_shortens bytes) (λ axis. where_it_is axis (ltb axis.0 k))
  where
    where_it_is : (axis : ℕ × List ℕ) (b : Bool) → Leaves (cond b (Some axis) None) (length axis.1)
    where_it_is axis true = omega arith
    where_it_is axis false = tt

cut_shortens : (read : List ℕ → Option (Tree × List ℕ)) → Shortens read → (k : ℕ) → Shortens (cut_at read k)
unfolding cut_at
cut_shortens read h k bytes =
    leaves_then (axis_at k bytes) _ (length bytes) (axis_shortens k bytes) (λ axis.
    leaves_then (number_at 8 axis.1) _ (length axis.1) (number_shortens 8 axis.1) (λ value.
    leaves_then (read value.1) _ (length value.1) (h value.1) (λ left.
    leaves_then (read left.1) _ (length left.1) (h left.1) (λ right. omega arith))))

records_tip_shortens : (k : ℕ) → Shortens (records_tip_at k)
unfolding records_tip_at
records_tip_shortens k bytes =
    leaves_then (count_at k bytes) _ (length bytes) (count_shortens k bytes) (λ count.
    leaves_then (many_at (record_at k) count.0 count.1) _ (length count.1) (many_shortens (record_at k) (record_shortens k) count.0 count.1) (λ records. omega arith))

one_more : {A : Type 0} (r : Option (A × List ℕ)) (n : ℕ) → Leaves r n → Leaves r (suc n)
one_more None n h = tt
one_more (Some x) n h = omega arith

node_shortens : (read : List ℕ → Option (Tree × List ℕ)) → Shortens read → (k : ℕ) → Shortens (node_at read k)
unfolding node_at
node_shortens read h k [] = tt
node_shortens read h k (zero ∷ rest) = one_more _ (length rest) (cut_shortens read h k rest)
node_shortens read h k (suc zero ∷ rest) = one_more _ (length rest) (records_tip_shortens k rest)
node_shortens read h k (suc (suc zero) ∷ rest) = one_more _ (length rest) (leaves_then (number_at 4 rest) _ (length rest) (number_shortens 4 rest) (λ page. omega arith))
node_shortens read h k (suc (suc (suc zero)) ∷ rest) = one_more _ (length rest) (leaves_then (number_at 4 rest) _ (length rest) (number_shortens 4 rest) (λ page. omega arith))
node_shortens read h k (suc (suc (suc (suc b))) ∷ rest) = tt

pub within_shortens : (depth k : ℕ) → Shortens (tree_within depth k)
unfolding tree_within
within_shortens zero k bytes = tt
within_shortens (suc depth) k bytes = node_shortens (tree_within depth k) (within_shortens depth k) k bytes

pub tree_shortens : (k : ℕ) → Shortens (tree_at k)
unfolding tree_at
tree_shortens k bytes = within_shortens (length bytes) k bytes

-- two ways to read on that agree
same_then : {A B : Type 0} (r : Option A) (f g : A → Option B) → ((x : A) → r ≡ Some x → f x ≡ g x) → (r >>= f) ≡ (r >>= g)
same_then None f g h = refl
same_then (Some x) f g h = h x refl

pub left_by : {A : Type 0} (r : Option (A × List ℕ)) (n : ℕ) (x : A × List ℕ) → Leaves r n → r ≡ Some x → length x.1 ≤ n
left_by {A = A} r n x h e = subst (λ (y : Option (A × List ℕ)). Leaves y n) e h

-- the sides of a cut have fewer bytes
cut_same : (f g : List ℕ → Option (Tree × List ℕ)) (k : ℕ) (bytes : List ℕ) → Shortens f → ((part : List ℕ) → length part ≤ length bytes → f part ≡ g part) → cut_at f k bytes ≡ cut_at g k bytes
unfolding cut_at
cut_same f g k bytes h same =
    same_then (axis_at k bytes) _ _ (λ axis a. let la = left_by (axis_at k bytes) (length bytes) axis (axis_shortens k bytes) a in
    same_then (number_at 8 axis.1) _ _ (λ value v. let lv = left_by (number_at 8 axis.1) (length axis.1) value (number_shortens 8 axis.1) v in
    ap (λ (r : Option (Tree × List ℕ)). r >>= λ left. f left.1 >>= λ right. Some (Cut axis.0 value.0 left.0 right.0, right.1)) (same value.1 (omega arith))
    ∙ same_then (g value.1) _ _ (λ left l. let ll = left_by (f value.1) (length value.1) left (h value.1) (same value.1 (omega arith) ∙ l) in
    ap (λ (r : Option (Tree × List ℕ)). r >>= λ right. Some (Cut axis.0 value.0 left.0 right.0, right.1)) (same left.1 (omega arith)))))

node_same : (f g : List ℕ → Option (Tree × List ℕ)) (k : ℕ) (bytes : List ℕ) → Shortens f → ((part : List ℕ) → length part < length bytes → f part ≡ g part) → node_at f k bytes ≡ node_at g k bytes
unfolding node_at
node_same f g k [] h same = refl
node_same f g k (zero ∷ rest) h same = cut_same f g k rest h (λ part le. same part (omega arith))
node_same f g k (suc zero ∷ rest) h same = refl
node_same f g k (suc (suc zero) ∷ rest) h same = refl
node_same f g k (suc (suc (suc zero)) ∷ rest) h same = refl
node_same f g k (suc (suc (suc (suc b))) ∷ rest) h same = refl

-- a depth that is enough reads as any other that is
within_same : (d e k : ℕ) (bytes : List ℕ) → length bytes ≤ d → length bytes ≤ e → tree_within d k bytes ≡ tree_within e k bytes
unfolding tree_within node_at
within_same zero zero k bytes hd he = refl
within_same zero (suc e) k [] hd he = refl
within_same zero (suc e) k (b ∷ bs) hd he = absurd (omega arith)
within_same (suc d) zero k [] hd he = refl
within_same (suc d) zero k (b ∷ bs) hd he = absurd (omega arith)
within_same (suc d) (suc e) k bytes hd he = node_same (tree_within d k) (tree_within e k) k bytes (within_shortens d k) (λ part lt. within_same d e k part (omega arith) (omega arith))

-- a tree is its root, with trees below it
pub tree_is : (k : ℕ) (bytes : List ℕ) → tree_at k bytes ≡ node_at (tree_at k) k bytes
unfolding tree_at tree_within node_at
tree_is k [] = refl
tree_is k (b ∷ bs) = node_same (tree_within (length bs) k) (λ part. tree_within (length part) k part) k (b ∷ bs) (within_shortens (length bs) k) (λ part lt. within_same (length bs) (length part) k part (omega arith) (omega arith))
