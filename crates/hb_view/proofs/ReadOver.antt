-- What one node is worth where trees are read over one after the other.
use Rattle.std.proofs.Common.{◌≡◌, ℕ, zero, suc, ◌+◌, ◌-◌, ◌<◌, ◌≤◌, ◌≢◌, ltb, slice_index_or, List, [], ◌∷◌, length, drop, Option, Some, None, IsSome, refl, sym, ap, subst, ◌∙◌, arith}
use Rattle.std.proofs.lemmas.Bool.{ltb-false}
use Rattle.std.proofs.lemmas.List.{length-drop, drop-drop}
use Rattle.std.proofs.lemmas.Option.{same_Some}
use Rattle.byteorder.specs.Endian.{big_number}
use Rattle.hb_lemmas.proofs.Booleans.{when_some, unless_some}
use Rattle.hb_lemmas.proofs.Options.{some_value, has_value, bind_some}
use Rattle.hb_frag.specs.Trees.{Tree}
use Rattle.hb_page_codec.specs.Reading.{number_at}
use Rattle.hb_page_codec.specs.ReadingFields.{axis_at}
use Rattle.hb_page_codec.specs.ReadingPages.{tree_at}
use Rattle.hb_view.specs.Behind.{behind, list_behind, cut_behind, name_behind, node_behind, rest_after, after_or}
use Rattle.hb_view.specs.Roots.{rest_there}
use Rattle.hb_view.proofs.Skipped.{tree_skipped, tree_shorter}
use Rattle.hb_lemmas.specs.Options.{◌>>=◌}

-- what was read takes so many bytes
record Takes (width : ℕ) (bytes after : List ℕ) : Type 0 where
  room : width ≤ length bytes
  rest : after ≡ drop width bytes

number_takes : (width : ℕ) (bytes : List ℕ) (x : ℕ × List ℕ) → number_at width bytes ≡ Some x → Takes width bytes x.1
number_takes width bytes x e =
    let g = unless_some (ltb (length bytes) width) (Some (big_number width bytes, drop width bytes)) x e in
    record { room = ltb-false _ _ g.0; rest = sym (ap (λ (y : ℕ × List ℕ). y.1) (same_Some (big_number width bytes, drop width bytes) x g.1)) }

axis_takes : (k : ℕ) (bytes : List ℕ) (x : ℕ × List ℕ) → axis_at k bytes ≡ Some x → Takes 1 bytes x.1
unfolding axis_at
axis_takes k [] x e = absurd cc
axis_takes k (b ∷ rest) x e =
    let g = when_some (ltb b k) (Some (b, rest)) x e in
    record { room = omega arith; rest = sym (ap (λ (y : ℕ × List ℕ). y.1) (same_Some (b, rest) x g.1)) }

takes_then : (m n : ℕ) (bytes middle rest : List ℕ) → Takes m bytes middle → Takes n middle rest → Takes (m + n) bytes rest
takes_then m n bytes middle rest first second =
    let same : length middle ≡ length (drop m bytes) = ap (λ (b : List ℕ). length b) first.rest in
    let front : m ≤ length bytes = first.room in
    let back : n ≤ length middle = second.room in
    record { room = omega (arith, length-drop m bytes); rest = second.rest ∙ ap (λ (b : List ℕ). drop n b) first.rest ∙ drop-drop n m bytes }

name_takes : (bytes rest : List ℕ) → name_behind bytes ≡ Some rest → Takes 4 bytes rest
unfolding name_behind
name_takes bytes rest e =
    let a = bind_some (number_at 4 bytes) (λ page. Some page.1) rest e in
    subst (λ (b : List ℕ). Takes 4 bytes b) (same_Some a.0.1 rest a.2) (number_takes 4 bytes a.0 a.1)

-- the two sides of a cut stand behind its value
cut_sides : (k : ℕ) (bytes rest : List ℕ) → cut_behind k bytes ≡ Some rest → (9 ≤ length bytes) × ((behind (tree_at k (drop 9 bytes)) >>= λ left. behind (tree_at k left)) ≡ Some rest)
unfolding cut_behind
cut_sides k bytes rest e =
    let a = bind_some (axis_at k bytes) (λ axis. number_at 8 axis.1 >>= λ value. behind (tree_at k value.1) >>= λ left. behind (tree_at k left)) rest e in
    let v = bind_some (number_at 8 a.0.1) (λ value. behind (tree_at k value.1) >>= λ left. behind (tree_at k left)) rest a.2 in
    let both = takes_then 1 8 bytes a.0.1 v.0.1 (axis_takes k bytes a.0 a.1) (number_takes 8 a.0.1 v.0 v.1) in
    (both.room, subst (λ (b : List ℕ). (behind (tree_at k b) >>= λ left. behind (tree_at k left)) ≡ Some rest) both.rest v.2)

-- a tree among others
one_more : (k n : ℕ) (bytes : List ℕ) → rest_after (suc n) k bytes ≡ (node_behind k bytes >>= λ rest. rest_after n k rest)
unfolding rest_after
one_more k n bytes = ap (λ (r : Option (List ℕ)). r >>= λ rest. rest_after n k rest) (tree_skipped k bytes)

two_more : (k n : ℕ) (bytes : List ℕ) → rest_after (suc (suc n)) k bytes ≡ ((behind (tree_at k bytes) >>= λ left. behind (tree_at k left)) >>= λ rest. rest_after n k rest)
unfolding rest_after
two_more k n bytes = joined (behind (tree_at k bytes))
  where
    joined : (r : Option (List ℕ)) → (r >>= λ left. rest_after (suc n) k left) ≡ ((r >>= λ left. behind (tree_at k left)) >>= λ rest. rest_after n k rest)
    joined None = refl
    joined (Some left) = refl

-- the first of them is there, and the others behind it
first_there : (k n : ℕ) (bytes : List ℕ) → IsSome (rest_after (suc n) k bytes) → (rest : List ℕ) × (node_behind k bytes ≡ Some rest) × (rest_after n k rest ≡ rest_after (suc n) k bytes)
first_there k n bytes there =
    let x = some_value (rest_after (suc n) k bytes) there in
    let a = bind_some (node_behind k bytes) (λ rest. rest_after n k rest) x.0 (sym (one_more k n bytes) ∙ x.1) in
    (a.0, a.1, a.2 ∙ sym x.1)

behind_cut : (k trees : ℕ) (rest : List ℕ) → 0 < trees → IsSome (rest_after trees k (0 ∷ rest)) → (9 ≤ length rest) × (rest_after (trees + 1) k (drop 9 rest) ≡ rest_after trees k (0 ∷ rest))
unfolding node_behind
behind_cut k zero rest some there = absurd (omega arith)
behind_cut k (suc n) rest some there =
    let a = first_there k n (0 ∷ rest) there in
    let sides = cut_sides k rest a.0 a.1 in
    let e : suc n + 1 ≡ suc (suc n) = omega arith in
    (sides.0, ap (λ m. rest_after m k (drop 9 rest)) e ∙ two_more k n (drop 9 rest) ∙ ap (λ (r : Option (List ℕ)). r >>= λ rest. rest_after n k rest) sides.1 ∙ a.2)

behind_records : (k trees : ℕ) (rest : List ℕ) → 0 < trees → IsSome (rest_after trees k (1 ∷ rest)) → (after : List ℕ) × (list_behind k rest ≡ Some after) × (rest_after (trees - 1) k after ≡ rest_after trees k (1 ∷ rest))
unfolding node_behind
behind_records k zero rest some there = absurd (omega arith)
behind_records k (suc n) rest some there =
    let a = first_there k n (1 ∷ rest) there in
    let e : suc n - 1 ≡ n = omega arith in
    (a.0, a.1, ap (λ m. rest_after m k a.0) e ∙ a.2)

behind_taken : (k n : ℕ) (bytes rest after : List ℕ) → name_behind rest ≡ Some after → rest_after n k after ≡ rest_after (suc n) k bytes → (4 ≤ length rest) × (rest_after (suc n - 1) k (drop 4 rest) ≡ rest_after (suc n) k bytes)
behind_taken k n bytes rest after name same =
    let takes = name_takes rest after name in
    let e : suc n - 1 ≡ n = omega arith in
    (takes.room, ap (λ m. rest_after m k (drop 4 rest)) e ∙ ap (λ (b : List ℕ). rest_after n k b) (sym takes.rest) ∙ same)

behind_child : (k trees : ℕ) (rest : List ℕ) → 0 < trees → IsSome (rest_after trees k (2 ∷ rest)) → (4 ≤ length rest) × (rest_after (trees - 1) k (drop 4 rest) ≡ rest_after trees k (2 ∷ rest))
unfolding node_behind
behind_child k zero rest some there = absurd (omega arith)
behind_child k (suc n) rest some there = let a = first_there k n (2 ∷ rest) there in behind_taken k n (2 ∷ rest) rest a.0 a.1 a.2

behind_sibling : (k trees : ℕ) (rest : List ℕ) → 0 < trees → IsSome (rest_after trees k (3 ∷ rest)) → (4 ≤ length rest) × (rest_after (trees - 1) k (drop 4 rest) ≡ rest_after trees k (3 ∷ rest))
unfolding node_behind
behind_sibling k zero rest some there = absurd (omega arith)
behind_sibling k (suc n) rest some there = let a = first_there k n (3 ∷ rest) there in behind_taken k n (3 ∷ rest) rest a.0 a.1 a.2

-- no tree is there
never_past : (k trees : ℕ) (bytes : List ℕ) → 0 < trees → node_behind k bytes ≡ None → IsSome (rest_after trees k bytes) → ⊥
never_past k zero bytes some none there = absurd (omega arith)
never_past k (suc n) bytes some none there = let a = first_there k n bytes there in let never : None ≡ Some a.0 = sym none ∙ a.1 in cc never

list_shorter : (k : ℕ) (rest after : List ℕ) → list_behind k rest ≡ Some after → length after ≤ 1 + length rest
unfolding node_behind
list_shorter k rest after e = omega (arith, tree_shorter k (1 ∷ rest) after (tree_skipped k (1 ∷ rest) ∙ e))

-- ---- the same by the tag

pub has_tag : (k trees : ℕ) (bytes : List ℕ) → 0 < trees → IsSome (rest_after trees k bytes) → 1 ≤ length bytes
unfolding node_behind
has_tag k trees [] some there = absurd (never_past k trees [] some refl there)
has_tag k trees (b ∷ rest) some there = omega arith

pub past_cut : (k trees : ℕ) (bytes : List ℕ) → 0 < trees → IsSome (rest_after trees k bytes) → slice_index_or bytes 0 0 ≡ 0 → (10 ≤ length bytes) × (rest_after (trees + 1) k (drop 10 bytes) ≡ rest_after trees k bytes)
unfolding node_behind
past_cut k trees [] some there e = absurd (never_past k trees [] some refl there)
past_cut k trees (zero ∷ rest) some there e = let a = behind_cut k trees rest some there in let room : 9 ≤ length rest = a.0 in (omega arith, a.1)
past_cut k trees (suc b ∷ rest) some there e = absurd cc

record ListPast (k trees : ℕ) (bytes : List ℕ) : Type 0 where
  after : List ℕ
  read : list_behind k (drop 1 bytes) ≡ Some after
  same : rest_after (trees - 1) k after ≡ rest_after trees k bytes
  short : length after ≤ length bytes

past_list : (k trees : ℕ) (bytes : List ℕ) → 0 < trees → IsSome (rest_after trees k bytes) → slice_index_or bytes 0 0 ≡ 1 → ListPast k trees bytes
unfolding node_behind
past_list k trees [] some there e = absurd (never_past k trees [] some refl there)
past_list k trees (zero ∷ rest) some there e = absurd cc
past_list k trees (suc zero ∷ rest) some there e =
    let a = behind_records k trees rest some there in
    let short : length a.0 ≤ 1 + length rest = list_shorter k rest a.0 a.1 in
    record { after = a.0; read = a.1; same = a.2; short = omega arith }
past_list k trees (suc (suc b) ∷ rest) some there e = absurd cc

pub has_records : (k trees : ℕ) (bytes from : List ℕ) → 0 < trees → IsSome (rest_after trees k bytes) → slice_index_or bytes 0 0 ≡ 1 → from ≡ drop 1 bytes → IsSome (list_behind k from)
has_records k trees bytes from some there e behind_tag =
    let a = past_list k trees bytes some there e in
    has_value (list_behind k from) a.after (ap (λ (b : List ℕ). list_behind k b) behind_tag ∙ a.read)

pub past_records : (k trees : ℕ) (bytes from after : List ℕ) → 0 < trees → IsSome (rest_after trees k bytes) → slice_index_or bytes 0 0 ≡ 1 → from ≡ drop 1 bytes → list_behind k from ≡ Some after
    → (rest_after (trees - 1) k after ≡ rest_after trees k bytes) × (length after ≤ length bytes)
past_records k trees bytes from after some there e behind_tag read =
    let a = past_list k trees bytes some there e in
    let same : a.after ≡ after = same_Some a.after after (sym a.read ∙ ap (λ (b : List ℕ). list_behind k b) (sym behind_tag) ∙ read) in
    (ap (λ (b : List ℕ). rest_after (trees - 1) k b) (sym same) ∙ a.same, subst (λ (b : List ℕ). length b ≤ length bytes) same a.short)

pub past_name : (k trees : ℕ) (bytes : List ℕ) → 0 < trees → IsSome (rest_after trees k bytes) → slice_index_or bytes 0 0 ≢ 0 → slice_index_or bytes 0 0 ≢ 1
    → (5 ≤ length bytes) × (rest_after (trees - 1) k (drop 5 bytes) ≡ rest_after trees k bytes)
unfolding node_behind
past_name k trees [] some there cut records = absurd (never_past k trees [] some refl there)
past_name k trees (zero ∷ rest) some there cut records = absurd (cut refl)
past_name k trees (suc zero ∷ rest) some there cut records = absurd (records refl)
past_name k trees (suc (suc zero) ∷ rest) some there cut records = let a = behind_child k trees rest some there in let room : 4 ≤ length rest = a.0 in (omega arith, a.1)
past_name k trees (suc (suc (suc zero)) ∷ rest) some there cut records = let a = behind_sibling k trees rest some there in let room : 4 ≤ length rest = a.0 in (omega arith, a.1)
past_name k trees (suc (suc (suc (suc b))) ∷ rest) some there cut records = absurd (never_past k trees (suc (suc (suc (suc b))) ∷ rest) some refl there)

-- one tree, and none
pub one_tree : (k : ℕ) (bytes : List ℕ) → IsSome (tree_at k bytes) → rest_after 1 k bytes ≡ Some (rest_there k bytes)
unfolding rest_after
one_tree k bytes there = found (tree_at k bytes) there
  where
    found : (r : Option (Tree × List ℕ)) → IsSome r → (behind r >>= λ rest. rest_after 0 k rest) ≡ Some (after_or r)
    found None some = absurd cc
    found (Some x) some = refl

pub no_tree : (k : ℕ) (bytes rest : List ℕ) → rest_after 0 k bytes ≡ Some rest → bytes ≡ rest
unfolding rest_after
no_tree k bytes rest e = same_Some bytes rest e
