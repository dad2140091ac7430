-- Where the records stand of the leaf to which a point leads.
use Rattle.std.proofs.Common.{◌≡◌, ℕ, ◌<◌, ◌≤◌, true, false, Bool, cond, List, [], ◌∷◌, ◌++◌, length, get_or, Option, Some, None, IsSome, sym, ap, subst, ◌∙◌, append_assoc, nat_lt}
use Rattle.std.specs.List.{flat_map}
use Rattle.std.specs.Option.{MatchOption}
use Rattle.std.proofs.lemmas.List.{append-nil}
use Rattle.hb_lemmas.specs.Numbers.{big_endian}
use Rattle.hb_lemmas.proofs.Options.{some_value}
use Rattle.hb_space.specs.declared.records.Record.{Record}
use Rattle.hb_frag.specs.declared.leaves.Leaf.{Leaf}
use Rattle.hb_frag.specs.declared.leaves.Leaf.TheVariants.{Records}
use Rattle.hb_frag.specs.declared.paths.Side.TheVariants.{Left, Right}
use Rattle.hb_frag.specs.Grammar.{FitsRecord, record_bytes, tree_bytes}
use Rattle.hb_frag.specs.Leaves.{IsPointer}
use Rattle.hb_frag.specs.Paths.{way_to, with_part}
use Rattle.hb_frag.specs.Trees.{Tree, Tip, Cut}
use Rattle.hb_frag.proofs.Facts.Sides.{is_below, isnt_below}
use Rattle.hb_page_codec.specs.Exact.{AreBytes}
use Rattle.hb_page_codec.specs.ReadingFields.{record_at}
use Rattle.hb_page_codec.specs.ReadingPages.{tree_at}
use Rattle.hb_page_codec.proofs.Facts.Fields.{AreBytes-drop, many_take, record_takes}
use Rattle.hb_page_codec.proofs.TreeLaws.{tree_takes}
use Rattle.hb_view.specs.declared.trees.ListView.{ListView}
use Rattle.hb_view.specs.Behind.{after_or, list_or}
use Rattle.hb_view.specs.Lists.{records_there}
use Rattle.hb_view.specs.Roots.{IsCutAt, IsListAt, rest_there, tree_or, tree_there}
use Rattle.hb_view.specs.Spots.{LeadsToList, ListStands}
use Rattle.hb_view.specs.Views.{LeafWithin}
use Rattle.hb_view.proofs.Walked.{leaf_tip, leaf_left, leaf_right, many_counted}

-- a tree at the front of bytes is spelled there
pub record Stands (k : ℕ) (bytes : List ℕ) : Type 0 where
  pub parts : bytes ≡ tree_bytes (tree_there k bytes) ++ rest_there k bytes
  pub rest_fits : AreBytes (rest_there k bytes)

pub stands : (k : ℕ) (bytes : List ℕ) → AreBytes bytes → IsSome (tree_at k bytes) → Stands k bytes
stands k bytes fits there =
    let x = some_value (tree_at k bytes) there in
    let takes = tree_takes k bytes x.0 fits x.1 in
    let tree : tree_there k bytes ≡ x.0.0 = ap tree_or x.1 in
    let rest : rest_there k bytes ≡ x.0.1 = ap after_or x.1 in
    record {
      parts = takes.0.parts ∙ sym (λ i. tree_bytes (tree i) ++ rest i);
      rest_fits = subst (λ (b : List ℕ). AreBytes b) (sym rest) takes.0.rest_fits;
    }

-- a leaf of records
list_here : (k : ℕ) (bytes p first : List ℕ) (count : ℕ) → AreBytes bytes → IsSome (tree_at k bytes) → IsListAt k bytes count first → ListStands k bytes p count first
list_here k bytes p first count fits there list =
    let s = stands k bytes fits there in
    let same : records_there k count first ≡ list.records = ap list_or list.read in
    let first_fits : AreBytes first = subst (λ (b : List ℕ). AreBytes b) (sym list.begins) (AreBytes-drop 3 bytes fits) in
    let many = many_take (record_at k) record_bytes (FitsRecord k) (record_takes k) count first (list.records, rest_there k bytes) first_fits list.read in
    let spelled : bytes ≡ 1 ∷ (big_endian 2 (length list.records) ++ flat_map record_bytes list.records) ++ rest_there k bytes = s.parts ∙ ap (λ (t : Tree). tree_bytes t ++ rest_there k bytes) list.tree in
    record {
      front = 1 ∷ [];
      tail = [];
      first_fits = first_fits;
      bytes_are = spelled ∙ ap (λ (b : List ℕ). 1 ∷ b)
          (append_assoc (big_endian 2 (length list.records)) (flat_map record_bytes list.records) (rest_there k bytes)
          ∙ ap (λ (b : List ℕ). big_endian 2 (length list.records) ++ b) (sym many.0.parts)
          ∙ ap (λ (n : ℕ). big_endian 2 n ++ first) many.1);
      first_are = many.0.parts ∙ ap (λ (rs : List Record). flat_map record_bytes rs ++ rest_there k bytes) (sym same);
      others = λ records.
          ap (λ (t : Tree). tree_bytes (with_part (way_to p t) t (Tip (Records records)))) list.tree
          ∙ ap (λ (b : List ℕ). 1 ∷ (big_endian 2 (length records) ++ b)) (sym (append-nil (flat_map record_bytes records)));
    }

-- the text of a cut in front of its left side
abbrev cut_text : ℕ → ℕ → List ℕ
cut_text axis value = 0 ∷ axis ∷ big_endian 8 value

-- the bytes of a cut: that text, its left side and its right one
record CutStands (k : ℕ) (bytes left : List ℕ) (axis value : ℕ) : Type 0 where
  left_fits : AreBytes left
  whole : bytes ≡ cut_text axis value ++ left
  between : left ≡ tree_bytes (tree_there k left) ++ rest_there k left
  right_fits : AreBytes (rest_there k left)
  behind : rest_there k left ≡ tree_bytes (tree_there k (rest_there k left)) ++ rest_there k bytes

cut_stands : (k : ℕ) (bytes left : List ℕ) (axis value : ℕ) → AreBytes bytes → IsSome (tree_at k bytes) → IsCutAt k bytes axis value left → CutStands k bytes left axis value
cut_stands k bytes left axis value fits there cut =
    let left_fits : AreBytes left = subst (λ (b : List ℕ). AreBytes b) (sym cut.begins) (AreBytes-drop 10 bytes fits) in
    let s = stands k bytes fits there in
    let l = stands k left left_fits cut.left_there in
    let r = stands k (rest_there k left) l.rest_fits cut.right_there in
    let tl = tree_bytes (tree_there k left) in
    let tr = tree_bytes (tree_there k (rest_there k left)) in
    let behind : rest_there k left ≡ tr ++ rest_there k bytes = r.parts ∙ ap (λ (b : List ℕ). tr ++ b) (sym cut.rest) in
    record {
      left_fits = left_fits;
      whole = s.parts
          ∙ ap (λ (t : Tree). tree_bytes t ++ rest_there k bytes) cut.tree
          ∙ append_assoc (cut_text axis value ++ tl) tr (rest_there k bytes)
          ∙ append_assoc (cut_text axis value) tl (tr ++ rest_there k bytes)
          ∙ ap (λ (b : List ℕ). cut_text axis value ++ (tl ++ b)) (sym behind)
          ∙ ap (λ (b : List ℕ). cut_text axis value ++ b) (sym l.parts);
      between = l.parts;
      right_fits = l.rest_fits;
      behind = behind;
    }

-- the way to a point, past a cut
left_way : (p : List ℕ) (axis value at : ℕ) (t l r part : Tree) → t ≡ Cut axis value l r → at ≡ axis → get_or p at 0 < value → with_part (way_to p t) t part ≡ Cut axis value (with_part (way_to p l) l part) r
left_way p axis value at t l r part e same lt =
    let test : nat_lt (get_or p axis 0) value ≡ true = is_below (get_or p axis 0) value (subst (λ (n : ℕ). get_or p n 0 < value) same lt) in
    ap (λ (u : Tree). with_part (way_to p u) u part) e ∙ ap (λ (b : Bool). with_part (cond b (Left ∷ way_to p l) (Right ∷ way_to p r)) (Cut axis value l r) part) test

right_way : (p : List ℕ) (axis value at : ℕ) (t l r part : Tree) → t ≡ Cut axis value l r → at ≡ axis → value ≤ get_or p at 0 → with_part (way_to p t) t part ≡ Cut axis value l (with_part (way_to p r) r part)
right_way p axis value at t l r part e same le =
    let test : nat_lt (get_or p axis 0) value ≡ false = isnt_below (get_or p axis 0) value (subst (λ (n : ℕ). value ≤ get_or p n 0) same le) in
    ap (λ (u : Tree). with_part (way_to p u) u part) e ∙ ap (λ (b : Bool). with_part (cond b (Left ∷ way_to p l) (Right ∷ way_to p r)) (Cut axis value l r) part) test

list_left : (k : ℕ) (bytes left p first : List ℕ) (axis value at count : ℕ) → CutStands k bytes left axis value → IsCutAt k bytes axis value left → at ≡ axis → get_or p at 0 < value → ListStands k left p count first → ListStands k bytes p count first
list_left k bytes left p first axis value at count s cut same lt led =
    let h = cut_text axis value in
    let right = tree_there k (rest_there k left) in
    let tr = tree_bytes right in
    let all = flat_map record_bytes (records_there k count first) in
    record {
      front = h ++ led.front;
      tail = led.tail ++ tr;
      first_fits = led.first_fits;
      bytes_are = s.whole ∙ ap (λ (b : List ℕ). h ++ b) led.bytes_are ∙ sym (append_assoc h led.front (big_endian 2 count ++ first));
      first_are = led.first_are ∙ ap (λ (b : List ℕ). all ++ (led.tail ++ b)) s.behind ∙ ap (λ (b : List ℕ). all ++ b) (sym (append_assoc led.tail tr (rest_there k bytes)));
      others = λ records.
          let way = left_way p axis value at (tree_there k bytes) (tree_there k left) right (Tip (Records records)) cut.tree same lt in
          let listed = flat_map record_bytes records in
          let counted = big_endian 2 (length records) in
          ap tree_bytes way
          ∙ ap (λ (b : List ℕ). h ++ b ++ tr) (led.others records)
          ∙ regroup h led.front counted listed led.tail tr;
    }
  where
    regroup : (a b c d e f : List ℕ) → a ++ (b ++ (c ++ (d ++ e))) ++ f ≡ (a ++ b) ++ (c ++ (d ++ (e ++ f)))
    regroup a b c d e f = simp append_assoc

list_right : (k : ℕ) (bytes left right p first : List ℕ) (axis value at count : ℕ) → CutStands k bytes left axis value → IsCutAt k bytes axis value left → right ≡ rest_there k left → at ≡ axis → value ≤ get_or p at 0 → ListStands k right p count first → ListStands k bytes p count first
list_right k bytes left right p first axis value at count s cut r same le led =
    let h = cut_text axis value in
    let tl = tree_bytes (tree_there k left) in
    let tree_right : tree_there k right ≡ tree_there k (rest_there k left) = ap (λ (b : List ℕ). tree_there k b) r in
    let all = flat_map record_bytes (records_there k count first) in
    record {
      front = (h ++ tl) ++ led.front;
      tail = led.tail;
      first_fits = led.first_fits;
      bytes_are = s.whole
          ∙ ap (λ (b : List ℕ). h ++ b) (s.between ∙ ap (λ (b : List ℕ). tl ++ b) (sym r ∙ led.bytes_are))
          ∙ sym (append_assoc h tl (led.front ++ (big_endian 2 count ++ first)))
          ∙ sym (append_assoc (h ++ tl) led.front (big_endian 2 count ++ first));
      first_are = led.first_are ∙ ap (λ (b : List ℕ). all ++ (led.tail ++ b)) (ap (λ (b : List ℕ). rest_there k b) r ∙ sym cut.rest);
      others = λ records.
          let way = right_way p axis value at (tree_there k bytes) (tree_there k left) (tree_there k right) (Tip (Records records)) (cut.tree ∙ ap (λ (t : Tree). Cut axis value (tree_there k left) t) (sym tree_right)) same le in
          let listed = flat_map record_bytes records in
          let counted = big_endian 2 (length records) in
          ap tree_bytes way
          ∙ ap (λ (b : List ℕ). h ++ tl ++ b) (led.others records)
          ∙ sym (append_assoc (h ++ tl) led.front (counted ++ (listed ++ led.tail)));
    }

-- ---- what a walk finds

-- a leaf of records, or one that names a page
abbrev pub Leads : ℕ → List ℕ → List ℕ → Option ListView → Type 0
Leads k bytes p found = MatchOption found (LeafWithin IsPointer (tree_there k bytes) p) (λ list. LeadsToList k bytes p list.count list.first.now)

pub leads_here : (k : ℕ) (bytes p first : List ℕ) (count : ℕ) → IsSome (tree_at k bytes) → IsListAt k bytes count first → LeadsToList k bytes p count first
leads_here k bytes p first count there at =
    let same : records_there k count first ≡ at.records = ap list_or at.read in
    record {
      leaf = leaf_tip (λ leaf. leaf ≡ Records (records_there k count first)) (tree_there k bytes) (Records at.records) p at.tree (ap Records (sym same));
      counted = ap (λ (rs : List Record). length rs) same ∙ many_counted (record_at k) count first (at.records, rest_there k bytes) at.read;
      stands = λ fits. list_here k bytes p first count fits there at;
    }

pub leads_nowhere : (k : ℕ) (bytes p : List ℕ) (leaf : Leaf) → tree_there k bytes ≡ Tip leaf → IsPointer leaf → Leads k bytes p None
leads_nowhere k bytes p leaf e named = leaf_tip IsPointer (tree_there k bytes) leaf p e named

pub leads_left : (k : ℕ) (bytes left p : List ℕ) (axis value at : ℕ) (found : Option ListView) → IsSome (tree_at k bytes) → IsCutAt k bytes axis value left → at ≡ axis → get_or p at 0 < value → Leads k left p found → Leads k bytes p found
leads_left k bytes left p axis value at None there cut same lt led = leaf_left IsPointer k bytes left axis value at p cut same lt led
leads_left k bytes left p axis value at (Some list) there cut same lt led = record {
  leaf = leaf_left (λ leaf. leaf ≡ Records (records_there k list.count list.first.now)) k bytes left axis value at p cut same lt led.leaf;
  counted = led.counted;
  stands = λ fits. let s = cut_stands k bytes left axis value fits there cut in list_left k bytes left p list.first.now axis value at list.count s cut same lt (led.stands s.left_fits);
}

pub leads_right : (k : ℕ) (bytes left right p : List ℕ) (axis value at : ℕ) (found : Option ListView) → IsSome (tree_at k bytes) → IsCutAt k bytes axis value left → right ≡ rest_there k left → at ≡ axis → value ≤ get_or p at 0 → Leads k right p found → Leads k bytes p found
leads_right k bytes left right p axis value at None there cut r same le led = leaf_right IsPointer k bytes left right axis value at p cut r same le led
leads_right k bytes left right p axis value at (Some list) there cut r same le led = record {
  leaf = leaf_right (λ leaf. leaf ≡ Records (records_there k list.count list.first.now)) k bytes left right axis value at p cut r same le led.leaf;
  counted = led.counted;
  stands = λ fits.
      let s = cut_stands k bytes left axis value fits there cut in
      list_right k bytes left right p list.first.now axis value at list.count s cut r same le (led.stands (subst (λ (b : List ℕ). AreBytes b) (sym r) s.right_fits));
}
