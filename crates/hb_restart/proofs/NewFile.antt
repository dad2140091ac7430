-- The file that is made first: its page has a spelling, and it is sound.
use Rattle.std.proofs.Common.{◌≡◌, nat_le, ◌&&◌, Bool, true, false, cond, Option, Some, None, IsNone, ℕ, zero, suc, ◌+◌, ◌-◌, ◌*◌, ◌^◌, ◌<◌, ◌≤◌, List, [], ◌++◌, length, replicate, slice_index, Contains, refl, sym, ◌∙◌, subst, arith, length-append}
use Rattle.std.proofs.lemmas.List.{length-replicate}
use Rattle.std.proofs.lemmas.List.Elements.{All-replicate, All-nil, All-cons}
use Rattle.hb_space.specs.Boxes.{IsArea, whole_area, Holds}
use Rattle.hb_space.specs.Points.{IsPoint}
use Rattle.hb_space.specs.declared.form.TheConstants.{KMAX, ICAP_MIN}
use Rattle.hb_lemmas.specs.Numbers.{big_endian}
use Rattle.hb_lemmas.proofs.Numbers.{length_big_endian}
use Rattle.hb_lemmas.proofs.Options.{none_so}
use Rattle.hb_frag.specs.declared.leaves.Leaf.TheVariants.{Records, Child}
use Rattle.hb_frag.specs.declared.pages.Page.TheVariants.{Live}
use Rattle.hb_frag.specs.Leaves.{leaves_of, siblings_of}
use Rattle.hb_frag.specs.Grammar.{HasSpelling, FitsRecord, leaf_bytes, tree_bytes, point_bytes}
use Rattle.hb_frag.specs.Trees.{Tip}
use Rattle.std.proofs.lemmas.Bool.{and_parts, leb-true}
use Rattle.hb_frag.specs.declared.pages.LivePage.{LivePage}
use Rattle.hb_frag.specs.Rules.{BelongsAt, IsInOrder}
use Rattle.hb_frag.proofs.Facts.Kinds.{same_live}
use Rattle.hb_layout.specs.Limits.{IsLayout}
use Rattle.hb_ops.specs.Sound.{FitsFile, SiblingsMatch, ChildrenMatch, IsCovered, IsSound}
use Rattle.hb_ops.specs.Files.{live_page}
use Rattle.hb_restart.specs.NewFiles.{new_meta, new_file, new_page}
use Rattle.hb_restart.specs.Layouts.{layout_fault}
use Rattle.hb_restart.specs.declared.faults.Field.TheVariants as fields
use Rattle.hb_restart.specs.declared.faults.BadField.{BadField}
use Rattle.hb_restart.specs.declared.faults.Field.{Field}
use Rattle.hb_restart.specs.declared.layout.Layout.{Layout}
use Rattle.hb_restart.proofs.NoChild.{no_child}
use Rattle.hb_restart.proofs.Facts.LoneLaws.{live_alone, to_rooted, to_counted}

replicate_point : (k x : ℕ) → 0 < k → k ≤ KMAX → x < 2 ^ 64 → IsPoint (replicate k x)
replicate_point k x some few fits = record {
  some = omega (arith, length-replicate k x);
  few = omega (arith, length-replicate k x);
  fits = All-replicate (λ y. y < 2 ^ 64) k x fits;
}

replicate_at_most : (k i x : ℕ) → slice_index (replicate k 0) i ≤ slice_index (replicate k x) i
replicate_at_most zero i x = omega arith
replicate_at_most (suc k) zero x = omega arith
replicate_at_most (suc k) (suc i) x = replicate_at_most k i x

whole_is_area : (k : ℕ) → 0 < k → k ≤ KMAX → IsArea (whole_area k)
whole_is_area k some few = record {
  lo_point = replicate_point k 0 some few (omega arith);
  hi_point = replicate_point k (2 ^ 64 - 1) some few (omega arith);
  same = length-replicate k 0 ∙ sym (length-replicate k (2 ^ 64 - 1));
  ordered = λ i lt. replicate_at_most k i (2 ^ 64 - 1);
}

long_point : (k x : ℕ) → length (point_bytes (replicate k x)) ≡ 8 * k
long_point zero x = refl
long_point (suc k) x = let rest = long_point k x in omega (arith, length-append (big_endian 8 x) (point_bytes (replicate k x)), length_big_endian 8 x, rest)

-- an empty leaf: its tag and its count
empty_leaf : length (leaf_bytes (Records [])) ≡ 3
unfolding big_endian
empty_leaf = refl

three_long : (a b c : List ℕ) (n : ℕ) → length a ≡ n → length b ≡ n → length c ≡ 3 → length (a ++ b ++ c) ≡ n + n + 3
three_long a b c n first second third = omega (arith, length-append (a ++ b) c, length-append a b)

pub new_page_spelling : (k : ℕ) → 1 ≤ k → k ≤ KMAX → HasSpelling (new_page k)
new_page_spelling k some few = record {
  fits = (omega arith, whole_is_area k some few, (omega arith, All-nil (FitsRecord (length (replicate k 0)))));
  short =
      let long : length (point_bytes (whole_area k).lo ++ point_bytes (whole_area k).hi ++ tree_bytes (Tip (Records []))) ≡ 8 * k + 8 * k + 3 =
      three_long (point_bytes (whole_area k).lo) (point_bytes (whole_area k).hi) (tree_bytes (Tip (Records []))) (8 * k) (long_point k 0) (long_point k (2 ^ 64 - 1)) empty_leaf in
      omega (arith, few, long);
}

-- a layout without fault is one that a file may have
none_left : (b : Bool) (rest : Option BadField) (fault : BadField) → cond b rest (Some fault) ≡ None → (b ≡ true) × (rest ≡ None)
none_left true rest fault e = (refl, e)
none_left false rest fault e = absurd (let never : Some fault ≡ None = e in cc)

within : (low n high : ℕ) → nat_le low n && nat_le n high ≡ true → (low ≤ n) × (n ≤ high)
within low n high e = let both = and_parts (nat_le low n) (nat_le n high) e in (leb-true low n both.0, leb-true n high both.1)

pub layout_is : (l : Layout) → layout_fault l ≡ None → IsLayout (new_meta l)
layout_is l none =
    let bad : Field → ℕ → BadField = λ field value. record { field = field; value = value } in
    let icap_rest = cond (nat_le ICAP_MIN l.icap && nat_le l.icap 256) None (Some (bad fields.Icap l.icap)) in
    let dcap_rest = cond (nat_le 6 l.dcap && nat_le l.dcap 48) icap_rest (Some (bad fields.Dcap l.dcap)) in
    let log_rest = cond (nat_le 65536 l.log && nat_le l.log 67108864) dcap_rest (Some (bad fields.Log l.log)) in
    let pages_rest = cond (nat_le 1 l.pages && nat_le l.pages 65536) log_rest (Some (bad fields.Pages l.pages)) in
    let one = none_left (nat_le 1 l.k && nat_le l.k KMAX) pages_rest (bad fields.K l.k) none in
    let two = none_left (nat_le 1 l.pages && nat_le l.pages 65536) log_rest (bad fields.Pages l.pages) one.1 in
    let three = none_left (nat_le 65536 l.log && nat_le l.log 67108864) dcap_rest (bad fields.Log l.log) two.1 in
    let four = none_left (nat_le 6 l.dcap && nat_le l.dcap 48) icap_rest (bad fields.Dcap l.dcap) three.1 in
    let five = none_left (nat_le ICAP_MIN l.icap && nat_le l.icap 256) None (bad fields.Icap l.icap) four.1 in
    let k = within 1 l.k KMAX one.0 in
    let pages = within 1 l.pages 65536 two.0 in
    let log = within 65536 l.log 67108864 three.0 in
    let dcap = within 6 l.dcap 48 four.0 in
    let icap = within ICAP_MIN l.icap 256 five.0 in
    record {
      some_attributes = k.0;
      few_attributes = k.1;
      some_pages = pages.0;
      few_pages = pages.1;
      log_room = log.0;
      log_limit = log.1;
      dcap_least = dcap.0;
      dcap_most = dcap.1;
      icap_least = icap.0;
      icap_most = icap.1;
      some_height = omega arith;
      few_levels = omega arith;
    }

-- the page of a new file keeps all rules that speak of it alone
page_fits : (l : Layout) → IsLayout (new_meta l) → FitsFile (new_meta l) (record { level = 0; area = whole_area l.k; frag = Tip (Records []) })
page_fits l is = record {
  fits = record { level = omega arith; attributes = length-replicate l.k 0 };
  well_cut = tt;
  filled = record {
    kinds = All-cons (BelongsAt 0) (Records []) [] refl (All-nil (BelongsAt 0));
    light = omega (arith, is.dcap_least);
    own = λ never. never;
  };
  in_order = All-cons IsInOrder (record { leaf = Records []; area = whole_area l.k }) []
      (record { inside = All-nil (λ r. Holds (whole_area l.k) r.key); rising = λ i j d lt short. absurd (omega (arith, lt, short)) }) (All-nil IsInOrder);
  normal = tt;
}

-- a file of this page alone keeps the rules 7 to 9
module _ (l : Layout) where
  abbrev new_live : LivePage
  new_live = record { level = 0; area = whole_area l.k; frag = Tip (Records []) }

  is_new : (id : ℕ) (page : LivePage) → live_page (new_file l) id ≡ Some page → new_live ≡ page
  is_new id page e = same_live new_live page (live_alone (new_meta l) (Live new_live) id page e).1

  new_siblings : SiblingsMatch (new_file l)
  new_siblings id page name area is h =
      let Q : LivePage → Type 0 = λ p. Contains (siblings_of p) (name, area) in
      let never : Contains (siblings_of new_live) (name, area) = subst Q (sym (is_new id page is)) h in
      absurd (omega (arith, never.1))

  new_children : ChildrenMatch (new_file l)
  new_children id page name area is h =
      let Q : LivePage → Type 0 = λ p. Contains (leaves_of p.frag p.area) (record { leaf = Child name; area = area }) in
      absurd (no_child [] new_live.area name area (subst Q (sym (is_new id page is)) h))

  new_covered : IsCovered (new_file l)
  new_covered = record {
    first = λ level lt. (1, new_live, refl, omega (arith, lt), refl);
    alone = λ id other p q is_p is_q level whole_p whole_q.
        (live_alone (new_meta l) (Live new_live) id p is_p).0 ∙ sym (live_alone (new_meta l) (Live new_live) other q is_q).0;
    not_named = λ id p is whole. refl;
    named_once = λ id p is other. absurd (other (let Q : LivePage → Type 0 = λ x. x.area ≡ whole_area l.k in subst Q (is_new id p is) refl));
  }

-- a new file is sound
pub new_is_sound : (l : Layout) → IsNone (layout_fault l) → IsSound (new_file l)
new_is_sound l none =
    let is = layout_is l (none_so (layout_fault l) none) in
    record {
      rooted = to_rooted (new_meta l) (new_live l) refl is.some_pages refl (omega arith) (omega arith) refl refl;
      counted = to_counted (new_meta l) (new_live l) refl refl;
      well_made = λ id q e. let Q : LivePage → Type 0 = λ p. FitsFile (new_meta l) p in subst Q (is_new l id q e) (page_fits l is);
      siblings = new_siblings l;
      children = new_children l;
      covered = new_covered l;
    }
