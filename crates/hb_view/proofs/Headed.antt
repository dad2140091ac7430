-- Where the fields of a page stand in its bytes.
use Rattle.std.proofs.Common.{◌≡◌, ℕ, zero, suc, ◌+◌, ◌*◌, ◌<◌, ◌≤◌, cond, eqb, List, [], ◌∷◌, ◌++◌, length, get_or, drop, Option, Some, None, IsSome, IsTrue, ◌↔◌, refl, sym, ap, subst, ◌∙◌, length-append, arith}
use Rattle.std.specs.List.{list_all}
use Rattle.std.proofs.lemmas.Bool.{eqb-true, eq-eqb}
use Rattle.std.proofs.lemmas.List.{drop_at, drop-drop}
use Rattle.std.proofs.lemmas.Option.{same_Some, some_pair_parts}
use Rattle.hb_lemmas.proofs.Booleans.{when_some}
use Rattle.hb_lemmas.proofs.Options.{some_value, has_value, not_none, bind_some}
use Rattle.hb_space.specs.Points.{IsAttributeCount}
use Rattle.hb_space.specs.Boxes.{Area, IsArea}
use Rattle.hb_space.specs.declared.form.TheConstants.{PAGE, KMAX}
use Rattle.hb_frag.specs.declared.pages.LivePage.{LivePage}
use Rattle.hb_frag.specs.declared.pages.Page.{Page}
use Rattle.hb_frag.specs.declared.pages.Page.TheVariants.{Live, Free}
use Rattle.hb_frag.specs.Grammar.{SpellsPage, point_bytes}
use Rattle.hb_frag.specs.Trees.{Tree}
use Rattle.hb_frag.specs.Leaves.{weight_of}
use Rattle.hb_frag.proofs.Facts.Kinds.{same_free, same_live}
use Rattle.hb_page_codec.specs.Exact.{AreBytes}
use Rattle.hb_page_codec.specs.Reading.{number_at}
use Rattle.hb_page_codec.specs.ReadingFields.{area_at}
use Rattle.hb_page_codec.specs.ReadingPages.{tree_at, head_at, live_at, fields_at, page_of_bytes}
use Rattle.hb_page_codec.proofs.Facts.Fields.{AreBytes-rest, area_takes, length_point}
use Rattle.hb_page_codec.proofs.Facts.PageLaws.{head_takes, page_takes}
use Rattle.hb_page_codec.proofs.Facts.Weights.{is_light}
use Rattle.hb_view.proofs.Cornered.{has_corners}
use Rattle.hb_view.specs.Spelled.{page_or, page_spelled}
use Rattle.hb_view.specs.Corners.{corners_there}
use Rattle.hb_view.specs.Roots.{tree_or, tree_there}
use Rattle.hb_view.specs.Views.{IsLive, IsLiveAnd}
use Rattle.hb_lemmas.specs.Options.{◌>>=◌}

-- where the fields of a page in use stand
pub record LiveBytes (bytes : List ℕ) (page : LivePage) : Type 0 where
  pub first : get_or bytes 0 0 ≡ 1
  pub level : get_or bytes 1 0 ≡ page.level
  pub attributes : get_or bytes 2 0 ≡ length page.area.lo
  pub count : IsAttributeCount (length page.area.lo)
  pub is_area : IsArea page.area
  pub behind : List ℕ
  pub area : area_at (length page.area.lo) (drop 4 bytes) ≡ Some (page.area, behind)
  pub rest : List ℕ
  pub tree : tree_at (length page.area.lo) (drop (4 + 16 * length page.area.lo) bytes) ≡ Some (page.frag, rest)

-- and those of a free one
pub record FreeBytes (bytes : List ℕ) (next : ℕ) : Type 0 where
  pub first : get_or bytes 0 0 ≡ 2
  pub rest : List ℕ
  pub name : number_at 4 (drop 1 bytes) ≡ Some (next, rest)

-- ---- pages that are one

same_page : (p q : Page) (y z : List ℕ) → ◌≡◌ {A = Option (Page × List ℕ)} (Some (p, y)) (Some (q, z)) → p ≡ q
same_page p q y z e = (some_pair_parts p q y z e).0

-- ---- in front of the tree

area_left : (k : ℕ) (bytes : List ℕ) (x : Area × List ℕ) → 0 < k → k ≤ KMAX → AreBytes bytes → area_at k bytes ≡ Some x → x.1 ≡ drop (16 * k) bytes
area_left k bytes x some few fits e =
    let takes = area_takes k bytes x some few fits e in
    let text = point_bytes x.0.lo ++ point_bytes x.0.hi in
    let long : length text ≡ 16 * k = omega (arith, length-append (point_bytes x.0.lo) (point_bytes x.0.hi), length_point x.0.lo, length_point x.0.hi, takes.1, takes.2.same) in
    sym (ap (λ (b : List ℕ). drop (16 * k) b) takes.0.parts ∙ drop_at text x.1 (16 * k) long)

live_parts : (rest : List ℕ) (h : ℕ × ℕ × List ℕ) (a : Area × List ℕ) (t : Tree × List ℕ) → AreBytes rest → head_at rest ≡ Some h → area_at h.1 h.2 ≡ Some a → tree_at h.1 a.1 ≡ Some t
    → LiveBytes (1 ∷ rest) (record { level = h.0; area = a.0; frag = t.0 })
live_parts rest h a t fits eh ea et =
    let head = head_takes rest h fits eh in
    let takes = area_takes h.1 h.2 a head.some head.few head.rest_fits ea in
    let k : length a.0.lo ≡ h.1 = takes.1 in
    let four : drop 4 (1 ∷ rest) ≡ h.2 = ap (λ (b : List ℕ). drop 3 b) head.parts in
    let far : drop (4 + 16 * length a.0.lo) (1 ∷ rest) ≡ a.1 =
    ap (λ n. drop (4 + 16 * n) (1 ∷ rest)) k ∙ sym (drop-drop (16 * h.1) 4 (1 ∷ rest)) ∙ ap (λ (b : List ℕ). drop (16 * h.1) b) four ∙ sym (area_left h.1 h.2 a head.some head.few head.rest_fits ea) in
    record {
      first = refl;
      level = ap (λ (b : List ℕ). get_or b 0 0) head.parts;
      attributes = ap (λ (b : List ℕ). get_or b 1 0) head.parts ∙ sym k;
      count = record { some = omega (arith, head.some, k); few = omega (arith, head.few, k) };
      is_area = takes.2;
      behind = a.1;
      area = ap (λ n. area_at n (drop 4 (1 ∷ rest))) k ∙ ap (area_at h.1) four ∙ ea;
      rest = t.1;
      tree = ap (λ n. tree_at n (drop (4 + 16 * length a.0.lo) (1 ∷ rest))) k ∙ ap (tree_at h.1) far ∙ et;
    }

live_fields : (rest : List ℕ) (page : LivePage) (zeros : List ℕ) → AreBytes rest → live_at rest ≡ Some (Live page, zeros) → LiveBytes (1 ∷ rest) page
unfolding live_at
live_fields rest page zeros fits e =
    let h = bind_some (head_at rest) (λ head. area_at head.1 head.2 >>= λ area. tree_at head.1 area.1 >>= λ tree. Some (Live (record { level = head.0; area = area.0; frag = tree.0 }), tree.1)) (Live page, zeros) e in
    let a = bind_some (area_at h.0.1 h.0.2) (λ area. tree_at h.0.1 area.1 >>= λ tree. Some (Live (record { level = h.0.0; area = area.0; frag = tree.0 }), tree.1)) (Live page, zeros) h.2 in
    let t = bind_some (tree_at h.0.1 a.0.1) (λ tree. Some (Live (record { level = h.0.0; area = a.0.0; frag = tree.0 }), tree.1)) (Live page, zeros) a.2 in
    made (record { level = h.0.0; area = a.0.0; frag = t.0.0 }) t.0.1 t.2 (live_parts rest h.0 a.0 t.0 fits h.1 a.1 t.1)
  where
    made : (m : LivePage) (z : List ℕ) → ◌≡◌ {A = Option (Page × List ℕ)} (Some (Live m, z)) (Some (Live page, zeros)) → LiveBytes (1 ∷ rest) m → LiveBytes (1 ∷ rest) page
    made m z e there = subst (LiveBytes (1 ∷ rest)) (same_live m page (same_page (Live m) (Live page) z zeros e)) there

fields_tell : (bytes : List ℕ) (page : LivePage) (zeros : List ℕ) → AreBytes bytes → fields_at bytes ≡ Some (Live page, zeros) → LiveBytes bytes page
unfolding fields_at
fields_tell [] page zeros fits e = absurd cc
fields_tell (zero ∷ rest) page zeros fits e = absurd cc
fields_tell (suc zero ∷ rest) page zeros fits e = live_fields rest page zeros (AreBytes-rest 1 rest fits) e
fields_tell (suc (suc zero) ∷ rest) page zeros fits e =
    let a = bind_some (number_at 4 rest) (λ next. Some (Free next.0, next.1)) (Live page, zeros) e in
    other a.0.0 a.0.1 a.2
  where
    other : (n : ℕ) (z : List ℕ) → ◌≡◌ {A = Option (Page × List ℕ)} (Some (Free n, z)) (Some (Live page, zeros)) → LiveBytes (2 ∷ rest) page
    other n z e = absurd (subst IsLive (sym (same_page (Free n) (Live page) z zeros e)) tt)
fields_tell (suc (suc (suc b)) ∷ rest) page zeros fits e = absurd cc

fields_name : (bytes : List ℕ) (next : ℕ) (zeros : List ℕ) → fields_at bytes ≡ Some (Free next, zeros) → FreeBytes bytes next
unfolding fields_at live_at
fields_name [] next zeros e = absurd cc
fields_name (zero ∷ rest) next zeros e = absurd cc
fields_name (suc zero ∷ rest) next zeros e =
    let h = bind_some (head_at rest) (λ head. area_at head.1 head.2 >>= λ area. tree_at head.1 area.1 >>= λ tree. Some (Live (record { level = head.0; area = area.0; frag = tree.0 }), tree.1)) (Free next, zeros) e in
    let a = bind_some (area_at h.0.1 h.0.2) (λ area. tree_at h.0.1 area.1 >>= λ tree. Some (Live (record { level = h.0.0; area = area.0; frag = tree.0 }), tree.1)) (Free next, zeros) h.2 in
    let t = bind_some (tree_at h.0.1 a.0.1) (λ tree. Some (Live (record { level = h.0.0; area = a.0.0; frag = tree.0 }), tree.1)) (Free next, zeros) a.2 in
    other (record { level = h.0.0; area = a.0.0; frag = t.0.0 }) t.0.1 t.2
  where
    other : (m : LivePage) (z : List ℕ) → ◌≡◌ {A = Option (Page × List ℕ)} (Some (Live m, z)) (Some (Free next, zeros)) → FreeBytes (1 ∷ rest) next
    other m z e = absurd (subst IsLive (same_page (Live m) (Free next) z zeros e) tt)
fields_name (suc (suc zero) ∷ rest) next zeros e =
    let a = bind_some (number_at 4 rest) (λ name. Some (Free name.0, name.1)) (Free next, zeros) e in
    made a.0.0 a.0.1 a.1 a.2
  where
    made : (n : ℕ) (z : List ℕ) → number_at 4 rest ≡ Some (n, z) → ◌≡◌ {A = Option (Page × List ℕ)} (Some (Free n, z)) (Some (Free next, zeros)) → FreeBytes (2 ∷ rest) next
    made n z r e = let same = same_free n next (same_page (Free n) (Free next) z zeros e) in record { first = refl; rest = z; name = r ∙ ap (λ m. Some (m, z)) same }
fields_name (suc (suc (suc b)) ∷ rest) next zeros e = absurd cc

-- ---- what the bytes of a page tell

-- the fields of a page that bytes spell
fields_of : (bytes : List ℕ) (page : Page) → page_of_bytes bytes ≡ Some page → (zeros : List ℕ) × (fields_at bytes ≡ Some (page, zeros))
unfolding page_of_bytes
fields_of bytes page e =
    let g = when_some (eqb (length bytes) PAGE) (fields_at bytes >>= λ x. cond (list_all (λ b. eqb b 0) x.1) (Some x.0) None) page e in
    let a = bind_some (fields_at bytes) (λ x. cond (list_all (λ b. eqb b 0) x.1) (Some x.0) None) page g.1 in
    let h = when_some (list_all (λ b. eqb b 0) a.0.1) (Some a.0.0) page a.2 in
    (a.0.1, a.1 ∙ ap (λ (p : Page). Some (p, a.0.1)) (same_Some a.0.0 page h.1))

pub spelled_long : (bytes : List ℕ) (page : Page) → page_of_bytes bytes ≡ Some page → length bytes ≡ PAGE
unfolding page_of_bytes
spelled_long bytes page e = eqb-true _ _ (when_some (eqb (length bytes) PAGE) (fields_at bytes >>= λ x. cond (list_all (λ b. eqb b 0) x.1) (Some x.0) None) page e).0

spelled_live : (o : Option Page) → IsLive (page_or o) → (page : LivePage) × (o ≡ Some (Live page))
spelled_live None live = absurd live
spelled_live (Some (Live page)) live = (page, refl)
spelled_live (Some (Free next)) live = absurd live

-- a page in use that is spelled
pub record LiveSpelled (bytes : List ℕ) : Type 0 where
  pub page : LivePage
  pub is : page_spelled bytes ≡ Live page
  pub long : length bytes ≡ PAGE
  pub fields : LiveBytes bytes page
  pub spells : SpellsPage bytes (Live page)
  pub light : weight_of page.frag ≤ PAGE

pub live_spelled : (bytes : List ℕ) → AreBytes bytes → IsLive (page_spelled bytes) → LiveSpelled bytes
live_spelled bytes fits live =
    let w = spelled_live (page_of_bytes bytes) live in
    let f = fields_of bytes (Live w.0) w.1 in
    let spells = page_takes bytes (Live w.0) fits w.1 in
    record {
      page = w.0;
      is = ap page_or w.1;
      long = spelled_long bytes (Live w.0) w.1;
      fields = fields_tell bytes w.0 f.0 fits f.1;
      spells = spells;
      light = is_light bytes (Live w.0) spells;
    }

pub live_tells : (bytes : List ℕ) (P : LivePage → Type 0) (s : LiveSpelled bytes) → P s.page → IsLiveAnd (page_spelled bytes) P
live_tells bytes P s h = subst (λ (p : Page). IsLiveAnd p P) (sym s.is) h

-- where the parts of a page in use begin
pub live_room : (bytes : List ℕ) (s : LiveSpelled bytes) → 4 + 16 * length s.page.area.lo ≤ length bytes
live_room bytes s = omega (arith, s.long, s.fields.count.few)

-- where an area is read, it is the page's
pub is_box : (bytes : List ℕ) (s : LiveSpelled bytes) (k : ℕ) (from : List ℕ) (x : Area × List ℕ) → k ≡ get_or bytes 2 0 → from ≡ drop 4 bytes → area_at k from ≡ Some x → x.0 ≡ s.page.area
is_box bytes s k from x ek ef e =
    let same : area_at k from ≡ Some (s.page.area, s.fields.behind) = ap (λ n. area_at n from) (ek ∙ s.fields.attributes) ∙ ap (area_at (length s.page.area.lo)) ef ∙ s.fields.area in
    ap (λ (y : Area × List ℕ). y.0) (same_Some x (s.page.area, s.fields.behind) (sym e ∙ same))

pub has_box : (bytes : List ℕ) (s : LiveSpelled bytes) (k : ℕ) (from : List ℕ) → k ≡ get_or bytes 2 0 → from ≡ drop 4 bytes → area_at k from ≡ None → ⊥
has_box bytes s k from ek ef none =
    let same : area_at k from ≡ Some (s.page.area, s.fields.behind) = ap (λ n. area_at n from) (ek ∙ s.fields.attributes) ∙ ap (area_at (length s.page.area.lo)) ef ∙ s.fields.area in
    not_none (area_at k from) (s.page.area, s.fields.behind) same none

-- a page in use has so many attributes, and its box and its tree stand at the front of these bytes
pub record HasParts (page : LivePage) (k : ℕ) (corners bytes : List ℕ) : Type 0 where
  pub attributes : k ≡ length page.area.lo
  pub is_area : IsArea (corners_there k corners)
  pub room : 16 * k ≤ length corners
  pub area : corners_there k corners ≡ page.area
  pub there : IsSome (tree_at k bytes)
  pub tree : tree_there k bytes ≡ page.frag

-- the tree where it begins
pub has_parts : (bytes : List ℕ) (s : LiveSpelled bytes) (k n : ℕ) (corners from : List ℕ) → k ≡ get_or bytes 2 0 → n ≡ k → corners ≡ drop 4 bytes → from ≡ drop (4 + 16 * n) bytes → HasParts s.page k corners from
has_parts bytes s k n corners from ek en ec ef =
    let same : k ≡ length s.page.area.lo = ek ∙ s.fields.attributes in
    let read : tree_at k from ≡ Some (s.page.frag, s.fields.rest) =
    ap (λ m. tree_at m from) same ∙ ap (tree_at (length s.page.area.lo)) (ef ∙ ap (λ m. drop (4 + 16 * m) bytes) (en ∙ same)) ∙ s.fields.tree in
    let box : area_at k corners ≡ Some (s.page.area, s.fields.behind) = ap (λ m. area_at m corners) same ∙ ap (area_at (length s.page.area.lo)) ec ∙ s.fields.area in
    let has = has_corners k corners (s.page.area, s.fields.behind) box in
    record {
      attributes = same;
      is_area = subst IsArea (sym has.corners) s.fields.is_area;
      room = has.room;
      area = has.corners;
      there = has_value (tree_at k from) (s.page.frag, s.fields.rest) read;
      tree = ap tree_or read;
    }

-- ---- a free page

-- a free page that is spelled
pub record FreeSpelled (bytes : List ℕ) : Type 0 where
  pub next : ℕ
  pub is : page_spelled bytes ≡ Free next
  pub long : length bytes ≡ PAGE
  pub fields : FreeBytes bytes next

pub free_spelled : (bytes : List ℕ) → IsSome (page_of_bytes bytes) → ¬ (IsLive (page_spelled bytes)) → FreeSpelled bytes
free_spelled bytes some free =
    let w = some_value (page_of_bytes bytes) some in
    cases w.0 w.1 (subst (λ (o : Option Page). ¬ (IsLive (page_or o))) w.1 free)
  where
    cases : (page : Page) → page_of_bytes bytes ≡ Some page → ¬ (IsLive page) → FreeSpelled bytes
    cases (Live page) e free = absurd (free tt)
    cases (Free next) e free = let f = fields_of bytes (Free next) e in record { next = next; is = ap page_or e; long = spelled_long bytes (Free next) e; fields = fields_name bytes next f.0 f.1 }

pub is_next : (bytes from : List ℕ) (s : FreeSpelled bytes) (x : ℕ × List ℕ) → from ≡ drop 1 bytes → number_at 4 from ≡ Some x → page_spelled bytes ≡ Free x.0
is_next bytes from s x ef e =
    let same : number_at 4 from ≡ Some (s.next, s.fields.rest) = ap (number_at 4) ef ∙ s.fields.name in
    s.is ∙ sym (ap (λ (y : ℕ × List ℕ). Free y.0) (same_Some x (s.next, s.fields.rest) (sym e ∙ same)))

pub has_next : (bytes from : List ℕ) (s : FreeSpelled bytes) → from ≡ drop 1 bytes → number_at 4 from ≡ None → ⊥
has_next bytes from s ef none = not_none (number_at 4 from) (s.next, s.fields.rest) (ap (number_at 4) ef ∙ s.fields.name) none

-- ---- which of the two it is

pub some_long : (bytes : List ℕ) → IsSome (page_of_bytes bytes) → length bytes ≡ PAGE
some_long bytes some = let w = some_value (page_of_bytes bytes) some in spelled_long bytes w.0 w.1

pub first_tells : (bytes : List ℕ) → AreBytes bytes → IsSome (page_of_bytes bytes) → IsTrue (eqb (get_or bytes 0 0) 1) ↔ IsLive (page_spelled bytes)
first_tells bytes fits some =
    let w = some_value (page_of_bytes bytes) some in
    let f = fields_of bytes w.0 w.1 in
    subst (λ (o : Option Page). IsTrue (eqb (get_or bytes 0 0) 1) ↔ IsLive (page_or o)) (sym w.1) (cases w.0 f.0 f.1)
  where
    cases : (page : Page) (zeros : List ℕ) → fields_at bytes ≡ Some (page, zeros) → IsTrue (eqb (get_or bytes 0 0) 1) ↔ IsLive page
    cases (Live page) zeros e = (λ t. tt, λ l. eq-eqb (get_or bytes 0 0) 1 (fields_tell bytes page zeros fits e).first)
    cases (Free next) zeros e = (λ t. absurd (omega (arith, eqb-true (get_or bytes 0 0) 1 t, (fields_name bytes next zeros e).first)), λ l. absurd l)
