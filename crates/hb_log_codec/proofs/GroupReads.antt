-- What the readers of page images, operations and groups find, step by step.
use Rattle.std.proofs.Common.{◌≡◌, ◌≢◌, ◌⊎◌, inl, inr, ℕ, ◌+◌, ◌-◌, ◌<◌, ◌≤◌, List, [], ◌∷◌, ◌++◌, length, map, take, drop, All, Some, Result, Ok, Err, sym, ap, subst, ◌∙◌, append_assoc, length-append, arith}
use Rattle.std.specs.Prelude.{AllPairs}
use Rattle.std.specs.List.{flat_map}
use Rattle.std.proofs.lemmas.List.{take_at, drop_at, take-append-drop, length-take, length-drop, map-append, flat_map_more}
use Rattle.std.proofs.lemmas.Grind.{flat_map-append}
use Rattle.std.proofs.lemmas.List.Elements.{All-head, All-tail, All-cons, All-nil, All-append, All-take, All-drop}
use Rattle.hb_space.specs.declared.form.TheConstants.{KMAX, PAGE}
use Rattle.hb_lemmas.specs.Numbers.{big_endian}
use Rattle.hb_frag.specs.declared.pages.Page.{Page}
use Rattle.hb_frag.specs.Grammar.{SpellsPage}
use Rattle.hb_ops.specs.declared.operations.Op.{Op}
use Rattle.hb_page_codec.specs.declared.errors.PageError.{PageError}
use Rattle.hb_page_codec.specs.declared.errors.PageError.TheVariants as pages
use Rattle.hb_page_codec.specs.Reading.{number_at}
use Rattle.hb_log_codec.specs.Groups.{Logged, FitsGroup, FitsPageImage, FitsOp, group_bytes, page_image_bytes, op_bytes, page_bytes}
use Rattle.hb_log_codec.specs.Fields.{op_at}
use Rattle.hb_log_codec.specs.Reading.{Begins, BeginsNone, Finds, GivesOrStops, StopsFor, FitPageImages, GroupsEnd, page_images_bytes, logged, stop_of, stop_at}
use Rattle.hb_log_codec.proofs.GroupLaws.{spells_page_bytes, page_bytes_spell, length_page, same_page_images, same_group}
use Rattle.hb_page_codec.specs.Exact.{AreBytes}
use Rattle.hb_log_codec.specs.ExactFields.{ExactFields}
use Rattle.hb_log_codec.proofs.OpLaws.{op_again, op_exact}
use Rattle.hb_log_codec.specs.declared.groups.Group.{Group}
use Rattle.hb_log_codec.specs.declared.reading.GroupStop.{GroupStop}
use Rattle.hb_log_codec.specs.declared.reading.GroupStop.TheVariants as stops
use Rattle.std.proofs.lemmas.Option.{same_Some, none-some}
use Rattle.hb_lemmas.proofs.Lists.{same_fronts, same_first}
use Rattle.hb_page_codec.proofs.Facts.PageLaws.{SpelledOnce}

pub halves : (n : ℕ) (bytes front back : List ℕ) → front ≡ take n bytes → back ≡ drop n bytes → bytes ≡ front ++ back
halves n bytes front back f b = sym (take-append-drop n bytes) ∙ (λ i. sym f i ++ sym b i)

-- ---- operations

pub op_found : ExactFields → {X : Type 0} (view : X → Op × List ℕ) (k : ℕ) → 0 < k → k ≤ KMAX → (bytes : List ℕ) (result : Result X GroupStop) → AreBytes bytes → GivesOrStops view result (op_at k bytes) → Finds (FitsOp k) op_bytes bytes view result
op_found f view k some few bytes (Ok x) fits e =
    let taken = (op_exact f k some few).takes bytes (view x) fits e in
    record { fits = taken.1; parts = taken.0 }
op_found f view k some few bytes (Err stops.NoMemory) fits e = tt
op_found f view k some few bytes (Err stops.Bad) fits e = λ x rest b. none-some (x, rest) (sym e ∙ ap (op_at k) b.parts ∙ op_again f k x rest b.fits)

-- ---- a page image

page_image_rest : ExactFields → (bytes : List ℕ) (n : ℕ) (behind : List ℕ) (x : ℕ × Page) (rest : List ℕ) → number_at 4 bytes ≡ Some (n, behind) → Begins FitsPageImage page_image_bytes bytes x rest → behind ≡ page_bytes x.1 ++ rest
page_image_rest f bytes n behind x rest e b =
    let same : (n, behind) ≡ (x.0, page_bytes x.1 ++ rest) = same_Some _ _
    (sym e ∙ ap (number_at 4) (b.parts ∙ append_assoc (big_endian 4 x.0) (page_bytes x.1) rest) ∙ f.number_4.again x.0 (page_bytes x.1 ++ rest) b.fits.number) in
    ap (λ (p : ℕ × List ℕ). p.1) same

pub page_image_short : ExactFields → (bytes : List ℕ) (n : ℕ) (behind : List ℕ) → number_at 4 bytes ≡ Some (n, behind) → length behind < PAGE → BeginsNone FitsPageImage page_image_bytes bytes
page_image_short f bytes n behind e few x rest b =
    omega (arith, few, ap length (page_image_rest f bytes n behind x rest e b), length-append (page_bytes x.1) rest, length_page x.1 b.fits.page)

-- where bytes spell a page it is read, unless memory was refused
abbrev pub IsOnly : Result Page PageError → Page → Type 0
IsOnly read page = (read ≡ Ok page) ⊎ (read ≡ Err pages.NoMemory)

not_refused : (page : Page) → IsOnly (Err pages.BadPage) page → ⊥
not_refused page (inl same) = absurd cc
not_refused page (inr same) = absurd cc

page_image_none : ExactFields → (bytes : List ℕ) (n : ℕ) (behind front back : List ℕ) → number_at 4 bytes ≡ Some (n, behind) → behind ≡ front ++ back → length front ≡ PAGE
    → ((page : Page) → SpellsPage front page → IsOnly (Err pages.BadPage) page) → BeginsNone FitsPageImage page_image_bytes bytes
page_image_none f bytes n behind front back e parts long only x rest b =
    let fronts = same_fronts front (page_bytes x.1) back rest (long ∙ sym (length_page x.1 b.fits.page)) (sym parts ∙ page_image_rest f bytes n behind x rest e b) in
    let spelled : SpellsPage front x.1 = subst (λ t. SpellsPage t x.1) (sym fronts.0) (spells_page_bytes x.1 b.fits.page) in
    not_refused x.1 (only x.1 spelled)

pub page_image_refused : ExactFields → (bytes : List ℕ) (n : ℕ) (behind front back : List ℕ) (stop : PageError) → number_at 4 bytes ≡ Some (n, behind) → behind ≡ front ++ back → length front ≡ PAGE
    → ((page : Page) → SpellsPage front page → IsOnly (Err stop) page) → StopsFor (BeginsNone FitsPageImage page_image_bytes bytes) (stop_of stop)
page_image_refused f bytes n behind front back pages.NoMemory e parts long only = tt
page_image_refused f bytes n behind front back pages.BadPage e parts long only = page_image_none f bytes n behind front back e parts long only

pub page_image_begins : ExactFields → (bytes : List ℕ) (n : ℕ) (behind front back : List ℕ) (page : Page) → AreBytes bytes → number_at 4 bytes ≡ Some (n, behind) → behind ≡ front ++ back → SpellsPage front page
    → Begins FitsPageImage page_image_bytes bytes (n, page) back
page_image_begins f bytes n behind front back page fits e parts spelled =
    let number = f.number_4.takes bytes (n, behind) fits e in
    let one = page_bytes_spell front page spelled in
    record {
      fits = record { number = number.1; page = one.1 };
      parts = number.0 ∙ ap (λ (t : List ℕ). big_endian 4 n ++ t) (parts ∙ ap (λ (t : List ℕ). t ++ back) one.0) ∙ sym (append_assoc (big_endian 4 n) (page_bytes page) back);
    }

-- ---- page images

pub page_images_more : (count : ℕ) (bytes : List ℕ) (images : List (ℕ × Page)) (rest : List ℕ) (page_image : ℕ × Page) (after : List ℕ) → Begins (FitPageImages count) page_images_bytes bytes images rest
    → Begins FitsPageImage page_image_bytes rest page_image after → Begins (FitPageImages (count + 1)) page_images_bytes bytes (images ++ page_image ∷ []) after
page_images_more count bytes images rest page_image after so_far next = record {
  fits = record {
    many = length-append images (page_image ∷ []) ∙ omega (arith, so_far.fits.many);
    each = All-append FitsPageImage images (page_image ∷ []) so_far.fits.each (All-cons FitsPageImage page_image [] next.fits (All-nil FitsPageImage));
  };
  parts = so_far.parts ∙ ap (λ (t : List ℕ). page_images_bytes images ++ t) next.parts ∙ sym (append_assoc (page_images_bytes images) (page_image_bytes page_image) after)
      ∙ ap (λ (t : List ℕ). t ++ after) (flat_map_more page_image_bytes [] images page_image);
}

module _ (f : ExactFields) (once : SpelledOnce) where
  page_images_none : (count done : ℕ) (bytes : List ℕ) (images : List (ℕ × Page)) (rest : List ℕ) → done < count → Begins (FitPageImages done) page_images_bytes bytes images rest
      → BeginsNone FitsPageImage page_image_bytes rest → BeginsNone (FitPageImages count) page_images_bytes bytes
  page_images_none count done bytes images rest lt so_far none xs behind b =
      let front = take done xs in
      let back = drop done xs in
      let many : length front ≡ done = omega (arith, length-take done xs, b.fits.many, lt) in
      let split : page_images_bytes xs ++ behind ≡ page_images_bytes front ++ (page_images_bytes back ++ behind) =
      ap (λ (t : List (ℕ × Page)). page_images_bytes t ++ behind) (sym (take-append-drop done xs)) ∙ ap (λ (t : List ℕ). t ++ behind) (flat_map-append page_image_bytes front back) ∙ append_assoc (page_images_bytes front) (page_images_bytes back) behind in
      let same = same_page_images f once images front rest (page_images_bytes back ++ behind) so_far.fits.each (All-take FitsPageImage done xs b.fits.each) (so_far.fits.many ∙ sym many) (sym so_far.parts ∙ b.parts ∙ split) in
      first_of back (All-drop FitsPageImage done xs b.fits.each) (omega (arith, length-drop done xs, b.fits.many, lt)) same.1
    where
      first_of : (ys : List (ℕ × Page)) → All FitsPageImage ys → 0 < length ys → rest ≡ page_images_bytes ys ++ behind → ⊥
      first_of [] each some e = absurd (omega (arith, some))
      first_of (y ∷ ys) each some e = none y (page_images_bytes ys ++ behind) (record { fits = All-head FitsPageImage y ys each; parts = e ∙ append_assoc (page_image_bytes y) (page_images_bytes ys) behind })

  pub page_images_stop : (count done : ℕ) (bytes : List ℕ) (images : List (ℕ × Page)) (rest : List ℕ) (stop : GroupStop) → done < count → Begins (FitPageImages done) page_images_bytes bytes images rest
      → StopsFor (BeginsNone FitsPageImage page_image_bytes rest) stop → StopsFor (BeginsNone (FitPageImages count) page_images_bytes bytes) stop
  page_images_stop count done bytes images rest stops.Bad lt so_far none = page_images_none count done bytes images rest lt so_far none
  page_images_stop count done bytes images rest stops.NoMemory lt so_far none = tt

  -- ---- a group

  -- the page images and the operation of a group that begins with these page images
  group_parts : (k count : ℕ) (bytes behind : List ℕ) (images : List (ℕ × Page)) (rest : List ℕ) (g : Logged) (after : List ℕ) → bytes ≡ count ∷ behind → Begins (FitPageImages count) page_images_bytes behind images rest
      → Begins (FitsGroup k) group_bytes bytes g after → (images ≡ g.images) × (rest ≡ op_bytes g.op ++ after)
  group_parts k count bytes behind images rest g after e so_far b =
      let whole : count ∷ behind ≡ group_bytes g ++ after = sym e ∙ b.parts in
      let many : count ≡ length g.images = same_first count (length g.images) _ _ whole in
      let tails : page_images_bytes images ++ rest ≡ page_images_bytes g.images ++ (op_bytes g.op ++ after) =
      sym so_far.parts ∙ ap (λ (l : List ℕ). drop 1 l) whole ∙ append_assoc (page_images_bytes g.images) (op_bytes g.op) after in
      same_page_images f once images g.images rest (op_bytes g.op ++ after) so_far.fits.each b.fits.images (so_far.fits.many ∙ many) tails

  pub group_not_distinct : (k count : ℕ) (bytes behind : List ℕ) (images : List (ℕ × Page)) (rest : List ℕ) → bytes ≡ count ∷ behind → Begins (FitPageImages count) page_images_bytes behind images rest
      → (AllPairs (λ i j. i.0 ≢ j.0) images → ⊥) → BeginsNone (FitsGroup k) group_bytes bytes
  group_not_distinct k count bytes behind images rest e so_far same g after b =
      same (subst (λ l. AllPairs (λ i j. i.0 ≢ j.0) l) (sym (group_parts k count bytes behind images rest g after e so_far b).0) b.fits.distinct)

  group_none : (k count : ℕ) (bytes behind : List ℕ) (images : List (ℕ × Page)) (rest : List ℕ) → bytes ≡ count ∷ behind → Begins (FitPageImages count) page_images_bytes behind images rest
      → BeginsNone (FitsOp k) op_bytes rest → BeginsNone (FitsGroup k) group_bytes bytes
  group_none k count bytes behind images rest e so_far none g after b =
      none g.op after (record { fits = b.fits.op; parts = (group_parts k count bytes behind images rest g after e so_far b).1 })

  pub group_no_op : (k count : ℕ) (bytes behind : List ℕ) (images : List (ℕ × Page)) (rest : List ℕ) (stop : GroupStop) → bytes ≡ count ∷ behind → Begins (FitPageImages count) page_images_bytes behind images rest
      → StopsFor (BeginsNone (FitsOp k) op_bytes rest) stop → StopsFor (BeginsNone (FitsGroup k) group_bytes bytes) stop
  group_no_op k count bytes behind images rest stops.Bad e so_far none = group_none k count bytes behind images rest e so_far none
  group_no_op k count bytes behind images rest stops.NoMemory e so_far none = tt

  -- ---- groups

  no_list : (k : ℕ) (xs ys : List Logged) (rest : List ℕ) → All (FitsGroup k) xs → All (FitsGroup k) ys → 0 < length rest → BeginsNone (FitsGroup k) group_bytes rest
      → flat_map group_bytes xs ++ rest ≡ flat_map group_bytes ys → ⊥
  no_list k [] [] rest x_fit y_fit some none e = absurd (omega (arith, some, ap length e))
  no_list k [] (y ∷ ys) rest x_fit y_fit some none e = none y (flat_map group_bytes ys) (record { fits = All-head (FitsGroup k) y ys y_fit; parts = e })
  no_list k (x ∷ xs) [] rest x_fit y_fit some none e = absurd (omega (arith, ap length e))
  no_list k (x ∷ xs) (y ∷ ys) rest x_fit y_fit some none e =
      let one = same_group f once k x y (flat_map group_bytes xs ++ rest) (flat_map group_bytes ys) (All-head (FitsGroup k) x xs x_fit) (All-head (FitsGroup k) y ys y_fit) (sym (append_assoc (group_bytes x) (flat_map group_bytes xs) rest) ∙ e) in
      no_list k xs ys rest (All-tail (FitsGroup k) x xs x_fit) (All-tail (FitsGroup k) y ys y_fit) some none one.1

  pub groups_end : (k : ℕ) (bytes : List ℕ) (xs : List Logged) (rest : List ℕ) (at : ℕ) (stop : GroupStop) → All (FitsGroup k) xs → bytes ≡ flat_map group_bytes xs ++ rest → 0 < length rest
      → at ≡ length bytes - length rest → StopsFor (BeginsNone (FitsGroup k) group_bytes rest) stop → GroupsEnd k bytes (stop_at at stop)
  groups_end k bytes xs rest at stops.NoMemory fit parts some place none = tt
  groups_end k bytes xs rest at stops.Bad fit parts some place none =
      let front = flat_map group_bytes xs in
      let long : length bytes ≡ length front + length rest = ap length parts ∙ length-append front rest in
      let here : length front ≡ at = omega (arith, place, long) in (
        record {
          before = xs;
          spelled = record { fits = fit; bytes_are = ap (take at) parts ∙ take_at front rest at here };
          inside = omega (arith, place, long, some);
          none = subst (BeginsNone (FitsGroup k) group_bytes) (sym (ap (drop at) parts ∙ drop_at front rest at here)) none;
        },
        λ ys spells. no_list k xs ys rest fit spells.fits some none (sym parts ∙ spells.bytes_are),
      )

pub groups_more : (k : ℕ) (bytes : List ℕ) (groups : List Group) (rest : List ℕ) (group : Group) (after : List ℕ) → All (FitsGroup k) (map logged groups) → bytes ≡ flat_map group_bytes (map logged groups) ++ rest
    → Begins (FitsGroup k) group_bytes rest (logged group) after
    → All (FitsGroup k) (map logged (groups ++ group ∷ [])) × (bytes ≡ flat_map group_bytes (map logged (groups ++ group ∷ [])) ++ after)
groups_more k bytes groups rest group after fit parts next =
    let all = map-append logged groups (group ∷ []) in (
      subst (λ l. All (FitsGroup k) l) (sym all) (All-append (FitsGroup k) (map logged groups) (logged group ∷ []) fit (All-cons (FitsGroup k) (logged group) [] next.fits (All-nil (FitsGroup k)))),
      parts ∙ ap (λ (t : List ℕ). flat_map group_bytes (map logged groups) ++ t) next.parts ∙ sym (append_assoc (flat_map group_bytes (map logged groups)) (group_bytes (logged group)) after)
          ∙ ap (λ (t : List ℕ). t ++ after) (flat_map_more group_bytes [] (map logged groups) (logged group) ∙ ap (flat_map group_bytes) (sym all)),
    )
