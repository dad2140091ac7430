-- What is read from the bytes of a page is the row that was asked for.
use Rattle.std.proofs.Common.{◌≡◌, ◌≢◌, inl, inr, ℕ, zero, suc, ◌+◌, ◌-◌, ◌<◌, ◌≤◌, Bool, cond, nat_le, nat_lt, max, List, [], ◌∷◌, length, filter, All, Option, Some, None, IsTrue, refl, sym, ap, subst, ◌∙◌, arith, length-append}
use Rattle.std.specs.List.{slice_get}
use Rattle.std.specs.Ordering.{is_gt, is_lt}
use Rattle.std.specs.declared.cmp.Ordering.{Ordering}
use Rattle.std.specs.declared.cmp.Ordering.TheVariants.{Less, Equal, Greater}
use Rattle.std.proofs.lemmas.Bool.{le-leb, leb-true, lt-ltb, ltb-true}
use Rattle.std.proofs.lemmas.List.Elements.{All-cons, All-head, All-nil, All-tail}
use Rattle.std.proofs.lemmas.Option.{same_Some, none-some}
use Rattle.hb_frag.specs.declared.pages.LivePage.{LivePage}
use Rattle.hb_frag.specs.declared.pages.Page.{Page}
use Rattle.hb_frag.specs.declared.pages.Page.TheVariants.{Live, Free}
use Rattle.hb_frag.specs.Leaves.{WellCut, leaf_at, weight_of}
use Rattle.hb_frag.specs.Rules.{is_thin}
use Rattle.hb_layout.specs.declared.meta.Meta.{Meta}
use Rattle.hb_ops.proofs.Facts.Opened.{weight_changed, placed_records}
use Rattle.hb_ops.specs.Recording.{del_page, joined, put_page}
use Rattle.hb_ops.specs.Standing.{StandsNot, StandsThere}
use Rattle.hb_space.specs.Boxes.{Holds}
use Rattle.hb_space.specs.Points.{point_cmp}
use Rattle.hb_space.specs.declared.records.Record.{Record}
use Rattle.hb_space.proofs.Facts.PointOrder.{exact_points}
use Rattle.hb_view.specs.Naming.{CountsLeaf}
use Rattle.hb_view.specs.Views.{FindsAmong, IsLiveAnd, TellsBody}
use Rattle.hb_point.proofs.Facts.DeletedRecords.{weighs_less, weighs_same}
use Rattle.hb_point.proofs.Facts.RecordLeaves.{length_cond}
use Rattle.hb_point.specs.Doing.{HasLeafOfRecords, HasRecordsIn, StandsIn}

-- ---- a page that is read

-- of a page in use, what follows of one fact, of two and of three
pub so : (v : Page) (P Q : LivePage → Type 0) → ((page : LivePage) → P page → Q page) → IsLiveAnd v P → IsLiveAnd v Q
so (Live page) P Q f h = f page h
so (Free next) P Q f h = absurd h

pub so_both : (v : Page) (P Q R : LivePage → Type 0) → ((page : LivePage) → P page → Q page → R page) → IsLiveAnd v P → IsLiveAnd v Q → IsLiveAnd v R
so_both (Live page) P Q R f h k = f page h k
so_both (Free next) P Q R f h k = absurd h

-- ---- what stands at the point

among_none : (p : List ℕ) (records : List Record) → FindsAmong p records None → All (λ r. r.key ≢ p) records
among_none p [] h = All-nil (λ (r : Record). r.key ≢ p)
among_none p (r ∷ rest) (inl here) = absurd (none-some r.body here.1)
among_none p (r ∷ rest) (inr later) = All-cons (λ (r : Record). r.key ≢ p) r rest later.0 (among_none p rest later.1)

among_some : (p : List ℕ) (records : List Record) (body : List ℕ) → FindsAmong p records (Some body) → (found : Record) × (place : ℕ) × (slice_get records place ≡ Some found) × (found.key ≡ p) × (found.body ≡ body)
among_some p [] body h = absurd (none-some body (sym h))
among_some p (r ∷ rest) body (inl here) = (r, zero, refl, here.0, sym (same_Some body r.body here.1))
among_some p (r ∷ rest) body (inr later) = let there = among_some p rest body later.1 in (there.0, suc there.1, there.2, there.3, there.4)

-- so what was read in the leaf that was looked into
stands : (meta : Meta) (p : List ℕ) (body : Option (List ℕ)) (page : LivePage) → HasLeafOfRecords meta page p → TellsBody p (leaf_at page p) body → StandsIn page p body
stands meta p None page has tells =
    let records = has.records in
    record { records = records.records; area = records.area; leaf = records.leaf; lack = among_none p records.records (subst (λ (rs : List Record). FindsAmong p rs None) (ap placed_records (sym tells.found ∙ records.leaf)) tells.among) }
stands meta p (Some body) page has tells =
    let records = has.records in
    let there = among_some p records.records body (subst (λ (rs : List Record). FindsAmong p rs (Some body)) (ap placed_records (sym tells.found ∙ records.leaf)) tells.among) in
    (there.0, record { records = records.records; area = records.area; leaf = records.leaf; place = there.1; among = there.2; key = there.3 }, there.4)

pub stands_in : (v : Page) (meta : Meta) (p : List ℕ) (body : Option (List ℕ)) → HasRecordsIn meta v p → IsLiveAnd v (λ page. TellsBody p (leaf_at page p) body) → IsLiveAnd v (λ page. StandsIn page p body)
stands_in v meta p body = so_both v (λ page. HasLeafOfRecords meta page p) (λ page. TellsBody p (leaf_at page p) body) (λ page. StandsIn page p body) (stands meta p body)

pub cut_there : (v : Page) (meta : Meta) (p : List ℕ) → HasRecordsIn meta v p → IsLiveAnd v WellCut
cut_there v meta p = so v (λ page. HasLeafOfRecords meta page p) WellCut (λ page has. has.made.well_cut)

pub held_there : (v : Page) (meta : Meta) (p : List ℕ) → HasRecordsIn meta v p → IsLiveAnd v (λ page. Holds page.area p)
held_there v meta p = so v (λ page. HasLeafOfRecords meta page p) (λ page. Holds page.area p) (λ page has. has.inside)

pub is_there : (v : Page) (p : List ℕ) (found : List ℕ) (body : Option (List ℕ)) → body ≡ Some found → IsLiveAnd v (λ page. StandsIn page p body) → IsLiveAnd v (λ page. (r : Record) × StandsThere page p r)
is_there v p found body some h = so v (λ page. StandsIn page p (Some found)) (λ page. (r : Record) × StandsThere page p r) (λ page h. (h.0, h.1)) (subst (λ (b : Option (List ℕ)). IsLiveAnd v (λ page. StandsIn page p b)) some h)

-- ---- tests of numbers

pub test_of_most : (weight capacity most : ℕ) → capacity ≡ most → (IsTrue (nat_le weight capacity) → weight ≤ most) × (weight ≤ most → IsTrue (nat_le weight capacity))
test_of_most weight capacity most e = (λ t. (let le = leb-true weight capacity t in omega (arith, e, le)), λ le. le-leb weight capacity (omega (arith, e, le)))

pub test_below : (weight capacity most : ℕ) → capacity ≡ most → (IsTrue (nat_lt weight capacity) → weight < most) × (weight < most → IsTrue (nat_lt weight capacity))
test_below weight capacity most e = (λ t. (let lt = ltb-true weight capacity t in omega (arith, e, lt)), λ lt. lt-ltb weight capacity (omega (arith, e, lt)))

-- ---- one record more

one_side : (p q : List ℕ) → p ≢ q → cond (is_lt (point_cmp p q)) 1 0 + cond (is_gt (point_cmp p q)) 1 0 ≡ 1
one_side p q other = by (point_cmp p q) (λ tie. other (exact_points p q tie))
  where
    by : (o : Ordering) → (o ≡ Equal → ⊥) → cond (is_lt o) 1 0 + cond (is_gt o) 1 0 ≡ 1
    by Less untied = refl
    by Equal untied = absurd (untied refl)
    by Greater untied = refl

all_sides : (p : List ℕ) (records : List Record) → All (λ r. r.key ≢ p) records → length (filter (λ r. is_lt (point_cmp r.key p)) records) + length (filter (λ r. is_gt (point_cmp r.key p)) records) ≡ length records
all_sides p [] lack = omega arith
all_sides p (r ∷ records) lack =
    let lesser = filter (λ (r : Record). is_lt (point_cmp r.key p)) records in
    let greater = filter (λ (r : Record). is_gt (point_cmp r.key p)) records in
    let one = length_cond (is_lt (point_cmp r.key p)) r lesser in
    let two = length_cond (is_gt (point_cmp r.key p)) r greater in
    let rest = all_sides p records (All-tail (λ (r : Record). r.key ≢ p) r records lack) in
    let both = one_side r.key p (All-head (λ (r : Record). r.key ≢ p) r records lack) in
    omega (arith, one, two, rest, both)

one_more : (rec : Record) (records : List Record) → All (λ r. r.key ≢ rec.key) records → length (joined rec records) ≡ length records + 1
one_more rec records lack =
    let sides = all_sides rec.key records lack in
    let whole = length-append (filter (λ (r : Record). is_lt (point_cmp r.key rec.key)) records) (rec ∷ filter (λ (r : Record). is_gt (point_cmp r.key rec.key)) records) in
    omega (arith, sides, whole)

put_weighs : (page : LivePage) (rec : Record) (absent : StandsNot page rec.key) → WellCut page → weight_of (put_page rec page).frag + max 1 (length absent.records) ≡ weight_of page.frag + max 1 (length absent.records + 1)
put_weighs page rec absent cut =
    let changed = weight_changed page rec.key absent.records absent.area (joined rec) cut absent.leaf in
    changed ∙ ap (λ (n : ℕ). weight_of page.frag + max 1 n) (one_more rec absent.records absent.lack)

abbrev pub TellsRoom : LivePage → Meta → List ℕ → Bool → Type 0
TellsRoom page meta p room = (rec : Record) → rec.key ≡ p → (IsTrue room → weight_of (put_page rec page).frag ≤ meta.dcap) × (weight_of (put_page rec page).frag ≤ meta.dcap → IsTrue room)

absent_for : (page : LivePage) (p : List ℕ) (rec : Record) → rec.key ≡ p → StandsNot page p → StandsNot page rec.key
absent_for page p rec same = subst (λ (q : List ℕ). StandsNot page q) (sym same)

count_is : (page : LivePage) (p : List ℕ) (absent : StandsNot page p) (count : ℕ) → CountsLeaf (leaf_at page p) count → count ≡ length absent.records
count_is page p absent count counts = counts.counted ∙ ap (λ (rs : List Record). length rs) (ap placed_records (sym counts.found ∙ absent.leaf))

room_first : (meta : Meta) (p : List ℕ) (page : LivePage) (count weight : ℕ) (room : Bool) → count ≡ 0 → (IsTrue room → weight ≤ meta.dcap) × (weight ≤ meta.dcap → IsTrue room) → WellCut page → StandsNot page p → CountsLeaf (leaf_at page p) count → weight ≡ weight_of page.frag → TellsRoom page meta p room
room_first meta p page count weight room none test cut absent counts weighs rec same =
    let here = absent_for page p rec same absent in
    let counted = count_is page rec.key here count (subst (λ (q : List ℕ). CountsLeaf (leaf_at page q) count) (sym same) counts) in
    let put = put_weighs page rec here cut in
    (λ t. (let le = test.0 t in omega (arith, none, counted, put, weighs, le)), λ le. test.1 (omega (arith, none, counted, put, weighs, le)))

room_more : (meta : Meta) (p : List ℕ) (page : LivePage) (count weight : ℕ) (room : Bool) → ¬ (count ≡ 0) → (IsTrue room → weight < meta.dcap) × (weight < meta.dcap → IsTrue room) → WellCut page → StandsNot page p → CountsLeaf (leaf_at page p) count → weight ≡ weight_of page.frag → TellsRoom page meta p room
room_more meta p page count weight room some test cut absent counts weighs rec same =
    let here = absent_for page p rec same absent in
    let counted = count_is page rec.key here count (subst (λ (q : List ℕ). CountsLeaf (leaf_at page q) count) (sym same) counts) in
    let put = put_weighs page rec here cut in
    (λ t. (let lt = test.0 t in omega (arith, some, counted, put, weighs, lt)), λ le. test.1 (omega (arith, some, counted, put, weighs, le)))

module _ (v : Page) (meta : Meta) (p : List ℕ) (count weight : ℕ) (room : Bool) (has : HasRecordsIn meta v p) (absent : IsLiveAnd v (λ page. StandsNot page p)) (counts : IsLiveAnd v (λ page. CountsLeaf (leaf_at page p) count)) (weighs : IsLiveAnd v (λ page. weight ≡ weight_of page.frag)) where
  pub first_has_room : count ≡ 0 → (IsTrue room → weight ≤ meta.dcap) × (weight ≤ meta.dcap → IsTrue room) → IsLiveAnd v (λ page. TellsRoom page meta p room)
  first_has_room none test = so_both v (λ page. HasLeafOfRecords meta page p × StandsNot page p) (λ page. CountsLeaf (leaf_at page p) count × (weight ≡ weight_of page.frag)) (λ page. TellsRoom page meta p room)
      (λ page h k. room_first meta p page count weight room none test h.0.made.well_cut h.1 k.0 k.1)
      (so_both v (λ page. HasLeafOfRecords meta page p) (λ page. StandsNot page p) (λ page. HasLeafOfRecords meta page p × StandsNot page p) (λ page a b. (a, b)) has absent)
      (so_both v (λ page. CountsLeaf (leaf_at page p) count) (λ page. weight ≡ weight_of page.frag) (λ page. CountsLeaf (leaf_at page p) count × (weight ≡ weight_of page.frag)) (λ page a b. (a, b)) counts weighs)

  pub more_have_room : ¬ (count ≡ 0) → (IsTrue room → weight < meta.dcap) × (weight < meta.dcap → IsTrue room) → IsLiveAnd v (λ page. TellsRoom page meta p room)
  more_have_room some test = so_both v (λ page. HasLeafOfRecords meta page p × StandsNot page p) (λ page. CountsLeaf (leaf_at page p) count × (weight ≡ weight_of page.frag)) (λ page. TellsRoom page meta p room)
      (λ page h k. room_more meta p page count weight room some test h.0.made.well_cut h.1 k.0 k.1)
      (so_both v (λ page. HasLeafOfRecords meta page p) (λ page. StandsNot page p) (λ page. HasLeafOfRecords meta page p × StandsNot page p) (λ page a b. (a, b)) has absent)
      (so_both v (λ page. CountsLeaf (leaf_at page p) count) (λ page. weight ≡ weight_of page.frag) (λ page. CountsLeaf (leaf_at page p) count × (weight ≡ weight_of page.frag)) (λ page a b. (a, b)) counts weighs)

-- ---- one record less

module _ (v : Page) (meta : Meta) (p : List ℕ) (count weight : ℕ) (thin : Bool) (has : HasRecordsIn meta v p) (there : IsLiveAnd v (λ page. (found : Record) × StandsThere page p found)) (counts : IsLiveAnd v (λ page. CountsLeaf (leaf_at page p) count)) (weighs : IsLiveAnd v (λ page. weight ≡ weight_of page.frag)) where
  abbrev TellsThin : LivePage → Type 0
  TellsThin page = thin ≡ is_thin (weight_of (del_page p page).frag) meta.dcap

  by_count : ((page : LivePage) (has : HasLeafOfRecords meta page p) (found : Record) → StandsThere page p found → count ≡ length has.records.records → weight ≡ weight_of page.frag → TellsThin page) → IsLiveAnd v TellsThin
  by_count f = so_both v (λ page. HasLeafOfRecords meta page p × ((found : Record) × StandsThere page p found)) (λ page. CountsLeaf (leaf_at page p) count × (weight ≡ weight_of page.frag)) TellsThin
      (λ page h k. f page h.0 h.1.0 h.1.1 (k.0.counted ∙ ap (λ (rs : List Record). length rs) (ap placed_records (sym k.0.found ∙ h.0.records.leaf))) k.1)
      (so_both v (λ page. HasLeafOfRecords meta page p) (λ page. (found : Record) × StandsThere page p found) (λ page. HasLeafOfRecords meta page p × ((found : Record) × StandsThere page p found)) (λ page a b. (a, b)) has there)
      (so_both v (λ page. CountsLeaf (leaf_at page p) count) (λ page. weight ≡ weight_of page.frag) (λ page. CountsLeaf (leaf_at page p) count × (weight ≡ weight_of page.frag)) (λ page a b. (a, b)) counts weighs)

  pub many_thin : 1 < count → thin ≡ is_thin (weight - 1) meta.dcap → IsLiveAnd v (λ page. thin ≡ is_thin (weight_of (del_page p page).frag) meta.dcap)
  many_thin more told = by_count (λ page has found there counted weighs.
      let less = weighs_less meta page p has.records.records has.records.area found has.made has.records.leaf there (subst (λ (n : ℕ). 1 < n) counted more) in
      let left : weight - 1 ≡ weight_of (del_page p page).frag = omega (arith, less, weighs) in
      told ∙ ap (λ (n : ℕ). is_thin n meta.dcap) left)

  pub one_thin : count ≤ 1 → thin ≡ is_thin weight meta.dcap → IsLiveAnd v (λ page. thin ≡ is_thin (weight_of (del_page p page).frag) meta.dcap)
  one_thin few told = by_count (λ page has found there counted weighs.
      told ∙ ap (λ (n : ℕ). is_thin n meta.dcap) (weighs ∙ weighs_same meta page p has.records.records has.records.area found has.made has.records.leaf there (subst (λ (n : ℕ). n ≤ 1) counted few)))
