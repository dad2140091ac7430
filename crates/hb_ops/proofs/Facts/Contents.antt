-- What a put and a delete make of the contents.
use Rattle.std.proofs.Common.{◌≡◌, ◌≢◌, ℕ, suc, Bool, cond, List, [], ◌∷◌, ◌++◌, flat_map, slice_get, Option, Some, None, refl, sym, ap, ◌∙◌, arith, append_assoc, eq-eqb}
use Rattle.std.specs.List.{AllByRecursion}
use Rattle.std.specs.FinMap as finite
use Rattle.std.proofs.lemmas.List.Concat.{flat_map-append}
use Rattle.std.proofs.lemmas.List.Elements.{recursion_from_All}
use Rattle.std.proofs.lemmas.Option.{slice_get_within}
use Rattle.hb_space.specs.Boxes.{Area}
use Rattle.hb_space.specs.declared.records.Record.{Record}
use Rattle.hb_frag.specs.declared.leaves.Leaf.{Leaf}
use Rattle.hb_frag.specs.declared.leaves.Leaf.TheVariants.{Records}
use Rattle.hb_frag.specs.declared.pages.LivePage.{LivePage}
use Rattle.hb_frag.specs.declared.pages.Page.{Page}
use Rattle.hb_frag.specs.declared.pages.Page.TheVariants.{Live}
use Rattle.hb_frag.specs.Leaves.{WellCut, leaf_at, leaves, leaves_of, records_of}
use Rattle.hb_frag.specs.Rules.{AreInOrder, IsInOrder}
use Rattle.hb_layout.specs.declared.meta.Meta.{Meta}
use Rattle.hb_ops.specs.declared.operations.Op.TheVariants.{Put, Del}
use Rattle.hb_ops.specs.Files.{FileState, file_records, live_page, page_of, page_records}
use Rattle.hb_ops.specs.Recording.{FitsDel, FitsPut, joined, on_records, page_with, put_page, del_page, without}
use Rattle.hb_ops.specs.Operations.{IsAllowedOn, change_of, effect_of, nth_read, with_page, with_changed_pages}
use Rattle.hb_ops.specs.LawsOfContents.{DelTakesOne, LonePage, OthersLack, PutAddsOne}
use Rattle.hb_ops.proofs.Facts.Finds.{absent, contents, del_done, put_done, there}
use Rattle.hb_lemmas.proofs.Lists.{whole}
use Rattle.hb_ops.proofs.Pages.{Lack, stands_among}
use Rattle.hb_ops.proofs.Facts.PageNumberLaws.{live_so, page_at-suc, place_of, with_page-there}
use Rattle.hb_ops.proofs.Facts.Tips.{LeafLacks, parted}

-- the records of leaves that lack the point
flat_lack : (p : List ℕ) (ls : List Leaf) → AllByRecursion (LeafLacks p) ls → Lack p (flat_map records_of ls)
flat_lack p [] h = tt
flat_lack p (l ∷ ls) h = whole (λ (r : Record). r.key ≢ p) (records_of l) (flat_map records_of ls) h.0 (flat_lack p ls h.1)

-- The records of a file are some, those of one leaf, and some: where that leaf's are changed, they are the changed ones between
-- the same others.
pub record Around (s : FileState) (id : ℕ) (p : List ℕ) (page : LivePage) (records : List Record) : Type 0 where
  pub before : List Record
  pub after : List Record
  pub is : file_records s ≡ before ++ (records ++ after)
  pub changed : (change : List Record → List Record) → flat_map page_records (with_page id (Live (page_with p change page)) s.pages) ≡ before ++ (change records ++ after)
  pub lack_before : Lack p before
  pub lack_after : Lack p after

in_page : (page : LivePage) → page.level ≡ 0 → page_records (Live page) ≡ flat_map records_of (leaves page.frag)
in_page page level = ap (λ (b : Bool). cond b (flat_map records_of (leaves page.frag)) []) (eq-eqb page.level 0 level)

regrouped : (b lb rs la a : List Record) → b ++ ((lb ++ (rs ++ la)) ++ a) ≡ (b ++ lb) ++ (rs ++ (la ++ a))
regrouped b lb rs la a = simp append_assoc

pub around : (s : FileState) (id : ℕ) (p : List ℕ) (page : LivePage) (records : List Record) (area : Area) → live_page s id ≡ Some page → page.level ≡ 0 → WellCut page → AreInOrder page → leaf_at page p ≡ Some (record { leaf = Records records; area = area }) → OthersLack s id p → Around s id p page records
around s id p page records area live level cut order leaf others =
    let here = place_of s.pages id (Live page) (live_so (page_of s id) page live) in
    let among = stands_among s.pages here.0 (Live page) here.2 in
    let at = parted p page.frag page.area (record { leaf = Records records; area = area }) cut leaf in
    let rising : AllByRecursion IsInOrder (leaves_of page.frag page.area) = recursion_from_All IsInOrder (leaves_of page.frag page.area) order in
    let lack : (m : ℕ) (q : Page) → m ≢ here.0 → slice_get s.pages m ≡ Some q → Lack p (page_records q) =
    λ m q ne e. recursion_from_All (λ (r : Record). r.key ≢ p) (page_records q) (others (suc m) q (λ same. ne (omega (arith, same, here.1))) (page_at-suc s.pages m ∙ e)) in
    record {
      before = among.before ++ flat_map records_of at.before;
      after = flat_map records_of at.after ++ among.after;
      is =
          among.is
          ∙ ap (λ (rs : List Record). among.before ++ (rs ++ among.after)) (in_page page level ∙ ap (flat_map records_of) at.is ∙ flat_map-append records_of at.before (Records records ∷ at.after))
          ∙ regrouped among.before (flat_map records_of at.before) records (flat_map records_of at.after) among.after;
      changed = λ change.
          ap (λ (n : ℕ). flat_map page_records (with_page n (Live (page_with p change page)) s.pages)) here.1
          ∙ ap (flat_map page_records) (with_page-there s.pages here.0 (Live (page_with p change page)) (slice_get_within s.pages here.0 (Live page) here.2))
          ∙ among.changed (Live (page_with p change page))
          ∙ ap (λ (rs : List Record). among.before ++ (rs ++ among.after)) (in_page (page_with p change page) level ∙ ap (flat_map records_of) (at.changed (on_records change)) ∙ flat_map-append records_of at.before (Records (change records) ∷ at.after))
          ∙ regrouped among.before (flat_map records_of at.before) (change records) (flat_map records_of at.after) among.after;
      lack_before = whole (λ (r : Record). r.key ≢ p) among.before (flat_map records_of at.before) (among.lack_before p lack) (flat_lack p at.before (at.lack_before rising));
      lack_after = whole (λ (r : Record). r.key ≢ p) (flat_map records_of at.after) among.after (flat_lack p at.after (at.lack_after rising)) (among.lack_after p lack);
    }

-- an operation that is allowed on a page has one
pub put_on : (id : ℕ) (rec : Record) (meta : Meta) (o second third : Option LivePage) → IsAllowedOn (Put id rec) meta o second third → (page : LivePage) × (o ≡ Some page) × FitsPut meta page rec
put_on id rec meta None second third h = absurd h
put_on id rec meta (Some page) second third h = (page, refl, h)

pub del_on : (id : ℕ) (point : List ℕ) (meta : Meta) (o second third : Option LivePage) → IsAllowedOn (Del id point) meta o second third → (page : LivePage) × (o ≡ Some page) × FitsDel meta page point
del_on id point meta None second third h = absurd h
del_on id point meta (Some page) second third h = (page, refl, h)

-- the pages afterwards
pub put_pages : (s : FileState) (id : ℕ) (rec : Record) (page : LivePage) → live_page s id ≡ Some page → (effect_of s (Put id rec)).pages ≡ with_page id (Live (put_page rec page)) s.pages
put_pages s id rec page live = ap (λ (o : Option LivePage). with_changed_pages (change_of (Put id rec) s.meta o (nth_read s (Put id rec) 1) (nth_read s (Put id rec) 2)).pages s.pages) live

pub del_pages : (s : FileState) (id : ℕ) (point : List ℕ) (page : LivePage) → live_page s id ≡ Some page → (effect_of s (Del id point)).pages ≡ with_page id (Live (del_page point page)) s.pages
del_pages s id point page live = ap (λ (o : Option LivePage). with_changed_pages (change_of (Del id point) s.meta o (nth_read s (Del id point) 1) (nth_read s (Del id point) 2)).pages s.pages) live

pub put_adds_one : PutAddsOne
put_adds_one s id rec allowed has others =
    let on = put_on id rec s.meta (live_page s id) (nth_read s (Put id rec) 1) (nth_read s (Put id rec) 2) allowed in
    let fits = on.2 in
    let here = around s id rec.key on.0 fits.absent.records fits.absent.area on.1 fits.level fits.made.well_cut fits.made.in_order fits.absent.leaf others in (
      ap (λ (rs : List Record). finite.get (contents rs) rec.key) here.is
          ∙ absent here.before fits.absent.records here.after rec.key here.lack_before here.lack_after (recursion_from_All (λ (r : Record). r.key ≢ rec.key) fits.absent.records fits.absent.keeps),
      ap (λ (pages : List Page). contents (flat_map page_records pages)) (put_pages s id rec on.0 on.1)
          ∙ ap contents (here.changed (joined rec))
          ∙ put_done here.before fits.absent.records here.after rec.key here.lack_before here.lack_after rec refl
          ∙ ap (λ (rs : List Record). finite.insert (contents rs) rec.key rec.body) (sym here.is),
    )

-- a body found in records that are equal
still_there : (rs ts : List Record) (point : List ℕ) → rs ≡ ts → (body : List ℕ) × (finite.get (contents ts) point ≡ Some body) → (body : List ℕ) × (finite.get (contents rs) point ≡ Some body)
still_there rs ts point e w = (w.0, ap (λ (xs : List Record). finite.get (contents xs) point) e ∙ w.1)

pub del_takes_one : DelTakesOne
del_takes_one s id point allowed has others =
    let on = del_on id point s.meta (live_page s id) (nth_read s (Del id point) 1) (nth_read s (Del id point) 2) allowed in
    let fits = on.2 in
    let records = fits.there.records in
    let here = around s id point on.0 records fits.there.area on.1 fits.level fits.made.well_cut fits.made.in_order fits.there.leaf others in
    let any = fits.there.keeps in
    let found = there here.before records here.after point here.lack_before here.lack_after any.0 any.1 any.2 (ap (λ (r : Record). r.key) any.3 ∙ any.4) in (
      still_there _ _ point here.is found,
      ap (λ (pages : List Page). contents (flat_map page_records pages)) (del_pages s id point on.0 on.1)
          ∙ ap contents (here.changed (without point))
          ∙ del_done here.before records here.after point here.lack_before here.lack_after
          ∙ ap (λ (rs : List Record). finite.remove (contents rs) point) (sym here.is),
    )

-- a file of one page has no other
pub lone_page : LonePage
lone_page s point one other page ne e =
    let here = place_of s.pages other page e in
    let lt = slice_get_within s.pages here.0 page here.2 in
    absurd (ne (omega (arith, here.1)))
