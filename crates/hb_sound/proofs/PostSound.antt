-- A posting leaves a sound file sound: each child leaf afterwards lies in the box of the page that it names, point by point.
use Rattle.std.proofs.Common.{◌≡◌, ℕ, ◌+◌, ◌<◌, ◌↔◌, inl, inr, Bool, cond, List, [], flat_map, length, Option, Some, None, IsSome, refl, sym, ap, subst, ◌∙◌, arith, ne_eqb}
use Rattle.std.specs.List.{All, Contains}
use Rattle.std.proofs.lemmas.List.Elements.{All-contains}
use Rattle.hb_space.specs.Boxes.{Area, IsArea, Holds, Within}
use Rattle.hb_frag.specs.declared.leaves.Leaf.{Leaf}
use Rattle.hb_frag.specs.declared.leaves.Leaf.TheVariants.{Child}
use Rattle.hb_frag.specs.declared.pages.LivePage.{LivePage}
use Rattle.hb_frag.specs.declared.pages.Page.TheVariants.{Live}
use Rattle.hb_frag.specs.declared.paths.Side.{Side}
use Rattle.hb_frag.specs.Leaves.{DirectlyHolds, IsWellCut, Placed, first_at, leaves, leaves_of, records_of, siblings_of}
use Rattle.hb_frag.specs.Paths.{part_at}
use Rattle.hb_frag.specs.Trees.{Tree, Tip}
use Rattle.hb_layout.specs.declared.meta.Meta.{Meta}
use Rattle.hb_ops.specs.declared.operations.Op.TheVariants.{Post}
use Rattle.hb_ops.specs.Files.{FileState, contents_of, file_records, live_page, page_of, page_records}
use Rattle.hb_ops.specs.Operations.{IsAllowedOn, change_of, effect_of, with_page, with_changed_pages}
use Rattle.hb_ops.specs.Posting.{FitsPost, GaveAway, IsChildAt, post_page}
use Rattle.hb_ops.specs.Sound.{IsSound, HasBelow}
use Rattle.hb_sound.specs.Laws.{SpaceLaws, TreeLaws}
use Rattle.hb_sound.specs.LawsOfOperations.{MayBeDone}
use Rattle.hb_sound.specs.LawsOfPostings.{ChangesParent, NamesAt, PostingsChangeParent, PostingsKeepContents, PostingsKeepDirect, PostingsKeepSound, PostingsName}
use Rattle.hb_sound.specs.PointWalks.{HasOn}
use Rattle.hb_sound.proofs.GrowthKept.{contents_from, records-set}
use Rattle.hb_ops.proofs.Facts.OneChanged.{IsLike, after as changed, new_live, others_stay, pair_of_new, pair_of_old, sound_again}
use Rattle.hb_ops.proofs.Facts.PageNumberLaws.{live_so, place_of, with_page-there}
use Rattle.hb_sound.proofs.Partition.{pages_have_boxes}
use Rattle.hb_sound.proofs.PostedPage.{PostLaws, SaysAsBefore, keeps, leaf_there, names_at, new as posted_page, new_cut, new_made, origin, posted_so, siblings_stay}
use Rattle.hb_ops.proofs.Facts.PlacedLaws.{placed}
use Rattle.std.proofs.lemmas.Option.{same_Some, slice_get_within}
use Rattle.hb_space.proofs.Facts.Boxes.{Holds-within, hi_held, lo_held}
use Rattle.hb_lemmas.proofs.Options.{one_value}

-- the same box and sibling leaves directly hold the same points
pub direct_again : (was now : LivePage) (p : List ℕ) → now.area ≡ was.area → siblings_of now ≡ siblings_of was → DirectlyHolds was p → DirectlyHolds now p
direct_again was now p area siblings h = record {
  inside = subst (λ (a : Area). Holds a p) (sym area) h.inside;
  not_given = subst (λ (ss : List (ℕ × Area)). All (λ x. ¬ (Holds x.1 p)) ss) (sym siblings) h.not_given;
}

-- a posting that is allowed has its page in use
post_on : (parent : ℕ) (at : List Side) (inner : ℕ) (area : Area) (meta : Meta) (o second third : Option LivePage) → IsAllowedOn (Post parent at inner area) meta o second third → (page : LivePage) × (o ≡ Some page) × FitsPost meta page at inner area
post_on parent at inner area meta None second third h = absurd h
post_on parent at inner area meta (Some page) second third h = (page, refl, h)

pub within_by_corners : (a b : Area) → IsArea a → Holds b a.lo → Holds b a.hi → Within a b
within_by_corners a b h low high i lt = ((low.between i lt).0, (high.between i (omega (arith, h.same, lt))).1)

child_name : (o : Option (Tree × Area)) (a b : ℕ) (x y : Area) → o ≡ Some (Tip (Child a), x) → o ≡ Some (Tip (Child b), y) → a ≡ b
child_name o a b x y e f =
    let both : (Tip (Child a)) ≡ (Tip (Child b)) = ap (λ (w : Tree × Area). w.0) (same_Some {A = Tree × Area} (Tip (Child a), x) (Tip (Child b), y) (sym e ∙ f)) in
    let same : a ≡ b = cc in
    same

leaf_name : (a b : ℕ) → Child a ≡ Child b → a ≡ b
leaf_name a b e = cc

module _ (trees : TreeLaws) (space : SpaceLaws) (laws : PostLaws) (s : FileState) (parent : ℕ) (at : List Side) (inner : ℕ) (area : Area) (may : MayBeDone s (Post parent at inner area)) where
  allowed : (page : LivePage) × (live_page s parent ≡ Some page) × FitsPost s.meta page at inner area
  allowed = post_on parent at inner area s.meta (live_page s parent) (live_page s 0) (live_page s 0) may.allowed

  abbrev page : LivePage
  page = allowed.0

  abbrev live : live_page s parent ≡ Some page
  live = allowed.1

  abbrev fits : FitsPost s.meta page at inner area
  fits = allowed.2

  page_box : IsArea page.area
  page_box = pages_have_boxes trees space s parent page may.sound may.some_attributes may.few_attributes live

  abbrev new : LivePage
  new = posted_page trees laws s.meta page at inner area page_box may.has.0 may.has.1 fits

  -- a page in use one level down, whose box has the point
  record HoldsBelow (name : ℕ) (p : List ℕ) : Type 0 where
    named : LivePage
    there : live_page s name ≡ Some named
    level : named.level + 1 ≡ page.level
    inside : Holds named.area p

  -- the page that is named has the box that was given, one level down
  given_has : (p : List ℕ) → Holds area p → HoldsBelow inner p
  given_has p held =
      let gave : GaveAway s parent at inner area = may.licensed in
      let same : gave.page ≡ page = one_value (live_page s parent) gave.page page gave.live live in
      let gave_leaf : IsChildAt at page gave.outer gave.box = subst (λ (q : LivePage). IsChildAt at q gave.outer gave.box) same gave.leaf in
      let outer : gave.outer ≡ fits.outer = child_name (part_at at page.frag page.area) gave.outer fits.outer gave.box fits.box gave_leaf fits.leaf in
      let below = may.sound.children parent page fits.outer fits.box live (leaf_there trees laws s.meta page at inner area page_box may.has.0 may.has.1 fits) in
      let child : gave.child ≡ below.0 = one_value (live_page s gave.outer) gave.child below.0 gave.named (ap (live_page s) outer ∙ below.1) in
      let m = may.sound.siblings gave.outer gave.child inner area gave.named gave.gave in
      record {
        named = m.0;
        there = m.1;
        level = ap (λ (k : ℕ). k + 1) (m.2 ∙ ap (λ (q : LivePage). q.level) child) ∙ below.2;
        inside = subst (λ (a : Area). Holds a p) (sym m.3) held;
      }

  -- and so does the page that a leaf of before names
  old_has : (name : ℕ) (p : List ℕ) (held : Holds page.area p) (w : SaysAsBefore trees laws s.meta page at inner area page_box may.has.0 may.has.1 fits p held) → w.was.leaf ≡ Child name → HoldsBelow name p
  old_has name p held w leaf =
      let has : Contains (leaves_of page.frag page.area) (placed (Child name) w.was.area) = subst (λ (l : Leaf). Contains (leaves_of page.frag page.area) (placed l w.was.area)) leaf w.has in
      let m = may.sound.children parent page name w.was.area live has in
      let long : length w.was.area.lo ≡ length page.area.lo = All-contains (λ (l : Placed). length l.area.lo ≡ length page.area.lo) (leaves_of page.frag page.area) w.was (trees.attributes page.frag page.area) w.has in
      record {
        named = m.0;
        there = m.1;
        level = m.2;
        inside = Holds-within w.was.area m.0.area p (long ∙ fits.made.fits.attributes ∙ sym (may.sound.well_made name m.0 m.1).fits.attributes) m.3 w.here;
      }

  cut : IsWellCut new.frag new.area
  cut = new_cut trees laws s.meta page at inner area page_box may.has.0 may.has.1 fits

  at_point : (name : ℕ) (a : Area) → Contains (leaves_of new.frag new.area) (placed (Child name) a) → (p : List ℕ) → Holds a p → HoldsBelow name p
  at_point name a has p held =
      let first : first_at p (leaves_of new.frag new.area) ≡ Some (placed (Child name) a) = (trees.only new.frag new.area p (placed (Child name) a) page_box cut).1 (has, held) in
      let inside : Holds page.area p = (trees.some new.frag new.area p page_box cut).0 (subst (λ (o : Option Placed). IsSome o) (sym first) refl) in
      let k = keeps trees laws s.meta page at inner area page_box may.has.0 may.has.1 fits p inside in
      let leaf : k.after.leaf ≡ Child name = ap (λ (l : Placed). l.leaf) (same_Some k.after (placed (Child name) a) (sym k.new_leaf ∙ first)) in
      elim (origin trees laws s.meta page at inner area page_box may.has.0 may.has.1 fits p inside) [
        | inl w ↦ subst (λ (n : ℕ). HoldsBelow n p) (leaf_name inner name (sym w.0 ∙ leaf)) (given_has p w.2)
        | inr w ↦ old_has name p inside w (sym w.leaf ∙ leaf)
      ]

  -- so each child leaf lies in the box of the page that it names
  children_below : (name : ℕ) (a : Area) → Contains (leaves_of new.frag new.area) (placed (Child name) a) → HasBelow s page.level name a
  children_below name a has =
      let box : IsArea a = All-contains (λ (l : Placed). IsArea l.area) (leaves_of new.frag new.area) (placed (Child name) a) (trees.areas new.frag new.area page_box cut) has in
      let low = at_point name a has a.lo (lo_held a box) in
      let high = at_point name a has a.hi (hi_held a box) in
      let same : high.named ≡ low.named = one_value (live_page s name) high.named low.named high.there low.there in
      (low.named, low.there, low.level, within_by_corners a low.named.area box low.inside (subst (λ (q : LivePage). Holds q.area a.hi) same high.inside))

  like : IsLike page new
  like = record { level = refl; area = refl; siblings = siblings_stay trees laws s.meta page at inner area page_box may.has.0 may.has.1 fits }

  abbrev after : FileState
  after = changed s parent page new live like

  sound_after : IsSound after
  sound_after = sound_again s parent page new live like (new_made trees laws s.meta page at inner area page_box may.has.0 may.has.1 fits) children_below may.sound

  -- the file after the operation
  abbrev post_file : Option LivePage → FileState
  post_file o = let change = change_of (Post parent at inner area) s.meta o (live_page s 0) (live_page s 0) in record { meta = change.meta; pages = with_changed_pages change.pages s.pages }

  page_so : post_page at inner area page ≡ new
  page_so = posted_so trees laws s.meta page at inner area page_box may.has.0 may.has.1 fits

  posting_so : effect_of s (Post parent at inner area) ≡ after
  posting_so = ap post_file live ∙ ap (λ (q : LivePage). record { meta = s.meta; pages = with_page parent (Live q) s.pages }) page_so

  pub posting_sound : IsSound (effect_of s (Post parent at inner area))
  posting_sound = subst IsSound (sym posting_so) sound_after

  direct_both : (level : ℕ) (p : List ℕ) (id : ℕ) → HasOn s level p id ↔ HasOn after level p id
  direct_both level p id = (
    λ has.
        let now = pair_of_old s parent page new live like id has.page has.live in
        record { page = now.0; live = now.1.later; on = now.1.level ∙ has.on; direct = direct_again has.page now.0 p now.1.area now.1.siblings has.direct },
    λ has.
        let was = pair_of_new s parent page new live like id has.page has.live in
        record { page = was.0; live = was.1.before; on = sym was.1.level ∙ has.on; direct = direct_again has.page was.0 p (sym was.1.area) (sym was.1.siblings) has.direct },
  )

  pub posting_direct : (level : ℕ) (p : List ℕ) (id : ℕ) → HasOn s level p id ↔ HasOn (effect_of s (Post parent at inner area)) level p id
  posting_direct level p id = subst (λ (t : FileState). HasOn s level p id ↔ HasOn t level p id) (sym posting_so) (direct_both level p id)

  pub posting_changes : ChangesParent s (effect_of s (Post parent at inner area)) parent at inner area
  posting_changes = subst (λ (t : FileState). ChangesParent s t parent at inner area) (sym posting_so) (record {
    page = page;
    live = live;
    now = new_live s parent page new live like ∙ ap (λ (q : LivePage). Some q) (sym page_so);
    others = others_stay s parent page new live like;
  })

  pub posting_names : (q : LivePage) (p : List ℕ) → live_page s parent ≡ Some q → Holds q.area p → NamesAt q (post_page at inner area q) at inner area p
  posting_names q p there held =
      let same : page ≡ q = one_value (live_page s parent) page q live there in
      let here : Holds page.area p = subst (λ (r : LivePage). Holds r.area p) (sym same) held in
      subst (λ (r : LivePage). NamesAt r (post_page at inner area r) at inner area p) same
      (subst (λ (r : LivePage). NamesAt page r at inner area p) (sym page_so) (names_at trees laws s.meta page at inner area page_box may.has.0 may.has.1 fits p here))

  -- a page above the ground has no record
  no_records : (q : LivePage) → 0 < q.level → page_records (Live q) ≡ []
  no_records q above = ap (λ (b : Bool). cond b (flat_map records_of (leaves q.frag)) []) (ne_eqb q.level 0 (λ e. absurd (omega (arith, above, e))))

  same_records : file_records after ≡ file_records s
  same_records =
      let here = place_of s.pages parent (Live page) (live_so (page_of s parent) page live) in
      ap (λ (m : ℕ). flat_map page_records (with_page m (Live new) s.pages)) here.1
      ∙ ap (flat_map page_records) (with_page-there s.pages here.0 (Live new) (slice_get_within s.pages here.0 (Live page) here.2))
      ∙ records-set s.pages here.0 (Live page) (Live new) here.2 (no_records new fits.above ∙ sym (no_records page fits.above))

  pub posting_contents : contents_of (effect_of s (Post parent at inner area)) ≡ contents_of s
  posting_contents = ap contents_of posting_so ∙ ap contents_from same_records

module _ (trees : TreeLaws) (space : SpaceLaws) (laws : PostLaws) where
  pub postings_keep_contents : PostingsKeepContents
  postings_keep_contents s parent at inner area may = posting_contents trees space laws s parent at inner area may

  pub postings_keep_sound : PostingsKeepSound
  postings_keep_sound s parent at inner area may = posting_sound trees space laws s parent at inner area may

  pub postings_keep_direct : PostingsKeepDirect
  postings_keep_direct s parent at inner area level p id may = posting_direct trees space laws s parent at inner area may level p id

  pub postings_change_parent : PostingsChangeParent
  postings_change_parent s parent at inner area may = posting_changes trees space laws s parent at inner area may

  pub postings_name : PostingsName
  postings_name s parent at inner area page p may there held = posting_names trees space laws s parent at inner area may page p there held
