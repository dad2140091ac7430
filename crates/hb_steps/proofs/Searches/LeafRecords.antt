-- A leaf of records of a page in memory has exactly the records of the contents in its box.
use Rattle.hb_steps.proofs.Searches.Names.{◌↔◌, ◌≡◌, ◌≢◌, ◌⊎◌, inl, inr, ℕ, List, [], ◌∷◌, refl, All, Contains, Some, None, sym, ap, ◌∙◌, subst, All-cons, All-contains, All-nil, HeldArePoints, live_good, leaf_box, IsAmong, LivePage, Live, Meta, later_member, contents_of, LackIsContents, StandingIsContents, Area, Holds, Record, IsGoodPage, StoreState}
use Rattle.std.specs.FinMap as map
use Rattle.hb_steps.proofs.Files.FileOps.{ShowsFile}
use Rattle.hb_steps.proofs.Memory.KeptPages.{KeepsPages}
use Rattle.hb_steps.proofs.Searches.Gathered.{IsLeafOf}
use Rattle.hb_frag.proofs.Facts.OrderedLeaves.{rising_differ}
use Rattle.hb_frag.proofs.Facts.Tiles.{first_tells}
use Rattle.hb_frag.specs.Leaves.{Placed, leaf_at, leaves_of}
use Rattle.hb_frag.specs.Rules.{IsInOrder}
use Rattle.hb_frag.specs.declared.leaves.Leaf.TheVariants.{Records}
use Rattle.hb_lemmas.proofs.Decisions.{known_list}
use Rattle.hb_lemmas.proofs.Lists.{first_member, member_place}
use Rattle.hb_ops.proofs.Facts.Opened.{first_has}
use Rattle.hb_ops.specs.Files.{FileState, if_live}
use Rattle.hb_sound.specs.PointWalks.{IsPointOf}
use Rattle.hb_store.specs.States.{in_memory}
use Rattle.hb_steps.proofs.Facts.LaterPages.{shown_live}

-- a record of a point, or none of it
of_point : (records : List Record) (p : List ℕ) → ((r : Record) × Contains records r × (r.key ≡ p)) ⊎ All (λ (r : Record). r.key ≢ p) records
of_point [] p = inr (All-nil (λ (r : Record). r.key ≢ p))
of_point (x ∷ xs) p = elim (known_list x.key p) [
  | inl here ↦ inl (x, first_member x xs, here)
  | inr off ↦ elim (of_point xs p) [
    | inl (r, there, is) ↦ inl (r, later_member x xs r there, is)
    | inr none ↦ inr (All-cons (λ (r : Record). r.key ≢ p) x xs off none)
  ]
]

-- a leaf of a page that is good
pub leaf_of : (meta : Meta) (page : LivePage) (p : List ℕ) (records : List Record) (area : Area) → IsGoodPage meta (Live page) → leaf_at page p ≡ Some (record { leaf = Records records; area = area }) → IsLeafOf meta.k records area
leaf_of meta page p records area good there =
    let placed : Placed = record { leaf = Records records; area = area } in
    let in_order = first_has IsInOrder p (leaves_of page.frag page.area) placed there good.1.in_order in
    record {
      box = (leaf_box meta page p placed good there).0;
      inside = λ r has. All-contains (λ (r : Record). Holds area r.key) records r in_order.inside has;
      once = rising_differ records in_order.rising;
    }

module _ (points : HeldArePoints) (standing : StandingIsContents) (lacking : LackIsContents) (fetched : StoreState) (s : FileState) (keeps : KeepsPages fetched) (file : ShowsFile fetched s)
    (id : ℕ) (page : LivePage) (live : if_live (in_memory fetched id) ≡ Some page) (p : List ℕ) (records : List Record) (area : Area) (leaf : leaf_at page p ≡ Some (record { leaf = Records records; area = area })) where
  good : IsGoodPage fetched.meta (Live page)
  good = live_good fetched keeps.framed id page live

  abbrev placed : Placed
  placed = record { leaf = Records records; area = area }

  -- the leaf is that of each point in its box
  leaf_there : (q : List ℕ) → Holds area q → leaf_at page q ≡ Some placed
  leaf_there q held =
      let among = ((first_tells page.frag page.area p placed good.0.fits.1 good.1.well_cut).0 leaf).0 in
      (first_tells page.frag page.area q placed good.0.fits.1 good.1.well_cut).1 (among, held)

  point_of : (q : List ℕ) → Holds area q → IsPointOf s q
  point_of q held =
      let box = leaf_box fetched.meta page p placed good leaf in
      record { point = points area q box.0.0 held; attributes = held.same ∙ box.0.1 ∙ sym (ap (λ (m : Meta). m.k) file.meta) }

  there : (r : Record) → Holds area r.key → Contains records r → IsAmong (contents_of s) r
  there r held has =
      let place = member_place records r has in
      standing s r.key id page r file.sound (point_of r.key held) (shown_live fetched s file.shown id page live) (record { records = records; area = area; leaf = leaf_there r.key held; place = place.0; among = place.1; key = refl })

  same_record : (r x : Record) → x.key ≡ r.key → Some x.body ≡ Some r.body → x ≡ r
  same_record r x key body =
      let same : x.body ≡ r.body = cc in
      ap (λ (k : List ℕ). record { key = k; body = x.body }) key ∙ ap (λ (b : List ℕ). record { key = r.key; body = b }) same

  back : (r : Record) → Holds area r.key → IsAmong (contents_of s) r → Contains records r
  back r held among = elim (of_point records r.key) [
    | inl (x, has, key) ↦
        let stands = there x (subst (Holds area) (sym key) held) has in
        let body : Some x.body ≡ Some r.body = sym stands ∙ ap (map.get (contents_of s)) key ∙ among in
        subst (Contains records) (same_record r x key body) has
    | inr none ↦
        let lacks = lacking s r.key id page file.sound (point_of r.key held) (shown_live fetched s file.shown id page live) (record { records = records; area = area; leaf = leaf_there r.key held; lack = none }) in
        let nothing : None ≡ Some r.body = sym lacks ∙ among in
        cc
  ]

  pub records_of_leaf : (r : Record) → Holds area r.key → Contains records r ↔ IsAmong (contents_of s) r
  records_of_leaf r held = (there r held, back r held)
