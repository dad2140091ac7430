-- A merge leaves the contents as they are: each record stands in a leaf before exactly where it does afterwards.
use Rattle.std.proofs.Common.{◌≡◌, ℕ, zero, suc, ◌⊎◌, inl, inr, List, [], ◌∷◌, ◌++◌, flat_map, Some, refl, sym, ap, subst, ◌∙◌, arith}
use Rattle.std.specs.List.{Contains}
use Rattle.std.proofs.lemmas.Bool.{cases_eq}
use Rattle.std.proofs.lemmas.List.Elements.{Contains-append_cases, Contains-append_left, Contains-append_right}
use Rattle.std.proofs.lemmas.List.Sorted.{Contains-permutation, IsPermutation-sym}
use Rattle.hb_space.specs.Boxes.{Area, IsArea, Holds}
use Rattle.hb_space.specs.Points.{IsPoint}
use Rattle.hb_space.specs.declared.records.Record.{Record}
use Rattle.hb_frag.specs.declared.leaves.Leaf.{Leaf}
use Rattle.hb_frag.specs.declared.leaves.Leaf.TheVariants.{Sibling}
use Rattle.hb_frag.specs.declared.pages.LivePage.{LivePage}
use Rattle.hb_frag.specs.Leaves.{Placed, leaves, leaves_of, records_of}
use Rattle.hb_frag.specs.Normal.{normal}
use Rattle.hb_frag.specs.Trees.{Tree}
use Rattle.hb_layout.specs.declared.meta.Meta.{Meta}
use Rattle.hb_ops.specs.Files.{FileState, live_page}
use Rattle.hb_ops.specs.Merging.{kept_page, parent_page}
use Rattle.hb_ops.specs.Standing.{RecordsAreContents}
use Rattle.hb_sound.specs.Laws.{SpaceLaws, TreeLaws}
use Rattle.hb_sound.specs.LawsOfMerges.{MergesChangeThree, MergesKeepContents, MergesKeepSound}
use Rattle.hb_sound.proofs.DoneMerges.{IsMerged, TakesOver, is_gone, merged, stays, takes_over}
use Rattle.hb_sound.proofs.MergedLeaves.{MergeLaws}
use Rattle.hb_sound.proofs.Facts.RecordsParted.{AmongLeaves, ShareRecords}
use Rattle.hb_sound.proofs.RecordsStand.{HasRecord, in_leaf}
use Rattle.hb_sound.proofs.SplitContents.{among_of, in_file, same_contents}
use Rattle.hb_ops.proofs.Facts.PlacedLaws.{placed, placed_is_leaf}
use Rattle.hb_lemmas.proofs.Lists.{only_one}
use Rattle.hb_lemmas.proofs.Options.{one_value}

-- a record of a leaf is one of all leaves' records
in_all : (ls : List Leaf) (leaf : Leaf) (r : Record) → Contains ls leaf → Contains (records_of leaf) r → Contains (flat_map records_of ls) r
in_all [] leaf r (k, lt, e) has = absurd (omega arith)
in_all (x ∷ rest) leaf r (zero, lt, e) has = Contains-append_left (records_of x) (flat_map records_of rest) r (subst (λ (l : Leaf). Contains (records_of l) r) (sym e) has)
in_all (x ∷ rest) leaf r (suc k, lt, e) has = Contains-append_right (records_of x) (flat_map records_of rest) r (in_all rest leaf r (k, omega arith, e) has)

all_of : (t : Tree) (area : Area) (r : Record) → AmongLeaves (leaves_of t area) r → Contains (flat_map records_of (leaves t)) r
all_of t area r w = in_all (leaves t) w.leaf.leaf r (placed_is_leaf t area w.leaf w.there) w.among

among_all : (t : Tree) (area : Area) (r : Record) → Contains (flat_map records_of (leaves t)) r → AmongLeaves (leaves_of t area) r
among_all t area r has = let w = in_leaf t area r has in record { leaf = w.0; there = w.1; among = w.2 }

-- a record of one of three stretches
in_parts : (front middle behind : List Placed) (r : Record) → AmongLeaves ((front ++ middle) ++ behind) r → AmongLeaves front r ⊎ AmongLeaves middle r ⊎ AmongLeaves behind r
in_parts front middle behind r w = elim (Contains-append_cases (front ++ middle) behind w.leaf w.there) [
  | inl l ↦ elim (Contains-append_cases front middle w.leaf l) [
    | inl f ↦ inl (record { leaf = w.leaf; there = f; among = w.among })
    | inr m ↦ inr (inl (record { leaf = w.leaf; there = m; among = w.among }))
  ]
  | inr b ↦ inr (inr (record { leaf = w.leaf; there = b; among = w.among }))
]

from_front : (front middle behind : List Placed) (r : Record) → AmongLeaves front r → AmongLeaves ((front ++ middle) ++ behind) r
from_front front middle behind r w = record { leaf = w.leaf; there = Contains-append_left (front ++ middle) behind w.leaf (Contains-append_left front middle w.leaf w.there); among = w.among }

from_middle : (front middle behind : List Placed) (r : Record) → AmongLeaves middle r → AmongLeaves ((front ++ middle) ++ behind) r
from_middle front middle behind r w = record { leaf = w.leaf; there = Contains-append_left (front ++ middle) behind w.leaf (Contains-append_right front middle w.leaf w.there); among = w.among }

from_behind : (front middle behind : List Placed) (r : Record) → AmongLeaves behind r → AmongLeaves ((front ++ middle) ++ behind) r
from_behind front middle behind r w = record { leaf = w.leaf; there = Contains-append_right (front ++ middle) behind w.leaf w.there; among = w.among }

lone_sibling : (name : ℕ) (area : Area) (r : Record) → AmongLeaves (placed (Sibling name) area ∷ []) r → ⊥
lone_sibling name area r w =
    let none : Contains [] r = subst (λ (l : Placed). Contains (records_of l.leaf) r) (sym (only_one (placed (Sibling name) area) w.leaf w.there)) w.among in
    absurd (omega (arith, none.1))

-- the records of the page to keep afterwards are those of the two pages
module _ (laws : MergeLaws) (gone : ℕ) (kept going : LivePage) (takes : TakesOver gone kept going) where
  abbrev sibling : List Placed
  sibling = placed (Sibling gone) going.area ∷ []

  abbrev given : List Placed
  given = leaves_of going.frag going.area

  -- joining alike leaves keeps the records
  joined : (r : Record) → AmongLeaves ((takes.front ++ given) ++ takes.behind) r → AmongLeaves (leaves_of (kept_page gone kept going).frag kept.area) r
  joined r w =
      let opened : AmongLeaves (leaves_of takes.opened kept.area) r = subst (λ (ls : List Placed). AmongLeaves ls r) (sym takes.new_leaves) w in
      let all = Contains-permutation (flat_map records_of (leaves takes.opened)) (flat_map records_of (leaves (normal takes.opened))) r (laws.same takes.opened).records (all_of takes.opened kept.area r opened) in
      subst (λ (q : LivePage). AmongLeaves (leaves_of q.frag kept.area) r) (sym takes.now) (among_all (normal takes.opened) kept.area r all)

  apart : (r : Record) → AmongLeaves (leaves_of (kept_page gone kept going).frag kept.area) r → AmongLeaves ((takes.front ++ given) ++ takes.behind) r
  apart r w =
      let here : AmongLeaves (leaves_of (normal takes.opened) kept.area) r = subst (λ (q : LivePage). AmongLeaves (leaves_of q.frag kept.area) r) takes.now w in
      let records = (laws.same takes.opened).records in
      let back = IsPermutation-sym (flat_map records_of (leaves takes.opened)) (flat_map records_of (leaves (normal takes.opened))) records in
      let all = Contains-permutation (flat_map records_of (leaves (normal takes.opened))) (flat_map records_of (leaves takes.opened)) r back (all_of (normal takes.opened) kept.area r here) in
      subst (λ (ls : List Placed). AmongLeaves ls r) takes.new_leaves (among_all takes.opened kept.area r all)

  of_kept : (r : Record) → AmongLeaves ((takes.front ++ sibling) ++ takes.behind) r → AmongLeaves (leaves_of kept.frag kept.area) r
  of_kept r w = subst (λ (ls : List Placed). AmongLeaves ls r) (sym takes.old_leaves) w

  pub share_taken : ShareRecords (kept_page gone kept going) kept going
  share_taken = record {
    forth = λ r w. elim (in_parts takes.front given takes.behind r (apart r w)) [
      | inl f ↦ inl (of_kept r (from_front takes.front sibling takes.behind r f))
      | inr rest ↦ elim rest [ inl m ↦ inr m | inr b ↦ inl (of_kept r (from_behind takes.front sibling takes.behind r b)) ]
    ];
    from_source = λ r w. elim (in_parts takes.front sibling takes.behind r (subst (λ (ls : List Placed). AmongLeaves ls r) takes.old_leaves w)) [
      | inl f ↦ joined r (from_front takes.front given takes.behind r f)
      | inr rest ↦ elim rest [ inl m ↦ absurd (lone_sibling gone going.area r m) | inr b ↦ joined r (from_behind takes.front given takes.behind r b) ]
    ];
    from_fresh = λ r w. joined r (from_middle takes.front given takes.behind r w);
  }

-- a record of a page is one of a page under the same number
same_among : (s : FileState) (r : Record) (h : HasRecord s r) (id : ℕ) (page : LivePage) → h.id ≡ id → live_page s id ≡ Some page → (page.level ≡ 0) × AmongLeaves (leaves_of page.frag page.area) r
same_among s r h id page is live =
    let same : h.page ≡ page = one_value (live_page s id) h.page page (ap (live_page s) (sym is) ∙ h.live) live in
    (ap (λ (q : LivePage). q.level) (sym same) ∙ h.level, subst (λ (q : LivePage). AmongLeaves (leaves_of q.frag q.area) r) same (among_of s r h))

module _ (s t : FileState) (parent keep gone : ℕ) (m : IsMerged s t parent keep gone) (share : ShareRecords (kept_page gone m.changes.kept m.changes.going) m.changes.kept m.changes.going) where
  abbrev kept : LivePage
  kept = m.changes.kept

  abbrev going : LivePage
  going = m.changes.going

  abbrev new : LivePage
  new = kept_page gone kept going

  same_level : kept.level ≡ going.level
  same_level = omega (arith, m.fits.pages.kept_level, m.fits.pages.gone_level)

  -- the parent has no record
  high : (level : ℕ) → level ≡ m.changes.above.level → level ≡ 0 → ⊥
  high level is on = absurd (omega (arith, is, on, m.fits.pages.kept_level))

  pub record_stays : (r : Record) → HasRecord s r → HasRecord t r
  record_stays r h = elim (cases_eq h.id keep) [
    | inl is ↦ let w = same_among s r h keep kept is m.changes.kept_live in in_file t keep new r m.changes.keep_now w.0 (share.from_source r w.1)
    | inr two ↦ elim (cases_eq h.id gone) [
      | inl is ↦ let w = same_among s r h gone going is m.changes.gone_live in in_file t keep new r m.changes.keep_now (same_level ∙ w.0) (share.from_fresh r w.1)
      | inr three ↦ elim (cases_eq h.id parent) [
        | inl is ↦ absurd (high m.changes.above.level refl (same_among s r h parent m.changes.above is m.changes.above_live).0)
        | inr one ↦ in_file t h.id h.page r (stays s t parent keep gone m h.id one two three ∙ h.live) h.level (among_of s r h)
      ]
    ]
  ]

  of_keep : (r : Record) → kept.level ≡ 0 → AmongLeaves (leaves_of new.frag new.area) r → HasRecord s r
  of_keep r on w = elim (share.forth r w) [
    | inl k ↦ in_file s keep kept r m.changes.kept_live on k
    | inr g ↦ in_file s gone going r m.changes.gone_live (sym same_level ∙ on) g
  ]

  pub record_was : (r : Record) → HasRecord t r → HasRecord s r
  record_was r h = elim (cases_eq h.id keep) [
    | inl is ↦ let w = same_among t r h keep new is m.changes.keep_now in of_keep r w.0 w.1
    | inr two ↦ elim (cases_eq h.id gone) [
      | inl is ↦ absurd (is_gone s t parent keep gone m h.id h.page is h.live)
      | inr three ↦ elim (cases_eq h.id parent) [
        | inl is ↦ absurd (high m.changes.above.level refl (same_among t r h parent (parent_page keep gone m.changes.above) is m.changes.parent_now).0)
        | inr one ↦ in_file s h.id h.page r (sym (stays s t parent keep gone m h.id one two three) ∙ h.live) h.level (among_of t r h)
      ]
    ]
  ]

pub merges_keep_contents : TreeLaws → SpaceLaws → ((a : Area) (p : List ℕ) → IsArea a → Holds a p → IsPoint p) → RecordsAreContents → MergeLaws → MergesKeepSound → MergesChangeThree → MergesKeepContents
merges_keep_contents trees space points standing laws sound changes s parent keep gone may =
    let m = merged sound changes s parent keep gone may in
    let takes = takes_over trees laws gone m.changes.kept m.changes.going m.changes.box in
    let share = share_taken laws gone m.changes.kept m.changes.going takes in
    same_contents trees space points standing s _ m.sound m.sound_now m.some_attributes m.few_attributes
    (ap (λ (meta : Meta). meta.k) m.meta)
    (record_stays s _ parent keep gone m share) (record_was s _ parent keep gone m share)
