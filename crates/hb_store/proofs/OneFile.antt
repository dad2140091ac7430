-- Bytes open to one file at most, and where they do no frame of their log is bad.
use Rattle.std.proofs.Common.{◌≡◌, ℕ, ◌+◌, ◌≤◌, List, [], ◌∷◌, length, Option, Some, None, refl, sym, subst, ◌∙◌, arith}
use Rattle.hb_frag.specs.declared.pages.Page.{Page}
use Rattle.hb_layout.specs.declared.meta.Meta.{Meta}
use Rattle.hb_ops.specs.Files.{FileState, page_at}
use Rattle.hb_super.specs.Superblocks.{IsNewest}
use Rattle.hb_wal.specs.Frames.{ReadsOneWay}
use Rattle.hb_page_codec.proofs.Facts.PageLaws.{SpelledOnce}
use Rattle.hb_store.proofs.Facts.Spellings.{OneList, one_log}
use Rattle.hb_store.specs.Replay.{Replayed, replay, untouched}
use Rattle.hb_store.specs.Opening.{IsPageIn, OpensBy, OpensTo, Shows, OpensToOne, OpensWhole}
use Rattle.hb_ops.proofs.Facts.FilePages.{page_behind, page_in_range}
use Rattle.hb_store.proofs.Facts.BadGroups.{no_bad_group}

abbrev pub OneTurn : Type 0
OneTurn = (bytes : List ℕ) (t s : ℕ) (m n : Meta) → IsNewest bytes t m → IsNewest bytes s n → t ≡ s

abbrev pub OneMeta : Type 0
OneMeta = (bytes : List ℕ) (t s : ℕ) (m n : Meta) → IsNewest bytes t m → IsNewest bytes s n → m ≡ n

-- ---- lists of pages

same_pages : (xs ys : List Page) → length xs ≡ length ys → ((id : ℕ) (p q : Page) → page_at xs id ≡ Some p → page_at ys id ≡ Some q → p ≡ q) → xs ≡ ys
same_pages [] [] long same = refl
same_pages [] (y ∷ ys) long same = absurd (omega (arith, long))
same_pages (x ∷ xs) [] long same = absurd (omega (arith, long))
same_pages (x ∷ xs) (y ∷ ys) long same =
    let first : x ≡ y = same 1 x y refl refl in
    let rest : xs ≡ ys = same_pages xs ys (omega (arith, long)) (λ id p q e f.
    let some : 1 ≤ id = (page_in_range xs id p e).0 in
    same (id + 1) p q (page_behind x xs id some ∙ e) (page_behind y ys id some ∙ f)) in
    λ i. first i ∷ rest i

module _ (once : SpelledOnce) (one : OneList) where
  same_page_in : (bytes : List ℕ) (said : Meta) (id : ℕ) (found : Option Page) (p q : Page) → IsPageIn bytes said id found p → IsPageIn bytes said id found q → p ≡ q
  same_page_in bytes said id None p q here there = once _ p q here there
  same_page_in bytes said id (Some touched) p q here there = sym here ∙ there

  pub same_shown : (bytes : List ℕ) (said : Meta) (t : Replayed) (s u : FileState) → Shows bytes said t s → Shows bytes said t u → s ≡ u
  same_shown bytes said t s u here there =
      let metas : s.meta ≡ u.meta = here.meta ∙ sym there.meta in
      let pages : s.pages ≡ u.pages = same_pages s.pages u.pages (here.count ∙ sym there.count) (λ id p q e f. same_page_in bytes said id (t.page id) p q (here.each id p e) (there.each id q f)) in
      λ i. record { meta = metas i; pages = pages i }

  -- by another superblock of the same bytes
  by_newest : OneTurn → OneMeta → (bytes : List ℕ) (turn : ℕ) (said : Meta) (s : FileState) → (opens : OpensTo bytes s) → IsNewest bytes turn said → OpensBy bytes turn said opens.payloads opens.groups s
  by_newest turns metas bytes turn said s opens newest =
      let o = opens.by in
      subst (λ u. OpensBy bytes u said opens.payloads opens.groups s) (turns bytes opens.turn turn opens.said said o.newest newest)
      (subst (λ m. OpensBy bytes opens.turn m opens.payloads opens.groups s) (metas bytes opens.turn turn opens.said said o.newest newest) o)

  pub one_file : OneTurn → OneMeta → ReadsOneWay → OpensToOne
  one_file turns metas way bytes s t here there =
      let a = here.by in
      let b = by_newest turns metas bytes here.turn here.said t there a.newest in
      let groups : here.groups ≡ there.groups = (one_log one way bytes here.turn here.said here.payloads there.payloads here.groups there.groups a.log b.log).1 in
      same_shown bytes here.said (replay (untouched here.said) there.groups) s t (subst (λ g. Shows bytes here.said (replay (untouched here.said) g) s) groups a.shows) b.shows

  -- ---- no bad frame

  pub no_bad_frame : OneTurn → OneMeta → OpensWhole
  no_bad_frame turns metas bytes s turn said frame opens newest bad =
      no_bad_group one bytes turn said opens.payloads opens.groups frame (by_newest turns metas bytes turn said s opens newest).log bad
