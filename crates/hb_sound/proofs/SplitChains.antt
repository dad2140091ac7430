-- After a split the numbers are in their places, and the free chain has every free page.
use Rattle.std.proofs.Common.{◌≡◌, ◌≢◌, ℕ, zero, suc, ◌+◌, ◌≤◌, max, inl, inr, List, [], ◌∷◌, length, Some, refl, sym, ap, subst, ◌∙◌, arith}
use Rattle.std.specs.List.{Contains}
use Rattle.std.proofs.lemmas.Bool.{cases_eq}
use Rattle.hb_frag.specs.declared.pages.LivePage.{LivePage}
use Rattle.hb_frag.specs.declared.pages.Page.{Page}
use Rattle.hb_frag.specs.declared.pages.Page.TheVariants.{Live, Free}
use Rattle.hb_ops.specs.Files.{FileState, if_live, live_page, page_of}
use Rattle.hb_ops.specs.Sound.{IsChain, IsCounted, IsRooted, count_live}
use Rattle.hb_sound.proofs.Extractions.{Extraction, LicensesExtraction}
use Rattle.hb_ops.specs.Allocating.{Allocates, allocated}
use Rattle.hb_sound.proofs.FileParted.{ArePartsOf, IsParted}
use Rattle.hb_sound.proofs.Facts.PagePlaces.{not_vacant, StaysLive}
use Rattle.hb_ops.proofs.Facts.PageLists.{live_few}
use Rattle.hb_ops.proofs.Facts.PageNumberLaws.{live_so, place_of}
use Rattle.std.proofs.lemmas.Option.{same_Some, slice_get_within}
use Rattle.hb_lemmas.proofs.Lists.{later_member}

-- a chain is told by its head
same_length : (s : FileState) (head : ℕ) (chain other : List ℕ) → IsChain s head chain → IsChain s head other → length chain ≡ length other
same_length s head [] [] h k = refl
same_length s head [] (j ∷ other) h k = absurd (k.1 h)
same_length s head (i ∷ chain) [] h k = absurd (h.1 k)
same_length s head (i ∷ chain) (j ∷ other) h k =
    let one : page_of s head ≡ Some (Free h.2) = ap (page_of s) h.0 ∙ h.3 in
    let two : page_of s head ≡ Some (Free k.2) = ap (page_of s) k.0 ∙ k.3 in
    let next : k.2 ≡ h.2 = cc in
    ap suc (same_length s h.2 chain other h.4 (subst (λ (n : ℕ). IsChain s n other) next k.4))

-- what follows of a chain from one of its pages on
record FollowsFrom (s : FileState) (id : ℕ) (chain : List ℕ) : Type 0 where
  tail : List ℕ
  chained : IsChain s id tail
  shorter : length tail ≤ length chain

follows : (s : FileState) (head id : ℕ) (chain : List ℕ) → IsChain s head chain → Contains chain id → FollowsFrom s id chain
follows s head id [] h (k, lt, e) = absurd (omega arith)
follows s head id (i ∷ chain) h (zero, lt, e) = record { tail = i ∷ chain; chained = (sym e, λ z. h.1 (h.0 ∙ e ∙ z), h.2, h.3, h.4); shorter = omega arith }
follows s head id (i ∷ chain) h (suc k, lt, e) =
    let rest = follows s h.2 id chain h.4 (k, omega arith, e) in
    record { tail = rest.tail; chained = rest.chained; shorter = let le = rest.shorter in omega (arith, le) }

-- so no page stands in it twice
head_once : (s : FileState) (head id : ℕ) (chain : List ℕ) → IsChain s head (id ∷ chain) → Contains chain id → ⊥
head_once s head id chain h has =
    let rest = follows s h.2 id chain h.4 has in
    let same = same_length s id rest.tail (id ∷ chain) rest.chained (refl, λ z. h.1 (h.0 ∙ z), h.2, h.3, h.4) in
    let le = rest.shorter in
    absurd (omega (arith, same, le))

chain_of_none : (s : FileState) (head : ℕ) (chain : List ℕ) → IsChain s head chain → head ≡ 0 → chain ≡ []
chain_of_none s head [] h e = refl
chain_of_none s head (id ∷ chain) h e = absurd (h.1 e)

pub head_there : (s : FileState) (head : ℕ) (chain : List ℕ) → IsChain s head chain → head ≤ length s.pages
head_there s head [] h = omega (arith, h)
head_there s head (id ∷ chain) h =
    let here = place_of s.pages id (Free h.2) h.3 in
    let lt = slice_get_within s.pages here.0 (Free h.2) here.2 in
    omega (arith, h.0, here.1, lt)

module _ (s : FileState) (x : Extraction) (pages : List Page) (page source fresh : LivePage) (allocates : Allocates s.meta x.fresh x.free_after) (parted : IsParted s (record { meta = allocated s.meta x.fresh x.free_after; pages = pages }) x page source fresh) where
  abbrev pub after : FileState
  after = record { meta = allocated s.meta x.fresh x.free_after; pages = pages }

  -- a page that is free afterwards was free, and isn't the new one
  free_was : (id next : ℕ) → page_of after id ≡ Some (Free next) → (page_of s id ≡ Some (Free next)) × (id ≢ x.fresh)
  free_was id next e = elim (cases_eq id x.fresh) [
    | inl is ↦ let both : Some (Live fresh) ≡ Some (Free next) = sym parted.fresh_now ∙ ap (page_of after) (sym is) ∙ e in absurd (let no : ⊥ = cc in no)
    | inr new ↦ elim (cases_eq id x.source) [
      | inl is ↦ let both : Some (Live source) ≡ Some (Free next) = sym parted.source_now ∙ ap (page_of after) (sym is) ∙ e in absurd (let no : ⊥ = cc in no)
      | inr ne ↦ (sym (parted.others id ne new) ∙ e, new)
    ]
  ]

  -- and a free page but the new one stays
  free_stays : (id next : ℕ) → page_of s id ≡ Some (Free next) → id ≢ x.fresh → page_of after id ≡ Some (Free next)
  free_stays id next e new = elim (cases_eq id x.source) [
    | inl is ↦ let both : Some (Live page) ≡ Some (Free next) = sym (live_so (page_of s x.source) page parted.live) ∙ ap (page_of s) (sym is) ∙ e in absurd (let no : ⊥ = cc in no)
    | inr ne ↦ parted.others id ne new ∙ e
  ]

  chain_stays : (head : ℕ) (chain : List ℕ) → IsChain s head chain → (Contains chain x.fresh → ⊥) → IsChain after head chain
  chain_stays head [] h none = h
  chain_stays head (id ∷ chain) h none =
      (h.0, h.1, h.2, free_stays id h.2 h.3 (λ e. none (zero, omega arith, e)), chain_stays h.2 chain h.4 (λ has. none (later_member id chain x.fresh has)))

  live_one_more : s.meta.live ≡ count_live s.pages → after.meta.live ≡ count_live after.pages
  live_one_more e = let more = parted.counted in omega (arith, e, more)

  -- where there is no free page, there is none afterwards
  counted_none : IsCounted s → s.meta.free ≡ 0 → IsCounted after
  counted_none h none = record {
    chain = [];
    chained = (allocates.from_behind none).2;
    all = λ id next e. subst (λ (chain : List ℕ). Contains chain id) (chain_of_none s s.meta.free h.chain h.chained none) (h.all id next (free_was id next e).0);
    live = live_one_more h.live;
  }

  -- else the chain loses its head
  module _ (licensed : LicensesExtraction s x) where
    rest_has : (i id : ℕ) (chain : List ℕ) → i ≡ x.fresh → id ≢ x.fresh → Contains (i ∷ chain) id → Contains chain id
    rest_has i id chain is ne (zero, lt, e) = absurd (ne (sym e ∙ is))
    rest_has i id chain is ne (suc k, lt, e) = (k, omega arith, e)

    counted_some : (chain : List ℕ) → IsChain s s.meta.free chain → ((id next : ℕ) → page_of s id ≡ Some (Free next) → Contains chain id) → s.meta.live ≡ count_live s.pages → s.meta.free ≢ 0 → IsCounted after
    counted_some [] h all live some = absurd (some h)
    counted_some (id ∷ chain) h all live some =
        let is : id ≡ x.fresh = sym h.0 ∙ sym (allocates.from_chain some).0 in
        let free : page_of s id ≡ Some (Free x.free_after) = ap (page_of s) is ∙ licensed some in
        let named = h.3 in
        let next : h.2 ≡ x.free_after = cc in
        record {
          chain = chain;
          chained = subst (λ (n : ℕ). IsChain after n chain) next (chain_stays h.2 chain h.4 (λ has. head_once s s.meta.free id chain h (subst (Contains chain) (sym is) has)));
          all = λ other n e. let was = free_was other n e in rest_has id other chain is was.1 (all other n was.0);
          live = live_one_more live;
        }

    pub counted_again : IsCounted s → IsCounted after
    counted_again h = elim (cases_eq s.meta.free 0) [ inl none ↦ counted_none h none | inr some ↦ counted_some h.chain h.chained h.all h.live some ]

  pub high_fits : s.meta.high ≤ s.meta.pages → max s.meta.high x.fresh ≤ s.meta.pages
  high_fits le = elim (cases_eq s.meta.free 0) [
    | inl none ↦ let at = (allocates.from_behind none).1 in omega (arith, le, at)
    | inr some ↦ let at = (allocates.from_chain some).1 in omega (arith, le, at)
  ]

  module _ (parts : ArePartsOf s.meta x.fresh page source fresh) where
    -- a page in use stays, with its level and its box
    pub stays_live : (id : ℕ) (old : LivePage) → live_page s id ≡ Some old → StaysLive after id old
    stays_live id old live = elim (cases_eq id x.source) [
      | inl is ↦
          let same : page ≡ old = same_Some page old (sym parted.live ∙ ap (live_page s) (sym is) ∙ live) in
          record {
            new = source;
            live = ap (live_page after) is ∙ ap if_live parted.source_now;
            level = parts.level ∙ ap (λ (q : LivePage). q.level) same;
            area = parts.area ∙ ap (λ (q : LivePage). q.area) same;
          }
      | inr ne ↦ record { new = old; live = ap if_live (parted.others id ne (not_vacant s x.fresh id old parted.vacant live)) ∙ live; level = refl; area = refl }
    ]

    pub rooted_again : LicensesExtraction s x → IsRooted s → IsCounted s → IsRooted after
    rooted_again licensed h counted =
        let now = counted_again licensed counted in
        let few = live_few pages in
        let head = head_there after x.free_after now.chain now.chained in
        let top = stays_live s.meta.root h.top.0 h.top.1 in
        let length_now = parted.numbered in
        let live_now = now.live in
        record {
          numbered = length_now;
          some = let le = h.some in omega (arith, le);
          high = high_fits h.high;
          root = let le = h.root in omega (arith, le);
          free = omega (arith, head, length_now);
          live = omega (arith, few, length_now, live_now);
          top = (top.new, top.live, ap (λ (k : ℕ). k + 1) top.level ∙ h.top.2, top.area ∙ h.top.3);
        }
