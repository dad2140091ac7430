-- From the facts of the pages to the pages.
use Rattle.std.proofs.Common.{◌≡◌, ℕ, zero, suc, ◌+◌, List, [], ◌∷◌, length, Option, Some, None, slice_get, refl, sym, ap, ◌∙◌, subst}
use Rattle.hb_frag.specs.declared.pages.LivePage.{LivePage}
use Rattle.hb_frag.specs.declared.pages.Page.{Page}
use Rattle.hb_frag.specs.declared.pages.Page.TheVariants as pages
use Rattle.hb_layout.specs.declared.meta.Meta.{Meta}
use Rattle.hb_ops.specs.Files.{page_at, if_live, live_page}
use Rattle.hb_ops.specs.Sound.{IsRooted}
use Rattle.hb_sound.specs.declared.page_facts.Seen.{Seen}
use Rattle.hb_sound.specs.declared.page_facts.Fact.{Fact}
use Rattle.hb_sound.specs.declared.page_facts.Fact.TheVariants.{Live, Free}
use Rattle.hb_sound.specs.Covers.{SeesTop}
use Rattle.hb_sound.specs.Facts.{AreFactsOf, IsFactOf, IsSeenOf, if_next, if_seen, next_at, seen_at}
use Rattle.hb_sound.specs.Told.{HasBoundedMeta, item_at, file_with}
use Rattle.hb_sound.specs.Walks.{if_free, next_free}
use Rattle.hb_ops.proofs.Facts.PageNumberLaws.{page_at-zero, page_at-suc}

pub page_item : (list : List Page) (id : ℕ) → page_at list id ≡ item_at list id
page_item list zero = page_at-zero list
page_item list (suc n) = page_at-suc list n

-- a fact and its page, or neither
abbrev pub AreBoth : Meta → Option Fact → Option Page → Type 0
AreBoth meta None None = Unit {0}
AreBoth meta (Some fact) (Some page) = IsFactOf meta fact page
AreBoth meta _ _ = ⊥

both_slice : (meta : Meta) (facts : List Fact) (list : List Page) (n : ℕ) → AreFactsOf meta facts list → AreBoth meta (slice_get facts n) (slice_get list n)
both_slice meta [] [] n are = tt
both_slice meta [] (page ∷ list) n are = absurd are
both_slice meta (fact ∷ facts) [] n are = absurd are
both_slice meta (fact ∷ facts) (page ∷ list) zero are = are.0
both_slice meta (fact ∷ facts) (page ∷ list) (suc n) are = both_slice meta facts list n are.1

both_item : (meta : Meta) (facts : List Fact) (list : List Page) (id : ℕ) → AreFactsOf meta facts list → AreBoth meta (item_at facts id) (item_at list id)
both_item meta facts list zero are = tt
both_item meta facts list (suc n) are = both_slice meta facts list n are

pub both_at : (meta : Meta) (facts : List Fact) (list : List Page) (id : ℕ) → AreFactsOf meta facts list → AreBoth meta (item_at facts id) (page_at list id)
both_at meta facts list id are = let Q : Option Page → Type 0 = λ o. AreBoth meta (item_at facts id) o in subst Q (sym (page_item list id)) (both_item meta facts list id are)

live_of_both : (meta : Meta) (o : Option Fact) (p : Option Page) (seen : Seen) → AreBoth meta o p → if_seen o ≡ Some seen → (page : LivePage) × (if_live p ≡ Some page) × IsSeenOf meta seen page
live_of_both meta None p seen both e = let never : None ≡ Some seen = e in cc
live_of_both meta (Some fact) None seen both e = absurd (nothing fact both)
  where
    nothing : (fact : Fact) → AreBoth meta (Some fact) None → ⊥
    nothing fact both = both
live_of_both meta (Some (Live own)) (Some (pages.Live page)) seen both e =
    let is : own ≡ seen = cc in
    let Q : Seen → Type 0 = λ x. IsSeenOf meta x page in
    (page, refl, subst Q is both)
live_of_both meta (Some (Live own)) (Some (pages.Free next)) seen both e = absurd both
live_of_both meta (Some (Free next)) p seen both e = let never : None ≡ Some seen = e in cc

seen_of_both : (meta : Meta) (o : Option Fact) (p : Option Page) (page : LivePage) → AreBoth meta o p → if_live p ≡ Some page → (seen : Seen) × (if_seen o ≡ Some seen) × IsSeenOf meta seen page
seen_of_both meta o None page both e = let never : None ≡ Some page = e in cc
seen_of_both meta o (Some (pages.Free next)) page both e = let never : None ≡ Some page = e in cc
seen_of_both meta None (Some (pages.Live own)) page both e = absurd both
seen_of_both meta (Some (Free next)) (Some (pages.Live own)) page both e = absurd both
seen_of_both meta (Some (Live seen)) (Some (pages.Live own)) page both e =
    let is : own ≡ page = cc in
    let Q : LivePage → Type 0 = λ x. IsSeenOf meta seen x in
    (seen, refl, subst Q is both)

next_of_both : (meta : Meta) (o : Option Fact) (p : Option Page) → AreBoth meta o p → if_next o ≡ if_free p
next_of_both meta None None both = refl
next_of_both meta None (Some page) both = absurd both
next_of_both meta (Some fact) None both = absurd both
next_of_both meta (Some (Live seen)) (Some (pages.Live page)) both = refl
next_of_both meta (Some (Live seen)) (Some (pages.Free next)) both = absurd both
next_of_both meta (Some (Free next)) (Some (pages.Live page)) both = absurd both
next_of_both meta (Some (Free next)) (Some (pages.Free other)) both = ap (λ (n : ℕ). Some n) both

pub same_length : (meta : Meta) (facts : List Fact) (list : List Page) → AreFactsOf meta facts list → length list ≡ length facts
same_length meta [] [] are = refl
same_length meta [] (page ∷ list) are = absurd are
same_length meta (fact ∷ facts) [] are = absurd are
same_length meta (fact ∷ facts) (page ∷ list) are = ap suc (same_length meta facts list are.1)

module _ (meta : Meta) (facts : List Fact) (list : List Page) (are : AreFactsOf meta facts list) where
  pub live_seen : (id : ℕ) (seen : Seen) → seen_at facts id ≡ Some seen → (page : LivePage) × (live_page (file_with meta list) id ≡ Some page) × IsSeenOf meta seen page
  live_seen id seen e = live_of_both meta (item_at facts id) (page_at list id) seen (both_at meta facts list id are) e

  pub seen_live : (id : ℕ) (page : LivePage) → live_page (file_with meta list) id ≡ Some page → (seen : Seen) × (seen_at facts id ≡ Some seen) × IsSeenOf meta seen page
  seen_live id page e = seen_of_both meta (item_at facts id) (page_at list id) page (both_at meta facts list id are) e

  pub next_same : (id : ℕ) → next_at facts id ≡ next_free (file_with meta list) id
  next_same id = next_of_both meta (item_at facts id) (page_at list id) (both_at meta facts list id are)

  -- rule 1
  pub to_rooted : length facts ≡ meta.high → HasBoundedMeta meta → SeesTop meta facts → IsRooted (file_with meta list)
  to_rooted count bounded top =
      let page = live_seen meta.root top.0 top.1 in
      record {
        numbered = same_length meta facts list are ∙ count;
        some = bounded.some;
        high = bounded.high;
        root = bounded.root;
        free = bounded.free;
        live = bounded.live;
        top = (page.0, page.1, ap (λ (n : ℕ). n + 1) (sym page.2.level) ∙ top.2, sym page.2.area ∙ top.3);
      }

  pub from_rooted : IsRooted (file_with meta list) → HasBoundedMeta meta × SeesTop meta facts
  from_rooted rooted =
      let seen = seen_live meta.root rooted.top.0 rooted.top.1 in (
        record { some = rooted.some; high = rooted.high; root = rooted.root; free = rooted.free; live = rooted.live },
        (seen.0, seen.1, ap (λ (n : ℕ). n + 1) seen.2.level ∙ rooted.top.2, seen.2.area ∙ rooted.top.3),
      )
