-- The audit as a whole: what its parts say, of the file that is told.
use Rattle.std.proofs.Common.{◌≡◌, inl, inr, ℕ, zero, suc, ◌<◌, List, [], ◌∷◌, length, flat_map, take, Option, Some, None, IfSome, slice_get, sym, ap, ◌∙◌, arith, refl}
use Rattle.std.proofs.lemmas.List.{length-append}
use Rattle.hb_frag.specs.declared.pages.Page.{Page}
use Rattle.hb_frag.specs.declared.pages.Page.TheVariants as pages
use Rattle.hb_space.specs.declared.records.Record.{Record}
use Rattle.hb_layout.specs.declared.meta.Meta.{Meta}
use Rattle.hb_ops.specs.Files.{if_live, page_at, page_records}
use Rattle.hb_ops.specs.Sound.{IsSound}
use Rattle.hb_sound.specs.declared.page_facts.Fact.{Fact}
use Rattle.hb_sound.specs.declared.page_facts.Fact.TheVariants.{Live, Free}
use Rattle.hb_sound.specs.declared.links.Links.{Links}
use Rattle.hb_sound.specs.declared.pages.AuditStop.{AuditStop}
use Rattle.hb_sound.specs.declared.pages.AuditStop.TheVariants as stops
use Rattle.hb_sound.specs.Facts.{AreFactsOf, IsFactOf}
use Rattle.hb_sound.specs.RecordCounts.{all_records, records_seen}
use Rattle.hb_sound.specs.Links.{AreLinks, AreRead, IsCut, Tells, KnowsTold}
use Rattle.hb_sound.specs.Names.{IsSoundWith, KeepsSix, Names, NamesIn}
use Rattle.hb_sound.specs.Stops.{OnBroken}
use Rattle.hb_sound.specs.Told.{IsWholeFile, file_of, item_at, shown_pages, file_with}
use Rattle.hb_sound.proofs.Bridge.{page_item, same_length}
use Rattle.hb_sound.proofs.LocalBridge.{cut}

-- each page of the file is told under its number
shown_told : (told : List (Option Page)) (n k : ℕ) (page : Page) → ((i : ℕ) → i < n → slice_get told i ≡ Some None → ⊥)
    → slice_get (shown_pages (take n told)) k ≡ Some page → slice_get told k ≡ Some (Some page)
shown_told [] zero k page there e = let never : None ≡ Some page = e in cc
shown_told [] (suc n) k page there e = let never : None ≡ Some page = e in cc
shown_told (first ∷ told) zero k page there e = let never : None ≡ Some page = e in cc
shown_told (None ∷ told) (suc n) k page there e = absurd (there 0 (omega arith) refl)
shown_told (Some own ∷ told) (suc n) zero page there e = ap (λ (o : Option Page). Some o) e
shown_told (Some own ∷ told) (suc n) (suc k) page there e = shown_told told n k page (λ i lt. there (suc i) (omega (arith, lt))) e

tells : (meta : Meta) (told : List (Option Page)) → IsWholeFile meta told → Tells told (file_of meta told).pages
tells meta told whole id page e = by_number id (sym (page_item (shown_pages (take meta.high told)) id) ∙ e)
  where
    by_number : (n : ℕ) → item_at (shown_pages (take meta.high told)) n ≡ Some page → item_at told n ≡ Some (Some page)
    by_number zero at = let never : None ≡ Some page = at in cc
    by_number (suc k) at = shown_told told meta.high k page (λ i lt none. whole (suc i) (omega arith, omega (arith, lt), inr none)) at

-- how many records the pages have
records_are : (meta : Meta) (facts : List Fact) (list : List Page) → AreFactsOf meta facts list → all_records facts ≡ length (flat_map page_records list)
records_are meta [] [] are = refl
records_are meta [] (page ∷ list) are = absurd are
records_are meta (fact ∷ facts) [] are = absurd are
records_are meta (fact ∷ facts) (page ∷ list) are =
    let rest = records_are meta facts list are.1 in
    let here = of_page fact page are.0 in
    let parts = length-append {A = Record} (page_records page) (flat_map page_records list) in
    omega (arith, rest, here, parts)
  where
    of_page : (fact : Fact) (page : Page) → IsFactOf meta fact page → records_seen fact ≡ length (page_records page)
    of_page (Live seen) (pages.Live page) is = is.records
    of_page (Live seen) (pages.Free next) is = absurd is
    of_page (Free next) (pages.Live page) is = absurd is
    of_page (Free next) (pages.Free other) is = refl

-- what is told was read whole, and these are its facts
abbrev pub IsReadAs : Meta → List Fact → List (Option Page) → Type 0
IsReadAs meta facts told = IsWholeFile meta told × AreFactsOf meta facts (file_of meta told).pages × KnowsTold facts told

module _ (meta : Meta) (facts : List Fact) (kept : (list : List Page) → AreFactsOf meta facts list → KeepsSix (file_with meta list)) where
  read_again : (told : List (Option Page)) → IsReadAs meta facts told → AreRead told facts (file_of meta told).pages
  read_again told read = record {
    told_are = tells meta told read.0;
    same = same_length meta facts (file_of meta told).pages read.1;
    known = read.2;
    cut = is_cut;
  }
    where
      is_cut : (id : ℕ) (page : Page) → page_at (file_of meta told).pages id ≡ Some page → IsCut page
      is_cut id (pages.Live page) e = elim ((kept (file_of meta told).pages read.1).2 id page (ap if_live e)) [
        | inl well ↦ well.well_cut
        | inr ten ↦ cut page meta 10 ten (omega arith)
      ]
      is_cut id (pages.Free next) e = tt

  -- the second reading stops at no page
  pub never_stops : (o : Option (List (Option Page))) (stop : AuditStop) → IfSome o (IsReadAs meta facts)
      → OnBroken (λ id rule. IfSome o (λ told. (list : List Page) → AreRead told facts list → ⊥)) stop
      → OnBroken (λ id rule. IfSome o (λ told. Names meta told id rule)) stop
  never_stops None (stops.Broken id rule) read never = tt
  never_stops (Some told) (stops.Broken id rule) read never = absurd (never (file_of meta told).pages (read_again told read))
  never_stops o stops.Failed read never = tt
  never_stops o stops.NoMemory read never = tt

  module _ (links : Links) where
    -- a rule from 7 on is broken
    pub late_named : (o : Option (List (Option Page))) (stop : AuditStop) → IfSome o (IsReadAs meta facts)
        → IfSome o (λ told. (list : List Page) → AreRead told facts list → AreLinks facts list (length facts) links)
        → OnBroken (λ id rule. (list : List Page) → AreFactsOf meta facts list → KeepsSix (file_with meta list) → AreLinks facts list (length facts) links → NamesIn (file_with meta list) id rule) stop
        → OnBroken (λ id rule. IfSome o (λ told. Names meta told id rule)) stop
    late_named None (stops.Broken id rule) read of_links named = tt
    late_named (Some told) (stops.Broken id rule) read of_links named =
        let list = (file_of meta told).pages in
        inr (read.0, named list read.1 (kept list read.1) (of_links list (read_again told read)))
    late_named o stops.Failed read of_links named = tt
    late_named o stops.NoMemory read of_links named = tt

    -- none is
    pub all_kept : (o : Option (List (Option Page))) (records : ℕ) → records ≡ all_records facts → IfSome o (IsReadAs meta facts)
        → IfSome o (λ told. (list : List Page) → AreRead told facts list → AreLinks facts list (length facts) links)
        → ((list : List Page) → AreFactsOf meta facts list → KeepsSix (file_with meta list) → AreLinks facts list (length facts) links → IsSound (file_with meta list))
        → IfSome o (λ told. IsSoundWith meta told records)
    all_kept None records count read of_links sound = tt
    all_kept (Some told) records count read of_links sound =
        let list = (file_of meta told).pages in (
          read.0,
          sound list read.1 (kept list read.1) (of_links list (read_again told read)),
          count ∙ records_are meta facts list read.1,
        )
